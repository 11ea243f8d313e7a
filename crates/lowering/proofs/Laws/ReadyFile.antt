-- What a sound file with its counts gives the rounds, the sweep and the closed test, without looking at bytes again.
-- Assumes nothing.
use mathlib.Core.Path.{◌≡◌, sym, subst, ◌∙◌}
use mathlib.Core.List.{List, Memᴰ}
use Prim.Native.Nat.{ℕ, ◌≤◌, ◌<◌}
use native.Mathlib.Omega.{arith}
use Rattle.rules.specs.Plan.{version1, InRange, LimitInRange, LinkInRange}
use Rattle.rules.proofs.Points.{Pointed, Weighted, in_range_pointed, in_range_weighted}
use Rattle.plan.specs.Layout.{limit_at, link_at, plan_of}
use Rattle.plan.proofs.SoundFile.{good}
use Rattle.lowering.specs.Table.{Ready}
use Rattle.lowering.proofs.Theory.StillSweep.{AllLinks}
use Rattle.lowering.proofs.Theory.FirstTables.{AllLimits}

module _ (s : List ℕ) (n m k : ℕ) (r : Ready s n m k) where
  ranges : InRange version1 (plan_of s)
  ranges = (good s r.sound).ranges

  pub ready_points : (plan_of s).points ≡ n
  ready_points = (good s r.sound).points ∙ sym r.points

  pub ready_in_range : InRange version1 (plan_of s)
  ready_in_range = ranges

  pub ready_pointed : Pointed (plan_of s)
  ready_pointed = in_range_pointed ranges

  pub ready_weighted : Weighted version1.weight (plan_of s)
  ready_weighted = in_range_weighted ranges

  -- its points are few enough
  pub ready_few : n ≤ version1.points
  ready_few = omega (arith, ranges.points, ready_points)

  -- limit i and link i, as members of the plan and in range
  pub ready_limit : (i : ℕ) → i < m → Memᴰ (limit_at s i) (plan_of s).limits
  ready_limit i h = (good s r.sound).limit_in_lem i (omega (arith, r.limits))

  pub ready_link : (i : ℕ) → i < k → Memᴰ (link_at s m i) (plan_of s).links
  ready_link i h =
      subst (λ (c : ℕ). Memᴰ (link_at s c i) (plan_of s).links) (sym r.limits) ((good s r.sound).link_in_lem i (omega (arith, r.links)))

  pub limit_range : (i : ℕ) → i < m → LimitInRange version1 n (limit_at s i)
  limit_range i h = subst (λ (c : ℕ). LimitInRange version1 c (limit_at s i)) ready_points (ranges.limit (limit_at s i) (ready_limit i h))

  pub link_range : (i : ℕ) → i < k → LinkInRange version1 n (link_at s m i)
  link_range i h = subst (λ (c : ℕ). LinkInRange version1 c (link_at s m i)) ready_points (ranges.link (link_at s m i) (ready_link i h))

  -- the limits by their index are all of the plan's
  pub ready_limits : AllLimits (plan_of s) (limit_at s) m
  ready_limits =
      record {
        member = ready_limit;
        index = λ l h. ((good s r.sound).limit_is l h).index;
        index_below = λ l h. omega (arith, ((good s r.sound).limit_is l h).below, r.limits);
        index_is = λ l h. sym ((good s r.sound).limit_is l h).is;
      }

  -- and so are the links
  pub ready_links : AllLinks (plan_of s) (link_at s m) k
  ready_links =
      record {
        links = record {
          member = ready_link;
          points = record {
            act_below = λ i h. (in_range_pointed ranges).link_act (link_at s m i) (ready_link i h);
            con_below = λ i h. (in_range_pointed ranges).link_con (link_at s m i) (ready_link i h);
          };
        };
        index = λ l h. ((good s r.sound).link_is l h).index;
        index_below = λ l h. omega (arith, ((good s r.sound).link_is l h).below, r.links);
        index_is = λ l h.
            subst (λ (c : ℕ). link_at s c ((good s r.sound).link_is l h).index ≡ l) (sym r.limits) (sym ((good s r.sound).link_is l h).is);
      }
