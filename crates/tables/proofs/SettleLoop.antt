-- The rounds of the code from the first tables to their end: where both tables stand, what one more round does to the height of the strict one, and what is shown where it
-- stays or a table is unfair. Of a file that is Ready, at version 1's ranges. Assumes nothing.
use mathlib.Core.Path.{◌≡◌, sym, ap, subst, ◌∙◌}
use mathlib.Core.Logic.{◌⊎◌, ⊎_elim}
use mathlib.Core.List.{List}
use Prim.Native.Nat.{ℕ, ◌*◌, ◌≤◌}
use native.Mathlib.Omega.{arith}
use lib.ListN.{length}
use lib.IntN.{ℤ}
use Rattle.rules.specs.Plan.{Plan, version1}
use Rattle.rules.specs.Edges as edges
use Rattle.rules.specs.Cells.{num, ◌≤ᶜ◌, table_of}
use Rattle.rules.specs.Tables.{Tables}
use Rattle.rules.specs.Calls.{cells_of, Kept, Written}
use Rattle.rules.proofs.Demands.{version1_coherent}
use Rattle.plan.specs.Layout.{limit_at, link_at, plan_of}
use Rattle.lowering.specs.Table.{Ready}
use Rattle.lowering.specs.Sweep.{join_all, first_strict, heights}
use Rattle.lowering.specs.Spread.{Copied, Opened, case_edges, strict_round, open_round}
use Rattle.lowering.specs.Fair.{Fair, Unfair}
use Rattle.tables.specs.Ends.{Refused}
use Rattle.lowering.proofs.Theory.LoweredTables.{Lowered}
use Rattle.lowering.proofs.Theory.HeightsFall.{lowered_heights, same_heights}
use Rattle.lowering.proofs.Laws.ReadyFile.{ready_points, ready_few, ready_pointed, ready_weighted, ready_limits, ready_links}
use Rattle.lowering.proofs.Theory.WalksKept.{has_open}
use Rattle.lowering.proofs.Theory.SpreadSteps.{strict_round_lowered, open_round_lowered}
use Rattle.lowering.proofs.Theory.SweepsEnd.{lowered_kept, kept_trans, unfair_walk}
use Rattle.lowering.proofs.Theory.RoundsEnd.{Carried, Rounds, rounds_on, rounds_tables}
use Rattle.lowering.proofs.Theory.RoundsBegin.{copied_kept, cases_taken, joined_kept, joined_given, joined_carried, rounds_first}

-- two tables that stand as before a round, past the room as two lists were
pub record Standing (s : List ℕ) (m k : ℕ) (strict₀ weak₀ strict weak : List ℤ) : Type 0 where
  pub rounds : Rounds (plan_of s) version1 (link_at s m) k strict weak
  pub strict_kept : Kept (cells_of (plan_of s)) strict₀ strict
  pub open_kept : Kept (cells_of (plan_of s)) weak₀ weak

module _ {s : List ℕ} {n m k : ℕ} (r : Ready s n m k) where
  same_points : (plan_of s).points ≡ n
  same_points = ready_points s n m k r

  few_points : (plan_of s).points ≤ version1.points
  few_points = omega (arith, ready_few s n m k r, same_points)

  -- ---- the first tables

  module _ (a : List ℤ) {u : List ℤ} (ha : n * n ≤ length a) (eu : u ≡ join_all version1 n (first_strict version1 n (limit_at s) m (link_at s m) k a)) where
    room : (plan_of s).points * (plan_of s).points ≤ length a
    room = subst (λ (c : ℕ). c * c ≤ length a) (sym same_points) ha

    joined_is : join_all version1 (plan_of s).points (first_strict version1 (plan_of s).points (limit_at s) m (link_at s m) k a) ≡ u
    joined_is = ap (λ (c : ℕ). join_all version1 c (first_strict version1 c (limit_at s) m (link_at s m) k a)) same_points ∙ sym eu

    carried : Carried (edges.Derivable (plan_of s)) (plan_of s) version1 u
    carried =
        subst (Carried (edges.Derivable (plan_of s)) (plan_of s) version1) joined_is
        (joined_carried (plan_of s) version1 version1_coherent (ready_pointed s n m k r) (ready_weighted s n m k r) few_points (limit_at s) m
        (ready_limits s n m k r) (link_at s m) k (ready_links s n m k r) a room)

    -- with the lower-case edges taken, both stand
    pub standing_first : (b : List ℤ) {w : List ℤ} → n * n ≤ length b → Opened version1 n (link_at s m) k u b w → Standing s m k a b u w
    standing_first b {w} hb o =
        let p : Plan = plan_of s in
        let v : List ℤ = o.copy in
        let c : Copied (n * n) u b v = o.copied in
        let ew : w ≡ case_edges version1 n (link_at s m) k v = o.taken in
        let c' : Copied (p.points * p.points) u b v = subst (λ (i : ℕ). Copied (i * i) u b v) (sym same_points) c in
        let hb' : p.points * p.points ≤ length b = subst (λ (i : ℕ). i * i ≤ length b) (sym same_points) hb in
        let is : case_edges version1 p.points (link_at s m) k v ≡ w = ap (λ (i : ℕ). case_edges version1 i (link_at s m) k v) same_points ∙ sym ew in
        let given : (x y : ℕ) (w : ℤ) → edges.Given p x y w → table_of version1 p.points u x y ≤ᶜ num w = λ x y w e.
        subst (λ (t : List ℤ). table_of version1 p.points t x y ≤ᶜ num w) joined_is
        (joined_given p version1 version1_coherent (ready_pointed s n m k r) (ready_weighted s n m k r) few_points (limit_at s) m
        (ready_limits s n m k r) (link_at s m) k (ready_links s n m k r) a room x y w e) in
        record {
          rounds =
              subst (Rounds p version1 (link_at s m) k u) is
              (rounds_first p version1 version1_coherent (ready_pointed s n m k r) (link_at s m) k (ready_links s n m k r) carried given c' hb');
          strict_kept =
              subst (Kept (cells_of p) a) joined_is
              (joined_kept p version1 version1_coherent (ready_pointed s n m k r) (ready_weighted s n m k r) few_points (limit_at s) m
              (ready_limits s n m k r) (link_at s m) k (ready_links s n m k r) a room);
          open_kept =
              subst (Kept (cells_of p) b) is
              (kept_trans (copied_kept c')
              (lowered_kept
              (cases_taken p version1 version1_coherent (ready_pointed s n m k r) (link_at s m) k (ready_links s n m k r) carried given c' hb').low));
        }

  -- ---- one round

  module _ {a b x y : List ℤ} (t : Standing s m k a b x y) {u : List ℤ} (eu : u ≡ strict_round version1 n (link_at s m) k x) where
    strict_is : strict_round version1 (plan_of s).points (link_at s m) k x ≡ u
    strict_is = ap (λ (c : ℕ). strict_round version1 c (link_at s m) k x) same_points ∙ sym eu

    strict_lowered : Lowered version1 (plan_of s).points x u
    strict_lowered =
        subst (Lowered version1 (plan_of s).points x) strict_is
        (strict_round_lowered version1 version1_coherent (plan_of s).points (link_at s m) k (ready_links s n m k r).links.points x
        t.rounds.strict_carried.walks.sound)

    -- the strict table is no higher than before
    pub round_falls : heights version1 (n * n) u ≤ heights version1 (n * n) x
    round_falls =
        subst (λ (c : ℕ). heights version1 (c * c) u ≤ heights version1 (c * c) x) same_points
        (lowered_heights version1 (plan_of s).points x u t.rounds.strict_carried.walks.sound strict_lowered)

    -- as high as before, and nothing against the plan: these are its tables
    pub standing_ends : heights version1 (n * n) u ≡ heights version1 (n * n) x → Fair version1 n x → Fair version1 n y
        → Written version1 (plan_of s) a b u y
    standing_ends e fx fy =
        let p : Plan = plan_of s in
        let hu : heights version1 (p.points * p.points) x ≤ heights version1 (p.points * p.points) u =
        subst (λ (c : ℕ). heights version1 (c * c) x ≤ heights version1 (c * c) u) (sym same_points) (omega (arith, e)) in
        let ux : u ≡ x = same_heights version1 p.points x u t.rounds.strict_carried.walks.sound strict_lowered hu in
        record {
          strict_kept = kept_trans t.strict_kept (lowered_kept strict_lowered);
          open_kept = t.open_kept;
          tables =
              subst (λ (c : List ℤ). Tables p (table_of version1 p.points c) (table_of version1 p.points y)) (sym ux)
              (rounds_tables p version1 version1_coherent (ready_pointed s n m k r) (link_at s m) k (ready_links s n m k r) x y t.rounds
              (strict_is ∙ ux) (subst (λ (c : ℕ). Fair version1 c x) (sym same_points) fx) (subst (λ (c : ℕ). Fair version1 c y) (sym same_points) fy));
        }

    -- the open one follows, and both stand as before
    pub standing_on : {v : List ℤ} → v ≡ open_round version1 n u (link_at s m) k y → Standing s m k a b u v
    standing_on {v} ev =
        let p : Plan = plan_of s in
        let is : open_round version1 p.points u (link_at s m) k y ≡ v = ap (λ (c : ℕ). open_round version1 c u (link_at s m) k y) same_points ∙ sym ev in
        let low : Lowered version1 p.points y v =
        subst (Lowered version1 p.points y) is
        (open_round_lowered version1 version1_coherent p.points (link_at s m) k (ready_links s n m k r).links.points u y
        t.rounds.open_carried.walks.sound) in
        record {
          rounds =
              subst (Rounds p version1 (link_at s m) k u) is
              (subst (λ (c : List ℤ). Rounds p version1 (link_at s m) k c (open_round version1 p.points c (link_at s m) k y)) strict_is
              (rounds_on p version1 version1_coherent (ready_pointed s n m k r) (link_at s m) k (ready_links s n m k r) x y t.rounds));
          strict_kept = kept_trans t.strict_kept (lowered_kept strict_lowered);
          open_kept = kept_trans t.open_kept (lowered_kept low);
        }

  -- something against the plan: it is uncontrollable
  pub standing_unfair : {a b u v : List ℤ} → Standing s m k a b u v → Unfair version1 n u ⊎ Unfair version1 n v → Refused (plan_of s) a b u v
  standing_unfair {a} {b} {u} {v} t f =
      let p : Plan = plan_of s in
      record {
        uncontrollable =
            ⊎_elim
            (λ x.
            unfair_walk p version1 version1_coherent (ready_pointed s n m k r) (ready_weighted s n m k r) few_points (link_at s m) k
            (ready_links s n m k r) u
            (λ x y hx hy. has_open p x y (table_of version1 p.points u x y) (t.rounds.strict_carried.walks.has x y hx hy))
            (subst (λ (c : ℕ). Unfair version1 c u) (sym same_points) x))
            (λ x.
            unfair_walk p version1 version1_coherent (ready_pointed s n m k r) (ready_weighted s n m k r) few_points (link_at s m) k
            (ready_links s n m k r) v t.rounds.open_carried.walks.has (subst (λ (c : ℕ). Unfair version1 c v) (sym same_points) x)) f;
        strict_kept = t.strict_kept;
        open_kept = t.open_kept;
      }
