-- What is small enough: at every place of the working-out before its end, no weight that a sum is made of lies too far from zero, and the lines are not too
-- many. Assumes nothing.
use mathlib.Core.Path.{◌≡◌}
use mathlib.Core.Bool.{false}
use mathlib.Core.List.{List, []}
use Prim.Native.Nat.{ℕ, ◌≤◌, ◌<◌}
use lib.ListN.{length}
use Rattle.rules.specs.Plan.{Plan}
use Rattle.chain.specs.Lines.{Line}
use Rattle.chain.specs.Reasons.{ended, starts, before_links, strict_joins, lowers, uppers, sweeps}
use Rattle.chain.proofs.Places.{Steps, part, start_steps, limit_steps, link_steps, strict_steps, lower_steps, upper_steps, open_steps, Small}

-- at every place of such steps where a try is left, unless the list has ended
abbrev pub SmallWithin : ℕ → Plan → Steps → ℕ → ℕ → ℕ → List Line → Type 0
SmallWithin B p f A M C ls =
    (a b c : ℕ) → a < A → b < M → c ≤ C → ended (part f M C a b c ls) ≡ false
    → Small B p.points (length p.links) (part f M C a b c ls)

pub record Safe (B : ℕ) (p : Plan) : Type 0 where
  pub in_starts : SmallWithin B p start_steps p.points 1 1 []
  pub in_limits : SmallWithin B p (limit_steps p) (length p.limits) 1 1 (starts p [])
  pub in_links : SmallWithin B p (link_steps p) (length p.links) 1 3 (before_links p)
  pub in_strict : (i : ℕ) → SmallWithin B p strict_steps p.points p.points p.points (sweeps p i)
  pub in_lowers : (i : ℕ)
      → SmallWithin B p (lower_steps p (length (before_links p))) (length p.links) (length p.links) 1 (strict_joins p.points (sweeps p i))
  pub in_uppers : (i : ℕ)
      → SmallWithin B p (upper_steps p (length (before_links p))) p.points (length p.links) 1
      (lowers p (length (before_links p)) (strict_joins p.points (sweeps p i)))
  pub in_opens : (i : ℕ)
      → SmallWithin B p open_steps p.points p.points p.points
      (uppers p (length (before_links p)) (lowers p (length (before_links p)) (strict_joins p.points (sweeps p i))))
