-- Document 01, "Edges and rules" and "Two tables": walks and their totals, and what uncontrollable means.
-- Assumes nothing.
use Rattle.std.specs.Prelude.{ℕ, zero, ℤ, pos, ◌+ℤ◌, ◌<ℤ◌}
use Rattle.rules.specs.Plan.{Plan}
use Rattle.rules.specs.Edges.{Open}

-- a walk over the edges of a family, from a point to a point, with its total. "The empty walk counts".
pub data Walk (E : ℕ → ℕ → ℤ → Type 0) : ℕ → ℕ → ℤ → Type 0 where
  stay : {x : ℕ} → Walk E x x (pos zero)
  step : {x y z : ℕ} {v w : ℤ} → E x y v → Walk E y z w → Walk E x z (v +ℤ w)

-- a closed walk with a negative total
pub record NegativeWalk (E : ℕ → ℕ → ℤ → Type 0) : Type 0 where
  pub at : ℕ
  pub total : ℤ
  pub walk : Walk E at at total
  pub negative : total <ℤ pos zero

-- "A plan is uncontrollable if some closed walk over derivable edges and lower-case edges has a negative total."
abbrev pub Uncontrollable : Plan → Type 0
Uncontrollable p = NegativeWalk (Open p)
