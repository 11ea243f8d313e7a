-- How the rounds end where the plan has no tables. Assumes nothing.
use Rattle.std.specs.Prelude.{List, ℤ}
use Rattle.rules.specs.Plan.{Plan}
use Rattle.rules.specs.Walks.{Uncontrollable}
use Rattle.rules.specs.Calls.{cells_of, Kept}

-- the plan is uncontrollable, and what lies past the room of both tables stays
pub record Refused (p : Plan) (strict weak strict' weak' : List ℤ) : Type 0 where
  pub uncontrollable : Uncontrollable p
  pub strict_kept : Kept (cells_of p) strict strict'
  pub open_kept : Kept (cells_of p) weak weak'
