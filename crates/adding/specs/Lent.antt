-- What Add's inner functions are lent beside a plan of n points: a limit in range, and room for both tables and the scratch. Assumes nothing.
use Rattle.std.specs.Prelude.{◌≡◌, List, ℕ, ◌+◌, ◌*◌, ◌≤◌, length, ℤ}
use Rattle.rules.specs.Plan.{Limit, version1, LimitInRange}
use Rattle.rules.specs.Answers.{Done}
use Rattle.plan.specs.File.{add_answer}

-- codes 1 to 9 are past
pub record Lent (s : List ℕ) (n : ℕ) (l : Limit) (strict weak scratch : List ℤ) : Type 0 where
  pub done : add_answer s l ≡ Done
  pub limit : LimitInRange version1 n l
  pub strict_room : n * n ≤ length strict
  pub open_room : n * n ≤ length weak
  pub scratch_room : n * n + n * n ≤ length scratch
