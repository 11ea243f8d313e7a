-- What Add's sweeps start from: "Take as limits every strict cell off the diagonal that isn't the mark, and the new limit." Assumes nothing.
use Rattle.std.specs.Prelude.{◌≡◌, List, ℕ, ◌*◌, ◌≤◌, ◌<◌, length, ℤ}
use Rattle.rules.specs.Plan.{Limit, version1}
use Rattle.rules.specs.Cells.{table_of}
use Rattle.cell.specs.Steps.{adding}
use Rattle.lowering.specs.Sweep.{limit_cell, first_open}
use Rattle.scratch.specs.Swept.{strict_part, open_part}

-- one part holds the strict cells at 64 bits and the limit, the other the first open table
pub record Begun (n : ℕ) (m : Limit) (table before after : List ℤ) : Type 0 where
  pub cells : List ℤ
  pub room : n * n ≤ length cells
  pub same : (x y : ℕ) → x < n → y < n → table_of adding n cells x y ≡ table_of version1 n table x y
  pub strict_is : strict_part n after ≡ limit_cell adding n m cells
  pub open_is : open_part n after ≡ first_open adding n (open_part n before)
