-- What the functions of this crate are lent: a sound file with its counts, and lists with room for a table. Assumes nothing.
use Rattle.std.specs.Prelude.{List, ℕ, zero, ◌*◌, ◌≤◌, ◌<◌, length, get_or, ℤ, pos}
use Rattle.rules.specs.Plan.{Ranges}
use Rattle.rules.specs.Cells.{cell_of, table_of}
pub use Rattle.plan.specs.Ready.{Ready}
use Rattle.cell.specs.Steps.{Stored}

-- a list with room for a table whose cells a sweep stores
pub record Sound (r : Ranges) (n : ℕ) (t : List ℤ) : Type 0 where
  pub room : n * n ≤ length t
  pub stored : (x y : ℕ) → x < n → y < n → Stored r.reach (table_of r n t x y)

-- the same of the first m cells of a list, by their index
pub record Held (r : Ranges) (m : ℕ) (t : List ℤ) : Type 0 where
  pub room : m ≤ length t
  pub stored : (i : ℕ) → i < m → Stored r.reach (cell_of r.mark (get_or t i (pos zero)))
