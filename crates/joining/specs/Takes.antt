-- What a step does to a lent table. Assumes nothing.
use Rattle.std.specs.Prelude.{◌≡◌, List, ℤ}
use Rattle.cell.specs.declared.word.Word.{Ghosts}
use Rattle.joining.specs.declared.table.Table.{Table}

-- the cells are what f makes of them, in the same list and of the same size
pub record Takes {W : Type 0} {w : Ghosts W} (f : List ℤ → List ℤ) (before after : Table W w) : Type 0 where
  pub same_list : after.cells.ghost_name ≡ before.cells.ghost_name
  pub same_size : after.n ≡ before.n
  pub cells : w.values after.cells.now ≡ f (w.values before.cells.now)
