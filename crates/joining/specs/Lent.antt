-- That a table is sound in one way only, as a ghost field needs it. Assumes nothing.
use Rattle.std.specs.Prelude.{List, ℕ, ℤ, ◌<◌, ◌≤◌, ◌*◌, length}
use Rattle.std.specs.Coded.{Unit-prop, le_prop}
use lib.Dec.{T_prop}
use Rattle.rules.specs.Plan.{Ranges}
use Rattle.rules.specs.Cells.{Cell, mark, num, table_of}
use Rattle.cell.specs.Steps.{Stored}
use Rattle.lowering.specs.Table.{Sound}

pub Stored-prop : (reach : ℕ) (c : Cell) → IsProp (Stored reach c)
Stored-prop reach mark = Unit-prop
Stored-prop reach (num c) = Prim.hlevel (T_prop, le_prop)

pub Sound-prop : (r : Ranges) (n : ℕ) (t : List ℤ) → IsProp (Sound r n t)
Sound-prop r n t a b =
    let room_prop : IsProp (n * n ≤ length t) = le_prop in
    let stored_prop : IsProp ((x y : ℕ) → x < n → y < n → Stored r.reach (table_of r n t x y)) = Prim.hlevel Stored-prop in
    λ i. record { room = room_prop a.room b.room i; stored = stored_prop a.stored b.stored i }
