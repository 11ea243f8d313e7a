-- Numbers of 32 bits as they are passed, and a step that is another one. Assumes nothing.
use mathlib.Core.Path.{◌≡◌}
use mathlib.Core.List.{List}
use Prim.Native.Nat.{◌^◌, ◌<◌}
use lib.IntN.{ℤ}
use lib.Signed.{mag}
use mir.Syntax.{w32}
use mir.Val.{hbits, to_z, of_z}
use Rattle.whole.proofs.Bits.{back, fit}
use Rattle.cell.specs.declared.word.Word.{Ghosts}
use Rattle.joining.specs.declared.table.Table.{Table}
use Rattle.joining.specs.Takes.{Takes}

-- what a call returned is passed on as it is
pub passed : (v : ℤ) → mag v < 2 ^ hbits w32 → to_z w32 (of_z w32 v) ≡ v
passed v h = back (fit w32 v h)

-- a step of f that is one of g
pub taken : {W : Type 0} {w : Ghosts W} {f g : List ℤ → List ℤ} {t u : Table W w} → Takes f t u
    → (w.values u.cells.now ≡ f (w.values t.cells.now) → w.values u.cells.now ≡ g (w.values t.cells.now)) → Takes g t u
taken k h = record { same_list = k.same_list; same_size = k.same_size; cells = h k.cells }
