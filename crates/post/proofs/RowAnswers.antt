-- Row access: where there is a row its place is small, and the part that is handed back. Assumes nothing.
use mathlib.Core.Path.{◌≡◌, sym, ◌∙◌}
use mathlib.Core.Bool.{Bool, false, false≢true}
use mathlib.Core.List.{List, []}
use Prim.Native.Nat.{ℕ, ◌*◌, ◌≤◌}
use lib.ListN.{length}
use lib.IntN.{ℤ}
use denote.Ref.{Bor}
use Rattle.whole.proofs.Place.{square_le}
use Rattle.rules.specs.declared.Side.{Side}
use Rattle.rules.specs.Plan.{version1}
use Rattle.rules.specs.Rows.{has_row, RowHanded}
use Rattle.rules.proofs.Rows.{Fitting, row_empty}
use Rattle.plan.proofs.TestsMade.{failed}

-- where there is a row its place is small
pub square_small : {strict weak n x : ℕ} → Fitting strict weak n x → n * n ≤ 4096
unfolding version1
square_small f = square_le f.few

-- an empty part, wherever it lies
pub no_row : {strict weak part : Bor (List ℤ)} {n x : ℕ} {which : Side} {b : Bool} → b ≡ has_row (length strict.now) (length weak.now) n x
    → b ≡ false → part.now ≡ [] → RowHanded strict weak n x which part
no_row {strict} {weak} {n = n} {x} {which} e t h =
    let f = failed e t in
    record { cells = h ∙ sym (row_empty strict.now weak.now n x which f); own = λ k. absurd (false≢true (sym f ∙ k)) }
