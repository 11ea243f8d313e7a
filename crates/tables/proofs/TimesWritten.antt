-- Laws that the walk through the times cites: minus a stored cell fits, and what is written for a point is its time. Assumes nothing.
use mathlib.Core.Path.{◌≡◌, refl, ap, ◌∙◌}
use mathlib.Core.Bool.{Bool, true, false, cond}
use mathlib.Core.List.{List}
use Prim.Native.Nat.{ℕ, zero, ◌+◌, ◌*◌, ◌≤◌, ◌<◌}
use native.Mathlib.Omega.{arith}
use lib.Dec.{eqb}
use lib.ListN.{get_or}
use lib.IntN.{ℤ, pos, negsuc, neg_ℤ}
use lib.Signed.{◌≤ℤ◌}
use borrow.Author.Tests.{eqb-true}
use mir.Syntax.{w32}
use mir.Val.{SFits, to_z, of_z}
use Rattle.whole.proofs.Order.{ints, neg}
use Rattle.whole.proofs.Bits.{signed, back}
use Rattle.rules.specs.Plan.{Plan, Ranges, version1}
use Rattle.rules.specs.Cells.{mark, num, cell_of, table_of}
use Rattle.rules.specs.Calls.{TimesOf}
use Rattle.cell.specs.Steps.{Stored, cell32}
use Rattle.lowering.specs.Table.{Sound}
use Rattle.lowering.proofs.Laws.LoopTurns.{read_cell, read_stored}
use Rattle.lowering.proofs.Laws.CellsWritten.{Writing, writing_all}

-- a stored number is the mark at most, and the floor at least
stored_most : (m reach : ℕ) (v : ℤ) → reach ≤ m → Stored reach (cell_of m v) → v ≤ℤ pos m
stored_most m reach (pos n) h s = by (eqb n m) refl s
  where
    by : (b : Bool) → eqb n m ≡ b → Stored reach (cond b mark (num (pos n))) → pos n ≤ℤ pos m
    by true e t = omega (ints, eqb-true n m e)
    by false e t = omega (ints, t.1)
stored_most m reach (negsuc n) h s = omega ints

stored_least : (m reach : ℕ) (v : ℤ) → Stored reach (cell_of m v) → negsuc reach ≤ℤ v
stored_least m reach (pos n) s = omega ints
stored_least m reach (negsuc n) s = s.0

-- a cell that is a number was read as that number
number_read : (r : Ranges) (n x : ℕ) (strict : List ℤ) {v c : ℤ} → v ≡ get_or strict (x * n + zero) (pos zero) → table_of r n strict x zero ≡ num c → v ≡ c
number_read r n x strict {v} {c} e k = by v (read_cell r n x zero strict v e ∙ k)
  where
    by : (v : ℤ) → cell_of r.mark v ≡ num c → v ≡ c
    by (pos a) h = go (eqb a r.mark) h
      where
        go : (b : Bool) → cond b mark (num (pos a)) ≡ num c → pos a ≡ c
        go true i = cc
        go false i = cc
    by (negsuc a) h = cc

-- what is written for a point: minus its cell to 0, where that is a number
abbrev pub TimeOf : ℕ → List ℤ → ℕ → ℤ → Type 0
TimeOf n strict x w = (c : ℤ) → table_of version1 n strict x zero ≡ num c → w ≡ neg_ℤ c

-- the cell to 0 as it was read: minus its number fits, and is the point's time as it is stored
module _ {n : ℕ} {strict : List ℤ} (s : Sound version1 n strict) (x : ℕ) (h : x < n) {v : ℤ} (e : v ≡ get_or strict (x * n + zero) (pos zero)) where
  stored : Stored version1.reach (cell32 v)
  stored = read_stored version1 n x zero strict v s h (omega arith) e

  pub time_fits : SFits w32 (neg_ℤ v)
  unfolding version1
  time_fits =
      omega (
        signed,
        neg v,
        stored_most version1.mark version1.reach v (omega arith) stored,
        stored_least version1.mark version1.reach v stored,
      )

  pub time_is : {w : ℤ} → w ≡ neg_ℤ v → TimeOf n strict x (to_z w32 (of_z w32 w))
  time_is f c k = rw f (back time_fits ∙ ap neg_ℤ (number_read version1 n x strict e k))

-- every point has its time
pub all_timed : {n : ℕ} {strict : List ℤ} {x : ℕ} {start now : List ℤ} → Writing n (TimeOf n strict) x start now → n ≤ x → (p : Plan) → p.points ≡ n
    → TimesOf version1 p strict start now
all_timed t h p e =
    let w = writing_all t h in
    record { times_kept = rw e w.kept; minus_cell = λ y k c i. w.written y (omega (arith, e)) c (rw e at i) }
