-- Laws of cells, besides those of the rules: equal cells and numbers in their order, sums with 0, and a sum that is a number. The order computes at the mark and at numbers, so the cells are written at each use.
-- Assumes nothing.
use mathlib.Core.Path.{◌≡◌, refl, ap}
use Prim.Native.Nat.{zero}
use lib.IntN.{ℤ, pos, ◌+ℤ◌, +ℤ_idl, +ℤ_idr}
use lib.Signed.{◌≤ℤ◌, ≤ℤ_refl}
use Rattle.rules.specs.Cells.{Cell, mark, num, ◌+ᶜ◌, ◌≤ᶜ◌}
use Rattle.rules.proofs.Cells.{mark_no_number, same_number, AtMost}
pub use Rattle.rules.proofs.Cells.{≤ᶜ_refl, ≤ᶜ_trans, ≤ᶜ_mark}

-- no cell exceeds one that it is
pub ≤ᶜ_same : {a b : Cell} → a ≡ b → a ≤ᶜ b
≤ᶜ_same {b} e = rw e (≤ᶜ_refl b)

-- a cell that is a number is at most that number
pub at_number : {c : Cell} {w : ℤ} → c ≡ num w → AtMost c w
at_number {w} e = record { value = w; is = e; le = ≤ℤ_refl w }

-- a number whose cell is at most another is at most it
pub number_le : {c : Cell} {v w : ℤ} → c ≤ᶜ num w → c ≡ num v → v ≤ℤ w
number_le {w} h e = rw e at h

-- 0 adds nothing, on either side
pub +ᶜ-zero : (c : Cell) → c +ᶜ num (pos zero) ≡ c
+ᶜ-zero mark = refl
+ᶜ-zero (num a) = ap num (+ℤ_idr a)

pub zero-+ᶜ : (c : Cell) → num (pos zero) +ᶜ c ≡ c
zero-+ᶜ mark = refl
zero-+ᶜ (num a) = ap num (+ℤ_idl a)

-- two cells whose sum is a number are numbers
pub record Summands (a b : Cell) (w : ℤ) : Type 0 where
  pub left : ℤ
  pub right : ℤ
  pub left_is : a ≡ num left
  pub right_is : b ≡ num right
  pub sum : left +ℤ right ≡ w

pub summands : (a b : Cell) (w : ℤ) → a +ᶜ b ≡ num w → Summands a b w
summands mark b w e = absurd (mark_no_number e)
summands (num a) mark w e = absurd (mark_no_number e)
summands (num a) (num b) w e = record { left = a; right = b; left_is = refl; right_is = refl; sum = same_number e }
