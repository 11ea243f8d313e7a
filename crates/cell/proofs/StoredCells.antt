-- Laws of cells, with no code in sight: their order, the smaller of two, sums, what a sweep stores, and a cell as a number of a table.
-- An order of cells computes at the mark and at numbers, so the cells are written at each use. Assumes nothing.
use mathlib.Core.Path.{◌≡◌, refl, sym, ap, ◌∙◌}
use mathlib.Core.Bool.{Bool, true, false, cond, true≢false}
use Prim.Native.Nat.{ℕ, ◌-◌, ◌≤◌, ◌<◌}
use lib.Dec.{eqb}
use lib.IntN.{ℤ, pos, negsuc, neg_ℤ}
use lib.Signed.{lt_z, ≤ℤ_refl}
use borrow.Author.Tests.{eqb-true}
use Rattle.whole.proofs.Order.{ints, plus, neg, ≤ℤ_antisym, plus_mono}
use Rattle.whole.proofs.Bits.{signed, le_lt_z}
use Rattle.rules.specs.Plan.{Link}
use Rattle.rules.specs.Edges.{spread}
use Rattle.rules.specs.Cells.{Cell, mark, num, cell_of, ◌+ᶜ◌, ◌≤ᶜ◌, Within}
pub use Rattle.rules.proofs.Cells.{≤ᶜ_refl, ≤ᶜ_trans, ≤ᶜ_mark}
use Rattle.cell.specs.Steps.{belowᶜ, smallerᶜ, Stored, clamped, number_of}
use Rattle.cell.proofs.CellMethods.{mark_is, number_is}

-- ---- the order

-- two cells that do not exceed each other are equal
pub ≤ᶜ_antisym : (a b : Cell) → a ≤ᶜ b → b ≤ᶜ a → a ≡ b
≤ᶜ_antisym mark mark h k = refl
≤ᶜ_antisym mark (num b) h k = absurd h
≤ᶜ_antisym (num a) mark h k = absurd k
≤ᶜ_antisym (num a) (num b) h k = ap num (≤ℤ_antisym h k)

-- sums are monotone
pub +ᶜ-mono : (a b c d : Cell) → a ≤ᶜ b → c ≤ᶜ d → (a +ᶜ c) ≤ᶜ (b +ᶜ d)
+ᶜ-mono a mark c d h k = ≤ᶜ_mark (a +ᶜ c)
+ᶜ-mono a (num b) c mark h k = ≤ᶜ_mark (a +ᶜ c)
+ᶜ-mono mark (num b) c (num d) h k = absurd h
+ᶜ-mono (num a) (num b) mark (num d) h k = absurd k
+ᶜ-mono (num a) (num b) (num c) (num d) h k = plus_mono h k

-- ---- the test of the order

-- a cell that is below another does not exceed it
pub below_le : (a b : Cell) → belowᶜ a b ≡ true → a ≤ᶜ b
below_le mark b t = absurd (true≢false (sym t))
below_le (num a) mark t = tt
below_le (num a) (num b) t = omega signed

-- one that is not below another is at least it
pub not_below_le : (a b : Cell) → belowᶜ a b ≡ false → b ≤ᶜ a
not_below_le mark b t = ≤ᶜ_mark b
not_below_le (num a) mark t = absurd (true≢false t)
not_below_le (num a) (num b) t = omega signed

-- a cell that is at least another is not below it
pub le_not_below : (a b : Cell) → b ≤ᶜ a → belowᶜ a b ≡ false
le_not_below mark b h = refl
le_not_below (num a) mark h = absurd h
le_not_below (num a) (num b) h = le_lt_z a b h

-- a cell that is below another is not it
pub below_differs : (a b : Cell) → belowᶜ a b ≡ true → a ≡ b → ⊥
below_differs a b t e =
    let u : belowᶜ b b ≡ true = rw e at t in
    true≢false (sym u ∙ le_not_below b b (≤ᶜ_refl b))

-- ---- the smaller of two cells

-- by the test that picks one
cond_is : (b : Bool) (P : Cell → Type 0) {x y : Cell} → (b ≡ true → P x) → (b ≡ false → P y) → P (cond b x y)
cond_is true P f g = f refl
cond_is false P f g = g refl

-- what holds of the first where it is below, and of the second where it is not, holds of the smaller
pub smaller_is : (P : Cell → Type 0) (a b : Cell) → (belowᶜ a b ≡ true → P a) → (belowᶜ a b ≡ false → P b) → P (smallerᶜ a b)
smaller_is P a b f g = cond_is (belowᶜ a b) P f g

-- the smaller exceeds neither
pub smaller_left : (a b : Cell) → smallerᶜ a b ≤ᶜ a
smaller_left a b = smaller_is (λ c. c ≤ᶜ a) a b (λ _. ≤ᶜ_refl a) (λ t. not_below_le a b t)

pub smaller_right : (a b : Cell) → smallerᶜ a b ≤ᶜ b
smaller_right a b = smaller_is (λ c. c ≤ᶜ b) a b (λ t. below_le a b t) (λ _. ≤ᶜ_refl b)

-- and is at least whatever exceeds neither
pub smaller_least : (a b c : Cell) → c ≤ᶜ a → c ≤ᶜ b → c ≤ᶜ smallerᶜ a b
smaller_least a b c h k = smaller_is (λ d. c ≤ᶜ d) a b (λ _. h) (λ _. k)

-- the smaller of two cells in range is in range
pub smaller_stored : (n : ℕ) (a b : Cell) → Stored n a → Stored n b → Stored n (smallerᶜ a b)
smaller_stored n a b h k = smaller_is (Stored n) a b (λ _. h) (λ _. k)

-- ---- what a sweep stores

-- a cell of closed tables is one that a sweep may hold
pub within_stored : (n : ℕ) (c : Cell) → Within n c → Stored n c
within_stored n mark h = tt
within_stored n (num a) h = omega (ints, neg (pos n))

-- what is stored is in range
pub clamped_stored : (n : ℕ) (c : Cell) → Stored n (clamped n c)
clamped_stored n mark = tt
clamped_stored n (num a) =
    cond_is (lt_z (pos n) a) (Stored n) (λ _. tt)
    (λ f. cond_is (lt_z a (neg_ℤ (pos n))) (Stored n) (λ g. omega signed) (λ g. omega (signed, neg (pos n))))

-- what is stored is never less than what was meant
pub clamped_le : (n : ℕ) (c : Cell) → c ≤ᶜ clamped n c
clamped_le n mark = tt
clamped_le n (num a) =
    cond_is (lt_z (pos n) a) (λ c. num a ≤ᶜ c) (λ _. tt)
    (λ f. cond_is (lt_z a (neg_ℤ (pos n))) (λ c. num a ≤ᶜ c) (λ g. omega (signed, neg (pos n))) (λ g. ≤ℤ_refl a))

-- a cell of the reach is stored as it is
pub clamped_within : (n : ℕ) (c : Cell) → Within n c → clamped n c ≡ c
clamped_within n mark h = refl
clamped_within n (num a) h = rw (le_lt_z (pos n) a h.1, le_lt_z a (neg_ℤ (pos n)) h.0)

-- ---- a cell as a number of a table

-- a number is the number of its cell
pub number_back : (m : ℕ) (a : ℤ) → number_of m (cell_of m a) ≡ a
number_back m (pos n) = by (eqb n m) refl
  where
    by : (t : Bool) → eqb n m ≡ t → number_of m (cond t mark (num (pos n))) ≡ pos n
    by true e = ap pos (sym (eqb-true n m e))
    by false e = refl
number_back m (negsuc n) = refl

-- what a method says of its result's cell says which number it is
pub number_of_lem : (m : ℕ) {a : ℤ} {c : Cell} → cell_of m a ≡ c → a ≡ number_of m c
number_of_lem m {a} e = sym (number_back m a) ∙ ap (number_of m) e

-- numbers with the same cell are the same
pub same_cell : (m : ℕ) {a b : ℤ} → cell_of m a ≡ cell_of m b → a ≡ b
same_cell m {a} {b} e = number_of_lem m e ∙ number_back m b

-- a cell in range is the cell of its number
pub cell_back : (m n : ℕ) → n < m → (c : Cell) → Stored n c → cell_of m (number_of m c) ≡ c
cell_back m n h mark s = mark_is m
cell_back m n h (num a) s = number_is m a (omega ints)

-- ---- a link's spread

-- the spread of a link is the difference of its spans, which code computes without a sign
pub spread_is : (k : Link) → k.short ≤ k.long → spread k ≡ pos (k.long - k.short)
spread_is k h = omega (ints, plus (pos k.long) (neg_ℤ (pos k.short)), neg (pos k.short))
