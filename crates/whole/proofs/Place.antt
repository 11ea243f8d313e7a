-- Where a cell of a table of n rows and n columns lies in the table's list: row i, column j at the index i * n + j. A product of two
-- variables is no matter for omega, so what is asked of such an index again and again is proved here: that it lies within the list and
-- fits its type, which row and column it belongs to, and what a cell holds after a cell was written. Assumes nothing.
use mathlib.Core.Path.{◌≡◌, sym, ap, ◌∙◌}
use mathlib.Core.List.{List}
use mathlib.Core.Logic.{◌⊎◌, inl, inr}
use Prim.Native.Nat.{ℕ, zero, suc, ◌+◌, ◌*◌, ◌/◌, ◌%◌, ◌≤◌, ◌<◌}
use native.Mathlib.Decide.{ℕ_discrete}
use native.Mathlib.Nat.{lt_of_lt_of_le, mul-le-mul, mul-le-mul_right, suc-mul, mod-lt, div-lt_iff_lt-mul, div-add-mod'}
use native.Mathlib.Omega.{arith}
use lib.Arith.{digits_lt, digits_div, digits_mod}
use lib.ListN.{length, get_or, set}
use lib.Seq.{get_or-set_same, get_or-set_other}

-- ---- within the table

-- a cell's index is below n * n. Where the list has room for the table, omega has from this that the index lies within the list,
-- that it and its product fit a usize, and that the bytes before it do.
pub inside : {n i j : ℕ} → i < n → j < n → i * n + j < n * n
inside = digits_lt

-- a list with room for the table holds the cell
pub within : {n i j m : ℕ} → i < n → j < n → n * n ≤ m → i * n + j < m
within hi hj h = lt_of_lt_of_le (digits_lt hi hj) h

-- a row ends within the table
pub row_inside : {n i : ℕ} → i < n → i * n + n ≤ n * n
row_inside {n} {i} h = omega (arith, mul-le-mul_right n h, suc-mul i n)

-- a table of at most b rows has at most b * b cells
pub square_le : {n b : ℕ} → n ≤ b → n * n ≤ b * b
square_le h = mul-le-mul h h

-- the index of a cell of a table of at most b rows is below b * b: below 4,096 at 64 points
pub index_below : {n i j b : ℕ} → i < n → j < n → n ≤ b → i * n + j < b * b
index_below hi hj h = within hi hj (square_le h)

-- ---- the row and the column of an index

-- the row of a cell's index
pub row_of : (i : ℕ) {n j : ℕ} → j < n → (i * n + j) / n ≡ i
row_of = digits_div

-- the column of a cell's index
pub column_of : (i : ℕ) {n j : ℕ} → j < n → (i * n + j) % n ≡ j
column_of = digits_mod

-- no two cells share an index: the rows are equal
pub same_row : (i i' : ℕ) {n j j' : ℕ} → j < n → j' < n → i * n + j ≡ i' * n + j' → i ≡ i'
same_row i i' {n} h k e = sym (row_of i h) ∙ (ap (λ (x : ℕ). x / n) e ∙ row_of i' k)

-- and the columns are
pub same_column : (i i' : ℕ) {n j j' : ℕ} → j < n → j' < n → i * n + j ≡ i' * n + j' → j ≡ j'
same_column i i' {n} h k e = sym (column_of i h) ∙ (ap (λ (x : ℕ). x % n) e ∙ column_of i' k)

-- an index as the cell of a row and a column
pub record Spot (n k : ℕ) : Type 0 where
  pub row : ℕ
  pub column : ℕ
  pub row_below : row < n
  pub column_below : column < n
  pub is : k ≡ row * n + column

-- every index below n * n is the cell of a row and a column
pub spot : (n k : ℕ) → k < n * n → Spot n k
spot zero k h = absurd (omega arith)
spot (suc n) k h =
    record {
      row = k / suc n;
      column = k % suc n;
      row_below = (div-lt_iff_lt-mul {k = suc n} (omega arith)).1 h;
      column_below = mod-lt k (omega arith);
      is = sym (div-add-mod' k (suc n));
    }

-- ---- a cell after a cell was written

-- the cell that was written holds the new value
pub written : {A : Type 0} {n i j : ℕ} (t : List A) (v d : A) → i < n → j < n → n * n ≤ length t
    → get_or (set t (i * n + j) v) (i * n + j) d ≡ v
written {n = n} {i} {j} t v d hi hj h = get_or-set_same t (i * n + j) v d (within hi hj h)

-- a cell of another row or another column holds what it held
pub unwritten : {A : Type 0} {n i j i' j' : ℕ} (t : List A) (v d : A) → j < n → j' < n → ((i ≡ i') × (j ≡ j') → ⊥)
    → get_or (set t (i' * n + j') v) (i * n + j) d ≡ get_or t (i * n + j) d
unwritten {n = n} {i} {j} {i'} {j'} t v d h k ne =
    get_or-set_other t (i' * n + j') (i * n + j) v d (λ e. ne (same_row i i' h k e, same_column i i' h k e))

-- each cell is the one that was written, and holds the new value, or another, and holds what it held
pub after_write : {A : Type 0} {n i j i' j' : ℕ} (t : List A) (v d : A) → i < n → j < n → i' < n → j' < n → n * n ≤ length t
    → (((i ≡ i') × (j ≡ j')) × (get_or (set t (i' * n + j') v) (i * n + j) d ≡ v))
    ⊎ (((i ≡ i') × (j ≡ j') → ⊥) × (get_or (set t (i' * n + j') v) (i * n + j) d ≡ get_or t (i * n + j) d))
after_write {A} {n} {i} {j} {i'} {j'} t v d hi hj hi' hj' h =
    elim (ℕ_discrete i i') [
      | yes p ↦ elim (ℕ_discrete j j') [
        | yes q ↦ inl ((p, q), rw (p, q) (written t v d hi' hj' h))
        | no q ↦ inr ((λ e. q e.1), unwritten t v d hj hj' (λ e. q e.1))
      ]
      | no p ↦ inr ((λ e. p e.0), unwritten t v d hj hj' (λ e. p e.0))
    ]
