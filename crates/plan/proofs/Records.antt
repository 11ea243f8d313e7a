-- The list of the records at the indices below a number: how long it is, and what its members are.
-- Assumes nothing.
use mathlib.Core.Path.{◌≡◌, refl, ap}
use mathlib.Core.Logic.{⊎_elim}
use mathlib.Core.List.Memᴰ
use mathlib.Core.List.{Memᴰ}
use Prim.Native.Nat.{ℕ, zero, suc, ◌+◌, ◌≤◌, ◌<◌}
use native.Mathlib.Nat.{eq-or-lt_of_le}
use native.Mathlib.Omega.{arith}
use lib.ListN.{length}
use Rattle.plan.specs.Layout.{records}

-- x is the record at some index below n
pub record Listed {A : Type 0} (f : ℕ → A) (n : ℕ) (x : A) : Type 0 where
  pub index : ℕ
  pub below : index < n
  pub is : x ≡ f index

pub records_length : {A : Type 0} (f : ℕ → A) (i n : ℕ) → length (records f i n) ≡ n
records_length f i zero = refl
records_length f i (suc n) = ap suc (records_length f (suc i) n)

-- the record at an index is a member; j lies among the n from index i on
pub record_in : {A : Type 0} (f : ℕ → A) (i n j : ℕ) → i ≤ j → j < i + n → Memᴰ (f j) (records f i n)
record_in f i zero j h l = absurd (omega arith)
record_in f i (suc n) j h l =
    ⊎_elim
    (λ (e : i ≡ j). Memᴰ.head (ap f (omega arith)))
    (λ (g : i < j). Memᴰ.tail (record_in f (suc i) n j g (omega arith)))
    (eq-or-lt_of_le h)

-- a member is the record at an index
pub in_records : {A : Type 0} (f : ℕ → A) (i n : ℕ) (x : A) → Memᴰ x (records f i n) → Listed f (i + n) x
in_records f i zero x m = absurd (Memᴰ.not-nil m)
in_records f i (suc n) x m =
    ⊎_elim
    (λ e. record { index = i; below = omega arith; is = e })
    (λ t. later (in_records f (suc i) n x t))
    (Memᴰ.cases_cons m)
  where
    later : Listed f (suc i + n) x → Listed f (i + suc n) x
    later r = record { index = r.index; below = omega arith; is = r.is }
