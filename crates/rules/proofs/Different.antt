-- Lists of different members: whether a number is a member, and that a list of different members which are all in another is no longer than it; so
-- different numbers below n are at most n. Assumes nothing.
use mathlib.Core.Path.{◌≡◌, refl, sym, ap, ◌∙◌}
use mathlib.Core.Logic.{◌≢◌, ◌⊎◌, inl, inr, ⊎_elim}
use mathlib.Core.List.Memᴰ
use mathlib.Core.List.{List, [], ◌∷◌, Memᴰ}
use Prim.Native.Nat.{ℕ, zero, suc, ◌≤◌, ◌<◌}
use native.Mathlib.Nat.{eq-or-lt_of_le, le_of_suc-le-suc}
use native.Mathlib.Omega.{arith}
use native.Mathlib.Decide.{ℕ_discrete}
use lib.ListN.{length}

-- no member stands twice
abbrev pub Different : {A : Type 0} → List A → Type 0
Different [] = Unit {0}
Different (a ∷ l) = (Memᴰ a l → ⊥) × Different l

-- every number is below n
abbrev pub Below : ℕ → List ℕ → Type 0
Below n [] = Unit {0}
Below n (a ∷ l) = (a < n) × Below n l

-- a number is a member of a list, or not
pub member : (a : ℕ) (l : List ℕ) → Memᴰ a l ⊎ (Memᴰ a l → ⊥)
member a [] = inr Memᴰ.not-nil
member a (b ∷ l) = first (ℕ_discrete a b) (member a l)
  where
    first : Dec (a ≡ b) → Memᴰ a l ⊎ (Memᴰ a l → ⊥) → Memᴰ a (b ∷ l) ⊎ (Memᴰ a (b ∷ l) → ⊥)
    first (yes e) m = inl (Memᴰ.head e)
    first (no ne) (inl m) = inl (Memᴰ.tail m)
    first (no ne) (inr nm) = inr (λ h. ⊎_elim ne nm (Memᴰ.cases_cons h))

-- ---- no longer than a list that has them all

-- a list without one of its members: one shorter, with all the others
record Without {A : Type 0} (x : A) (l : List A) : Type 0 where
  rest : List A
  shorter : length l ≡ suc (length rest)
  others : (y : A) → Memᴰ y l → y ≢ x → Memᴰ y rest

without : {A : Type 0} {x : A} {l : List A} → Memᴰ x l → Without x l
without (Memᴰ.head {xs} e) =
    record { rest = xs; shorter = refl; others = λ y h ne. ⊎_elim (λ q. absurd (ne (q ∙ sym e))) (λ t. t) (Memᴰ.cases_cons h) }
without (Memᴰ.tail {x = z} h) =
    let w = without h in
    record {
      rest = z ∷ w.rest;
      shorter = ap suc w.shorter;
      others = λ y k ne. ⊎_elim (λ q. Memᴰ.head q) (λ t. Memᴰ.tail (w.others y t ne)) (Memᴰ.cases_cons k);
    }

pub no_longer : {A : Type 0} (l ms : List A) → Different l → ((x : A) → Memᴰ x l → Memᴰ x ms) → length l ≤ length ms
no_longer [] ms d h = omega arith
no_longer (a ∷ l) ms d h =
    let w : Without a ms = without (h a (Memᴰ.head refl)) in
    omega (arith, no_longer l w.rest d.1 (λ y m. w.others y (h y (Memᴰ.tail m)) (λ e. d.0 (Memᴰ.cast (sym e) m))))

-- ---- the numbers below n

upto : ℕ → List ℕ
upto zero = []
upto (suc n) = n ∷ upto n

upto_length : (n : ℕ) → length (upto n) ≡ n
unfolding upto
upto_length zero = refl
upto_length (suc n) = ap suc (upto_length n)

in_upto : (n a : ℕ) → a < n → Memᴰ a (upto n)
unfolding upto
in_upto zero a h = absurd (omega arith)
in_upto (suc n) a h = ⊎_elim (λ e. Memᴰ.head e) (λ l. Memᴰ.tail (in_upto n a l)) (eq-or-lt_of_le (le_of_suc-le-suc h))

below_in : (n : ℕ) (l : List ℕ) → Below n l → (a : ℕ) → Memᴰ a l → Memᴰ a (upto n)
below_in n [] b a m = absurd (Memᴰ.not-nil m)
below_in n (c ∷ l) b a m = ⊎_elim (λ (e : a ≡ c). in_upto n a (omega (arith, b.0))) (λ t. below_in n l b.1 a t) (Memᴰ.cases_cons m)

-- different numbers below n are at most n
pub at_most_all : (n : ℕ) (l : List ℕ) → Different l → Below n l → length l ≤ n
at_most_all n l d b = omega (arith, no_longer l (upto n) d (below_in n l b), upto_length n)
