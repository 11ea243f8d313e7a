-- What the counts of a word's bits say of the set that it holds: ones, trailing zeros and leading zeros are its number, its lowest and its highest point.
-- Assumes nothing.
use mathlib.Core.Path.{◌≡◌, refl, ap, subst, ◌∙◌}
use mathlib.Core.Logic.{⊎_elim}
use mathlib.Core.Bool.{Bool, true, false, cond}
use Prim.Native.Nat.{ℕ, zero, suc, ◌+◌, ◌-◌, ◌/◌, ◌%◌, ◌^◌, ◌≤◌, ◌<◌}
use native.Mathlib.Nat.{pow-suc, div-eq_of_lt-le}
use native.Mathlib.Omega.{arith}
use lib.Dec.{eqb}
use lib.Count.{ones, count_trailing_zeros, count_leading_zeros, leading_top, under}
use Rattle.std.specs.Int.{bit_at}
use Rattle.std.proofs.lemmas.Bool.{cases_lt}
use Rattle.std.proofs.lemmas.Nat.{ones_cat, trailing_le}
use Rattle.std.proofs.lemmas.Nat.Bits.{bit_at-zero, bit_at-lt, bit_at_lowest, bit_at-suc}
use Rattle.words.specs.Sets.{Set, word_bits, how_many, Lowest, Highest, bit, word_of}
use Rattle.words.specs.Sets as sets
use Rattle.words.proofs.BitsOfWords.{no_bit, word_more, word_lt, word_is}

-- ---- ones

-- the word of a set has a one for each of its points
pub ones_word : (k : ℕ) (s : Set) → ones (word_of k s) ≡ how_many k s
unfolding how_many word_of ones
ones_word zero s = refl
ones_word (suc k) s = ap ones (word_more k s) ∙ ones_cat k (cond (s k) 1 0) (word_of k s) (word_lt k s) ∙ by (s k) (ones_word k s)
  where
    by : (b : Bool) → ones (word_of k s) ≡ how_many k s → ones (cond b 1 0) + ones (word_of k s) ≡ cond b 1 0 + how_many k s
    by true e = ap (λ (m : ℕ). 1 + m) e
    by false e = ap (λ (m : ℕ). 0 + m) e

pub ones_number : (k w : ℕ) → w < 2 ^ k → ones w ≡ how_many k (bit w)
ones_number k w h = ap ones (word_is k (bit w) h (λ y l. refl)) ∙ ones_word k (bit w)

-- ---- trailing zeros

-- among k digits: below the count there is no 1
zeros_below : (k w y : ℕ) → y < count_trailing_zeros k w → bit_at w y ≡ 0
unfolding count_trailing_zeros
zeros_below zero w y h = absurd (omega arith)
zeros_below (suc k) w y h = by (w % 2) refl y h (zeros_below k (w / 2))
  where
    by : (d : ℕ) → w % 2 ≡ d → (y : ℕ) → y < under d (count_trailing_zeros k (w / 2))
        → ((z : ℕ) → z < count_trailing_zeros k (w / 2) → bit_at (w / 2) z ≡ 0) → bit_at w y ≡ 0
    by zero e zero h r = bit_at_lowest w ∙ e
    by zero e (suc y) h r = bit_at-suc w y ∙ r y (omega arith)
    by (suc d) e y h r = absurd (omega arith)

-- and the digit that it names is a 1, unless it names none
one_there : (k w : ℕ) → count_trailing_zeros k w < k → bit_at w (count_trailing_zeros k w) ≡ 1
unfolding count_trailing_zeros
one_there zero w h = absurd (omega arith)
one_there (suc k) w h = by (w % 2) refl h (one_there k (w / 2))
  where
    by : (d : ℕ) → w % 2 ≡ d → under d (count_trailing_zeros k (w / 2)) < suc k
        → (count_trailing_zeros k (w / 2) < k → bit_at (w / 2) (count_trailing_zeros k (w / 2)) ≡ 1) → bit_at w (under d (count_trailing_zeros k (w / 2))) ≡ 1
    by zero e h r = bit_at-suc w (count_trailing_zeros k (w / 2)) ∙ r (omega arith)
    by (suc d) e h r = omega (arith, bit_at_lowest w, bit_at-lt w 0)

pub trailing_lowest : (w : ℕ) → Lowest word_bits (bit w) (count_trailing_zeros word_bits w)
unfolding bit
trailing_lowest w = ⊎_elim some none (cases_lt (count_trailing_zeros word_bits w) word_bits)
  where
    empty_below : (y : ℕ) → y < count_trailing_zeros word_bits w → bit w y ≡ false
    empty_below y l = ap (λ (d : ℕ). eqb d 1) (zeros_below word_bits w y l)

    some : count_trailing_zeros word_bits w < word_bits → Lowest word_bits (bit w) (count_trailing_zeros word_bits w)
    some h = sets.lowest h (ap (λ (d : ℕ). eqb d 1) (one_there word_bits w h)) empty_below

    none : word_bits ≤ count_trailing_zeros word_bits w → Lowest word_bits (bit w) (count_trailing_zeros word_bits w)
    none h =
        let e : word_bits ≡ count_trailing_zeros word_bits w = omega (arith, trailing_le word_bits w) in
        subst (Lowest word_bits (bit w)) e (sets.none (λ y l. empty_below y (omega arith)))

-- ---- leading zeros

-- the bit of a power that a word reaches and whose double it does not
top_bit : (w y : ℕ) → 2 ^ y ≤ w → w < 2 ^ suc y → bit w y ≡ true
unfolding bit
top_bit w y h j = ap (λ (a : ℕ). eqb (a % 2) 1) (div-eq_of_lt-le {k = 1} (2 ^ y) {m = w} (omega arith) (omega (arith, pow-suc 2 y)))

pub leading_highest : (w : ℕ) → 0 < w → w < 2 ^ word_bits → Highest word_bits (bit w) (63 - count_leading_zeros word_bits w)
leading_highest w p h =
    let t = leading_top word_bits w p h in
    let e : t.0 ≡ 63 - count_leading_zeros word_bits w = omega (arith, t.1) in
    subst (Highest word_bits (bit w)) e (sets.highest (omega (arith, t.1)) (top_bit w t.0 t.2 t.3) (λ z j i. no_bit (suc t.0) t.3 z j))

-- a word of 0 has no bit
pub no_points : (y : ℕ) → y < word_bits → bit 0 y ≡ false
unfolding bit
no_points y h = ap (λ (d : ℕ). eqb d 1) (bit_at-zero y)

pub zero_highest : Highest word_bits (bit 0) word_bits
zero_highest = Highest.none no_points

-- what each count says
pub ruleset counts = (ones_number, trailing_lowest, zero_highest, leading_highest)
