-- Words and the sets they hold: the bits of a word that was made of a set, words with the same bits, and the bits of `&` and `|`. Assumes nothing.
use mathlib.Core.Path.{◌≡◌, refl, sym, ap, ◌∙◌}
use mathlib.Core.Logic.{⊎_elim}
use mathlib.Core.Bool.{Bool, true, false, cond, ◌&&◌, ◌||◌}
use Prim.Native.Nat.{ℕ, zero, suc, ◌+◌, ◌-◌, ◌*◌, ◌%◌, ◌^◌, ◌≤◌, ◌<◌, min, max}
use native.Mathlib.Nat.{pow-suc}
use native.Mathlib.Numerals.{add-one}
use native.Mathlib.Omega.{arith}
use lib.Dec.{eqb, ltb}
use lib.Pow.{pow_mono}
use lib.Bits.{bit_and, bit_or, and_lt, or_lt, or_shifted_r}
use Rattle.std.specs.Int.{bit_at}
use Rattle.std.proofs.lemmas.Bool.{cases_lt, lt-ltb, le-ltb}
use Rattle.std.proofs.lemmas.Bool.Decides.{nat_tests}
use Rattle.std.proofs.lemmas.Nat.{one_shl}
use Rattle.std.proofs.lemmas.Nat.Bits.{bit_at-lt, bit_at_above, bit_at_and, bit_at_or, bit_at_cat_low, bit_at_cat_high, same_from_bits_below}
use Rattle.words.specs.Sets.{Set, word_bits, bit, word_of}

-- ---- a word by its bits

-- words of k bits with the same bits are one word
pub same_bits : (k a b : ℕ) → a < 2 ^ k → b < 2 ^ k → ((y : ℕ) → y < k → bit a y ≡ bit b y) → a ≡ b
unfolding bit
same_bits k a b ha hb e = same_from_bits_below k a b ha hb (λ y h. by (bit_at a y) (bit_at b y) (bit_at-lt a y) (bit_at-lt b y) (e y h))
  where
    by : (c d : ℕ) → c < 2 → d < 2 → eqb c 1 ≡ eqb d 1 → c ≡ d
    by c d hc hd e = grind (arith, nat_tests)

-- a word of k bits has none from k on
pub no_bit : (k : ℕ) {w : ℕ} → w < 2 ^ k → (y : ℕ) → k ≤ y → bit w y ≡ false
unfolding bit
no_bit k {w} h y j = ap (λ (d : ℕ). eqb d 1) (bit_at_above w k y h j)

-- ---- the word of a set

-- its last point apart
pub word_more : (k : ℕ) (s : Set) → word_of (suc k) s ≡ cond (s k) 1 0 * 2 ^ k + word_of k s
unfolding word_of
word_more k s = by (s k)
  where
    by : (b : Bool) → cond b (2 ^ k) 0 + word_of k s ≡ cond b 1 0 * 2 ^ k + word_of k s
    by true = omega arith
    by false = omega arith

-- the word of a set of k points has k bits
pub word_lt : (k : ℕ) (s : Set) → word_of k s < 2 ^ k
unfolding word_of
word_lt zero s = omega arith
word_lt (suc k) s = by (s k) (word_lt k s)
  where
    by : (b : Bool) → word_of k s < 2 ^ k → cond b (2 ^ k) 0 + word_of k s < 2 ^ suc k
    by true h = omega (arith, pow-suc 2 k)
    by false h = omega (arith, pow-suc 2 k)

-- and so it has 64, where the points are few
pub word_fits : (k : ℕ) (s : Set) → k ≤ word_bits → word_of k s < 2 ^ word_bits
word_fits k s few = omega (arith, word_lt k s, pow_mono {i = k} {j = word_bits} few)

-- one more point: its bit is set above those that are there, or they stay as they are
pub one_more_bit : (s : Set) (y : ℕ) → y < word_bits
    → word_of (y + 1) s ≡ cond (s y) (bit_or (word_of y s) (1 * 2 ^ y % 2 ^ word_bits)) (word_of y s)
unfolding word_of
one_more_bit s y h = ap (λ (k : ℕ). word_of k s) (add-one y) ∙ by (s y)
  where
    by : (b : Bool) → cond b (2 ^ y) 0 + word_of y s ≡ cond b (bit_or (word_of y s) (1 * 2 ^ y % 2 ^ word_bits)) (word_of y s)
    by true =
        let shifted : 1 * 2 ^ y % 2 ^ word_bits ≡ 1 * 2 ^ y = omega (arith, one_shl y word_bits h) in
        omega (arith, or_shifted_r 1 y (word_of y s) (word_lt y s), ap (bit_or (word_of y s)) shifted)
    by false = omega arith

-- its bits are the points of the set
pub word_bit : (k : ℕ) (s : Set) (y : ℕ) → y < k → bit (word_of k s) y ≡ s y
unfolding bit
word_bit zero s y h = absurd (omega arith)
word_bit (suc k) s y h = ap (λ (w : ℕ). bit w y) (word_more k s) ∙ ⊎_elim (λ l. low l ∙ word_bit k s y l) high (cases_lt y k)
  where
    -- the last point's bit alone
    last : (b : Bool) → eqb (bit_at (cond b 1 0) 0) 1 ≡ b
    last true = refl
    last false = refl

    low : y < k → bit (cond (s k) 1 0 * 2 ^ k + word_of k s) y ≡ bit (word_of k s) y
    low l = ap (λ (d : ℕ). eqb d 1) (bit_at_cat_low (cond (s k) 1 0) k (word_of k s) y l)

    high : k ≤ y → bit (cond (s k) 1 0 * 2 ^ k + word_of k s) y ≡ s y
    high l =
        let none : y - k ≡ 0 = omega arith in
        let is : k ≡ y = omega arith in
        ap (λ (d : ℕ). eqb d 1) (bit_at_cat_high (cond (s k) 1 0) k (word_of k s) y (word_lt k s) l)
        ∙ ap (λ (i : ℕ). eqb (bit_at (cond (s k) 1 0) i) 1) none
        ∙ last (s k)
        ∙ ap s is

-- and it has none from k on
pub word_has : (k : ℕ) (s : Set) (y : ℕ) → bit (word_of k s) y ≡ (ltb y k && s y)
word_has k s y = ⊎_elim (λ l. rw (lt-ltb y k l) (word_bit k s y l)) (λ l. rw (le-ltb y k l) (no_bit k (word_lt k s) y l)) (cases_lt y k)

-- ---- and, or

-- `&` keeps the bits that both have, `|` those that either has
pub and_bit : (a b y : ℕ) → bit (bit_and a b) y ≡ (bit a y && bit b y)
unfolding bit
and_bit a b y = ap (λ (d : ℕ). eqb d 1) (bit_at_and a b y) ∙ by (bit_at a y) (bit_at b y) (bit_at-lt a y) (bit_at-lt b y)
  where
    by : (c d : ℕ) → c < 2 → d < 2 → eqb (min c d) 1 ≡ (eqb c 1 && eqb d 1)
    by c d hc hd = grind (arith, nat_tests)

pub or_bit : (a b y : ℕ) → bit (bit_or a b) y ≡ (bit a y || bit b y)
unfolding bit
or_bit a b y = ap (λ (d : ℕ). eqb d 1) (bit_at_or a b y) ∙ by (bit_at a y) (bit_at b y) (bit_at-lt a y) (bit_at-lt b y)
  where
    by : (c d : ℕ) → c < 2 → d < 2 → eqb (max c d) 1 ≡ (eqb c 1 || eqb d 1)
    by c d hc hd = grind (arith, nat_tests)

-- so a word of k bits is the word of a set with the same points
pub word_is : (k : ℕ) {w : ℕ} (s : Set) → w < 2 ^ k → ((y : ℕ) → y < k → bit w y ≡ s y) → w ≡ word_of k s
word_is k {w} s h e = same_bits k w (word_of k s) h (word_lt k s) (λ y l. e y l ∙ sym (word_bit k s y l))

pub and_word : (k a b : ℕ) → a < 2 ^ k → b < 2 ^ k → bit_and a b ≡ word_of k (λ y. bit a y && bit b y)
and_word k a b ha hb = word_is k (λ y. bit a y && bit b y) (and_lt k a b ha hb) (λ y h. and_bit a b y)

pub or_word : (k a b : ℕ) → a < 2 ^ k → b < 2 ^ k → bit_or a b ≡ word_of k (λ y. bit a y || bit b y)
or_word k a b ha hb = word_is k (λ y. bit a y || bit b y) (or_lt k a b ha hb) (λ y h. or_bit a b y)
