-- Document 02, item 6: a set of points, how many it has, its lowest and its highest, and the 64-bit word that holds it. Assumes nothing.
use Rattle.std.specs.Prelude.{◌≡◌, Bool, true, false, cond, ℕ, zero, suc, ◌+◌, ◌^◌, ◌<◌, ◌==◌}
use Rattle.std.specs.Int.{bit_at}

-- a set of points: whether a point is in it
abbrev pub Set : Type 0
Set = ℕ → Bool

-- "one 64-bit word a point", and "64 as lowest and highest" where no point is in the set
abbrev pub word_bits : ℕ
word_bits = 64

-- "the number of bounded points": how many of the points below k are in the set
unfoldable pub how_many : ℕ → Set → ℕ
how_many zero s = 0
how_many (suc y) s = cond (s y) 1 0 + how_many y s

-- "the lowest .. bounded point": of the points below k the one in the set that has none in the set before it
pub data Lowest (k : ℕ) (s : Set) : ℕ → Type 0 where
  lowest : {y : ℕ} → y < k → s y ≡ true → ((z : ℕ) → z < y → s z ≡ false) → Lowest k s y
  none : ((z : ℕ) → z < k → s z ≡ false) → Lowest k s word_bits

-- "the highest bounded point": the one that has none in the set after it
pub data Highest (k : ℕ) (s : Set) : ℕ → Type 0 where
  highest : {y : ℕ} → y < k → s y ≡ true → ((z : ℕ) → y < z → z < k → s z ≡ false) → Highest k s y
  none : ((z : ℕ) → z < k → s z ≡ false) → Highest k s word_bits

-- the three numbers of a set
pub record Numbers (k : ℕ) (s : Set) (number low high : ℕ) : Type 0 where
  pub number_is : number ≡ how_many k s
  pub lowest_is : Lowest k s low
  pub highest_is : Highest k s high

-- "bit Y of word X is set": the set that a word holds
unfoldable pub bit : ℕ → Set
bit w y = bit_at w y == 1

-- the word that holds the points of a set that are below k: 2 ^ y for each such point y
unfoldable pub word_of : ℕ → Set → ℕ
word_of zero s = 0
word_of (suc y) s = cond (s y) (2 ^ y) 0 + word_of y s
