-- What the loops leave that write the work room before any line is: a stretch of cells all one number, and the diagonal of a table 0. Assumes nothing.
use Rattle.std.specs.Prelude.{◌≡◌, List, ℕ, ◌≤◌, ◌<◌, length, get_or, ℤ, pos}
use Rattle.offers.specs.Work.{spot_of}

-- the cells from one index on and before another all hold one number, and no other cell changed
pub record Between (from to : ℕ) (c : ℤ) (before after : List ℤ) : Type 0 where
  pub length_same : length after ≡ length before
  pub all_same : (i : ℕ) → from ≤ i → i < to → get_or after i (pos 0) ≡ c
  pub before_same : (i : ℕ) → i < from → get_or after i (pos 0) ≡ get_or before i (pos 0)
  pub beyond_same : (i : ℕ) → to ≤ i → get_or after i (pos 0) ≡ get_or before i (pos 0)

-- in one of the four tables the first m points to themselves hold 0, and no other cell changed
pub record Diagonal (n part m : ℕ) (before after : List ℤ) : Type 0 where
  pub length_same : length after ≡ length before
  pub on : (x : ℕ) → x < m → get_or after (spot_of n part x x) (pos 0) ≡ pos 0
  pub off : (i : ℕ) → ((x : ℕ) → x < m → i ≡ spot_of n part x x → ⊥) → get_or after i (pos 0) ≡ get_or before i (pos 0)
