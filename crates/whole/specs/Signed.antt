-- A signed number as two natural numbers, how far it lies above zero and how far below, and the larger of two numbers.
-- Assumes nothing.
use Rattle.std.specs.Prelude.{ℕ, zero, suc, cond, ℤ, pos, negsuc}
use Rattle.std.specs.Int.Signed.{lt_z}

-- how far a number lies above zero: 0 for a negative one
abbrev pub up : ℤ → ℕ
up (pos n) = n
up (negsuc n) = zero

-- how far a number lies below zero: 0 unless it is negative
abbrev pub dn : ℤ → ℕ
dn (pos n) = zero
dn (negsuc n) = suc n

-- the larger of two numbers
unfoldable pub larger : ℤ → ℤ → ℤ
larger a b = cond (lt_z a b) b a
