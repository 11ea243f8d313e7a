-- The floors that the parts of a sweep keep, each below the one before, for n points and weights of at most B: at its beginning n B, before its open joins 2
-- n times that, and in them 2 n times that again, which is `lowest`. Assumes nothing.
use Prim.Native.Nat.{ℕ, ◌*◌, ◌≤◌}
use native.Mathlib.Nat.{mul-le-mul_left}
use native.Mathlib.Omega.{arith}
use Rattle.chain.proofs.Places.{lowest, highest}

abbrev pub begin_floor : ℕ → ℕ → ℕ
begin_floor B n = B * n

abbrev pub strict_floor : ℕ → ℕ → ℕ
strict_floor B n = 2 * (B * n * n)

module _ (B n : ℕ) (some : 1 ≤ n) where
  -- one factor n more is no less
  grows : (m : ℕ) → m ≤ m * n
  grows m = let a : m * 1 ≤ m * n = mul-le-mul_left m some in omega arith

  pub weight_high : B ≤ highest B n
  weight_high = omega (arith, grows B)

  pub weight_begin : B ≤ begin_floor B n
  weight_begin = grows B

  pub begin_strict : begin_floor B n ≤ strict_floor B n
  begin_strict = omega (arith, grows (B * n))

  pub weight_strict : B ≤ strict_floor B n
  weight_strict = omega (arith, weight_begin, begin_strict)

  pub strict_lowest : strict_floor B n ≤ lowest B n
  strict_lowest = omega (arith, grows (B * n * n))

  pub weight_lowest : B ≤ lowest B n
  weight_lowest = omega (arith, weight_strict, strict_lowest)
