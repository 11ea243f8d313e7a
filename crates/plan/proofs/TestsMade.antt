-- Tests: one that a call made and whose negation is a condition, as the call's contract has it; and two that are asked together.
-- Assumes nothing.
use mathlib.Core.Path.{◌≡◌, sym, ◌∙◌}
use mathlib.Core.Bool.{Bool, true, false, ◌&&◌, and-eq-true_iff}

-- the negation held: the test failed
pub failed : {r t : Bool} → r ≡ t → r ≡ false → t ≡ false
failed {r} e n = sym e ∙ n

-- the negation did not hold: the test passed
pub passed : {r t : Bool} → r ≡ t → r ≡ true → t ≡ true
passed {r} e n = sym e ∙ n

-- two tests hold together exactly where each does
pub both : (a b : Bool) → (a && b) ≡ true → (a ≡ true) × (b ≡ true)
both a b e = (and-eq-true_iff a b).0 e

pub and : {a b : Bool} → a ≡ true → b ≡ true → (a && b) ≡ true
and {a} {b} p q = (and-eq-true_iff a b).1 (p, q)
