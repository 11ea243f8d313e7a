-- From the machine's bits to numbers, for signed values of any width. Code compares, adds and casts the bits of a signed local, so a need
-- or a flag speaks of `to_z w (of_z w a)` where the source says a. A number that fits its type is what its bits are read as (`back`), so:
--   a need with such terms               rw (back h, back k) (omega (signed, plus a b)), with h and k the facts that a and b fit
--   what a function returns              sum_is h k (..), difference_is, negation_is, cast_is
--   a flag of `<`, `<=`, `>` or `>=`     omega (signed, kept h, kept k), which reads the flag and proves orders and `SFits`
--   a flag of `==` or `!=`               same h k (..), same_pos beside a literal; differ w32 (..)
-- Where a record has the bound of a number alone, `fit w a` makes it a fact that the number fits. Assumes nothing.
use mathlib.Core.Path.{◌≡◌, refl, sym, ap, ◌∙◌}
use mathlib.Core.Bool.{Bool, true, false, not}
use Prim.Native.Nat.{ℕ, zero, suc, ◌+◌, ◌-◌, ◌^◌, ◌≤◌, ◌<◌, max}
use native.Mathlib.Nat.{le_of_suc-le-suc}
use native.Mathlib.Omega.{arith}
use lib.Dec.{T, not_T, lt→ltb, nleb→lt}
use lib.IntN.{ℤ, pos, negsuc, neg_ℤ, nat_abs, ◌+ℤ◌, ◌-ℤ◌, +ℤ_idl}
use lib.Signed.{mag, le_z, lt_z, non_neg, ◌≤ℤ◌, ◌<ℤ◌, le_z_yes, lt_z_yes, lt_z_no, pos-nat_abs}
use mir.Syntax.{Width}
use mir.Val.{SFits, of_z, to_z, hbits}
use mir.ValLaws.{to_z-of_z, to_z_pos}
use Rattle.whole.specs.Signed.{up, dn}
use Rattle.whole.proofs.Order.{ints, le, lt, plus, neg}

-- ---- a number and its bits

-- a number that fits is what its bits are read as
pub back : {w : Width} {a : ℤ} → SFits w a → to_z w (of_z w a) ≡ a
back {w} {a} h = to_z-of_z w a h

-- the fact that a number fits, from the bound that the record of a field, an element or a result has
pub fit : (w : Width) (a : ℤ) → mag a < 2 ^ hbits w → SFits w a
fit w a h = record { sfits = h }

-- what omega needs to know of a number that fits: its bits are read as itself, and its range
pub record Kept (w : Width) (a : ℤ) : Type 0 where
  pub back_up : up (to_z w (of_z w a)) ≡ up a
  pub back_dn : dn (to_z w (of_z w a)) ≡ dn a
  pub most : up a < 2 ^ hbits w
  pub least : dn a ≤ 2 ^ hbits w

-- the magnitude that the range of a type bounds, n for n and for -(n + 1), by the parts; and a bound on it from a bound on the parts
mag_up : (a : ℤ) → up a ≤ mag a
mag_up (pos n) = omega arith
mag_up (negsuc n) = omega arith

mag_dn : (a : ℤ) → dn a ≤ suc (mag a)
mag_dn (pos n) = omega arith
mag_dn (negsuc n) = omega arith

by_mag : (a : ℤ) {n : ℕ} → max (suc (up a) - dn a) (dn a - up a) ≤ n → mag a < n
by_mag (pos a) h = omega arith
by_mag (negsuc a) h = omega arith

-- all that, of a number that fits
pub kept : {w : Width} {a : ℤ} → SFits w a → Kept w a
kept {w} {a} h =
    record {
      back_up = ap up (back h);
      back_dn = ap dn (back h);
      most = omega (arith, mag_up a, h.sfits);
      least = omega (arith, mag_dn a, h.sfits);
    }

-- ---- ranges

-- a number fits where it lies between the ends of the type's range: how `omega signed` proves that a number fits
pub by_fits : (w : Width) (a : ℤ) → max (suc (up a) - dn a) (dn a - up a) ≤ 2 ^ hbits w → SFits w a
by_fits w a h = record { sfits = by_mag a h }

-- the range of a number that fits: how `omega signed` reads that one does (`kept` has both ends exactly)
pub of_fits : (w : Width) (a : ℤ) → SFits w a → up a + dn a ≤ 2 ^ hbits w
of_fits w (pos n) h = omega (arith, h.sfits)
of_fits w (negsuc n) h = omega (arith, h.sfits)

-- the magnitude of a sum
pub mag_add : (a b : ℤ) → mag (a +ℤ b) < suc (suc (mag a + mag b))
mag_add a b = by_mag (a +ℤ b) (omega (arith, plus a b, mag_up a, mag_up b, mag_dn a, mag_dn b))

-- of a negation
pub mag_neg : (a : ℤ) → mag (neg_ℤ a) ≤ suc (mag a)
mag_neg a = le_of_suc-le-suc (by_mag (neg_ℤ a) (omega (arith, neg a, mag_up a, mag_dn a)))

-- and of a difference
pub mag_sub : (a b : ℤ) → mag (a -ℤ b) < suc (suc (mag a + mag b))
mag_sub a b = by_mag (a -ℤ b) (omega (arith, plus a (neg_ℤ b), neg b, mag_up a, mag_up b, mag_dn a, mag_dn b))

-- ---- flags

T_true : (b : Bool) → b ≡ true → T b
T_true b e = rw e tt

T_false : (b : Bool) → b ≡ false → T (not b)
T_false b e = rw e tt

nle : (a b : ℤ) → T (not (le_z a b)) → T (lt_z b a)
nle (pos a) (pos b) t = lt→ltb b a (nleb→lt a b t)
nle (pos a) (negsuc b) t = tt
nle (negsuc a) (pos b) t = t
nle (negsuc a) (negsuc b) t = lt→ltb a b (nleb→lt b a t)

-- a flag of `<` or `>` that was set, by the parts of the numbers compared
pub lt_z_true : (a b : ℤ) → lt_z a b ≡ true → up a + dn b < up b + dn a
lt_z_true a b e = lt a b (lt_z_yes (T_true (lt_z a b) e))

-- and one that was not
pub lt_z_false : (a b : ℤ) → lt_z a b ≡ false → up b + dn a ≤ up a + dn b
lt_z_false a b e = le b a (lt_z_no (T_false (lt_z a b) e))

-- a flag of `<=` or `>=` that was set
pub le_z_true : (a b : ℤ) → le_z a b ≡ true → up a + dn b ≤ up b + dn a
le_z_true a b e = le a b (le_z_yes (T_true (le_z a b) e))

-- and one that was not
pub le_z_false : (a b : ℤ) → le_z a b ≡ false → up b + dn a < up a + dn b
le_z_false a b e = lt b a (lt_z_yes (nle a b (T_false (le_z a b) e)))

T-is : (b : Bool) → T b → b ≡ true
T-is true t = refl
T-is false t = absurd t

T-not-is : (b : Bool) → T (not b) → b ≡ false
T-not-is true t = absurd t
T-not-is false t = refl

nlt : (a b : ℤ) → T (le_z b a) → T (not (lt_z a b))
nlt a b t = not_T (lt_z a b) (λ l. omega (arith, le b a (le_z_yes t), lt a b (lt_z_yes l)))

-- the other way: the flag from the fact, where a contract speaks of the flag
pub lt_lt_z : (a b : ℤ) → a <ℤ b → lt_z a b ≡ true
lt_lt_z a b h = T-is (lt_z a b) h.lt

-- and that it is not set
pub le_lt_z : (a b : ℤ) → b ≤ℤ a → lt_z a b ≡ false
le_lt_z a b h = T-not-is (lt_z a b) (nlt a b h.le)

-- a flag that a callee computed and the code tested: what the callee says of it
pub tested : {b f t : Bool} → b ≡ f → b ≡ t → f ≡ t
tested e g = sym e ∙ g

-- a number is not negative, as a cast to an unsigned type asks
pub by_non_neg : (a : ℤ) → dn a ≤ up a → T (non_neg a)
by_non_neg (pos n) h = tt
by_non_neg (negsuc n) h = absurd (omega arith)

-- what omega needs to read the flags of signed comparisons, and to read and prove that a signed number fits
pub ruleset signed = (ints, by_fits, of_fits, lt_z_true, lt_z_false, le_z_true, le_z_false, by_non_neg)

-- a flag of `==` that was set, or of `!=` that was not: the bits are equal, and so are the numbers
pub same : {w : Width} {a b : ℤ} → SFits w a → SFits w b → of_z w a ≡ of_z w b → a ≡ b
same {w} h k e = sym (back h) ∙ (ap (to_z w) e ∙ back k)

-- the same beside a literal that is not negative
pub same_pos : {w : Width} {a : ℤ} (n : ℕ) → SFits w a → n < 2 ^ hbits w → of_z w a ≡ n → a ≡ pos n
same_pos {w} n h k e = same h (fit w (pos n) k) e

-- the other way: the bits differ, and so do the numbers
pub differ : (w : Width) {a b : ℤ} → (of_z w a ≡ of_z w b → ⊥) → a ≡ b → ⊥
differ w h e = h (ap (of_z w) e)

-- ---- sums, differences, negations and casts as code leaves them

-- the result of a sum that fits
pub sum_is : {w : Width} {a b : ℤ} → SFits w a → SFits w b → SFits w (a +ℤ b)
    → to_z w (of_z w (to_z w (of_z w a) +ℤ to_z w (of_z w b))) ≡ a +ℤ b
sum_is h k s = simp (back h, back k, back s)

-- of a difference
pub difference_is : {w : Width} {a b : ℤ} → SFits w a → SFits w b → SFits w (a -ℤ b)
    → to_z w (of_z w (to_z w (of_z w a) -ℤ to_z w (of_z w b))) ≡ a -ℤ b
difference_is h k s = simp (back h, back k, back s)

-- of a negation, which code computes as 0 less the number
pub negation_is : {w : Width} {a : ℤ} → SFits w a → SFits w (neg_ℤ a)
    → to_z w (of_z w (pos zero -ℤ to_z w (of_z w a))) ≡ neg_ℤ a
negation_is {w} {a} h s = simp (back h, +ℤ_idl, back s)

-- a cast from width w to width v, wider or narrower, that keeps the number
pub cast_is : {w v : Width} {a : ℤ} → SFits w a → SFits v a → to_z v (of_z v (to_z w (of_z w a))) ≡ a
cast_is h k = simp (back h, back k)

-- a cast of a number of an unsigned type
pub cast_pos : (w : Width) (n : ℕ) → n < 2 ^ hbits w → to_z w n ≡ pos n
cast_pos = to_z_pos

-- the size of a number by its parts, which a cast to an unsigned type gives
pub abs : (a : ℤ) → nat_abs a ≡ up a + dn a
abs (pos n) = omega arith
abs (negsuc n) = omega arith

-- a cast to an unsigned type of a number that is not negative
pub unsigned_is : {w : Width} {a : ℤ} → SFits w a → pos zero ≤ℤ a → pos (nat_abs (to_z w (of_z w a))) ≡ a
unsigned_is {w} {a} h k = rw (back h) (pos-nat_abs a (omega signed))
