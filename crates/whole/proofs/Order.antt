-- Order, equality, sums and negation of signed numbers as facts on natural numbers, which omega reads: `omega ints` reads
-- `≤ℤ`, `<ℤ` and equations of signed numbers wherever it looks for facts, and proves them. Sums are listed, one fact for
-- each that the goal or a hypothesis holds: `omega (ints, plus a b, plus b c)`; a difference a -ℤ b is `plus a (neg_ℤ b)` and `neg b`.
-- Assumes nothing.
use mathlib.Core.Path.{◌≡◌, refl, ap}
use Prim.Native.Nat.{ℕ, zero, suc, ◌+◌, ◌-◌, ◌≤◌, ◌<◌, min}
use native.Mathlib.Omega.{arith}
use mathlib.Core.Bool.{Bool, true, false, not, cond}
use mathlib.Core.Logic.{◌⊎◌, inl, inr}
use lib.Dec.{T, ltb, leb→le, le→leb, ltb→lt, lt→ltb, nltb→le}
use lib.IntN.{ℤ, pos, negsuc, neg_ℤ, sub_ℕ, ◌+ℤ◌}
use lib.Signed.{le_z, lt_z, ◌≤ℤ◌, ◌<ℤ◌, lt_z_yes, lt_z_no}
use Rattle.whole.specs.Signed.{up, dn}

-- ---- order

le' : (a b : ℤ) → T (le_z a b) → up a + dn b ≤ up b + dn a
le' (pos a) (pos b) t = omega (arith, leb→le a b t)
le' (pos a) (negsuc b) t = absurd t
le' (negsuc a) (pos b) t = omega arith
le' (negsuc a) (negsuc b) t = omega (arith, leb→le b a t)

by_le' : (a b : ℤ) → up a + dn b ≤ up b + dn a → T (le_z a b)
by_le' (pos a) (pos b) h = le→leb a b (omega arith)
by_le' (pos a) (negsuc b) h = absurd (omega arith)
by_le' (negsuc a) (pos b) h = tt
by_le' (negsuc a) (negsuc b) h = le→leb b a (omega arith)

lt' : (a b : ℤ) → T (lt_z a b) → up a + dn b < up b + dn a
lt' (pos a) (pos b) t = omega (arith, ltb→lt a b t)
lt' (pos a) (negsuc b) t = absurd t
lt' (negsuc a) (pos b) t = omega arith
lt' (negsuc a) (negsuc b) t = omega (arith, ltb→lt b a t)

by_lt' : (a b : ℤ) → up a + dn b < up b + dn a → T (lt_z a b)
by_lt' (pos a) (pos b) h = lt→ltb a b (omega arith)
by_lt' (pos a) (negsuc b) h = absurd (omega arith)
by_lt' (negsuc a) (pos b) h = tt
by_lt' (negsuc a) (negsuc b) h = lt→ltb b a (omega arith)

-- at most, by the parts; and back
pub le : (a b : ℤ) → a ≤ℤ b → up a + dn b ≤ up b + dn a
le a b h = le' a b h.le

pub by_le : (a b : ℤ) → up a + dn b ≤ up b + dn a → a ≤ℤ b
by_le a b h = record { le = by_le' a b h }

-- less, by the parts; and back
pub lt : (a b : ℤ) → a <ℤ b → up a + dn b < up b + dn a
lt a b h = lt' a b h.lt

pub by_lt : (a b : ℤ) → up a + dn b < up b + dn a → a <ℤ b
by_lt a b h = record { lt = by_lt' a b h }

-- equal, by the parts; and back
pub eq : (a b : ℤ) → a ≡ b → up a + dn b ≡ up b + dn a
eq a b e =
    let h : up a ≡ up b = ap up e in
    let k : dn a ≡ dn b = ap dn e in
    omega arith

pub by_eq : (a b : ℤ) → up a + dn b ≡ up b + dn a → a ≡ b
by_eq (pos a) (pos b) h = ap pos (omega arith)
by_eq (pos a) (negsuc b) h = absurd (omega arith)
by_eq (negsuc a) (pos b) h = absurd (omega arith)
by_eq (negsuc a) (negsuc b) h = ap negsuc (omega arith)

-- what `omega` needs to read and to prove order and equations of signed numbers
pub ruleset ints = (arith, le, lt, eq, by_le, by_lt, by_eq)

-- one part is always zero
pub parts : (a : ℤ) → min (up a) (dn a) ≡ zero
parts (pos n) = omega arith
parts (negsuc n) = omega arith

-- ---- sums, negation and differences

-- the parts of a difference of two natural numbers
sub_parts : (a b : ℕ) → up (sub_ℕ a b) + b ≡ a + dn (sub_ℕ a b)
sub_parts a b = cond_ind (ltb a b) (λ z. up z + b ≡ a + dn z) (λ t. omega (arith, ltb→lt a b t)) (λ t. omega (arith, nltb→le a b t))
  where
    cond_ind : (c : Bool) (P : ℤ → Type 0) → (T c → P (negsuc (b - suc a))) → (T (not c) → P (pos (a - b))) → P (cond c (negsuc (b - suc a)) (pos (a - b)))
    cond_ind true P f g = f tt
    cond_ind false P f g = g tt

-- the parts of a sum
pub plus : (a b : ℤ) → up (a +ℤ b) + (dn a + dn b) ≡ (up a + up b) + dn (a +ℤ b)
plus (pos a) (pos b) = omega arith
plus (pos a) (negsuc b) = omega (arith, sub_parts a (suc b))
plus (negsuc a) (pos b) = omega (arith, sub_parts b (suc a))
plus (negsuc a) (negsuc b) = omega arith

-- the parts of a negation, exchanged
pub neg : (a : ℤ) → (up (neg_ℤ a) ≡ dn a) × (dn (neg_ℤ a) ≡ up a)
neg (pos zero) = (refl, refl)
neg (pos (suc n)) = (refl, refl)
neg (negsuc n) = (refl, refl)

-- ---- the laws of the order that are asked for by name

pub ≤ℤ_trans : {a b c : ℤ} → a ≤ℤ b → b ≤ℤ c → a ≤ℤ c
≤ℤ_trans {a} {b} {c} h k = omega ints

pub ≤ℤ_antisym : {a b : ℤ} → a ≤ℤ b → b ≤ℤ a → a ≡ b
≤ℤ_antisym {a} {b} h k = omega ints

pub ≤ℤ-of-<ℤ : {a b : ℤ} → a <ℤ b → a ≤ℤ b
≤ℤ-of-<ℤ {a} {b} h = omega ints

-- sums are monotone in both summands
pub plus_mono : {a b c d : ℤ} → a ≤ℤ b → c ≤ℤ d → (a +ℤ c) ≤ℤ (b +ℤ d)
plus_mono {a} {b} {c} {d} h k = omega (ints, plus a c, plus b d)

-- one number is at most the other, or else above it
pub split : (a b : ℤ) → (a ≤ℤ b) ⊎ (b <ℤ a)
split a b = split' (lt_z b a) refl
  where
    split' : (c : Bool) → lt_z b a ≡ c → (a ≤ℤ b) ⊎ (b <ℤ a)
    split' true e = inr (lt_z_yes (rw e tt))
    split' false e = inl (lt_z_no (rw e tt))
