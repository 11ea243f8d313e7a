-- The laws of the larger of two numbers: it is one of the two and at least both, the least such, monotone in each argument, and the
-- number itself where the two are equal. Assumes nothing.
use mathlib.Core.Path.{◌≡◌, refl}
use mathlib.Core.Bool.{Bool, true, false, cond}
use mathlib.Core.Logic.{◌⊎◌, inl, inr, ⊎_elim}
use lib.IntN.{ℤ}
use lib.Signed.{lt_z, ◌≤ℤ◌, ◌<ℤ◌, lt_z_yes, lt_z_no}
use Rattle.whole.specs.Signed.{larger}
use Rattle.whole.proofs.Order.{ints}

-- it is the second where that is above the first, and else the first
pub larger_cases : (a b : ℤ) → ((a <ℤ b) × (larger a b ≡ b)) ⊎ ((b ≤ℤ a) × (larger a b ≡ a))
unfolding larger
larger_cases a b = go (lt_z a b) refl
  where
    go : (c : Bool) → lt_z a b ≡ c → ((a <ℤ b) × (cond (lt_z a b) b a ≡ b)) ⊎ ((b ≤ℤ a) × (cond (lt_z a b) b a ≡ a))
    go true e = inl (lt_z_yes (rw e tt), rw e)
    go false e = inr (lt_z_no (rw e tt), rw e)

pub larger_left : (a b : ℤ) → a ≤ℤ larger a b
larger_left a b = ⊎_elim (λ h. omega (ints, h.0, h.1)) (λ h. omega (ints, h.1)) (larger_cases a b)

pub larger_right : (a b : ℤ) → b ≤ℤ larger a b
larger_right a b = ⊎_elim (λ h. omega (ints, h.1)) (λ h. omega (ints, h.0, h.1)) (larger_cases a b)

-- whatever is at least both is at least the larger
pub larger_least : {a b c : ℤ} → a ≤ℤ c → b ≤ℤ c → larger a b ≤ℤ c
larger_least {a} {b} {c} h k = ⊎_elim (λ w. omega (ints, w.1)) (λ w. omega (ints, w.1)) (larger_cases a b)

-- whatever is below both is below the larger's bound
pub larger_mono : {a b c d : ℤ} → a ≤ℤ c → b ≤ℤ d → larger a b ≤ℤ larger c d
larger_mono {a} {b} {c} {d} h k =
    let p : c ≤ℤ larger c d = larger_left c d in
    let q : d ≤ℤ larger c d = larger_right c d in
    larger_least (omega ints) (omega ints)

pub larger_same : (a : ℤ) → larger a a ≡ a
larger_same a = ⊎_elim (λ w. w.1) (λ w. w.1) (larger_cases a a)
