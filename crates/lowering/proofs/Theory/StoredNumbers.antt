-- What is stored of a number, by cases, what the smaller of two cells keeps, and when a cell at most what was stored is at most what was meant.
-- Assumes nothing.
use mathlib.Core.Path.{◌≡◌, refl}
use mathlib.Core.Bool.{Bool, true, false, cond}
use Prim.Native.Nat.{ℕ}
use native.Mathlib.Omega.{arith}
use lib.IntN.{ℤ, pos, negsuc, neg_ℤ}
use lib.Signed.{lt_z, ◌≤ℤ◌, ◌<ℤ◌, ≤ℤ_refl, lt_z_yes, lt_z_no}
use Rattle.whole.proofs.Order.{ints, neg}
use Rattle.rules.specs.Plan.{Ranges}
use Rattle.rules.proofs.Coherence.{Coherent}
use Rattle.rules.specs.Cells.{Cell, mark, num, ◌≤ᶜ◌, Within, cell_of}
use Rattle.rules.proofs.Cells.{AtMost, at_most, raised, by_at_most}
use Rattle.cell.specs.Steps.{smallerᶜ, Stored, clamped, number_of}
use Rattle.cell.proofs.StoredCells.{≤ᶜ_mark, smaller_is, clamped_within, cell_back}

-- whatever holds of both holds of the smaller
pub smaller_keeps : (P : Cell → Type 0) (a b : Cell) → P a → P b → P (smallerᶜ a b)
smaller_keeps P a b h k = smaller_is P a b (λ e. h) (λ e. k)

-- a cell that a sweep stores is read back as it is
pub cell_of_number : (r : Ranges) → Coherent r → (c : Cell) → Stored r.reach c → cell_of r.mark (number_of r.mark c) ≡ c
cell_of_number r h c s = cell_back r.mark r.reach (omega (arith, h.mark_above)) c s

-- what is stored of a number: no path, above the reach; the floor, below it; or the number
pub data Clamping (reach : ℕ) (c : ℤ) : Cell → Type 0 where
  above : pos reach <ℤ c → Clamping reach c mark
  below : c ≤ℤ negsuc reach → Clamping reach c (num (negsuc reach))
  inside : neg_ℤ (pos reach) ≤ℤ c → c ≤ℤ pos reach → Clamping reach c (num c)

pub clamping : (reach : ℕ) (c : ℤ) → Clamping reach c (clamped reach (num c))
clamping reach c = first (lt_z (pos reach) c) refl
  where
    second : (b : Bool) → lt_z c (neg_ℤ (pos reach)) ≡ b → c ≤ℤ pos reach → Clamping reach c (cond b (num (negsuc reach)) (num c))
    second true e h = below (omega (ints, neg (pos reach), lt_z_yes {a = c} {b = neg_ℤ (pos reach)} (rw e tt)))
    second false e h = inside (lt_z_no (rw e tt)) h

    first : (b : Bool) → lt_z (pos reach) c ≡ b
        → Clamping reach c (cond b mark (cond (lt_z c (neg_ℤ (pos reach))) (num (negsuc reach)) (num c)))
    first true e = above (lt_z_yes (rw e tt))
    first false e = second (lt_z c (neg_ℤ (pos reach))) refl (lt_z_no (rw e tt))

-- what is stored of a smaller cell is no larger
pub clamped_mono : (reach : ℕ) (c d : Cell) → c ≤ᶜ d → clamped reach c ≤ᶜ clamped reach d
clamped_mono reach c mark h = ≤ᶜ_mark (clamped reach c)
clamped_mono reach mark (num d) h = absurd h
clamped_mono reach (num c) (num d) h = by (clamping reach c) (clamping reach d)
  where
    by : {a b : Cell} → Clamping reach c a → Clamping reach d b → a ≤ᶜ b
    by {a} k (above l) = ≤ᶜ_mark a
    by (above k) (below l) = absurd (omega (ints, h))
    by (above k) (inside l m) = absurd (omega (ints, h))
    by (below k) (below l) = ≤ℤ_refl (negsuc reach)
    by (below k) (inside l m) = omega (ints, neg (pos reach))
    by (inside k l) (below m) = absurd (omega (ints, h, neg (pos reach)))
    by (inside k l) (inside m o) = h

-- ---- what is stored, and what was meant

-- what is stored of a cell at most T is at most T, where T is in reach
pub stored_at_most : (reach : ℕ) (c : Cell) {T : ℤ} → neg_ℤ (pos reach) ≤ℤ T → T ≤ℤ pos reach → AtMost c T → AtMost (clamped reach c) T
stored_at_most reach c {T} lo hi a = at_most (rw (clamped_within reach (num T) (lo, hi)) at (clamped_mono reach c (num T) (by_at_most a)))

-- a cell in reach that is at most what was stored is at most what was meant, where it is in reach at all if that is a number
pub exact : (reach : ℕ) (cell d : Cell) → Within reach cell → ((c : ℤ) → d ≡ num c → AtMost cell (pos reach)) → cell ≤ᶜ clamped reach d
    → cell ≤ᶜ d
exact reach cell mark w j h = ≤ᶜ_mark cell
exact reach cell (num c) w j h = by (clamping reach c) h
  where
    not_floor : (cell : Cell) → Within reach cell → cell ≤ᶜ num (negsuc reach) → ⊥
    not_floor mark w h = h
    not_floor (num v) w h = omega (ints, w.0, neg (pos reach))

    by : {d : Cell} → Clamping reach c d → cell ≤ᶜ d → cell ≤ᶜ num c
    by (above k) q = by_at_most (raised (j c refl) (omega ints))
    by (below k) q = absurd (not_floor cell w q)
    by (inside k l) q = q
