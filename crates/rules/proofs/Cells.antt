-- Laws of cells: a cell that is at most a number, the order with the mark on top, and what Lower and Upper yield.
-- Assumes nothing.
use mathlib.Core.Path.{◌≡◌, refl, subst, sym}
use mathlib.Core.Bool.{Bool, true, false, cond}
use Prim.Native.Nat.{ℕ}
use native.Mathlib.Omega.{arith}
use lib.Dec.{T}
use lib.IntN.{ℤ, pos, neg_ℤ, ◌+ℤ◌, ◌-ℤ◌}
use lib.Signed.{lt_z, ◌≤ℤ◌, ◌<ℤ◌, ≤ℤ_refl}
use Rattle.whole.proofs.Order.{ints, plus_mono, ≤ℤ_trans}
use Rattle.whole.proofs.Larger.{larger_mono}
use Rattle.rules.specs.Plan.{Link}
use Rattle.rules.specs.Edges.{spread, upper_weight}
use Rattle.rules.specs.Cells.{Cell, mark, num, ◌+ᶜ◌, ◌≤ᶜ◌, lowered, uppered}

-- the cell is a number, and at most w
pub record AtMost (c : Cell) (w : ℤ) : Type 0 where
  pub value : ℤ
  pub is : c ≡ num value
  pub le : value ≤ℤ w

-- the mark is no number
pub mark_no_number : {z : ℤ} → mark ≡ num z → ⊥
mark_no_number e = let z : ◌≡◌ {A = ℕ} 0 1 = cc in omega arith

pub same_number : {a b : ℤ} → num a ≡ num b → a ≡ b
same_number e = cc

-- a number is at most itself
pub itself : (a : ℤ) → AtMost (num a) a
itself a = record { value = a; is = refl; le = ≤ℤ_refl a }

-- to be at most a number's cell is to be a number at most that; and back
pub at_most : {c : Cell} {w : ℤ} → c ≤ᶜ num w → AtMost c w
at_most {c = mark} h = absurd h
at_most {c = num a} h = record { value = a; is = refl; le = h }

pub by_at_most : {c : Cell} {w : ℤ} → AtMost c w → c ≤ᶜ num w
by_at_most {c = mark} h = mark_no_number h.is
by_at_most {c = num a} {w} h = subst (λ (z : ℤ). z ≤ℤ w) (same_number (sym h.is)) h.le

-- at most a number, and so at most a larger one
pub raised : {c : Cell} {v w : ℤ} → AtMost c v → v ≤ℤ w → AtMost c w
raised {v} {w} h k = let n : ℤ = h.value in record { value = h.value; is = h.is; le = omega (ints, h.le, k) }

-- a cell that does not exceed one at most w is at most w
pub under : {c d : Cell} {w : ℤ} → c ≤ᶜ d → AtMost d w → AtMost c w
under {d = mark} h k = absurd (mark_no_number k.is)
under {d = num b} h k = raised (at_most h) (subst (λ (z : ℤ). z ≤ℤ _) (same_number (sym k.is)) k.le)

-- the sum of two cells at most v and w is at most v + w
pub sum : {a b : Cell} {v w : ℤ} → AtMost a v → AtMost b w → AtMost (a +ᶜ b) (v +ℤ w)
sum {a = mark} h k = absurd (mark_no_number h.is)
sum {a = num a} {b = mark} h k = absurd (mark_no_number k.is)
sum {a = num a} {b = num b} h k = record { value = a +ℤ b; is = refl; le = plus_mono (by_at_most h) (by_at_most k) }

-- Lower from a cell at most w, where w is below the spread, yields at most l + w
pub lowered_at_most : (k j : Link) {c : Cell} {w : ℤ} → w <ℤ spread j → AtMost c w → AtMost (lowered k j c) (pos k.short +ℤ w)
lowered_at_most k j {c = mark} h a = absurd (mark_no_number a.is)
lowered_at_most k j {c = num v} {w} h a =
    passed (lt_z v (spread j)) below.lt (record { value = pos k.short +ℤ v; is = refl; le = plus_mono (≤ℤ_refl (pos k.short)) v≤w })
  where
    v≤w : v ≤ℤ w
    v≤w = by_at_most a

    below : v <ℤ spread j
    below = omega (ints, v≤w)

    passed : (b : Bool) → T b → {z t : ℤ} → AtMost (num z) t → AtMost (cond b (num z) mark) t
    passed true t a = a
    passed false t a = absurd t

-- Upper is monotone in the weight it starts from
pub upper_mono : (k : Link) {u v : ℤ} → u ≤ℤ v → upper_weight k u ≤ℤ upper_weight k v
upper_mono k {u} {v} h =
    let d : (u -ℤ pos k.long) ≤ℤ (v -ℤ pos k.long) = plus_mono h (≤ℤ_refl (neg_ℤ (pos k.long))) in
    larger_mono (omega ints) (omega ints)

-- Upper from a cell at most v yields at most what it yields from v
pub uppered_at_most : (k : Link) {c : Cell} {v : ℤ} → AtMost c v → AtMost (uppered k c) (upper_weight k v)
uppered_at_most k {c = mark} a = absurd (mark_no_number a.is)
uppered_at_most k {c = num u} {v} a = record { value = upper_weight k u; is = refl; le = upper_mono k (by_at_most a) }

-- ---- the order of cells

-- no cell exceeds itself
pub ≤ᶜ_refl : (a : Cell) → a ≤ᶜ a
≤ᶜ_refl mark = tt
≤ᶜ_refl (num a) = ≤ℤ_refl a

-- the order is transitive
pub ≤ᶜ_trans : (a b c : Cell) → a ≤ᶜ b → b ≤ᶜ c → a ≤ᶜ c
≤ᶜ_trans mark mark c h k = k
≤ᶜ_trans mark (num b) c h k = absurd h
≤ᶜ_trans (num a) mark mark h k = tt
≤ᶜ_trans (num a) mark (num c) h k = absurd k
≤ᶜ_trans (num a) (num b) mark h k = tt
≤ᶜ_trans (num a) (num b) (num c) h k = ≤ℤ_trans h k

-- nothing exceeds the mark
pub ≤ᶜ_mark : (a : Cell) → a ≤ᶜ mark
≤ᶜ_mark mark = tt
≤ᶜ_mark (num a) = tt
