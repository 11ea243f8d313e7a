-- The walks behind the cells of a table: a number is at least the total of a walk of edges that weigh at least -B and are not below the table themselves.
-- Lowering cells keeps such walks. Where the table is joined and its diagonal 0 they can be shortened, so that no number is below -B for each of n points.
-- Assumes nothing.
use mathlib.Core.Path.{◌≡◌, sym, ◌∙◌}
use mathlib.Core.Logic.{⊎_elim}
use Prim.Native.Nat.{ℕ, zero, suc, ◌*◌, ◌≤◌, ◌<◌}
use native.Mathlib.Nat.{mul-le-mul_left}
use lib.ListN.{length}
use lib.IntN.{ℤ, pos, neg_ℤ}
use lib.Signed.{◌≤ℤ◌, ≤ℤ_refl}
use Rattle.whole.proofs.Order.{ints, neg}
use Rattle.rules.specs.Walks.{Walk, stay, step}
use Rattle.rules.specs.Cells.{num, Table, ◌+ᶜ◌, ◌≤ᶜ◌}
use Rattle.rules.proofs.Cells.{AtMost, under, sum, same_number}
use Rattle.rules.proofs.Walks.{single, replaced, Dominated}
use Rattle.rules.proofs.Shortening.{Short, few, trail_least}
use Rattle.chain.proofs.ShortWalks.{short_walk}
use Rattle.chain.proofs.CellOrder.{at_number}
use Rattle.chain.proofs.BestsMove.{Moved}

-- an edge that weighs at least -B and is not below the table
pub record Drawn (n B : ℕ) (T : Table) (a b : ℕ) (w : ℤ) : Type 0 where
  pub from : a < n
  pub to : b < n
  pub least : neg_ℤ (pos B) ≤ℤ w
  pub over : AtMost (T a b) w

abbrev pub Backed : ℕ → ℕ → Table → Type 0
Backed n B T = (x y : ℕ) (w : ℤ) → x < n → y < n → T x y ≡ num w → Dominated (Drawn n B T) x y w

-- one such edge
pub drawn_alone : {n B : ℕ} {T : Table} {x y : ℕ} {w : ℤ} → Drawn n B T x y w → Dominated (Drawn n B T) x y w
drawn_alone {w} d = record { total = w; walk = single d; le = ≤ℤ_refl w }

-- lower cells have such edges more
pub drawn_falls : {n B : ℕ} {T U : Table} → ((a b : ℕ) → U a b ≤ᶜ T a b) → {x y : ℕ} {w : ℤ} → Dominated (Drawn n B T) x y w → Dominated (Drawn n B U) x y w
drawn_falls {n} {B} {T} {U} falls d = record {
  total = d.total;
  walk = replaced {E = Drawn n B T} {F = Drawn n B U}
      (λ a b v e. single (record { from = e.from; to = e.to; least = e.least; over = under (falls a b) e.over })) d.walk;
  le = d.le;
}

-- one pair lowered, with a walk behind it
pub backed_moved : {n B : ℕ} {T U : Table} {x z : ℕ} {w : ℤ} → Moved T U x z (num w) → Backed n B T → Dominated (Drawn n B U) x z w → Backed n B U
backed_moved {n} {B} {T} {U} {x} {z} {w} m b d a c v ha hc e = ⊎_elim old new (m.kept a c)
  where
    old : U a c ≡ T a c → Dominated (Drawn n B U) a c v
    old f = drawn_falls m.falls (b a c v ha hc (sym f ∙ e))

    new : ((a ≡ x) × (c ≡ z)) × (U a c ≡ num w) → Dominated (Drawn n B U) a c v
    new h = let same : v ≡ w = same_number (sym e ∙ h.1) in rw (h.0.0, h.0.1, same) d

-- ---- where the table is joined

module _ (n B : ℕ) (T : Table) (zeros : (x : ℕ) → x < n → T x x ≡ num (pos zero))
    (joined : (x y z : ℕ) → x < n → y < n → z < n → T x z ≤ᶜ (T x y +ᶜ T y z)) where
  -- no cell exceeds a walk of such edges
  under_drawn : (x z : ℕ) (t : ℤ) → x < n → z < n → Walk (Drawn n B T) x z t → AtMost (T x z) t
  under_drawn x z t hx hz stay = at_number (zeros x hx)
  under_drawn x z t hx hz (step {y} {w} e k) = under (joined x y z hx e.to hz) (sum e.over (under_drawn y z w e.to hz k))

  pub backed_least : Backed n B T → (x z : ℕ) (w : ℤ) → x < n → z < n → T x z ≡ num w → neg_ℤ (pos (B * n)) ≤ℤ w
  backed_least b x z w hx hz e =
      let d : Dominated (Drawn n B T) x z w = b x z w hx hz e in
      let k : Short (Drawn n B T) n x z d.total =
      short_walk (Drawn n B T) n T (λ a b v e. (e.from, e.to)) zeros under_drawn hx d.walk in
      let m : ℕ = length k.points in
      let rest : neg_ℤ (pos (B * m)) ≤ℤ k.total = trail_least (Drawn n B T) B (λ a b v f. f.least) k.trail in
      let more : B * suc m ≤ B * n = mul-le-mul_left B (few k) in
      omega (ints, rest, more, k.le, d.le, neg (pos (B * m)), neg (pos (B * n)))
