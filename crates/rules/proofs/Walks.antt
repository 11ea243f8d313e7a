-- Walks put together: one edge, one walk after another, edges replaced by walks, and walks of no larger total.
-- Assumes nothing.
use mathlib.Core.Path.{subst}
use Prim.Native.Nat.{ℕ}
use lib.IntN.{ℤ, ◌+ℤ◌, +ℤ_idl, +ℤ_idr, +ℤ_assoc}
use lib.Signed.{◌≤ℤ◌, ≤ℤ_refl}
use Rattle.whole.proofs.Order.{≤ℤ_trans, plus_mono}
use Rattle.rules.specs.Walks.{Walk, stay, step}

-- one edge is a walk
pub single : {E : ℕ → ℕ → ℤ → Type 0} {x y : ℕ} {w : ℤ} → E x y w → Walk E x y w
single {E} {x} {y} {w} e = subst (λ (t : ℤ). Walk E x y t) (+ℤ_idr w) (step e stay)

-- one walk after another
pub append : {E : ℕ → ℕ → ℤ → Type 0} {x y z : ℕ} {v w : ℤ} → Walk E x y v → Walk E y z w → Walk E x z (v +ℤ w)
append {w} stay b = rw (+ℤ_idl w) b
append {w} (step {v = a} {w = r} e k) b = rw (+ℤ_assoc a r w) (step e (append k b))

-- each edge of a walk replaced by a walk of the same total
pub replaced : {E F : ℕ → ℕ → ℤ → Type 0} → ((x y : ℕ) (w : ℤ) → E x y w → Walk F x y w)
    → {x y : ℕ} {t : ℤ} → Walk E x y t → Walk F x y t
replaced f stay = stay
replaced f (step {x} {y} {v} e k) = append (f x y v e) (replaced f k)

-- a walk of total at most w
pub record Dominated (E : ℕ → ℕ → ℤ → Type 0) (x y : ℕ) (w : ℤ) : Type 0 where
  pub total : ℤ
  pub walk : Walk E x y total
  pub le : total ≤ℤ w

-- a walk is at most its own total
pub exactly : {E : ℕ → ℕ → ℤ → Type 0} {x y : ℕ} {w : ℤ} → Walk E x y w → Dominated E x y w
exactly {w} k = record { total = w; walk = k; le = ≤ℤ_refl w }

-- at most w, and so at most anything larger
pub weaker : {E : ℕ → ℕ → ℤ → Type 0} {x y : ℕ} {v w : ℤ} → Dominated E x y v → v ≤ℤ w → Dominated E x y w
weaker d h = record { total = d.total; walk = d.walk; le = ≤ℤ_trans d.le h }

-- one after the other
pub after : {E : ℕ → ℕ → ℤ → Type 0} {x y z : ℕ} {v w : ℤ} → Dominated E x y v → Dominated E y z w → Dominated E x z (v +ℤ w)
after d e = record { total = d.total +ℤ e.total; walk = append d.walk e.walk; le = plus_mono d.le e.le }

-- each edge of a walk replaced by a walk of at most its weight
pub dominated : {E F : ℕ → ℕ → ℤ → Type 0} → ((x y : ℕ) (w : ℤ) → E x y w → Dominated F x y w)
    → {x y : ℕ} {t : ℤ} → Walk E x y t → Dominated F x y t
dominated f stay = exactly stay
dominated f (step {x} {y} {v} e k) = after (f x y v e) (dominated f k)
