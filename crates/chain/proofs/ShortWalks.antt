-- Edges whose walks a table does not exceed, with 0 on its diagonal: no closed walk of them is negative, and so each walk is matched by one of fewer than n
-- edges. Assumes nothing.
use mathlib.Core.Path.{◌≡◌}
use mathlib.Core.Logic.{⊎_elim}
use Prim.Native.Nat.{ℕ, zero, ◌<◌}
use lib.IntN.{ℤ, pos}
use lib.Signed.{◌≤ℤ◌, ◌<ℤ◌}
use Rattle.whole.proofs.Order.{ints}
use Rattle.rules.specs.Walks.{Walk, stay, step, NegativeWalk}
use Rattle.rules.specs.Cells.{num, Table}
use Rattle.rules.proofs.Cells.{AtMost, by_at_most}
use Rattle.rules.proofs.Shortening.{Short, shorten}
use Rattle.chain.proofs.CellOrder.{number_le}

module _ (E : ℕ → ℕ → ℤ → Type 0) (n : ℕ) (T : Table) (ends : (x y : ℕ) (w : ℤ) → E x y w → (x < n) × (y < n))
    (zeros : (x : ℕ) → x < n → T x x ≡ num (pos zero)) (under_walk : (x z : ℕ) (t : ℤ) → x < n → z < n → Walk E x z t → AtMost (T x z) t) where
  -- a walk with a negative total has an edge, so it starts at a point
  negative_start : {x y : ℕ} {t : ℤ} → Walk E x y t → t <ℤ pos zero → x < n
  negative_start stay h = absurd (omega (ints, h))
  negative_start {x} (step {y} {v} e k) h = (ends x y v e).0

  none_negative : NegativeWalk E → ⊥
  none_negative m =
      let hx : m.at < n = negative_start m.walk m.negative in
      let l : pos zero ≤ℤ m.total = number_le (by_at_most (under_walk m.at m.at m.total hx hx m.walk)) (zeros m.at hx) in
      omega (ints, m.negative, l)

  pub short_walk : {x z : ℕ} {t : ℤ} → x < n → Walk E x z t → Short E n x z t
  short_walk hx k = ⊎_elim (λ m. absurd (none_negative m)) (λ h. h) (shorten E n ends hx k)
