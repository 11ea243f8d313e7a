-- Closed tables are a lower bound: no derivable edge is below its strict cell, no open walk below its open cell. Hence closed tables
-- exist only for a plan that is not uncontrollable. Assumes nothing.
use mathlib.Core.Path.{◌≡◌, ◌∙◌, sym, subst}
use Prim.Native.Nat.{ℕ, zero, ◌<◌}
use lib.IntN.{ℤ, pos}
use lib.Signed.{◌≤ℤ◌, ◌<ℤ◌, ≤ℤ_refl, clash_ℤ}
use Rattle.rules.specs.Plan.{Plan, Ranges}
use Rattle.rules.specs.Edges.{Derivable, given, join, lower, upper, Open, ordinary, lower_case_rule}
use Rattle.rules.specs.Walks.{Walk, stay, step, Uncontrollable}
use Rattle.rules.specs.Cells.{Table}
use Rattle.rules.specs.Tables.{Closed}
use Rattle.rules.proofs.Cells.{AtMost, at_most, under, sum, lowered_at_most, uppered_at_most, same_number}
use Rattle.rules.proofs.Points.{Pointed, derivable_ends, open_ends}

module _ (r : Ranges) (p : Plan) (strict weak : Table) (c : Closed r p strict weak) (g : Pointed p) where
  -- a derivable edge weighs at least its strict cell
  pub strict_bound : {x y : ℕ} {w : ℤ} → Derivable p x y w → AtMost (strict x y) w
  strict_bound {x} {y} {w} (given e) = at_most (c.given x y w e)
  strict_bound {x} {y = z} (join {y} a b) =
      under
      (c.strict_join_rule x y z (derivable_ends p g a).from (derivable_ends p g a).to (derivable_ends p g b).to)
      (sum (strict_bound a) (strict_bound b))
  strict_bound (lower {k} {r = j} h i l d) =
      under (c.lower k j h i l.other) (lowered_at_most k j l.below (strict_bound d))
  strict_bound (upper {k} {x} h d) = under (c.upper k h x (derivable_ends p g d).from) (uppered_at_most k (strict_bound d))

  -- an open edge weighs at least its open cell
  pub open_edge_bound : {x y : ℕ} {w : ℤ} → Open p x y w → AtMost (weak x y) w
  open_edge_bound {x} {y} (ordinary d) =
      under (c.open_strict x y (derivable_ends p g d).from (derivable_ends p g d).to) (strict_bound d)
  open_edge_bound (lower_case_rule {k} h) = at_most (c.open_lower_case k h)

  -- a walk over derivable edges totals at least its strict cell
  pub strict_walk_bound : {x y : ℕ} {t : ℤ} → x < p.points → y < p.points → Walk (Derivable p) x y t → AtMost (strict x y) t
  strict_walk_bound {x} hx hy stay = record { value = pos zero; is = c.strict_diagonal x hx; le = ≤ℤ_refl (pos zero) }
  strict_walk_bound {x} {y = z} hx hz (step {y} e k) =
      let hy : y < p.points = (derivable_ends p g e).to in
      under (c.strict_join_rule x y z hx hy hz) (sum (strict_bound e) (strict_walk_bound hy hz k))

  -- a walk over open edges totals at least its open cell
  pub open_walk_bound : {x y : ℕ} {t : ℤ} → x < p.points → y < p.points → Walk (Open p) x y t → AtMost (weak x y) t
  open_walk_bound {x} hx hy stay = record { value = pos zero; is = c.open_diagonal x hx; le = ≤ℤ_refl (pos zero) }
  open_walk_bound {x} {y = z} hx hz (step {y} e k) =
      let hy : y < p.points = (open_ends p g e).to in
      under (c.open_join_rule x y z hx hy hz) (sum (open_edge_bound e) (open_walk_bound hy hz k))

-- a walk with a negative total starts at a point of the plan
pub negative_point : (p : Plan) → Pointed p → {x y : ℕ} {t : ℤ} → Walk (Open p) x y t → t <ℤ pos zero → x < p.points
negative_point p g stay h = clash_ℤ h (≤ℤ_refl (pos zero))
negative_point p g (step e k) h = (open_ends p g e).from

-- no closed tables for an uncontrollable plan
pub closed_controllable : (r : Ranges) (p : Plan) (strict weak : Table) → Closed r p strict weak → Pointed p → Uncontrollable p → ⊥
closed_controllable r p strict weak c g u =
    let x : ℕ = u.at in
    let h : x < p.points = negative_point p g u.walk u.negative in
    let a : AtMost (weak x x) u.total = open_walk_bound r p strict weak c g h h u.walk in
    let e : pos zero ≡ a.value = same_number (sym (c.open_diagonal x h) ∙ a.is) in
    clash_ℤ u.negative (subst (λ (z : ℤ). z ≤ℤ u.total) (sym e) a.le)
