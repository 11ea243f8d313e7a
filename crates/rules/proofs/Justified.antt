-- Justified tables: every cell that is not the mark has a walk of total at most the cell. Justified and closed tables are the plan's
-- tables, least totals are unique, and a plan with tables is not uncontrollable. Assumes nothing.
use mathlib.Core.Path.{◌≡◌, refl, ap, subst}
use Prim.Native.Nat.{ℕ, zero, ◌<◌}
use lib.IntN.{ℤ, pos, ◌+ℤ◌}
use lib.Signed.{◌≤ℤ◌, ◌<ℤ◌}
use Rattle.whole.proofs.Order.{ints, plus, ≤ℤ_antisym}
use Rattle.rules.specs.Plan.{Plan, Ranges}
use Rattle.rules.specs.Edges.{Derivable, Open}
use Rattle.rules.specs.Walks.{Walk, stay, Uncontrollable}
use Rattle.rules.specs.Cells.{Cell, mark, num, Table}
use Rattle.rules.specs.Tables.{Least, Tables, Closed}
use Rattle.rules.proofs.Cells.{AtMost, by_at_most, mark_no_number}
use Rattle.rules.proofs.Walks.{append, Dominated}
use Rattle.rules.proofs.Points.{Pointed}
use Rattle.rules.proofs.Bound.{strict_walk_bound, open_walk_bound, negative_point}

-- every cell that is not the mark has a walk of total at most the cell
pub record Justified (p : Plan) (strict weak : Table) : Type 0 where
  pub strict_walk : (x y : ℕ) → x < p.points → y < p.points → (c : ℤ) → strict x y ≡ num c → Dominated (Derivable p) x y c
  pub open_walk : (x y : ℕ) → x < p.points → y < p.points → (c : ℤ) → weak x y ≡ num c → Dominated (Open p) x y c

-- a cell with a walk of total at most the cell, and no walk below it, is the least total
least : {E : ℕ → ℕ → ℤ → Type 0} {x y : ℕ} (cell : Cell) → ((c : ℤ) → cell ≡ num c → Dominated E x y c)
    → ((t : ℤ) → Walk E x y t → AtMost cell t) → Least E x y cell
least mark j b = λ t k. mark_no_number (b t k).is
least {E} {x} {y} (num c) j b =
    let d : Dominated E x y c = j c refl in
    let e : d.total ≡ c = ≤ℤ_antisym d.le (by_at_most (b d.total d.walk)) in
    (subst (λ (t : ℤ). Walk E x y t) e d.walk, λ t k. by_at_most (b t k))

-- justified and closed tables are the plan's tables
pub justified_closed : (r : Ranges) (p : Plan) (strict weak : Table) → Pointed p → Justified p strict weak → Closed r p strict weak
    → Tables p strict weak
justified_closed r p strict weak g j c = record {
  strict_least = λ x y hx hy. least (strict x y) (j.strict_walk x y hx hy) (λ t k. strict_walk_bound r p strict weak c g hx hy k);
  open_least = λ x y hx hy. least (weak x y) (j.open_walk x y hx hy) (λ t k. open_walk_bound r p strict weak c g hx hy k);
}

-- a justified negative cell on the open diagonal makes the plan uncontrollable
pub negative_diagonal : (p : Plan) {x : ℕ} {c : ℤ} → Dominated (Open p) x x c → c <ℤ pos zero → Uncontrollable p
negative_diagonal p {x} {c} d h =
    record { at = x; total = d.total; walk = d.walk; negative = omega (ints, d.le, h) }

-- a pair has one least total
pub least_unique : (E : ℕ → ℕ → ℤ → Type 0) (x y : ℕ) (c d : Cell) → Least E x y c → Least E x y d → c ≡ d
least_unique E x y mark mark h k = refl
least_unique E x y mark (num b) h k = absurd (h b k.0)
least_unique E x y (num a) mark h k = absurd (k a h.0)
least_unique E x y (num a) (num b) h k = ap num (≤ℤ_antisym (h.1 b k.0) (k.1 a h.0))

-- a plan has one pair of tables
pub record SameTables (n : ℕ) (strict weak strict' weak' : Table) : Type 0 where
  pub strict_same : (x y : ℕ) → x < n → y < n → strict x y ≡ strict' x y
  pub open_same : (x y : ℕ) → x < n → y < n → weak x y ≡ weak' x y

pub tables_unique : (p : Plan) (strict weak strict' weak' : Table) → Tables p strict weak → Tables p strict' weak'
    → SameTables p.points strict weak strict' weak'
tables_unique p strict weak strict' weak' t u = record {
  strict_same = λ x y hx hy. least_unique (Derivable p) x y (strict x y) (strict' x y) (t.strict_least x y hx hy) (u.strict_least x y hx hy);
  open_same = λ x y hx hy. least_unique (Open p) x y (weak x y) (weak' x y) (t.open_least x y hx hy) (u.open_least x y hx hy);
}

-- a pair with a least total has no closed walk of negative total at its start
pub no_negative : {E : ℕ → ℕ → ℤ → Type 0} {x : ℕ} {t : ℤ} (c : Cell) → Least E x x c → Walk E x x t → t <ℤ pos zero → ⊥
no_negative mark h k l = h (pos zero) stay
no_negative {t} (num c) h k l =
    let below : c ≤ℤ (t +ℤ c) = h.1 (t +ℤ c) (append k h.0) in
    omega (ints, plus t c)

-- a plan with tables is not uncontrollable
pub tables_controllable : (p : Plan) (strict weak : Table) → Pointed p → Tables p strict weak → Uncontrollable p → ⊥
tables_controllable p strict weak g t u =
    let x : ℕ = u.at in
    let h : x < p.points = negative_point p g u.walk u.negative in
    no_negative (weak x x) (t.open_least x x h h) u.walk u.negative
