-- Where the numbers of a strict table stand. In a plan's tables they stand exactly where its given edges lead; after Add they stand exactly
-- where they stood, or where they led to the new limit's beginning and on from its end. Assumes nothing.
use mathlib.Core.Path.{◌≡◌, refl, sym, subst}
use mathlib.Core.Logic.{◌≢◌, ⊎_elim}
use mathlib.Core.List.Memᴰ
use Prim.Native.Nat.{ℕ, zero, ◌<◌}
use native.Mathlib.Decide.{ℕ_discrete}
use lib.IntN.{ℤ, pos, neg_ℤ, ◌+ℤ◌}
use lib.Signed.{≤ℤ_refl}
use Rattle.rules.specs.Plan.{Limit, Plan, Ranges}
use Rattle.rules.specs.Edges as edges
use Rattle.rules.specs.Edges.{Given, limit, start, longest, shortest, Derivable}
use Rattle.rules.specs.Walks.{Walk, stay, step}
use Rattle.rules.specs.Cells.{Cell, mark, num, Table}
use Rattle.rules.specs.Tables.{Least, Tables, Closed}
use Rattle.rules.specs.Additions.{with_cells}
use Rattle.rules.proofs.Cells.{AtMost, at_most, under, sum}
use Rattle.rules.proofs.Walks.{single, append, replaced}
use Rattle.rules.proofs.Points.{Pointed}
use Rattle.rules.proofs.Shortening.{trail_walk}
use Rattle.rules.proofs.Reach.{GivenTrail, given_trail}
use Rattle.rules.proofs.Domination.{as_open}
use Rattle.rules.proofs.CellLimits.{FromCell, table_limit, table_has, cells_pointed}

-- ---- a plan's tables

-- some walk of given edges
pub record Led (p : Plan) (x y : ℕ) : Type 0 where
  pub total : ℤ
  pub walk : Walk (Given p) x y total

module _ {p : Plan} {strict weak : Table} (g : Pointed p) (t : Tables p strict weak) {x y : ℕ} (hx : x < p.points) (hy : y < p.points) where
  -- a number is the total of some walk, and given edges lead wherever any walk does
  pub number_led : {c : ℤ} → strict x y ≡ num c → Led p x y
  number_led {c} e =
      let least : Least (Derivable p) x y (num c) = subst (λ (d : Cell). Least (Derivable p) x y d) e (t.strict_least x y hx hy) in
      let r : GivenTrail p x y = given_trail p g hx (as_open least.0) in
      record { total = r.total; walk = trail_walk r.trail }

  -- given edges are derivable, and the mark stands only where there is no walk
  pub led_number : Led p x y → strict x y ≢ mark
  led_number l e =
      let least : Least (Derivable p) x y mark = subst (λ (d : Cell). Least (Derivable p) x y d) e (t.strict_least x y hx hy) in
      least l.total (replaced (λ a b w h. single (edges.given h)) l.walk)

-- ---- after Add

-- from x to y in a table, or from x to where the new limit begins and from where it ends to y
pub data Onward (s : Table) (m : Limit) (x y : ℕ) : Type 0 where
  before : {c : ℤ} → s x y ≡ num c → Onward s m x y
  through : {a b : ℤ} → s x m.from ≡ num a → s m.to y ≡ num b → Onward s m x y

-- a cell that is a number is at most that
exact : {c : Cell} {a : ℤ} → c ≡ num a → AtMost c a
exact {a} e = record { value = a; is = e; le = ≤ℤ_refl a }

-- one walk after another
led_after : {p : Plan} {x y z : ℕ} → Led p x y → Led p y z → Led p x z
led_after a b = record { total = a.total +ℤ b.total; walk = append a.walk b.walk }

module _ {r : Ranges} {p : Plan} {s w : Table} {m : Limit} (g : Pointed p) (closed : Closed r p s w) (hf : m.from < p.points) where
  -- a number in front, which joins with the number that it meets
  prepended : {x y z : ℕ} {v : ℤ} → x < p.points → y < p.points → z < p.points → AtMost (s x y) v → Onward s m y z → Onward s m x z
  prepended {x} {y} {z} hx hy hz h (before e) = before (under (closed.strict_join_rule x y z hx hy hz) (sum h (exact e))).is
  prepended {x} {y} hx hy hz h (through e f) = through (under (closed.strict_join_rule x y m.from hx hy hf) (sum h (exact e))).is f

  -- the new limit in front: where it is taken twice, the last time is enough
  entered : {y : ℕ} → Onward s m m.to y → Onward s m m.from y
  entered (before e) = through (closed.strict_diagonal m.from hf) e
  entered (through e f) = through (closed.strict_diagonal m.from hf) f

  -- an edge of Add's plan in front: it is the new limit, or there is a number at most its weight
  edge_onward : {x y z : ℕ} {v : ℤ} → z < p.points → Given (with_cells p s m) x y v → Onward s m y z → Onward s m x z
  edge_onward {z} hz (limit {m = l} h) = ⊎_elim new (λ k. cell (table_limit s p.points p.points k)) (Memᴰ.cases_cons h)
    where
      new : l ≡ m → Onward s m l.to z → Onward s m l.from z
      new e = subst (λ (k : Limit). Onward s m k.to z → Onward s m k.from z) (sym e) entered

      cell : FromCell s p.points p.points l → Onward s m l.to z → Onward s m l.from z
      cell c = prepended c.row_below c.column_below hz (exact c.cell)
  edge_onward {x} hz (start h) = prepended h g.some_point hz (at_most (closed.given x zero (pos zero) (start h)))
  edge_onward hz (longest {k} h) =
      prepended (g.link_act k h) (g.link_con k h) hz (at_most (closed.given k.act k.con (pos k.long) (longest h)))
  edge_onward hz (shortest {k} h) =
      prepended (g.link_con k h) (g.link_act k h) hz (at_most (closed.given k.con k.act (neg_ℤ (pos k.short)) (shortest h)))

  -- so a walk of such edges leads onward
  walk_onward : {x y : ℕ} {v : ℤ} → y < p.points → Walk (Given (with_cells p s m)) x y v → Onward s m x y
  walk_onward {x} hy stay = before (closed.strict_diagonal x hy)
  walk_onward hy (step e k) = edge_onward hy e (walk_onward hy k)

module _ (p : Plan) (s : Table) (m : Limit) where
  -- a number off the diagonal is a limit of Add's plan; on the diagonal the empty walk serves
  cell_led : {x y : ℕ} {c : ℤ} → x < p.points → y < p.points → s x y ≡ num c → Led (with_cells p s m) x y
  cell_led {x} {y} {c} hx hy e = by (ℕ_discrete x y)
    where
      by : Dec (x ≡ y) → Led (with_cells p s m) x y
      by (yes i) = record { total = pos zero; walk = subst (λ (z : ℕ). Walk (Given (with_cells p s m)) x z (pos zero)) i stay }
      by (no ne) = record { total = c; walk = single (limit (Memᴰ.tail (table_has s x y p.points p.points c hx hy ne e))) }

  -- and the new limit is one
  new_led : Led (with_cells p s m) m.from m.to
  new_led = record { total = m.weight; walk = single (limit (Memᴰ.head refl)) }

  -- so what leads onward is led by edges of Add's plan
  onward_led : {x y : ℕ} → m.from < p.points → m.to < p.points → x < p.points → y < p.points
      → Onward s m x y → Led (with_cells p s m) x y
  onward_led hf ht hx hy (before e) = cell_led hx hy e
  onward_led hf ht hx hy (through e f) = led_after (cell_led hx hf e) (led_after new_led (cell_led ht hy f))

module _ {r : Ranges} {p : Plan} {s w s' w' : Table} {m : Limit} (g : Pointed p) (c : Closed r p s w) (hf : m.from < p.points)
    (ht : m.to < p.points) (t : Tables (with_cells p s m) s' w') {x y : ℕ} (hx : x < p.points) (hy : y < p.points) where
  -- a number after Add was there before, or goes over the new limit
  pub added_number : {v : ℤ} → s' x y ≡ num v → Onward s m x y
  added_number e = walk_onward g c hf hy (number_led (cells_pointed p s m g hf ht) t hx hy e).walk

  -- and each of these is a number after Add
  pub number_added : Onward s m x y → s' x y ≢ mark
  number_added o = led_number (cells_pointed p s m g hf ht) t hx hy (onward_led p s m hf ht hx hy o)
