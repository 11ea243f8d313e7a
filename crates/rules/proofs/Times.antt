-- A plan without links that a timetable meets is controllable, and minus the strict cells to the start are its earliest timetable. Assumes nothing.
use mathlib.Core.Path.{◌≡◌, subst}
use mathlib.Core.List.Memᴰ
use mathlib.Core.List.{List, [], Memᴰ}
use Prim.Native.Nat.{ℕ, zero, ◌<◌}
use lib.IntN.{ℤ, pos, neg_ℤ, ◌+ℤ◌}
use lib.Signed.{◌≤ℤ◌}
use Rattle.whole.proofs.Order.{ints, plus, neg}
use Rattle.rules.specs.Plan.{Limit, Link, Plan}
use Rattle.rules.specs.Edges as edges
use Rattle.rules.specs.Edges.{Derivable, Open}
use Rattle.rules.specs.Walks.{Walk, stay, step, Uncontrollable}
use Rattle.rules.specs.Cells.{num, Table}
use Rattle.rules.specs.Tables.{Least, Tables}
use Rattle.rules.specs.Times.{Timetable, Meets, EarliestTimes}
use Rattle.rules.proofs.Walks.{single}
use Rattle.rules.proofs.Points.{Pointed}
use Rattle.rules.proofs.TablesClosed.{least_diagonal}
use Rattle.rules.proofs.Cells.{same_number}

-- times that meet every edge of a family meet every walk over it
walk_met : {E : ℕ → ℕ → ℤ → Type 0} (u : Timetable) → ((x y : ℕ) (w : ℤ) → E x y w → u y ≤ℤ (u x +ℤ w)) → {x y : ℕ} {t : ℤ} → Walk E x y t → u y ≤ℤ (u x +ℤ t)
walk_met u m {x} stay = omega (ints, plus (u x) (pos zero))
walk_met u m {x} {y = z} (step {y} {v} {w} e k) =
    omega (ints, m x y v e, walk_met u m k, plus (u x) v, plus (u y) w, plus v w, plus (u x) (v +ℤ w))

module _ (p : Plan) (none : p.links ≡ []) where
  pub no_link_lem : {X : Type 0} {k : Link} → Memᴰ k p.links → X
  no_link_lem {k} h = absurd (Memᴰ.not-nil (subst (λ (ks : List Link). Memᴰ k ks) none h))

  -- a timetable that meets the plan meets every derivable edge
  edge_met : (u : Timetable) → Meets p u → {x y : ℕ} {w : ℤ} → Derivable p x y w → u y ≤ℤ (u x +ℤ w)
  edge_met u m (edges.given (edges.limit {m = l} h)) = m.limit l h
  edge_met u m {x} (edges.given (edges.start h)) = omega (ints, m.start, m.none_before x h, plus (u x) (pos zero))
  edge_met u m (edges.given (edges.longest h)) = no_link_lem h
  edge_met u m (edges.given (edges.shortest h)) = no_link_lem h
  edge_met u m {x} {y = z} (edges.join {y} {v} {w} a b) =
      omega (ints, edge_met u m a, edge_met u m b, plus (u x) v, plus (u y) w, plus v w, plus (u x) (v +ℤ w))
  edge_met u m (edges.lower h j l d) = no_link_lem h
  edge_met u m (edges.upper h d) = no_link_lem h

  -- and every open edge, since there is no lower-case one
  open_met : (u : Timetable) → Meets p u → {x y : ℕ} {w : ℤ} → Open p x y w → u y ≤ℤ (u x +ℤ w)
  open_met u m (edges.ordinary e) = edge_met u m e
  open_met u m (edges.lower_case_rule h) = no_link_lem h

  -- so there is no closed walk below 0
  pub met_controllable : (u : Timetable) → Meets p u → Uncontrollable p → ⊥
  met_controllable u m n = omega (ints, walk_met u (λ x y w e. open_met u m e) n.walk, n.negative, plus (u n.at) n.total)

  -- minus the strict cells to the start are the earliest times
  pub earliest_times : (strict weak : Table) → Pointed p → Tables p strict weak → (t : Timetable)
      → ((x : ℕ) → x < p.points → strict x zero ≡ num (neg_ℤ (t x))) → EarliestTimes p t
  earliest_times strict weak g tables t is = record { meets = record { limit = limit; start = start; none_before = before }; earliest = early }
    where
      -- the walk to the start, whose total is minus the time
      to_start : (x : ℕ) → x < p.points → Least (Derivable p) x zero (num (neg_ℤ (t x)))
      to_start x hx = subst (Least (Derivable p) x zero) (is x hx) (tables.strict_least x zero hx g.some_point)

      limit : (m : Limit) → Memᴰ m p.limits → t m.to ≤ℤ (t m.from +ℤ m.weight)
      limit m h =
          let hf = g.limit_from m h in
          let ht = g.limit_to m h in
          let below : neg_ℤ (t m.from) ≤ℤ (m.weight +ℤ neg_ℤ (t m.to)) =
          (to_start m.from hf).1 (m.weight +ℤ neg_ℤ (t m.to)) (step (edges.given (edges.limit h)) (to_start m.to ht).0) in
          omega
          (ints, neg (t m.from), neg (t m.to), plus m.weight (neg_ℤ (t m.to)), plus (t m.from) m.weight)

      start : t zero ≡ pos zero
      start =
          let e : num (neg_ℤ (t zero)) ≡ num (pos zero) =
          least_diagonal (Derivable p) zero (num (neg_ℤ (t zero))) (to_start zero g.some_point) in
          omega (ints, same_number e, neg (t zero))

      before : (x : ℕ) → x < p.points → pos zero ≤ℤ t x
      before x hx =
          let below : neg_ℤ (t x) ≤ℤ pos zero = (to_start x hx).1 (pos zero) (single (edges.given (edges.start hx))) in
          omega (ints, neg (t x))

      early : (u : Timetable) → Meets p u → (x : ℕ) → x < p.points → t x ≤ℤ u x
      early u m x hx =
          let met : u zero ≤ℤ (u x +ℤ neg_ℤ (t x)) = walk_met u (λ x y w e. edge_met u m e) (to_start x hx).0 in
          omega (ints, m.start, neg (t x), plus (u x) (neg_ℤ (t x)))
