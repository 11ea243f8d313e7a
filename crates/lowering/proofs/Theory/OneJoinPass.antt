-- One pass of joins over a table of given edges: Floyd and Warshall's argument, over tables that are written in place and store sums by a clamp. After k
-- middles, a cell is at most the total of every path over points below k: cut where it first comes to k and where it last leaves it, its parts are
-- such paths before, and what lies between closes on k and so is not below 0. A sum that was left out above the reach is harmless: the same pair is joined by
-- fewer than n edges over such points, so its cell is in reach. So no cell exceeds the sum of two along a middle point. Assumes nothing.
use mathlib.Core.Path.{◌≡◌, refl, sym, subst, subst₂}
use mathlib.Core.Logic.{◌⊎◌, inl, inr, ⊎_elim}
use mathlib.Core.List.{List, ◌∷◌, Memᴰ}
use Prim.Native.Nat.{ℕ, zero, suc, ◌+◌, ◌*◌, ◌-◌, ◌≤◌, ◌<◌}
use native.Mathlib.Nat.{mul-le-mul_left, le_trans, eq-or-lt_of_le, le_of_suc-le-suc, not-suc-le-zero}
use native.Mathlib.Omega.{arith}
use native.Mathlib.Decide.{ℕ_discrete}
use lib.ListN.{length}
use lib.IntN.{ℤ, pos, ◌+ℤ◌}
use lib.Signed.{◌≤ℤ◌, ≤ℤ_refl, clash_ℤ}
use Rattle.whole.proofs.Order.{ints, plus, neg}
use Rattle.rules.specs.Plan.{Plan, Ranges}
use Rattle.rules.proofs.Coherence.{Coherent}
use Rattle.rules.specs.Edges.{Given, Open}
use Rattle.rules.specs.Walks.{Walk, stay, step, NegativeWalk}
use Rattle.rules.specs.Cells.{Cell, num, ◌+ᶜ◌, ◌≤ᶜ◌, table_of}
use Rattle.rules.proofs.Cells.{AtMost, at_most, under, sum, raised, by_at_most}
use Rattle.rules.proofs.Points.{Pointed, Weighted, Ends, given_ends}
use Rattle.rules.proofs.Shortening.{Trail, stop, go, Short, few, shorten, trail_walk}
use Rattle.rules.proofs.Reach.{GivenTrail, given_trail, given_most}
use Rattle.cell.specs.Steps.{clamped}
use Rattle.lowering.specs.Sweep.{iter, lower_cell, join_middle, join_all}
use Rattle.lowering.specs.Fair.{Fair}
use Rattle.lowering.proofs.Theory.LoweredTables.{Lowered, lowered_below, fair_before}
use Rattle.lowering.proofs.Theory.WalksKept.{has_sum, under_walks, Walked}
use Rattle.lowering.proofs.Theory.StepsTaken.{Taken, Keeps, Puts, one, each, keeps}
use Rattle.lowering.proofs.Theory.SweepsTaken.{Any, cells, middle_keeps, middle_reached, joins_keep}
use Rattle.lowering.proofs.Theory.StoredNumbers.{stored_at_most, exact}

-- ---- paths

-- a walk of at least one given edge, each point of which between its ends is below k, with its total and how many edges it has
data Path (p : Plan) (k : ℕ) : ℕ → ℕ → ℤ → ℕ → Type 0 where
  edge : {x y : ℕ} {w : ℤ} → Given p x y w → Path p k x y w 1
  more : {x y z : ℕ} {v w : ℤ} {l : ℕ} → Given p x y v → y < k → Path p k y z w l → Path p k x z (v +ℤ w) (suc l)

-- it has an edge
some_edge : {p : Plan} {k x z : ℕ} {s : ℤ} {l : ℕ} → Path p k x z s l → 1 ≤ l
some_edge (edge e) = omega arith
some_edge (more e hy t) = omega arith

-- a path of some total, of l edges
record Some (p : Plan) (k x z l : ℕ) : Type 0 where
  total : ℤ
  path : Path p k x z total l

abbrev some : {p : Plan} {k x z l : ℕ} {s : ℤ} → Path p k x z s l → Some p k x z l
some {s} t = record { total = s; path = t }

-- a path that meets k, cut where it first comes to k and where it last leaves it: what lies between are paths from k to k
record Parts (p : Plan) (k x z : ℕ) (s : ℤ) (l : ℕ) : Type 0 where
  first_length : ℕ
  first : Some p k x k first_length
  last_length : ℕ
  last : Some p k k z last_length
  shorter : first_length + last_length ≤ l
  smaller : ((c : ℤ) (m : ℕ) → Path p k k k c m → pos zero ≤ℤ c) → (first.total +ℤ last.total) ≤ℤ s

module _ (p : Plan) (k : ℕ) where
  -- an edge to k before a path from k
  cut_here : {x z : ℕ} {v w : ℤ} {l : ℕ} → Given p x k v → Path p k k z w l ⊎ Parts p k k z w l → Parts p k x z (v +ℤ w) (suc l)
  cut_here {x} {z} {v} {w} {l} e (inl t) =
      record { first_length = 1; first = some (edge e); last_length = l; last = some t; shorter = omega arith; smaller = λ loop. ≤ℤ_refl (v +ℤ w) }
  cut_here {x} {z} {v} {w} {l} e (inr q) = record {
    first_length = 1;
    first = some (edge e);
    last_length = q.last_length;
    last = q.last;
    shorter = omega (arith, q.shorter, some_edge q.first.path);
    smaller = λ loop.
        let c : ℤ = q.first.total in
        let d : ℤ = q.last.total in
        let nonneg : pos zero ≤ℤ c = loop c q.first_length q.first.path in
        omega (ints, q.smaller loop, nonneg, plus c d, plus v d, plus v w);
  }

  -- an edge to a point below k before a path
  cut_later : {x y z : ℕ} {v w : ℤ} {l : ℕ} → Given p x y v → y < k → Path p k y z w l ⊎ Parts p k y z w l
      → Path p k x z (v +ℤ w) (suc l) ⊎ Parts p k x z (v +ℤ w) (suc l)
  cut_later e hy (inl t) = inl (more e hy t)
  cut_later {v} {w} e hy (inr q) = inr (record {
    first_length = suc q.first_length;
    first = some (more e hy q.first.path);
    last_length = q.last_length;
    last = q.last;
    shorter = omega (arith, q.shorter);
    smaller = λ loop.
        let c : ℤ = q.first.total in
        let d : ℤ = q.last.total in
        omega (ints, q.smaller loop, plus c d, plus v c, plus (v +ℤ c) d, plus v w);
  })

  -- a path with its points below k + 1 has them below k, or meets k
  cut : {x z : ℕ} {s : ℤ} {l : ℕ} → Path p (suc k) x z s l → Path p k x z s l ⊎ Parts p k x z s l
  cut (edge e) = inl (edge e)
  cut {x} {z} (more {y} {v} {w} {l} e hy t) = by (ℕ_discrete y k) (cut t)
    where
      by : Dec (y ≡ k) → Path p k y z w l ⊎ Parts p k y z w l → Path p k x z (v +ℤ w) (suc l) ⊎ Parts p k x z (v +ℤ w) (suc l)
      by (yes i) q = inr (cut_here (subst (λ (a : ℕ). Given p x a v) i e) (subst (λ (a : ℕ). Path p k a z w l ⊎ Parts p k a z w l) i q))
      by (no ne) q = cut_later e (omega (arith, hy)) q

-- ---- a path shortened

-- an edge from x or from a point below k, its weight forgotten
data Via (p : Plan) (k x : ℕ) : ℕ → ℕ → ℤ → Type 0 where
  via : {a b : ℕ} {w : ℤ} → (a ≡ x) ⊎ (a < k) → Given p a b w → Via p k x a b (pos zero)

-- which never fall below 0
via_least : {p : Plan} {k x a b : ℕ} {t : ℤ} → Walk (Via p k x) a b t → pos zero ≤ℤ t
via_least stay = ≤ℤ_refl (pos zero)
via_least (step {w} (via s e) q) = omega (ints, via_least q, plus (pos zero) w)

-- a walk of such edges, of some total
record Way (p : Plan) (k x a b : ℕ) : Type 0 where
  total : ℤ
  walk : Walk (Via p k x) a b total

-- a path is one
way : {p : Plan} {k x a b : ℕ} {s : ℤ} {l : ℕ} → (a ≡ x) ⊎ (a < k) → Path p k a b s l → Way p k x a b
way i (edge e) = record { total = pos zero +ℤ pos zero; walk = step (via i e) stay }
way {p} {k} {x} i (more {y} {z} e hy t) =
    let q : Way p k x y z = way (inr hy) t in
    record { total = pos zero +ℤ q.total; walk = step (via i e) q.walk }

-- an edge before a trail that does not meet x
as_path : {p : Plan} {k x a y z : ℕ} {w t : ℤ} {ps : List ℕ} → Given p a y w → (Memᴰ x (y ∷ ps) → ⊥)
    → Trail (Via p k x) y z t ps → Some p k a z (suc (length ps))
as_path e away stop = some (edge e)
as_path {a = a} e away (go {x = x'} (via i f) t) =
    some (more e (⊎_elim (λ j. absurd (away (Memᴰ.head (sym j)))) (λ j. j) i) (as_path {a = x'} f (λ m. away (Memᴰ.tail m)) t).path)

-- two points joined by fewer than n edges over points below k
record Brief (p : Plan) (k x z : ℕ) : Type 0 where
  count : ℕ
  few_edges : count < p.points
  path : Some p k x z count

-- a trail that does not come back to x is empty or a path
trail_brief : {p : Plan} {k x a z : ℕ} {c : ℤ} {ps : List ℕ} → Trail (Via p k x) a z c ps → (Memᴰ x ps → ⊥) → length ps < p.points
    → (a ≡ z) ⊎ Brief p k a z
trail_brief stop away f = inl refl
trail_brief (go {ps} (via i e) t) away f = inr (record { count = suc (length ps); few_edges = f; path = as_path e away t })

module _ (p : Plan) (g : Pointed p) where
  via_ends : (k x a b : ℕ) (w : ℤ) → Via p k x a b w → (a < p.points) × (b < p.points)
  via_ends k x a b w (via i e) = let q : Ends p a b = given_ends p g e in (q.from, q.to)

  -- the ends of a path are one point, or joined by fewer than n edges over such points
  brief : {k x z : ℕ} {s : ℤ} {l : ℕ} → x < p.points → Path p k x z s l → (x ≡ z) ⊎ Brief p k x z
  brief {k} {x} {z} hx t =
      let q : Way p k x x z = way (inl refl) t in
      ⊎_elim never short (shorten (Via p k x) p.points (via_ends k x) hx q.walk)
    where
      never : NegativeWalk (Via p k x) → (x ≡ z) ⊎ Brief p k x z
      never m = clash_ℤ m.negative (via_least m.walk)

      short : {w : ℤ} → Short (Via p k x) p.points x z w → (x ≡ z) ⊎ Brief p k x z
      short c = trail_brief c.trail c.different.0 (few c)

-- ---- walks as paths

-- a path over all points of total s, of some number of edges
record Whole (p : Plan) (x z : ℕ) (s : ℤ) : Type 0 where
  count : ℕ
  path : Path p p.points x z s count

-- a walk is empty or a path
walk_path : (p : Plan) → Pointed p → {x z : ℕ} {s : ℤ} → Walk (Given p) x z s → ((x ≡ z) × (s ≡ pos zero)) ⊎ Whole p x z s
walk_path p g stay = inl (refl, refl)
walk_path p g {x} {z} (step {y} {v} {w} e q) = inr (by (walk_path p g q))
  where
    by : ((y ≡ z) × (w ≡ pos zero)) ⊎ Whole p y z w → Whole p x z (v +ℤ w)
    by (inl i) =
        record { count = 1; path = subst₂ (λ (a : ℕ) (t : ℤ). Path p p.points x a t 1) i.0 (omega (ints, i.1, plus v w)) (edge e) }
    by (inr t) = record { count = suc t.count; path = more e (given_ends p g e).to t.path }

-- ---- a pass of joins

module _ (p : Plan) (r : Ranges) (h : Coherent r) (g : Pointed p) (b : Weighted r.weight p) (few : p.points ≤ r.points) (t : List ℤ)
    (w : Walked (Given p) r p.points t) (Given-below : (x y : ℕ) (w : ℤ) → Given p x y w → table_of r p.points t x y ≤ᶜ num w)
    (diagonal : (x : ℕ) → x < p.points → table_of r p.points t x x ≤ᶜ num (pos zero)) where
  -- the table after the first k middles, and its cells
  after : ℕ → List ℤ
  after k = iter (join_middle r p.points) k t

  abbrev cell : ℕ → ℕ → ℕ → Cell
  cell k x y = table_of r p.points (after k) x y

  abbrev Given-walks : List ℤ → Type 0
  Given-walks = Walked (Given p) r p.points

  pass : Puts (Given p) r p.points Given-walks Any (lower_cell r p.points)
  pass = cells (Given p) r h p.points

  middle : (k : ℕ) → k < p.points → Keeps Given-walks r p.points (join_middle r p.points k)
  middle = middle_keeps (Given p) r h p.points

  after_taken : (k : ℕ) → k ≤ p.points → Taken Given-walks r p.points t (after k)
  unfolding after
  after_taken k hk = keeps pass (each k (λ i q. one (middle i (omega arith)))) t w

  next_lowered : (k : ℕ) → k < p.points → Lowered r p.points (after k) (after (suc k))
  unfolding after
  next_lowered k hk = (middle k hk (after k) (after_taken k (omega arith)).holds).low

  -- the reach holds as many weights as a brief path has edges
  holds : (m : ℕ) → m < p.points → r.weight * m ≤ r.reach
  holds m hm =
      let k : m ≤ r.points - 1 = omega arith in
      le_trans (mul-le-mul_left r.weight k) h.holds_walks

  -- after k middles, no cell exceeds what is stored of the sum of two along k before
  next_joined : (x k z : ℕ) → x < p.points → k < p.points → z < p.points → cell (suc k) x z ≤ᶜ clamped r.reach (cell k x k +ᶜ cell k k z)
  unfolding after
  next_joined x k z hx hk hz =
      middle_reached (Given p) r h p.points x k z hx hk hz (after k) (after_taken k (omega arith)).holds

  -- ---- from above: a brief path over the middles so far has a cell in reach

  -- after k middles a path's cell is at most its number of weights, where that is in reach
  abbrev Most : ℕ → Type 0
  Most k =
      (x z : ℕ) (s : ℤ) (l : ℕ) → x < p.points → z < p.points → r.weight * l ≤ r.reach → Path p k x z s l
      → AtMost (cell k x z) (pos (r.weight * l))

  path_most : (k : ℕ) → k ≤ p.points → Most k
  unfolding after
  path_most zero hk x z s l hx hz room (edge e) = raised (at_most (Given-below x z s e)) (omega (ints, given_most b x z s e))
  path_most zero hk x z s l hx hz room (more e hy q) = absurd (not-suc-le-zero hy)
  path_most (suc k) hk x z s l hx hz room q = by (path_most k (omega arith)) (cut p k q)
    where
      part : (m : ℕ) → m ≤ l → r.weight * m ≤ r.reach
      part m hm = le_trans (mul-le-mul_left r.weight hm) room

      by : Most k → Path p k x z s l ⊎ Parts p k x z s l → AtMost (cell (suc k) x z) (pos (r.weight * l))
      by before (inl i) = under ((next_lowered k hk).down x z hx hz) (before x z s l hx hz room i)
      by before (inr i) =
          let m : ℕ = i.first_length in
          let o : ℕ = i.last_length in
          let fits : r.weight * (m + o) ≤ r.weight * l = mul-le-mul_left r.weight i.shorter in
          let one : AtMost (cell k x k) (pos (r.weight * m)) =
          before x k i.first.total m hx hk (part m (omega (arith, i.shorter))) i.first.path in
          let two : AtMost (cell k k z) (pos (r.weight * o)) =
          before k z i.last.total o hk hz (part o (omega (arith, i.shorter))) i.last.path in
          let both : AtMost (cell k x k +ᶜ cell k k z) (pos (r.weight * l)) =
          raised (sum one two) (omega (ints, fits, plus (pos (r.weight * m)) (pos (r.weight * o)))) in
          under (next_joined x k z hx hk hz)
          (stored_at_most r.reach (cell k x k +ᶜ cell k k z) (omega (ints, neg (pos r.reach))) (omega (ints, room)) both)

  -- so the cell of a pair joined over points below k is in reach
  brief_most : (k : ℕ) → k ≤ p.points → {x z : ℕ} → x < p.points → z < p.points → (x ≡ z) ⊎ Brief p k x z
      → AtMost (cell k x z) (pos r.reach)
  brief_most k hk {x} {z} hx hz (inl e) =
      subst (λ (a : ℕ). AtMost (cell k x a) (pos r.reach)) e
      (raised (under ((after_taken k hk).low.down x x hx hx) (at_most (diagonal x hx))) (omega ints))
  brief_most k hk {x} {z} hx hz (inr q) =
      let room : r.weight * q.count ≤ r.reach = holds q.count q.few_edges in
      raised (path_most k hk x z q.path.total q.count hx hz room q.path.path) (omega (ints, room))

  -- a pair that any walk joins has a cell in reach
  pub warshall_full : {x z : ℕ} {s : ℤ} → x < p.points → z < p.points → Walk (Open p) x z s
      → AtMost (table_of r p.points (join_all r p.points t) x z) (pos r.reach)
  unfolding after join_all
  warshall_full {x} {z} hx hz k =
      let q : GivenTrail p x z = given_trail p g hx k in
      brief_most p.points (omega arith) hx hz
      (⊎_elim (λ e. inl e.0) (λ t. brief p g hx t.path) (walk_path p g (trail_walk q.trail)))

  -- ---- from above, exactly: where nothing speaks against the plan, a path's cell is at most its total

  module _ (fair : Fair r p.points (join_all r p.points t)) where
    -- nothing spoke against it on the way
    fair_until : (m : ℕ) → m ≤ p.points → Fair r p.points (after m) → (k : ℕ) → k ≤ m → Fair r p.points (after k)
    fair_until zero hm f k hk = subst (λ (j : ℕ). Fair r p.points (after j)) (omega arith) f
    fair_until (suc m) hm f k hk =
        ⊎_elim (λ e. subst (λ (j : ℕ). Fair r p.points (after j)) (sym e) f)
        (λ q. fair_until m (omega arith) (fair_before (after_taken m (omega arith)).low.sound (next_lowered m hm) f) k (le_of_suc-le-suc q))
        (eq-or-lt_of_le hk)

    fair_after : (k : ℕ) → k ≤ p.points → Fair r p.points (after k)
    unfolding after join_all
    fair_after k hk = fair_until p.points (omega arith) fair k hk

    -- after k middles a path's cell is at most its total
    abbrev Exact : ℕ → Type 0
    Exact k =
        (x z : ℕ) (s : ℤ) (l : ℕ) → x < p.points → z < p.points → Path p k x z s l → AtMost (cell k x z) s

    path_exact : (k : ℕ) → k ≤ p.points → Exact k
    unfolding after
    path_exact zero hk x z s l hx hz (edge e) = at_most (Given-below x z s e)
    path_exact zero hk x z s l hx hz (more e hy q) = absurd (not-suc-le-zero hy)
    path_exact (suc k) hk x z s l hx hz q = by (path_exact k (omega arith)) (cut p k q)
      where
        by : Exact k → Path p k x z s l ⊎ Parts p k x z s l → AtMost (cell (suc k) x z) s
        by before (inl i) = under ((next_lowered k hk).down x z hx hz) (before x z s l hx hz i)
        by before (inr i) =
            let d : Cell = cell k x k +ᶜ cell k k z in
            let both : AtMost d (i.first.total +ℤ i.last.total) =
            sum (before x k i.first.total i.first_length hx hk i.first.path)
            (before k z i.last.total i.last_length hk hz i.last.path) in
            let exactly : cell (suc k) x z ≤ᶜ d =
            exact r.reach (cell (suc k) x z) d ((fair_after (suc k) hk).within x z hx hz) (λ c e. brief_most (suc k) hk hx hz (brief p g hx q))
            (next_joined x k z hx hk hz) in
            raised (under exactly both)
            (i.smaller (λ c m o.
            by_at_most {c = num (pos zero)} (under {c = num (pos zero)} ((fair_after k (omega arith)).diagonal k hk) (before k k c m hk hk o))))

    -- no cell exceeds the total of a walk of given edges
    pub walk_exact : {x z : ℕ} {s : ℤ} → x < p.points → z < p.points → Walk (Given p) x z s
        → table_of r p.points (join_all r p.points t) x z ≤ᶜ num s
    unfolding after join_all
    walk_exact {x} {z} {s} hx hz k = by (walk_path p g k)
      where
        by : ((x ≡ z) × (s ≡ pos zero)) ⊎ Whole p x z s → cell p.points x z ≤ᶜ num s
        by (inl e) = rw (← e.0, e.1) (lowered_below (after_taken p.points (omega arith)).low x x hx hx (num (pos zero)) (diagonal x hx))
        by (inr q) = by_at_most (path_exact p.points (omega arith) x z s q.count hx hz q.path)

  -- and where nothing speaks against the plan, no cell exceeds the sum of two along a middle point
  pub warshall_joined : Fair r p.points (join_all r p.points t) → (x y z : ℕ) → x < p.points → y < p.points → z < p.points
      → table_of r p.points (join_all r p.points t) x z
      ≤ᶜ (table_of r p.points (join_all r p.points t) x y +ᶜ table_of r p.points (join_all r p.points t) y z)
  warshall_joined fair x y z hx hy hz =
      let at : ℕ → ℕ → Cell = table_of r p.points (join_all r p.points t) in
      let joined : Walked (Given p) r p.points (join_all r p.points t) = (joins_keep (Given p) r h p.points t w).holds in
      under_walks (Given p) x z (at x z) (at x y +ᶜ at y z)
      (has_sum (Given p) x y z (at x y) (at y z) (joined.has x y hx hy) (joined.has y z hy hz)) (λ s k. walk_exact fair hx hz k)
