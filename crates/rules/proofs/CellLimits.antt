-- Cells as limits: the limits made of a table's cells are those cells, and a plan with one limit more and the plan of its strict cells with that
-- limit dominate each other. Assumes nothing.
use mathlib.Core.Path.{◌≡◌, refl, sym, ap, subst, ◌∙◌}
use mathlib.Core.Logic.{◌≢◌, ⊎_elim}
use mathlib.Core.Bool.{Bool, true, false, cond}
use mathlib.Core.List.Memᴰ
use mathlib.Core.List.{[], ◌++◌, Memᴰ}
use Prim.Native.Nat.{ℕ, zero, suc, ◌<◌}
use native.Mathlib.Nat.{not-suc-le-zero}
use native.Mathlib.Omega.{arith}
use native.Mathlib.Decide.{ℕ_discrete}
use lib.Dec.{T, eqb, eqb→eq, eqb_refl}
use lib.IntN.{ℤ, pos}
use lib.Signed.{◌≤ℤ◌}
use Rattle.rules.specs.Plan.{Limit, Link, Plan}
use Rattle.rules.specs.Edges as edges
use Rattle.rules.specs.Edges.{Given, limit, start, longest, shortest, Derivable}
use Rattle.rules.specs.Walks.{Walk, stay}
use Rattle.rules.specs.Cells.{Cell, mark, num, Table}
use Rattle.rules.specs.Tables.{Least, Tables}
use Rattle.rules.specs.Additions.{cell_limit, row_limits, table_limits, with_cells, with_limit}
use Rattle.rules.proofs.Cells.{AtMost, at_most, same_number}
use Rattle.rules.proofs.Walks.{single, Dominated, exactly, weaker}
use Rattle.rules.proofs.Points.{Pointed}
use Rattle.rules.proofs.Domination.{Dominates, walk_dominated}
use Rattle.rules.proofs.TablesClosed.{least_below, least_diagonal}

-- ---- the limits of a table

-- a limit that a cell off the diagonal makes
pub record FromCell (t : Table) (m n : ℕ) (l : Limit) : Type 0 where
  pub row_below : l.from < m
  pub column_below : l.to < n
  pub off_diagonal : l.from ≢ l.to
  pub cell : t l.from l.to ≡ num l.weight

-- tests of equality
eqb_no : (x y : ℕ) → eqb x y ≡ false → x ≢ y
eqb_no x y e h = subst T (sym (ap (eqb x) (sym h)) ∙ e) (eqb_refl x)

-- a cell's limit is the cell's
cell_limit_lem : (x y : ℕ) (c : Cell) {l : Limit} → Memᴰ l (cell_limit x y c) → (l.from ≡ x) × (l.to ≡ y) × (c ≡ num l.weight)
cell_limit_lem x y mark m = absurd (Memᴰ.not-nil m)
cell_limit_lem x y (num c) {l} m =
    let e : l ≡ record { from = x; to = y; weight = c } = Memᴰ.eq_of_singleton m in
    (ap (λ (k : Limit). k.from) e, ap (λ (k : Limit). k.to) e, ap (λ (k : Limit). num k.weight) (sym e))

-- a row's limits are its cells
row_limit : (t : Table) (x n : ℕ) {l : Limit} → Memᴰ l (row_limits t x n) → FromCell t (suc x) n l × (l.from ≡ x)
unfolding row_limits
row_limit t x zero m = absurd (Memᴰ.not-nil m)
row_limit t x (suc y) {l} m =
    ⊎_elim (λ h. here (eqb x y) refl h) (λ h. below (row_limit t x y h))
    (Memᴰ.append_cases (cond (eqb x y) [] (cell_limit x y (t x y))) m)
  where
    here : (b : Bool) → eqb x y ≡ b → Memᴰ l (cond b [] (cell_limit x y (t x y))) → FromCell t (suc x) (suc y) l × (l.from ≡ x)
    here true e h = absurd (Memᴰ.not-nil h)
    here false e h =
        let c : (l.from ≡ x) × (l.to ≡ y) × (t x y ≡ num l.weight) = cell_limit_lem x y (t x y) h in
        let ne : x ≢ y = eqb_no x y e in (
          record {
            row_below = omega (arith, c.0);
            column_below = omega (arith, c.1);
            off_diagonal = λ i. ne (sym c.0 ∙ i ∙ c.1);
            cell = rw (c.0, c.1) c.2;
          },
          c.0,
        )

    below : FromCell t (suc x) y l × (l.from ≡ x) → FromCell t (suc x) (suc y) l × (l.from ≡ x)
    below h = (
      record {
        row_below = h.0.row_below;
        column_below = omega (arith, h.0.column_below);
        off_diagonal = h.0.off_diagonal;
        cell = h.0.cell;
      },
      h.1,
    )

-- a table's limits are its cells
pub table_limit : (t : Table) (n m : ℕ) {l : Limit} → Memᴰ l (table_limits t n m) → FromCell t m n l
unfolding table_limits
table_limit t n zero h = absurd (Memᴰ.not-nil h)
table_limit t n (suc x) {l} h = ⊎_elim (λ k. (row_limit t x n k).0) (λ k. below (table_limit t n x k)) (Memᴰ.append_cases (row_limits t x n) h)
  where
    below : FromCell t x n l → FromCell t (suc x) n l
    below k =
        record {
          row_below = omega (arith, k.row_below);
          column_below = k.column_below;
          off_diagonal = k.off_diagonal;
          cell = k.cell;
        }

-- every cell off the diagonal that is a number is among a row's limits
row_has : (t : Table) (x y n : ℕ) (c : ℤ) → y < n → x ≢ y → t x y ≡ num c
    → Memᴰ (record { from = x; to = y; weight = c }) (row_limits t x n)
unfolding row_limits
row_has t x y zero c h ne e = absurd (not-suc-le-zero h)
row_has t x y (suc z) c h ne e = by (ℕ_discrete y z) (λ k. row_has t x y z c k ne e)
  where
    first : (b : Bool) → eqb x z ≡ b → y ≡ z → Memᴰ (record { from = x; to = y; weight = c }) (cond b [] (cell_limit x z (t x z)))
    first true i k = absurd (ne (eqb→eq x z (rw i tt) ∙ sym k))
    first false i k =
        subst (λ (w : ℕ). Memᴰ (record { from = x; to = y; weight = c }) (cell_limit x w (t x w))) k
        (rw e (Memᴰ.head refl))

    by : Dec (y ≡ z) → (y < z → Memᴰ (record { from = x; to = y; weight = c }) (row_limits t x z))
        → Memᴰ (record { from = x; to = y; weight = c }) (cond (eqb x z) [] (cell_limit x z (t x z)) ++ row_limits t x z)
    by (yes k) more = Memᴰ.append_left (row_limits t x z) (first (eqb x z) refl k)
    by (no nk) more = Memᴰ.append_right (cond (eqb x z) [] (cell_limit x z (t x z))) (more (omega arith))

-- and among the table's
pub table_has : (t : Table) (x y n m : ℕ) (c : ℤ) → x < m → y < n → x ≢ y → t x y ≡ num c
    → Memᴰ (record { from = x; to = y; weight = c }) (table_limits t n m)
unfolding table_limits
table_has t x y n zero c h k ne e = absurd (not-suc-le-zero h)
table_has t x y n (suc z) c h k ne e = by (ℕ_discrete x z) (λ l. table_has t x y n z c l k ne e)
  where
    by : Dec (x ≡ z) → (x < z → Memᴰ (record { from = x; to = y; weight = c }) (table_limits t n z))
        → Memᴰ (record { from = x; to = y; weight = c }) (row_limits t z n ++ table_limits t n z)
    by (yes i) more =
        Memᴰ.append_left (table_limits t n z)
        (subst (λ (a : ℕ). Memᴰ (record { from = x; to = y; weight = c }) (row_limits t a n)) i (row_has t x y n c k ne e))
    by (no ni) more = Memᴰ.append_right (row_limits t z n) (more (omega arith))

-- ---- domination

-- a plan with all the limits of another, and its links, dominates it
pub includes : (p q : Plan) → p.points ≡ q.points → ((m : Limit) → Memᴰ m q.limits → Memᴰ m p.limits)
    → ((k : Link) → Memᴰ k q.links → Memᴰ k p.links) → Dominates p q
includes p q e limits links = record { links = links; given = edge }
  where
    edge : (x y : ℕ) (w : ℤ) → Given q x y w → Dominated (Derivable p) x y w
    edge x y w (limit {m} h) = exactly (single (edges.given (limit (limits m h))))
    edge x y w (start h) = exactly (single (edges.given (start (subst (λ (n : ℕ). x < n) (sym e) h))))
    edge x y w (longest {k} h) = exactly (single (edges.given (longest (links k h))))
    edge x y w (shortest {k} h) = exactly (single (edges.given (shortest (links k h))))

-- what dominates a plan that dominates a third dominates the third
pub dominates_trans : (p q s : Plan) → Dominates p q → Dominates q s → Dominates p s
dominates_trans p q s h k =
    record {
      links = λ l m. h.links l (k.links l m);
      given = λ x y w e. weaker (walk_dominated p q h (k.given x y w e).walk) (k.given x y w e).le;
    }

module _ (p : Plan) (g : Pointed p) (strict weak : Table) (t : Tables p strict weak) (m : Limit) where
  -- the plan with the limit dominates the plan of the cells with the limit: each cell is the total of a walk
  pub limit_dominates_cells : Dominates (with_limit p m) (with_cells p strict m)
  limit_dominates_cells = record { links = λ k h. h; given = edge }
    where
      more : Dominates (with_limit p m) p
      more = includes (with_limit p m) p refl (λ l h. Memᴰ.tail h) (λ k h. h)

      walk_of : (x y : ℕ) (c : Cell) (w : ℤ) → c ≡ num w → Least (Derivable p) x y c → Walk (Derivable p) x y w
      walk_of x y c w e h = let h' : Least (Derivable p) x y (num w) = subst (λ (a : Cell). Least (Derivable p) x y a) e h in h'.0

      cell : (l : Limit) → FromCell strict p.points p.points l → Dominated (Derivable (with_limit p m)) l.from l.to l.weight
      cell l f =
          walk_dominated (with_limit p m) p more
          (walk_of l.from l.to (strict l.from l.to) l.weight f.cell
          (t.strict_least l.from l.to f.row_below f.column_below))

      one : (l : Limit) → Memᴰ l (with_cells p strict m).limits
          → Dominated (Derivable (with_limit p m)) l.from l.to l.weight
      one l h =
          ⊎_elim (λ e. exactly (single (edges.given (limit (Memᴰ.head e)))))
          (λ k. cell l (table_limit strict p.points p.points k)) (Memᴰ.cases_cons h)

      edge : (x y : ℕ) (w : ℤ) → Given (with_cells p strict m) x y w → Dominated (Derivable (with_limit p m)) x y w
      edge x y w (limit {m = l} h) = one l h
      edge x y w (start h) = exactly (single (edges.given (start h)))
      edge x y w (longest h) = exactly (single (edges.given (longest h)))
      edge x y w (shortest h) = exactly (single (edges.given (shortest h)))

  -- and the other way: each limit is at least its cell, and on the diagonal at least 0
  pub cells_dominate_limit : Dominates (with_cells p strict m) (with_limit p m)
  cells_dominate_limit = record { links = λ k h. h; given = edge }
    where
      q : Plan
      q = with_cells p strict m

      below : (l : Limit) → Memᴰ l p.limits → AtMost (strict l.from l.to) l.weight
      below l h =
          at_most
          (least_below (Derivable p) l.from l.to (strict l.from l.to)
          (t.strict_least l.from l.to (g.limit_from l h) (g.limit_to l h)) (single (edges.given (limit h))))

      on_diagonal : (l : Limit) → Memᴰ l p.limits → l.from ≡ l.to → Dominated (Derivable q) l.from l.to l.weight
      on_diagonal l h e =
          let x : ℕ = l.from in
          let zero_cell : strict x x ≡ num (pos zero) = least_diagonal (Derivable p) x (strict x x) (t.strict_least x x (g.limit_from l h) (g.limit_from l h)) in
          let a : AtMost (strict x l.to) l.weight = below l h in
          let v : pos zero ≡ a.value = same_number (sym zero_cell ∙ ap (strict x) e ∙ a.is) in
          record {
            total = pos zero;
            walk = subst (λ (y : ℕ). Walk (Derivable q) x y (pos zero)) e stay;
            le = subst (λ (c : ℤ). c ≤ℤ l.weight) (sym v) a.le;
          }

      off_diagonal : (l : Limit) → Memᴰ l p.limits → l.from ≢ l.to → Dominated (Derivable q) l.from l.to l.weight
      off_diagonal l h ne =
          let a : AtMost (strict l.from l.to) l.weight = below l h in
          record {
            total = a.value;
            walk = single
                (edges.given
                (limit
                (Memᴰ.tail
                (table_has strict l.from l.to p.points p.points a.value (g.limit_from l h) (g.limit_to l h) ne a.is))));
            le = a.le;
          }

      old : (l : Limit) → Memᴰ l p.limits → Dec (l.from ≡ l.to) → Dominated (Derivable q) l.from l.to l.weight
      old l h (yes e) = on_diagonal l h e
      old l h (no ne) = off_diagonal l h ne

      one : (l : Limit) → Memᴰ l (with_limit p m).limits → Dominated (Derivable q) l.from l.to l.weight
      one l h =
          ⊎_elim (λ e. exactly (single (edges.given (limit (Memᴰ.head e))))) (λ k. old l k (ℕ_discrete l.from l.to))
          (Memᴰ.cases_cons h)

      edge : (x y : ℕ) (w : ℤ) → Given (with_limit p m) x y w → Dominated (Derivable q) x y w
      edge x y w (limit {m = l} h) = one l h
      edge x y w (start h) = exactly (single (edges.given (start h)))
      edge x y w (longest h) = exactly (single (edges.given (longest h)))
      edge x y w (shortest h) = exactly (single (edges.given (shortest h)))

-- the plan of the cells with a limit names points below n
pub cells_pointed : (p : Plan) (strict : Table) (m : Limit) → Pointed p → m.from < p.points → m.to < p.points → Pointed (with_cells p strict m)
cells_pointed p strict m g hf ht =
    record {
      some_point = g.some_point;
      limit_from = λ l h.
          ⊎_elim (λ e. subst (λ (k : Limit). k.from < p.points) (sym e) hf) (λ k. (table_limit strict p.points p.points k).row_below)
          (Memᴰ.cases_cons h);
      limit_to = λ l h.
          ⊎_elim (λ e. subst (λ (k : Limit). k.to < p.points) (sym e) ht) (λ k. (table_limit strict p.points p.points k).column_below)
          (Memᴰ.cases_cons h);
      link_act = g.link_act;
      link_con = g.link_con;
    }
