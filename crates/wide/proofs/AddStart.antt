-- Add's sweep starts from the strict cells and the new limit, at 64 bits. For closed tables of a plan in range that is a start for Add's plan: every cell
-- has its walk, every given edge is held, the diagonals are 0. Assumes nothing.
use mathlib.Core.Path.{◌≡◌, refl, sym, subst, ◌∙◌}
use mathlib.Core.Logic.{⊎_elim}
use mathlib.Core.List.Memᴰ
use mathlib.Core.List.{List, Memᴰ}
use Prim.Native.Nat.{ℕ, zero, ◌*◌, ◌≤◌, ◌<◌}
use native.Mathlib.Decide.{ℕ_discrete}
use native.Mathlib.Omega.{arith}
use lib.ListN.{length}
use lib.IntN.{ℤ, pos, neg_ℤ}
use lib.Signed.{◌≤ℤ◌, ≤ℤ_refl}
use Rattle.whole.proofs.Order.{ints, neg}
use Rattle.rules.specs.Plan.{Limit, Plan, version1, LimitInRange, InRange}
use Rattle.rules.specs.Edges as edges
use Rattle.rules.specs.Edges.{Given, Derivable, Open}
use Rattle.rules.specs.Walks.{stay}
use Rattle.rules.specs.Cells.{Cell, mark, num, ◌≤ᶜ◌, Within, Table, table_of}
use Rattle.rules.specs.Tables.{Closed}
use Rattle.rules.specs.Additions.{with_cells}
use Rattle.rules.proofs.Cells.{same_number}
use Rattle.rules.proofs.Walks.{single, Dominated, exactly}
use Rattle.rules.proofs.Points.{Pointed, Weighted, Ends, given_ends, in_range_pointed, in_range_weighted}
use Rattle.rules.proofs.CellLimits.{FromCell, table_limit, table_has, cells_pointed}
use Rattle.cell.specs.Steps.{adding, Stored}
use Rattle.cell.specs.Widths.{adding_coherent, adding_weights}
use Rattle.cell.proofs.StoredCells.{clamped_within}
use Rattle.lowering.specs.Sweep.{limit_cell, first_open, mark_all}
use Rattle.lowering.proofs.Theory.LoweredTables.{lowered_below, cell_down}
use Rattle.lowering.proofs.Theory.WalksKept.{Has, Walked}
use Rattle.lowering.proofs.Theory.StepsTaken.{Taken, keeps}
use Rattle.lowering.proofs.Theory.SweepsTaken.{strict_cells, open_cells}
use Rattle.lowering.proofs.Theory.FirstTables.{marks_walked, diagonal_steps, diagonal_below}
use Rattle.lowering.proofs.Theory.SweepsEnd.{Going}

-- a cell of closed tables is one that the wide sweep stores
pub within_wide : (c : Cell) → Within version1.reach c → Stored adding.reach c
unfolding version1 adding
within_wide mark w = tt
within_wide (num c) w = (omega (ints, w.0, neg (pos 63_000_000)), omega (ints, w.1))

-- a number is in a range that holds it
in_wide : {a b : ℕ} {w : ℤ} → a ≤ b → neg_ℤ (pos a) ≤ℤ w → neg_ℤ (pos b) ≤ℤ w
in_wide {a} {b} h l = omega (ints, neg (pos a), neg (pos b))

-- the closed range is the largest weight that Add meets
reach_held : version1.reach ≤ adding.weight
unfolding version1 adding
reach_held = omega arith

pub few_points : version1.points ≤ adding.points
unfolding version1 adding
few_points = omega arith

module _ (p : Plan) (g : InRange version1 p) (strict weak : Table) (c : Closed version1 p strict weak) (m : Limit)
    (i : LimitInRange version1 p.points m) where
  -- it names points below n
  pub added_pointed : Pointed (with_cells p strict m)
  added_pointed = cells_pointed p strict m (in_range_pointed g) i.from i.to

  -- a number within the closed range is a weight
  cell_weight : (d : Cell) (w : ℤ) → d ≡ num w → Within version1.reach d → (neg_ℤ (pos adding.weight) ≤ℤ w) × (w ≤ℤ pos adding.weight)
  cell_weight d w e h =
      let k : Within version1.reach (num w) = subst (Within version1.reach) e h in
      (in_wide reach_held k.0, omega (ints, k.1, reach_held))

  from_cell : (l : Limit) → FromCell strict p.points p.points l → (neg_ℤ (pos adding.weight) ≤ℤ l.weight) × (l.weight ≤ℤ pos adding.weight)
  from_cell l f =
      cell_weight (strict l.from l.to) l.weight f.cell (c.strict_within l.from l.to f.row_below f.column_below)

  new_limit : (l : Limit) → l ≡ m → (neg_ℤ (pos adding.weight) ≤ℤ l.weight) × (l.weight ≤ℤ pos adding.weight)
  new_limit l e = rw e (in_wide adding_weights i.least, omega (ints, i.most, adding_weights))

  limit_weight : (l : Limit) → Memᴰ l (with_cells p strict m).limits
      → (neg_ℤ (pos adding.weight) ≤ℤ l.weight) × (l.weight ≤ℤ pos adding.weight)
  limit_weight l h =
      ⊎_elim (new_limit l) (λ k. from_cell l (table_limit strict p.points p.points k)) (Memᴰ.cases_cons h)

  -- and its weights are bounded by the closed range
  pub added_weighted : Weighted adding.weight (with_cells p strict m)
  added_weighted =
      record {
        limit_least = λ l h. (limit_weight l h).0;
        limit_most = λ l h. (limit_weight l h).1;
        short_most = λ k h. omega (arith, (in_range_weighted g).short_most k h, adding_weights);
        long_most = λ k h. omega (arith, (in_range_weighted g).long_most k h, adding_weights);
      }

  -- a strict cell has its walk in Add's plan: it is a limit, or the empty walk
  cell_has : (x y : ℕ) → x < p.points → y < p.points → (d : Cell) → strict x y ≡ d → Has (Derivable (with_cells p strict m)) x y d
  cell_has x y hx hy mark e = tt
  cell_has x y hx hy (num w) e = by (ℕ_discrete x y)
    where
      by : Dec (x ≡ y) → Dominated (Derivable (with_cells p strict m)) x y w
      by (yes k) =
          let z : num (pos zero) ≡ num w = sym (c.strict_diagonal x hx) ∙ subst (λ (v : ℕ). strict x v ≡ num w) (sym k) e in
          subst (λ (v : ℕ). Dominated (Derivable (with_cells p strict m)) x v w) k
          (subst (λ (v : ℤ). Dominated (Derivable (with_cells p strict m)) x x v) (same_number z) (exactly stay))
      by (no ne) =
          exactly (single (edges.given (edges.limit (Memᴰ.tail (table_has strict x y p.points p.points w hx hy ne e)))))

  module _ (u : List ℤ) (room : p.points * p.points ≤ length u)
      (same : (x y : ℕ) → x < p.points → y < p.points → table_of adding p.points u x y ≡ strict x y) where
    -- the cells at 64 bits
    cells_walked : Walked (Derivable (with_cells p strict m)) adding p.points u
    cells_walked =
        record {
          sound = record {
            room = room;
            stored = λ x y hx hy. subst (Stored adding.reach) (sym (same x y hx hy)) (within_wide (strict x y) (c.strict_within x y hx hy));
          };
          has = λ x y hx hy.
              subst (Has (Derivable (with_cells p strict m)) x y) (sym (same x y hx hy)) (cell_has x y hx hy (strict x y) refl);
        }

    -- and with the new limit
    limit_has : Has (Derivable (with_cells p strict m)) m.from m.to (num m.weight)
    limit_has = exactly (single (edges.given (edges.limit (Memᴰ.head refl))))

    start_taken : Taken (Walked (Derivable (with_cells p strict m)) adding p.points) adding p.points u (limit_cell adding p.points m u)
    unfolding limit_cell
    start_taken =
        (strict_cells (with_cells p strict m) adding adding_coherent).puts m.from m.to (num m.weight) i.from i.to limit_has u cells_walked

    abbrev after : ℕ → ℕ → Cell
    after x y = table_of adding p.points (limit_cell adding p.points m u) x y

    -- a cell after the limit is at most what the strict one is, at most each edge given before, and at most the limit
    under_number : (x y : ℕ) (w : ℤ) → x < p.points → y < p.points → strict x y ≤ᶜ num w → after x y ≤ᶜ num w
    under_number x y w hx hy h = lowered_below start_taken.low x y hx hy (num w) (rw (same x y hx hy) h)

    under_given : {x y : ℕ} {w : ℤ} → Given p x y w → after x y ≤ᶜ num w
    under_given {x} {y} {w} e =
        let q : Ends p x y = given_ends p (in_range_pointed g) e in
        under_number x y w q.from q.to (c.given x y w e)

    new_below : after m.from m.to ≤ᶜ num m.weight
    unfolding limit_cell
    new_below =
        rw (clamped_within adding.reach (num m.weight)
        (in_wide adding_coherent.holds_weight (new_limit m refl).0, omega (ints, (new_limit m refl).1, adding_coherent.holds_weight)))
        at (cell_down adding adding_coherent p.points m.from m.to (num m.weight) u i.from i.to cells_walked.sound)

    limit_below : (l : Limit) → Memᴰ l (with_cells p strict m).limits → after l.from l.to ≤ᶜ num l.weight
    limit_below l h =
        ⊎_elim (λ e. subst (λ (k : Limit). after k.from k.to ≤ᶜ num k.weight) (sym e) new_below)
        (λ k.
        let f : FromCell strict p.points p.points l = table_limit strict p.points p.points k in
        under_number l.from l.to l.weight f.row_below f.column_below (rw f.cell (≤ℤ_refl l.weight)))
        (Memᴰ.cases_cons h)

    pub start_below : (x y : ℕ) (w : ℤ) → Given (with_cells p strict m) x y w
        → table_of adding p.points (limit_cell adding p.points m u) x y ≤ᶜ num w
    start_below x y w (edges.limit {m = l} h) = limit_below l h
    start_below x y w (edges.start h) = under_given (edges.start h)
    start_below x y w (edges.longest h) = under_given (edges.longest h)
    start_below x y w (edges.shortest h) = under_given (edges.shortest h)

    -- Add's sweeps start
    pub start_going : (v : List ℤ) → p.points * p.points ≤ length v
        → Going (with_cells p strict m) adding (limit_cell adding p.points m u) (first_open adding p.points v)
    unfolding first_open
    start_going v vr =
        let marked : Walked (Open (with_cells p strict m)) adding p.points (mark_all adding (p.points * p.points) v) =
        marks_walked (Open (with_cells p strict m)) adding p.points v vr in
        record {
          strict_walks = start_taken.holds;
          open_walks =
              (keeps (open_cells (with_cells p strict m) adding adding_coherent)
              (diagonal_steps (Open (with_cells p strict m)) adding adding_coherent p.points) (mark_all adding (p.points * p.points) v) marked).holds;
          given_below = start_below;
          strict_diagonal = λ x hx. under_number x x (pos zero) hx hx (rw (c.strict_diagonal x hx) (≤ℤ_refl (pos zero)));
          open_diagonal =
              diagonal_below (Open (with_cells p strict m)) adding adding_coherent p.points (mark_all adding (p.points * p.points) v) marked;
        }
