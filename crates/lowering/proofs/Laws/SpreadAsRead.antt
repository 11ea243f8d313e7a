-- Laws that the walks through the spreading of an edge cite: the tests and the cells that the code reads are those of the functions of lists. Over any
-- ranges. Assumes nothing.
use mathlib.Core.Path.{◌≡◌, sym, ap, ◌∙◌}
use mathlib.Core.Bool.{Bool, true, false}
use mathlib.Core.List.{List}
use Prim.Native.Nat.{ℕ, zero, ◌+◌, ◌*◌}
use lib.ListN.{get_or}
use lib.IntN.{ℤ, pos}
use Rattle.rules.specs.Plan.{Ranges}
use Rattle.rules.specs.Cells.{Cell, num, ◌+ᶜ◌, cell_of, table_of}
use Rattle.cell.specs.Steps.{belowᶜ, Stored, Summed, clamped}
use Rattle.cell.proofs.CellMethods.{summed}
use Rattle.cell.proofs.StoredCells.{clamped_stored}
use Rattle.lowering.specs.Sweep.{lower_cell}
use Rattle.lowering.specs.Spread.{row_by, spread_row, spread_all, take_edge, new_edge}

-- a way of two cells is a sum of two
pub way_summed : (reach : ℕ) (c w : Cell) {way : Cell} → way ≡ c +ᶜ w → Stored reach c → Stored reach w → Summed reach way
way_summed reach c w e s t = rw e (summed reach c w s t)

-- a cell as a sweep stores it is one that it holds
pub kept_stored : (reach : ℕ) (c : Cell) {w : Cell} → w ≡ clamped reach c → Stored reach w
kept_stored reach c e = rw e (clamped_stored reach c)

module _ (r : Ranges) (n a b : ℕ) (t : List ℤ) where
  -- a row, with its cell to the edge, the way over the edge and its cell to the end as they were read
  module _ (w : Cell) (x : ℕ) (c way old : ℤ) {f : Bool} (ec : c ≡ get_or t (x * n + a) (pos zero)) (ew : cell_of r.mark way ≡ cell_of r.mark c +ᶜ w)
      (eo : old ≡ get_or t (x * n + b) (pos zero)) (ef : f ≡ belowᶜ (cell_of r.mark way) (cell_of r.mark old)) where
    -- one that the edge shortens is taken by the way
    pub spread_row_is : {u : List ℤ} → f ≡ true → u ≡ row_by r n b x (cell_of r.mark way) t → u ≡ spread_row r n a b w x t
    unfolding spread_row table_of
    spread_row_is h eu = rw (← ec, ← eo, ← ew, sym ef ∙ h) eu

    -- any other stays
    pub spread_row_stays : f ≡ false → t ≡ spread_row r n a b w x t
    unfolding spread_row table_of
    spread_row_stays h = rw (← ec, ← eo, ← ew, sym ef ∙ h)

  -- an edge, with the cell back, the way around and 0 as they were read
  module _ (w : Cell) (c around none : ℤ) {f : Bool} (ec : c ≡ get_or t (b * n + a) (pos zero)) (ea : cell_of r.mark around ≡ w +ᶜ cell_of r.mark c)
      (en : cell_of r.mark none ≡ num (pos zero)) (ef : f ≡ belowᶜ (cell_of r.mark around) (cell_of r.mark none)) {u : List ℤ} where
    -- one that closes a walk below 0
    pub take_edge_closes : f ≡ true → u ≡ lower_cell r n a a (cell_of r.mark around) t → u ≡ take_edge r n a b w t
    unfolding take_edge table_of
    take_edge_closes h eu = rw (← ec, ← ea, ← en, sym ef ∙ h) eu

    -- any other
    pub take_edge_spreads : f ≡ false → u ≡ spread_all r n a b w t → u ≡ take_edge r n a b w t
    unfolding take_edge table_of
    take_edge_spreads h eu = rw (← ec, ← ea, ← en, sym ef ∙ h) eu

  -- an edge as it is stored, with the cell that it may lower as it was read
  module _ (c : Cell) (w old : ℤ) {f : Bool} (ew : cell_of r.mark w ≡ clamped r.reach c) (eo : old ≡ get_or t (a * n + b) (pos zero))
      (ef : f ≡ belowᶜ (cell_of r.mark w) (cell_of r.mark old)) where
    -- one that lowers its cell
    pub new_edge_is : {u : List ℤ} → f ≡ true → u ≡ take_edge r n a b (cell_of r.mark w) t → u ≡ new_edge r n a b c t
    unfolding new_edge table_of
    new_edge_is h eu = rw (← eo, ← ew, sym ef ∙ h) eu

    -- and one that does not
    pub new_edge_stays : f ≡ false → t ≡ new_edge r n a b c t
    unfolding new_edge table_of
    new_edge_stays h = rw (← eo, ← ew, sym ef ∙ h)

  -- an edge of what a rule yields
  pub edge_by : (u : List ℤ) (v : ℤ) {c : Cell} → cell_of r.mark v ≡ c → u ≡ new_edge r n a b (cell_of r.mark v) t → u ≡ new_edge r n a b c t
  edge_by u v e l = l ∙ ap (λ (d : Cell). new_edge r n a b d t) e
