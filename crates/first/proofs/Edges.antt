-- The numbers of a link's edges, as they are passed, and both edges one after the other. Assumes nothing.
use mathlib.Core.Path.{◌≡◌, refl, ap, ◌∙◌}
use Prim.Native.Nat.{ℕ, ◌≤◌}
use lib.IntN.{ℤ, pos, neg_ℤ}
use mir.Syntax.{w32}
use mir.Val.{SFits, to_z, of_z}
use Rattle.whole.proofs.Bits.{signed, back}
use Rattle.rules.specs.Plan.{Link, version1}
use Rattle.rules.specs.Cells.{num, cell_of}
use Rattle.cell.specs.Steps.{cell32}
use Rattle.cell.specs.Widths.{room32}
use Rattle.cell.specs.declared.word.Word.{Ghosts}
use Rattle.cell.proofs.CellMethods.{weight_is, minus_is, negation_fits}
use Rattle.lowering.specs.Sweep.{lower_cell, link_edges}
use Rattle.lowering.proofs.Laws.FirstAsRead.{edges_are}
use Rattle.joining.specs.declared.table.Table.{Table}
use Rattle.joining.specs.Takes.{Takes}

module _ {n : ℕ} (h : n ≤ version1.weight) {v : ℤ} (e : v ≡ pos n) where
  -- a span
  span_same : to_z w32 (of_z w32 v) ≡ pos n
  unfolding version1
  span_same =
      let fits : SFits w32 (pos n) = omega (signed, h) in
      rw (e, back fits)

  pub span_passed : cell32 (to_z w32 (of_z w32 v)) ≡ num (pos n)
  span_passed = weight_is room32 h span_same

  -- and a span negated
  pub minus_passed : {u : ℤ} → u ≡ neg_ℤ (to_z w32 (of_z w32 v)) → cell32 (to_z w32 (of_z w32 u)) ≡ num (neg_ℤ (pos n))
  minus_passed f = rw (f, span_same, back (negation_fits room32 h)) (minus_is room32 h refl)

-- the cell of the longest span lowered, and then that of the shortest
pub edges_taken : {W : Type 0} {w : Ghosts W} {t u v : Table W w} (a : Link) (long short : ℤ) → cell_of w.ranges.mark long ≡ num (pos a.long)
    → cell_of w.ranges.mark short ≡ num (neg_ℤ (pos a.short)) → Takes (lower_cell w.ranges t.n a.act a.con (cell_of w.ranges.mark long)) t u
    → Takes (lower_cell w.ranges u.n a.con a.act (cell_of w.ranges.mark short)) u v → Takes (link_edges w.ranges t.n a) t v
edges_taken {w = w} {t} {u} {v} a long short el es k l =
    let again = ap (λ n. lower_cell w.ranges n a.con a.act (cell_of w.ranges.mark short) (w.values u.cells.now)) k.same_size in
    record {
      same_list = l.same_list ∙ k.same_list;
      same_size = l.same_size ∙ k.same_size;
      cells =
          edges_are w.ranges t.n a (w.values t.cells.now) (w.values u.cells.now) (w.values v.cells.now) long short el es k.cells (l.cells ∙ again);
    }
