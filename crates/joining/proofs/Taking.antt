-- What a step does to a lent table: one cell written, the turns of a loop, a row that a mark leaves alone. At either width. Assumes nothing.
use mathlib.Core.Path.{◌≡◌, refl, ap, ◌∙◌}
use mathlib.Core.List.{List}
use Prim.Native.Nat.{ℕ, ◌+◌, ◌*◌, ◌<◌, ◌≤◌}
use native.Mathlib.Numerals.{add-one}
use lib.ListN.{get_or}
use lib.IntN.{ℤ, pos}
use mir.Syntax.{Width, w32}
use mir.Val.{SFits, to_z, of_z}
use Rattle.whole.proofs.Bits.{signed, back}
use Rattle.whole.proofs.Order.{ints, neg}
use Rattle.rules.specs.Plan.{Ranges, Limit, version1, LimitInRange}
use Rattle.rules.specs.Cells.{Cell, mark, num, ◌+ᶜ◌, cell_of}
use Rattle.rules.proofs.Coherence.{Coherent}
use Rattle.cell.proofs.CellMethods.{Room, number_between}
use Rattle.cell.specs.declared.word.Word.{Ghosts}
use Rattle.lowering.specs.Table.{Sound}
use Rattle.lowering.specs.Sweep.{iter, lower_cell, join_cell, join_row}
use Rattle.lowering.proofs.Laws.LoopTurns.{join_cell_is, join_row_is, row_at_mark}
use Rattle.lowering.proofs.Theory.LoweredTables.{cell_lowered}
use Rattle.joining.specs.declared.table.Table.{Table}
use Rattle.joining.specs.Takes.{Takes}

-- a table stays sound where one cell is lowered
pub lower_sound : {r : Ranges} → Coherent r → {n x y : ℕ} {t u : List ℤ} (c : Cell) → Sound r n t → x < n → y < n → u ≡ lower_cell r n x y c t → Sound r n u
lower_sound {r} h {n} {x} {y} {t} c s hx hy e = rw e (cell_lowered r h n x y c t hx hy s).sound

module _ {W : Type 0} {w : Ghosts W} where
  -- nothing done
  pub takes_none : {f : List ℤ → List ℤ} {t : Table W w} → w.values t.cells.now ≡ f (w.values t.cells.now) → Takes f t t
  takes_none e = record { same_list = refl; same_size = refl; cells = e }

  -- one step after another, the second of which depends on the size
  pub takes_then : (F : ℕ → List ℤ → List ℤ) {f : List ℤ → List ℤ} {t u v : Table W w} → Takes f t u → Takes (F u.n) u v → Takes (λ l. F t.n (f l)) t v
  takes_then F {t = t} {u} a b =
      record {
        same_list = b.same_list ∙ a.same_list;
        same_size = b.same_size ∙ a.same_size;
        cells = b.cells ∙ (ap (λ n. F n (w.values u.cells.now)) a.same_size ∙ ap (F t.n) a.cells);
      }

  -- a loop that takes a step for each number has come to i
  pub record Turned (f : ℕ → List ℤ → List ℤ) (i : ℕ) (before after : Table W w) : Type 0 where
    pub same_list : after.cells.ghost_name ≡ before.cells.ghost_name
    pub same_size : after.n ≡ before.n
    pub cells : w.values after.cells.now ≡ iter f i (w.values before.cells.now)

  -- one turn more, of a step that depends on the size
  pub turned_more : (F : ℕ → ℕ → List ℤ → List ℤ) {i : ℕ} {t u v : Table W w} → Turned (F t.n) i t u → Takes (F u.n i) u v → Turned (F t.n) (i + 1) t v
  turned_more F {i} {t} {u} {v} a b =
      record {
        same_list = b.same_list ∙ a.same_list;
        same_size = b.same_size ∙ a.same_size;
        cells = rw (add-one i) (b.cells ∙ (ap (λ n. F n i (w.values u.cells.now)) a.same_size ∙ ap (F t.n i) a.cells));
      }

  -- all turns
  pub turned_all : {f : ℕ → List ℤ → List ℤ} (m : ℕ) {i : ℕ} {t u : Table W w} → Turned f i t u → i ≡ m → Takes (iter f m) t u
  turned_all m a e = record { same_list = a.same_list; same_size = a.same_size; cells = rw (← e) a.cells }

  -- a cell of the middle's row added and the row's cell lowered to the sum
  pub takes_cell : {t u : Table W w} (y x z : ℕ) (a : Cell) {c : ℤ} (sum : ℤ) → c ≡ get_or (w.values t.cells.now) (y * t.n + z) (pos 0)
      → cell_of w.ranges.mark sum ≡ a +ᶜ cell_of w.ranges.mark c → Takes (lower_cell w.ranges t.n x z (cell_of w.ranges.mark sum)) t u
      → Takes (join_cell w.ranges t.n y x a z) t u
  takes_cell {t} {u} y x z a {c} sum ec es k =
      record {
        same_list = k.same_list;
        same_size = k.same_size;
        cells = join_cell_is w.ranges t.n y x z a (w.values t.cells.now) (w.values u.cells.now) c sum ec es k.cells;
      }

  -- a row with the cell to the middle as it was read
  pub takes_row : {t u : Table W w} (y x : ℕ) {a : ℤ} → a ≡ get_or (w.values t.cells.now) (x * t.n + y) (pos 0)
      → Takes (iter (join_cell w.ranges t.n y x (cell_of w.ranges.mark a)) t.n) t u → Takes (join_row w.ranges t.n y x) t u
  takes_row {t} {u} y x {a} ea k =
      record {
        same_list = k.same_list;
        same_size = k.same_size;
        cells = join_row_is w.ranges t.n y x (w.values t.cells.now) (w.values u.cells.now) a ea k.cells;
      }

  -- a row whose cell to the middle is the mark
  pub takes_mark : {t : Table W w} (y x : ℕ) {a : ℤ} → a ≡ get_or (w.values t.cells.now) (x * t.n + y) (pos 0) → cell_of w.ranges.mark a ≡ mark
      → Takes (join_row w.ranges t.n y x) t t
  takes_mark {t} y x {a} ea e = takes_none (row_at_mark w.ranges t.n y x (w.values t.cells.now) a ea e)

-- the cell of a limit of a plan file, read from its field, at ranges whose weights are as large
pub limit_number : {w : Width} {r : Ranges} → Room w r → version1.weight ≤ r.weight → {n : ℕ} {l : Limit} → LimitInRange version1 n l
    → {v : ℤ} → v ≡ to_z w32 (of_z w32 l.weight) → cell_of r.mark v ≡ num l.weight
unfolding version1
limit_number {r = r} room h {l = l} k e =
    let fits : SFits w32 l.weight = omega (signed, neg (pos version1.weight), k.least, k.most) in
    rw (e, back fits)
    (number_between room {v = l.weight} (omega (ints, neg (pos version1.weight), neg (pos r.weight), k.least, h)) (omega (ints, k.most, h)))
