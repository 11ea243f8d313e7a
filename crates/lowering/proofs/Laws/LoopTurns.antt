-- Laws that the walks through the code cite: one lowering, a row that a mark leaves alone, and the turns of a loop that applies a step for each
-- of some numbers, or for each below m. Over any coherent ranges, so at any width. Assumes nothing.
use mathlib.Core.Path.{◌≡◌, refl, sym, ap, ◌∙◌}
use mathlib.Core.List.{List}
use Prim.Native.Nat.{ℕ, zero, suc, ◌+◌, ◌*◌, ◌≤◌, ◌<◌}
use native.Mathlib.Numerals.{add-one}
use native.Mathlib.Omega.{arith}
use lib.ListN.{get_or, set}
use lib.Seq.{set-get_or}
use lib.IntN.{ℤ, pos}
use Rattle.rules.specs.Plan.{Ranges}
use Rattle.rules.specs.Cells.{Cell, mark, ◌+ᶜ◌, cell_of, table_of}
use Rattle.cell.specs.Steps.{smallerᶜ, Stored, clamped}
use Rattle.lowering.specs.Table.{Sound}
use Rattle.lowering.specs.Sweep.{iter, Between, lower_cell, join_cell, join_row}
use Rattle.cell.proofs.StoredCells.{number_back}
use Rattle.lowering.proofs.Theory.LoweredTables.{Lowered, Lowers, lowered_refl, lowered_trans, iter_lowered}

-- a cell read, the new one stored if it is smaller, and written: one lowering
pub lowering_is : (r : Ranges) (n x y : ℕ) (c : Cell) (t u : List ℤ) (old kept new : ℤ) → old ≡ get_or t (x * n + y) (pos zero)
    → cell_of r.mark kept ≡ clamped r.reach c → cell_of r.mark new ≡ smallerᶜ (cell_of r.mark kept) (cell_of r.mark old)
    → u ≡ set t (x * n + y) new → u ≡ lower_cell r n x y c t
unfolding lower_cell table_of
lowering_is r n x y c t u old kept new eo ek en eu = rw (← eo, ← ek, ← en, number_back r.mark new) eu

-- a number read out of a table is one that a sweep stores
pub read_stored : (r : Ranges) (n x y : ℕ) (t : List ℤ) (v : ℤ) → Sound r n t → x < n → y < n → v ≡ get_or t (x * n + y) (pos zero)
    → Stored r.reach (cell_of r.mark v)
unfolding table_of
read_stored r n x y t v s hx hy e = rw e (s.stored x y hx hy)

-- and it is the table's cell
pub read_cell : (r : Ranges) (n x y : ℕ) (t : List ℤ) (v : ℤ) → v ≡ get_or t (x * n + y) (pos zero) → cell_of r.mark v ≡ table_of r n t x y
unfolding table_of
read_cell r n x y t v e = ap (cell_of r.mark) e

-- a cell of the middle's row added and the row's cell lowered to the sum: one join
pub join_cell_is : (r : Ranges) (n y x z : ℕ) (a : Cell) (t u : List ℤ) (c sum : ℤ) → c ≡ get_or t (y * n + z) (pos zero)
    → cell_of r.mark sum ≡ a +ᶜ cell_of r.mark c → u ≡ lower_cell r n x z (cell_of r.mark sum) t → u ≡ join_cell r n y x a z t
unfolding join_cell table_of
join_cell_is r n y x z a t u c sum ec es eu = rw (← ec, ← es) eu

-- the row's joins with the cell to the middle as it was read
pub join_row_is : (r : Ranges) (n y x : ℕ) (t u : List ℤ) (a : ℤ) → a ≡ get_or t (x * n + y) (pos zero)
    → u ≡ iter (join_cell r n y x (cell_of r.mark a)) n t → u ≡ join_row r n y x t
unfolding join_row table_of
join_row_is r n y x t u a ea eu = rw (← ea) eu

-- lowering a cell to the mark changes nothing
pub lowering_to_mark : (r : Ranges) (n x y : ℕ) (t : List ℤ) → lower_cell r n x y mark t ≡ t
unfolding lower_cell table_of
lowering_to_mark r n x y t = ap (set t (x * n + y)) (number_back r.mark (get_or t (x * n + y) (pos zero))) ∙ set-get_or t (x * n + y) (pos zero)

-- a row whose cell to the middle was read as the mark stays as it is
pub row_at_mark : (r : Ranges) (n y x : ℕ) (t : List ℤ) (a : ℤ) → a ≡ get_or t (x * n + y) (pos zero) → cell_of r.mark a ≡ mark → t ≡ join_row r n y x t
unfolding join_row join_cell
row_at_mark r n y x t a ea e = rw (sym (read_cell r n x y t a ea) ∙ e) (sym (all n))
  where
    all : (m : ℕ) → iter (join_cell r n y x mark) m t ≡ t
    all zero = refl
    all (suc m) = lowering_to_mark r n x m (iter (join_cell r n y x mark) m t) ∙ all m

-- ---- the turns of a loop that applies a step f to a table

-- a loop over the numbers from the first on and before the last has come to i
pub record Stretch (r : Ranges) (n : ℕ) (f : ℕ → List ℤ → List ℤ) (first last i : ℕ) (start now : List ℤ) : Type 0 where
  pub bound : i ≤ last
  pub is : Between f first i start now
  pub lowered : Lowered r n start now

module _ {r : Ranges} {n : ℕ} {f : ℕ → List ℤ → List ℤ} where
  -- no turn yet
  pub stretch_none : {first last : ℕ} {t : List ℤ} → first ≤ last → Sound r n t → Stretch r n f first last first t t
  stretch_none {t = t} h s = record { bound = h; is = λ u e. e; lowered = lowered_refl r n t s }

  module _ {first last i : ℕ} {start now : List ℤ} where
    -- one more
    pub stretch_more : {m : ℕ} {next : List ℤ} → Lowers r n m f → last ≤ m → Stretch r n f first last i start now → i < last → next ≡ f i now
        → Stretch r n f first last (i + 1) start next
    stretch_more l hm t h e =
        record {
          bound = omega arith;
          is = λ s q. rw (add-one i) (e ∙ ap (f i) (t.is s q));
          lowered = rw e (lowered_trans r n start now (f i now) t.lowered (l i (omega arith) now t.lowered.sound));
        }

    -- all of them
    pub stretch_all : Stretch r n f first last i start now → last ≤ i → Between f first last start now
    stretch_all t h s q =
        let e : i ≡ last = omega (arith, t.bound) in
        rw (← e) (t.is s q)

-- a loop over the numbers below m has come to i
abbrev pub Turns : Ranges → ℕ → ℕ → (ℕ → List ℤ → List ℤ) → ℕ → List ℤ → List ℤ → Type 0
Turns r n m f i start now = Stretch r n f 0 m i start now

module _ {r : Ranges} {n m : ℕ} {f : ℕ → List ℤ → List ℤ} where
  pub turns_none : {t : List ℤ} → Sound r n t → Turns r n m f 0 t t
  turns_none s = stretch_none (omega arith) s

  module _ {i : ℕ} {start now : List ℤ} where
    pub turns_more : {next : List ℤ} → Lowers r n m f → Turns r n m f i start now → i < m → next ≡ f i now → Turns r n m f (i + 1) start next
    turns_more l t h e = stretch_more l (omega arith) t h e

    pub turns_all : Turns r n m f i start now → m ≤ i → now ≡ iter f m start
    turns_all t h = stretch_all t h start refl

-- ---- steps before one, that one, and those after it

module _ {r : Ranges} {n m : ℕ} {f : ℕ → List ℤ → List ℤ} (l : Lowers r n m f) {i : ℕ} (h : i < m) {t u : List ℤ} (s : Sound r n t)
    (before : Between f 0 i t u) where
  iter_before : u ≡ iter f i t
  iter_before = before t refl

  pub before_sound : Sound r n u
  before_sound = rw iter_before (iter_lowered r n i f (λ j q. l j (omega arith)) t s).sound

  module _ {v : List ℤ} (one : v ≡ f i u) where
    pub here_sound : Sound r n v
    here_sound = rw one (l i h u before_sound).sound

    pub and_after : {w : List ℤ} → Between f (i + 1) m v w → w ≡ iter f m t
    and_after after = after t (rw (add-one i) (one ∙ ap (f i) iter_before))
