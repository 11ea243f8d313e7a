-- The measure of rounds and sweeps: lowering a table never raises the sum of its heights, and where the sum stays, the table
-- stays. Assumes nothing.
use mathlib.Core.Path.{◌≡◌, refl, sym, ap, subst}
use mathlib.Core.Logic.{⊎_elim}
use mathlib.Core.List.{List}
use Prim.Native.Nat.{ℕ, zero, suc, ◌+◌, ◌*◌, ◌≤◌, ◌<◌}
use native.Mathlib.Nat.{eq-or-lt_of_le, le_of_suc-le-suc, not-suc-le-zero}
use native.Mathlib.Omega.{arith}
use lib.ListN.{get_or}
use lib.IntN.{ℤ, pos, ◌+ℤ◌}
use lib.Signed.{◌≤ℤ◌}
use Rattle.whole.proofs.Order.{ints, plus, parts}
use Rattle.whole.proofs.Place.{inside, Spot, spot}
use Rattle.rules.specs.Plan.{Ranges}
use Rattle.rules.proofs.Lists.{same_list}
use Rattle.rules.specs.Cells.{Cell, mark, num, ◌≤ᶜ◌, cell_of, table_of}
use Rattle.cell.specs.Steps.{Stored, height}
use Rattle.lowering.specs.Sweep.{heights}
use Rattle.lowering.specs.Table.{Sound}
use Rattle.lowering.proofs.Theory.LoweredTables.{Lowered}

-- a smaller cell stands no higher
pub height_mono : (reach : ℕ) (c d : Cell) → Stored reach c → Stored reach d → c ≤ᶜ d → height reach c ≤ height reach d
height_mono reach mark mark s u h = omega arith
height_mono reach mark (num b) s u h = absurd h
height_mono reach (num a) mark s u h = omega (ints, s.0, s.1, plus a (pos (suc reach)), parts (a +ℤ pos (suc reach)))
height_mono reach (num a) (num b) s u h =
    omega
    (ints, s.0, u.0, plus a (pos (suc reach)), plus b (pos (suc reach)), parts (a +ℤ pos (suc reach)), parts (b +ℤ pos (suc reach)))

-- and lower, if it is another
pub height_same : (reach : ℕ) (c d : Cell) → Stored reach c → Stored reach d → c ≤ᶜ d → height reach d ≤ height reach c → c ≡ d
height_same reach mark mark s u h e = refl
height_same reach mark (num b) s u h e = absurd h
height_same reach (num a) mark s u h e =
    absurd (omega (ints, s.0, s.1, plus a (pos (suc reach)), parts (a +ℤ pos (suc reach))))
height_same reach (num a) (num b) s u h e =
    let low : b ≤ℤ a =
    omega
    (ints, s.0, u.0, plus a (pos (suc reach)), plus b (pos (suc reach)), parts (a +ℤ pos (suc reach)), parts (b +ℤ pos (suc reach))) in
    ap num (omega ints)

-- a cell by its index
abbrev cell : Ranges → List ℤ → ℕ → Cell
cell r t i = cell_of r.mark (get_or t i (pos zero))

-- the cells of two lists at an index: stored, and the first not above the second
record Under (r : Ranges) (u t : List ℤ) (i : ℕ) : Type 0 where
  above_stored : Stored r.reach (cell r t i)
  below_stored : Stored r.reach (cell r u i)
  below : cell r u i ≤ᶜ cell r t i

-- it stands no higher, and is the same if it stands as high
under_height : {r : Ranges} {u t : List ℤ} {i : ℕ} → Under r u t i → height r.reach (cell r u i) ≤ height r.reach (cell r t i)
under_height {r} {u} {t} {i} h = height_mono r.reach (cell r u i) (cell r t i) h.below_stored h.above_stored h.below

under_cell : {r : Ranges} {u t : List ℤ} {i : ℕ} → Under r u t i → height r.reach (cell r t i) ≤ height r.reach (cell r u i)
    → cell r u i ≡ cell r t i
under_cell {r} {u} {t} {i} h e = height_same r.reach (cell r u i) (cell r t i) h.below_stored h.above_stored h.below e

under_heights : (r : Ranges) (m : ℕ) (u t : List ℤ) → ((i : ℕ) → i < m → Under r u t i) → heights r m u ≤ heights r m t
unfolding heights
under_heights r zero u t h = omega arith
under_heights r (suc m) u t h = omega (arith, under_height (h m (omega arith)), under_heights r m u t (λ i k. h i (omega arith)))

under_same : (r : Ranges) (m : ℕ) (u t : List ℤ) → ((i : ℕ) → i < m → Under r u t i) → heights r m t ≤ heights r m u
    → (i : ℕ) → i < m → cell r u i ≡ cell r t i
unfolding heights
under_same r zero u t h e i k = absurd (not-suc-le-zero k)
under_same r (suc m) u t h e i k =
    let last : Under r u t m = h m (omega arith) in
    let q : height r.reach (cell r u m) ≤ height r.reach (cell r t m) = under_height last in
    let less : heights r m u ≤ heights r m t = under_heights r m u t (λ i k. h i (omega arith)) in
    ⊎_elim (λ j. rw j (under_cell last (omega (arith, e, q, less))))
    (λ j. under_same r m u t (λ i k. h i (omega arith)) (omega (arith, e, q, less)) i j) (eq-or-lt_of_le (le_of_suc-le-suc k))

module _ (r : Ranges) (n : ℕ) (t u : List ℤ) (s : Sound r n t) (l : Lowered r n t u) where
  by_index : (i : ℕ) → i < n * n → Under r u t i
  unfolding table_of
  by_index i k =
      let a : Spot n i = spot n i k in
      subst (Under r u t) (sym a.is)
      (record {
        above_stored = s.stored a.row a.column a.row_below a.column_below;
        below_stored = l.sound.stored a.row a.column a.row_below a.column_below;
        below = l.down a.row a.column a.row_below a.column_below;
      })

  -- lowering never raises the sum of heights
  pub lowered_heights : heights r (n * n) u ≤ heights r (n * n) t
  lowered_heights = under_heights r (n * n) u t by_index

  -- and where the sum stays, the list stays
  pub same_heights : heights r (n * n) t ≤ heights r (n * n) u → u ≡ t
  unfolding table_of
  same_heights e =
      same_list r n u t l.same_length l.beyond
      (λ x y hx hy. under_same r (n * n) u t by_index e (x * n + y) (inside hx hy))
