-- Laws that the looks at a table cite: what a test of one cell shows of the table, and bounds on the sum of heights. Assumes nothing.
use mathlib.Core.Path.{◌≡◌, refl, sym, ap, subst, ◌∙◌}
use mathlib.Core.Bool.{Bool, true, false, not, true≢false}
use mathlib.Core.Logic.{◌⊎◌, inr, ⊎_elim}
use mathlib.Core.List.{List}
use Prim.Native.Nat.{ℕ, zero, suc, ◌+◌, ◌*◌, ◌≤◌, ◌<◌}
use native.Mathlib.Nat.{mul-suc}
use native.Mathlib.Numerals.{add-one}
use native.Mathlib.Omega.{arith}
use borrow.Author.Tests.{not-true, not-false}
use lib.ListN.{get_or}
use lib.IntN.{ℤ, pos, neg_ℤ, ◌+ℤ◌}
use lib.Signed.{◌<ℤ◌}
use Rattle.whole.proofs.Order.{ints, plus, parts, split}
use Rattle.whole.proofs.Bits.{signed}
use Rattle.whole.proofs.Place.{inside, Spot, spot}
use Rattle.rules.specs.Plan.{Ranges}
use Rattle.rules.specs.Cells.{Cell, mark, num, ◌≤ᶜ◌, Within, cell_of, table_of}
use Rattle.cell.specs.Steps.{Stored, belowᶜ, height, Decides}
use Rattle.cell.proofs.StoredCells.{not_below_le}
use Rattle.lowering.specs.Table.{Sound, Held}
use Rattle.lowering.specs.Sweep.{heights}
use Rattle.lowering.specs.Fair.{AllWithin, NoneNegative, Fair, Unfair, low, negative, Looked}
use Rattle.lowering.proofs.Laws.LoopTurns.{read_cell}
use Rattle.lowering.proofs.Laws.TestLoops.{Passed, passes, one_more, passed_all}

-- ---- what a look says

pub looked_yes : {good bad : Type 0} → good → Looked true good bad
looked_yes g = record { holds = λ _. g; fails = λ e. absurd (true≢false e) }

pub looked_no : {good bad : Type 0} → bad → Looked false good bad
looked_no b = record { holds = λ e. absurd (true≢false (sym e)); fails = λ _. b }

-- a look that failed speaks against all that asks for what it looked at
pub looked_failed : {good more bad : Type 0} {b : Bool} → Looked b good bad → b ≡ false → Looked false more bad
looked_failed {b = b} l e = looked_no (l.fails (e))

-- cells within the reach, and a look at the diagonal
pub looked_both : {r : Ranges} {n : ℕ} {t : List ℤ} {b d : Bool} → Looked b (AllWithin r n t) (Unfair r n t) → b ≡ true
    → Looked d (NoneNegative r n t) (Unfair r n t) → Looked d (Fair r n t) (Unfair r n t)
looked_both {b = b} l e k = record { holds = λ f. record { within = l.holds (e); diagonal = k.holds f }; fails = k.fails }

-- one table fair, and a look at another
pub looked_also : {first second not_first not_second : Type 0} {b : Bool} → first → Looked b second not_second
    → Looked b (first × second) (not_first ⊎ not_second)
looked_also f l = record { holds = λ e. (f, l.holds e); fails = λ e. inr (l.fails e) }

-- ---- cells by their index

-- a table's cells, by their index
pub sound_held : {r : Ranges} {n : ℕ} {t : List ℤ} → Sound r n t → Held r (n * n) t
unfolding table_of
sound_held {r} {n} {t} s =
    record {
      room = s.room;
      stored = λ i h.
          let a : Spot n i = spot n i h in
          subst (λ (j : ℕ). Stored r.reach (cell_of r.mark (get_or t j (pos zero)))) (sym a.is)
          (s.stored a.row a.column a.row_below a.column_below);
    }

-- a number that was read there is stored
pub held_read : {r : Ranges} {m : ℕ} {t : List ℤ} → Held r m t → (i : ℕ) → i < m → {v : ℤ} → v ≡ get_or t i (pos zero)
    → Stored r.reach (cell_of r.mark v)
held_read h i k e = rw e (h.stored i k)

-- ---- cells within the reach

-- the cell at an index of a list is within the reach
abbrev pub CellWithin : ℕ → ℕ → List ℤ → ℕ → Type 0
CellWithin reach marked t i = Within reach (cell_of marked (get_or t i (pos zero)))

-- one more, as it was read
pub within_more : (reach marked : ℕ) (t : List ℤ) {m i : ℕ} {v : ℤ} {b : Bool} → Passed m (CellWithin reach marked t) i → i < m
    → v ≡ get_or t i (pos zero) → Decides b (Within reach (cell_of marked v)) → b ≡ true → Passed m (CellWithin reach marked t) (i + 1)
within_more reach marked t {b = b} p h e d f = one_more p {b = b} h (rw (← e) d) f

-- a stored number out of reach is under it
under : (reach : ℕ) (c : ℤ) → Stored reach (num c) → (Within reach (num c) → ⊥) → c <ℤ neg_ℤ (pos reach)
under reach c s f = ⊎_elim (λ h. absurd (f (h, s.1))) (λ h. h) (split (neg_ℤ (pos reach)) c)

module _ {r : Ranges} {n i : ℕ} {t : List ℤ} where
  -- cells within the reach by index are so by row and column
  pub within_all : Passed (n * n) (CellWithin r.reach r.mark t) i → n * n ≤ i → Looked true (AllWithin r n t) (Unfair r n t)
  unfolding table_of
  within_all p h = looked_yes (λ x y hx hy. passed_all p h (x * n + y) (inside hx hy))

  -- a stored cell out of reach speaks against the plan
  pub within_failed : Sound r n t → i < n * n → {v : ℤ} {b : Bool} → v ≡ get_or t i (pos zero) → Decides b (Within r.reach (cell_of r.mark v))
      → b ≡ false → Looked false (AllWithin r n t) (Unfair r n t)
  unfolding table_of
  within_failed s h {v} {b} e d g = looked_no (by (cell_of r.mark v) refl)
    where
      at : Spot n i
      at = spot n i h

      cell : cell_of r.mark v ≡ table_of r n t at.row at.column
      cell = ap (cell_of r.mark) (e ∙ ap (λ (j : ℕ). get_or t j (pos zero)) at.is)

      stored : Stored r.reach (cell_of r.mark v)
      stored = held_read (sound_held s) i h e

      by : (c : Cell) → cell_of r.mark v ≡ c → Unfair r n t
      by mark k = absurd (d.fails (g) (rw k tt))
      by (num c) k =
          low at.row_below at.column_below (sym cell ∙ k)
          (under r.reach c (subst (Stored r.reach) k stored) (λ w. d.fails (g) (subst (Within r.reach) (sym k) w)))

-- ---- the diagonal

-- the cell from a point to itself is not below 0
abbrev pub NotNegative : Ranges → ℕ → List ℤ → ℕ → Type 0
NotNegative r n t x = num (pos zero) ≤ᶜ table_of r n t x x

module _ (r : Ranges) {n x : ℕ} (t : List ℤ) {v : ℤ} {z : Cell} {b : Bool} (h : x < n) (e : v ≡ get_or t (x * n + x) (pos zero)) (k : z ≡ num (pos zero))
    (f : b ≡ belowᶜ (cell_of r.mark v) z) where
  -- the test, of the table's cell
  test : {d : Bool} → b ≡ d → belowᶜ (table_of r n t x x) (num (pos zero)) ≡ d
  test g = rw (← read_cell r n x x t v e, ← k) (sym f ∙ g)

  -- a diagonal cell below 0 speaks against the plan
  pub negative_failed : b ≡ true → Looked false (NoneNegative r n t) (Unfair r n t)
  negative_failed g = looked_no (by (table_of r n t x x) refl (test g))
    where
      by : (c : Cell) → table_of r n t x x ≡ c → belowᶜ c (num (pos zero)) ≡ true → Unfair r n t
      by mark i g = absurd (true≢false (sym g))
      by (num c) i g = negative h i (omega signed)

  -- one that is not is at least 0
  pub negative_more : Passed n (NotNegative r n t) x → b ≡ false → Passed n (NotNegative r n t) (x + 1)
  negative_more p g = passes p h (not_below_le (table_of r n t x x) (num (pos zero)) (test g))

-- ---- heights

-- no stored cell stands higher than the mark
pub height_most : (reach : ℕ) (c : Cell) → Stored reach c → height reach c ≤ reach + reach + 2
height_most reach mark s = omega arith
height_most reach (num a) s = omega (ints, s.0, s.1, plus a (pos (suc reach)), parts (a +ℤ pos (suc reach)))

-- so the heights of m cells together are at most m times that
pub heights_most : (r : Ranges) (m : ℕ) (t : List ℤ) → Held r m t → (i : ℕ) → i ≤ m → heights r i t ≤ (r.reach + r.reach + 2) * i
unfolding heights
heights_most r m t h zero k = omega arith
heights_most r m t h (suc i) k =
    omega (
      arith,
      heights_most r m t h i (omega arith),
      mul-suc (r.reach + r.reach + 2) i,
      height_most r.reach (cell_of r.mark (get_or t i (pos zero))) (h.stored i (omega arith)),
    )

-- the sum of the heights of the first i of m cells
pub record Summing (r : Ranges) (m : ℕ) (t : List ℤ) (i sum : ℕ) : Type 0 where
  pub bound : i ≤ m
  pub is : sum ≡ heights r i t

module _ {r : Ranges} {m : ℕ} {t : List ℤ} where
  pub summing_none : Summing r m t 0 0
  unfolding heights
  summing_none = record { bound = omega arith; is = refl }

  module _ {i sum : ℕ} (s : Summing r m t i sum) where
    -- one more cell
    module _ (k : i < m) {v : ℤ} {h : ℕ} (ev : v ≡ get_or t i (pos zero)) (eh : h ≡ height r.reach (cell_of r.mark v)) where
      pub summing_more : Summing r m t (i + 1) (sum + h)
      unfolding heights
      summing_more = record { bound = omega arith; is = rw (add-one i, s.is, eh, ev) }

      -- the sum stays small
      pub summing_most : Held r m t → sum + h ≤ (r.reach + r.reach + 2) * (i + 1)
      summing_most l = omega (arith, summing_more.is, heights_most r m t l (i + 1) (omega arith))

    -- all of them
    pub summing_all : m ≤ i → sum ≡ heights r m t
    summing_all k =
        let e : i ≡ m = omega (arith, s.bound) in
        rw (← e) s.is
