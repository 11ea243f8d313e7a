-- Tests of one cell against what it may not exceed. A number of 32 bits that was passed to a call is read back from its bits there. Assumes nothing.
use mathlib.Core.Path.{◌≡◌, sym, subst, ap, refl, ◌∙◌}
use mathlib.Core.Bool.{Bool, true, false, ◌&&◌}
use mathlib.Core.List.{List}
use Prim.Native.Nat.{ℕ, zero, ◌+◌, ◌*◌, ◌-◌, ◌^◌, ◌≤◌, ◌<◌}
use native.Mathlib.Omega.{arith}
use lib.ListN.{get_or}
use lib.IntN.{ℤ, pos, neg_ℤ}
use lib.Signed.{mag}
use mir.Syntax.{w32}
use mir.Val.{to_z, of_z, hbits}
use borrow.Author.Count.{below_more}
use Rattle.rules.specs.Plan.{Link, version1, LinkInRange}
use Rattle.rules.specs.Edges.{spread}
use Rattle.rules.specs.Cells.{Cell, mark, num, ◌+ᶜ◌, ◌≤ᶜ◌, lowered, uppered, table_of}
use Rattle.cell.specs.Steps.{cell32, Stored, Decides}
use Rattle.cell.proofs.CellMethods.{room32, decided_yes, decided_no, minus_is, passed}
use Rattle.cell.proofs.StoredCells.{≤ᶜ_refl, ≤ᶜ_antisym, ≤ᶜ_mark, spread_is}
use Rattle.lowering.specs.Table.{Sound}
use Rattle.lowering.proofs.Laws.FirstAsRead.{span_cell}
use Rattle.lowering.proofs.Laws.LoopTurns.{read_cell, read_stored}
use Rattle.closed.specs.Parts.{RowJoined, PairLowered, PointUppered}

-- ---- what a test decides

-- what is decided of a thing is decided of what is equal to it
pub decides_same : {A : Type 0} (P : A → Type 0) {x y : A} {b : Bool} → x ≡ y → Decides b (P x) → Decides b (P y)
decides_same P {b} e d = subst (λ z. Decides b (P z)) e d

-- a test that failed refutes whatever asks for what it decides
pub refuted : {P R : Type 0} {b : Bool} → Decides b P → b ≡ false → (R → P) → Decides false R
refuted {b} d e f = decided_no (λ r. d.fails (e) (f r))

-- the last of several tests decides what they decide together
pub decides_all : {P R : Type 0} {b : Bool} → Decides b P → (P → R) → (R → P) → Decides b R
decides_all d f g = record { holds = λ e. f (d.holds e); fails = λ e r. d.fails e (g r) }

-- a test of one more, beside those of the numbers below it
pub also : (P : ℕ → Type 0) (i : ℕ) (b d : Bool) → Decides b ((x : ℕ) → x < i → P x) → Decides d (P i) → Decides (b && d) ((x : ℕ) → x < i + 1 → P x)
also P i true d t k =
    record { holds = λ e. below_more P i (t.holds refl) (k.holds e); fails = λ e all. k.fails e (all i (omega arith)) }
also P i false d t k = decided_no (λ all. t.fails refl (λ x l. all x (omega arith)))

-- a cell is a number where neither of the two exceeds the other
module _ (a : Cell) (v : ℤ) {b : Bool} (d : Decides b (a ≤ᶜ num v)) where
  pub not_same : b ≡ false → Decides b (a ≡ num v)
  not_same y = rw y (decided_no (λ e. d.fails y (rw e (≤ᶜ_refl (num v)))))

  pub same : b ≡ true → {c : Bool} → Decides c (num v ≤ᶜ a) → Decides c (a ≡ num v)
  same y g =
      record { holds = λ e. ≤ᶜ_antisym a (num v) (d.holds y) (g.holds e); fails = λ e i. g.fails e (rw i (≤ᶜ_refl (num v))) }

-- ---- a cell as a call has it

pub here : (v : ℤ) → mag v < 2 ^ hbits w32 → cell32 (to_z w32 (of_z w32 v)) ≡ cell32 v
here v h = ap cell32 (passed w32 h)

-- as it was read
pub read_here : {v : ℤ} → mag v < 2 ^ hbits w32 → (n x y : ℕ) (t : List ℤ) → v ≡ get_or t (x * n + y) (pos zero)
    → cell32 (to_z w32 (of_z w32 v)) ≡ table_of version1 n t x y
read_here {v} h n x y t e = here v h ∙ read_cell version1 n x y t v e

pub stored_here : {v : ℤ} → mag v < 2 ^ hbits w32 → (n x y : ℕ) (t : List ℤ) → Sound version1 n t → x < n → y < n → v ≡ get_or t (x * n + y) (pos zero)
    → Stored version1.reach (cell32 (to_z w32 (of_z w32 v)))
stored_here {v} h n x y t s hx hy e = rw (here v h) (read_stored version1 n x y t v s hx hy e)

-- a span
pub span_here : {v : ℤ} {k : ℕ} → mag v < 2 ^ hbits w32 → v ≡ pos k → k ≤ version1.weight → cell32 (to_z w32 (of_z w32 v)) ≡ num (pos k)
span_here {v} h e k = here v h ∙ span_cell k e

-- and its negation
pub minus_here : {u v : ℤ} {k : ℕ} → mag u < 2 ^ hbits w32 → u ≡ pos k → mag v < 2 ^ hbits w32 → v ≡ neg_ℤ (to_z w32 (of_z w32 u)) → k ≤ version1.weight
    → cell32 (to_z w32 (of_z w32 v)) ≡ num (neg_ℤ (pos k))
minus_here {u} {v} hu eu hv ev k = here v hv ∙ minus_is room32 k (ev ∙ (ap neg_ℤ (passed w32 hu) ∙ ap neg_ℤ eu))

-- ---- Join

-- a row whose cell to the middle is the mark is under every sum along it
pub row_at_mark : (n y x : ℕ) (t : List ℤ) {a : Cell} → a ≡ table_of version1 n t x y → a ≡ mark → Decides true (RowJoined n (table_of version1 n t) y x)
row_at_mark n y x t e m = decided_yes (λ z h. rw (sym e ∙ m) (≤ᶜ_mark (table_of version1 n t x z)))

-- one more cell of a row tried against the sum of two cells that were read
pub row_more : (n y x z : ℕ) (t : List ℤ) {a c : Cell} (s : ℤ) {b d : Bool} → Decides b (RowJoined z (table_of version1 n t) y x)
    → a ≡ table_of version1 n t x y → c ≡ table_of version1 n t y z → mag s < 2 ^ hbits w32 → cell32 s ≡ a +ᶜ c
    → Decides d (table_of version1 n t x z ≤ᶜ cell32 (to_z w32 (of_z w32 s))) → Decides (b && d) (RowJoined (z + 1) (table_of version1 n t) y x)
row_more n y x z t s {b} {d} so ea ec h es k =
    also (λ z. table_of version1 n t x z ≤ᶜ (table_of version1 n t x y +ᶜ table_of version1 n t y z)) z b d so (rw (← ea, ← ec, ← es, ← here s h) k)

-- ---- Lower and Upper, by what the cell's method said of its result v, from the cell c that was read

pub lower_decides : (n : ℕ) (t : List ℤ) (k j : Link) {c : Cell} (v : ℤ) {b : Bool} → LinkInRange version1 n j → (j.con ≡ k.con → ⊥)
    → c ≡ table_of version1 n t k.con j.con
    → ((k' j' : Link) → k'.short ≡ k.short → spread j' ≡ pos (j.long - j.short) → cell32 v ≡ lowered k' j' c)
    → mag v < 2 ^ hbits w32 → Decides b (table_of version1 n t k.act j.con ≤ᶜ cell32 (to_z w32 (of_z w32 v)))
    → Decides b (PairLowered (table_of version1 n t) k j)
lower_decides n t k j v {b} r apart e l h d =
    let g : Decides b (table_of version1 n t k.act j.con ≤ᶜ lowered k j (table_of version1 n t k.con j.con)) =
    rw (← e, ← l k j refl (spread_is j r.order), ← here v h) d in
    record { holds = λ f _. g.holds f; fails = λ f h. g.fails f (h apart) }

pub upper_decides : (n : ℕ) (t : List ℤ) (k : Link) (x : ℕ) {c : Cell} (v : ℤ) {b : Bool} → c ≡ table_of version1 n t x k.con
    → ((k' : Link) → k'.short ≡ k.short → k'.long ≡ k.long → cell32 v ≡ uppered k' c)
    → mag v < 2 ^ hbits w32 → Decides b (table_of version1 n t x k.act ≤ᶜ cell32 (to_z w32 (of_z w32 v)))
    → Decides b (PointUppered (table_of version1 n t) k x)
upper_decides n t k x v e u h d = rw (← e, ← u k refl refl, ← here v h) d
