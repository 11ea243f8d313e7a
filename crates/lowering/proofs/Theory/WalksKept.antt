-- Every cell that is not the mark has a walk of total at most the cell: of what Join, Lower and Upper yield, and through one lowering. Assumes nothing.
use mathlib.Core.Path.{◌≡◌, refl}
use mathlib.Core.Bool.{Bool, true, false, cond}
use mathlib.Core.Logic.{◌≢◌}
use mathlib.Core.List.{List, Memᴰ}
use Prim.Native.Nat.{ℕ, ◌<◌}
use lib.IntN.{ℤ, pos, ◌+ℤ◌}
use lib.Signed.{lt_z, lt_z_yes}
use Rattle.rules.specs.Plan.{Link, Plan, Ranges}
use Rattle.rules.proofs.Coherence.{Coherent}
use Rattle.rules.specs.Edges as edges
use Rattle.rules.specs.Edges.{Derivable, Open, spread}
use Rattle.rules.specs.Walks.{Walk}
use Rattle.rules.specs.Cells.{Cell, mark, num, ◌+ᶜ◌, ◌≤ᶜ◌, lowered, uppered, table_of}
use Rattle.rules.proofs.Walks.{single, replaced, Dominated, weaker, after}
use Rattle.rules.proofs.Domination.{lower_walk, upper_walk}
use Rattle.cell.specs.Steps.{clamped}
use Rattle.cell.proofs.StoredCells.{≤ᶜ_trans, ≤ᶜ_mark, clamped_le}
use Rattle.lowering.specs.Sweep.{lower_cell}
use Rattle.lowering.proofs.Theory.StoredNumbers.{smaller_keeps}
use Rattle.lowering.specs.Table.{Sound}
use Rattle.lowering.proofs.Theory.LoweredTables.{cell_lowered, lowering_keeps}
use Rattle.lowering.proofs.Theory.SweepSteps.{LinkPoints}

-- the cell is the mark, or has a walk of total at most the cell
abbrev pub Has : (ℕ → ℕ → ℤ → Type 0) → ℕ → ℕ → Cell → Type 0
Has E x y mark = Unit {0}
Has E x y (num c) = Dominated E x y c

-- ---- what yields such cells

-- a larger cell
has_larger : (E : ℕ → ℕ → ℤ → Type 0) (x y : ℕ) (c d : Cell) → c ≤ᶜ d → Has E x y c → Has E x y d
has_larger E x y c mark le h = tt
has_larger E x y mark (num d) le h = absurd le
has_larger E x y (num c) (num d) le h = weaker h le

-- what is stored
pub has_stored : (E : ℕ → ℕ → ℤ → Type 0) (x y : ℕ) (reach : ℕ) (c : Cell) → Has E x y c → Has E x y (clamped reach c)
has_stored E x y reach c h = has_larger E x y c (clamped reach c) (clamped_le reach c) h

pub has_sum : (E : ℕ → ℕ → ℤ → Type 0) (x y z : ℕ) (a b : Cell) → Has E x y a → Has E y z b → Has E x z (a +ᶜ b)
has_sum E x y z mark b h k = tt
has_sum E x y z (num a) mark h k = tt
has_sum E x y z (num a) (num b) h k = after h k

pub has_lowered : (p : Plan) (k j : Link) (c : Cell) → Memᴰ k p.links → Memᴰ j p.links → j.con ≢ k.con
    → Has (Derivable p) k.con j.con c → Has (Derivable p) k.act j.con (lowered k j c)
has_lowered p k j mark hk hj ne h = tt
has_lowered p k j (num w) hk hj ne h = by (lt_z w (spread j)) refl
  where
    by : (b : Bool) → lt_z w (spread j) ≡ b → Has (Derivable p) k.act j.con (cond b (num (pos k.short +ℤ w)) mark)
    by true e = lower_walk p hk hj refl refl (record { other = ne; below = lt_z_yes (rw e tt) }) h
    by false e = tt

pub has_uppered : (p : Plan) (k : Link) (x : ℕ) (c : Cell) → Memᴰ k p.links → Has (Derivable p) x k.con c
    → Has (Derivable p) x k.act (uppered k c)
has_uppered p k x mark hk h = tt
has_uppered p k x (num v) hk h = upper_walk p hk refl h

-- walks of some edges are walks of others that hold them
pub has_in : {E F : ℕ → ℕ → ℤ → Type 0} → ((x y : ℕ) (w : ℤ) → E x y w → F x y w) → (x y : ℕ) (c : Cell) → Has E x y c → Has F x y c
has_in f x y mark h = tt
has_in f x y (num c) h = record { total = h.total; walk = replaced (λ x y w e. single (f x y w e)) h.walk; le = h.le }

-- a walk of derivable edges is an open one
pub has_open : (p : Plan) (x y : ℕ) (c : Cell) → Has (Derivable p) x y c → Has (Open p) x y c
has_open p = has_in (λ x y w e. edges.ordinary e)

-- a cell at most the total of every walk is at most a cell that has its walk
pub under_walks : (E : ℕ → ℕ → ℤ → Type 0) (x y : ℕ) (c d : Cell) → Has E x y d → ((s : ℤ) → Walk E x y s → c ≤ᶜ num s) → c ≤ᶜ d
under_walks E x y c mark h below = ≤ᶜ_mark c
under_walks E x y c (num d) h below = ≤ᶜ_trans c (num h.total) (num d) (below h.total h.walk) h.le

-- ---- tables

-- a table that a sweep stores, every cell of which has its walk
pub record Walked (E : ℕ → ℕ → ℤ → Type 0) (r : Ranges) (n : ℕ) (t : List ℤ) : Type 0 where
  pub sound : Sound r n t
  pub has : (x y : ℕ) → x < n → y < n → Has E x y (table_of r n t x y)

module _ (E : ℕ → ℕ → ℤ → Type 0) (r : Ranges) (h : Coherent r) (n : ℕ) where
  -- lowering a cell to one that has its walk
  pub cell_walked : (x y : ℕ) (c : Cell) (t : List ℤ) → x < n → y < n → Has E x y c → Walked E r n t → Walked E r n (lower_cell r n x y c t)
  cell_walked x y c t hx hy k w =
      record {
        sound = (cell_lowered r h n x y c t hx hy w.sound).sound;
        has =
            lowering_keeps r h n (Has E) x y c t w.sound hx hy
            (smaller_keeps (Has E x y) (clamped r.reach c) (table_of r n t x y) (has_stored E x y r.reach c k) (w.has x y hx hy))
            w.has;
      }

-- the links of the code are links of the plan
pub record PlanLinks (p : Plan) (link : ℕ → Link) (count : ℕ) : Type 0 where
  pub member : (i : ℕ) → i < count → Memᴰ (link i) p.links
  pub points : LinkPoints p.points link count
