-- Laws that the walks through the links cite: what Ready gives of a link read, one Lower and one Upper, as a cell and as an edge, and an edge that the open
-- table follows. Over any ranges. Assumes nothing.
use mathlib.Core.Path.{◌≡◌, ap, ◌∙◌}
use mathlib.Core.List.{List}
use Prim.Native.Nat.{ℕ, zero, ◌+◌, ◌*◌, ◌≤◌, ◌<◌}
use borrow.Author.Tests.{eq-eqb, ne_eqb}
use lib.ListN.{get_or}
use lib.IntN.{ℤ, pos}
use Rattle.rules.specs.Plan.{Link, Ranges, version1, LinkInRange}
use Rattle.rules.specs.Cells.{Cell, lowered, uppered, cell_of, table_of}
use Rattle.plan.specs.Layout.{link_at}
use Rattle.lowering.specs.Table.{Ready}
use Rattle.lowering.specs.Sweep.{lower_cell, lower_pair, upper_cell}
use Rattle.lowering.specs.Spread.{new_edge, lower_edge, upper_edge, follow_lower, follow_lowers, follow_upper, follow_uppers, follow_link}
use Rattle.lowering.proofs.Laws.ReadyFile.{link_range, ready_few}
use Rattle.lowering.proofs.Theory.SweepSteps.{LinkPoints}

-- a link that was read is in range
pub link_read : {s : List ℕ} {n m k : ℕ} → Ready s n m k → (i : ℕ) → i < k → {a : Link} → a ≡ link_at s m i → LinkInRange version1 n a
link_read {s} {n} {m} {k} r i h e = rw e (link_range s n m k r i h)

-- the points of a table are few
pub few : {s : List ℕ} {n m k : ℕ} → Ready s n m k → n ≤ 64
unfolding version1
few {s} {n} {m} {k} r = ready_few s n m k r

-- a cell lowered to what a rule yields
pub lowering_by : (r : Ranges) (n x y : ℕ) (t u : List ℤ) (v : ℤ) {c : Cell} → cell_of r.mark v ≡ c
    → u ≡ lower_cell r n x y (cell_of r.mark v) t → u ≡ lower_cell r n x y c t
lowering_by r n x y t u v e l = l ∙ ap (λ (d : Cell). lower_cell r n x y d t) e

-- Lower for a link and its own contingent point: nothing
pub pair_own : (r : Ranges) (n : ℕ) (a b : Link) (t : List ℤ) → b.con ≡ a.con → t ≡ lower_pair r n a b t
unfolding lower_pair
pair_own r n a b t e = rw (eq-eqb b.con a.con e)

-- and for another: the cell read, and the one that Lower yields
pub pair_is : (r : Ranges) (n : ℕ) (a b : Link) (t u : List ℤ) (c v : ℤ) → (b.con ≡ a.con → ⊥) → c ≡ get_or t (a.con * n + b.con) (pos zero)
    → cell_of r.mark v ≡ lowered a b (cell_of r.mark c) → u ≡ lower_cell r n a.act b.con (cell_of r.mark v) t
    → u ≡ lower_pair r n a b t
unfolding lower_pair table_of
pair_is r n a b t u c v ne ec ev eu = rw (ne_eqb b.con a.con ne, ← ec, ← ev) eu

-- Upper from a point: the cell read, and the one that Upper yields
pub upper_cell_is : (r : Ranges) (n x : ℕ) (a : Link) (t u : List ℤ) (c v : ℤ) → c ≡ get_or t (x * n + a.con) (pos zero)
    → cell_of r.mark v ≡ uppered a (cell_of r.mark c) → u ≡ lower_cell r n x a.act (cell_of r.mark v) t
    → u ≡ upper_cell r n x a t
unfolding upper_cell table_of
upper_cell_is r n x a t u c v ec ev eu = rw (← ec, ← ev) eu

-- the same as an edge that is spread: nothing for a link's own contingent point
pub lower_edge_own : (r : Ranges) (n : ℕ) (a b : Link) (t : List ℤ) → b.con ≡ a.con → t ≡ lower_edge r n a b t
unfolding lower_edge
lower_edge_own r n a b t e = rw (eq-eqb b.con a.con e)

-- and for another: the cell read, and the one that Lower yields
pub lower_edge_is : (r : Ranges) (n : ℕ) (a b : Link) (t u : List ℤ) (c v : ℤ) → (b.con ≡ a.con → ⊥) → c ≡ get_or t (a.con * n + b.con) (pos zero)
    → cell_of r.mark v ≡ lowered a b (cell_of r.mark c) → u ≡ new_edge r n a.act b.con (cell_of r.mark v) t
    → u ≡ lower_edge r n a b t
unfolding lower_edge table_of
lower_edge_is r n a b t u c v ne ec ev eu = rw (ne_eqb b.con a.con ne, ← ec, ← ev) eu

-- Upper from a point: the cell read, and the one that Upper yields
pub upper_edge_is : (r : Ranges) (n x : ℕ) (a : Link) (t u : List ℤ) (c v : ℤ) → c ≡ get_or t (x * n + a.con) (pos zero)
    → cell_of r.mark v ≡ uppered a (cell_of r.mark c) → u ≡ new_edge r n x a.act (cell_of r.mark v) t
    → u ≡ upper_edge r n a x t
unfolding upper_edge table_of
upper_edge_is r n x a t u c v ec ev eu = rw (← ec, ← ev) eu

-- the strict cell to which Lower leads, and the one to which Upper leads, as they were read
pub follow_lower_is : (r : Ranges) (n : ℕ) (strict : List ℤ) (a b : Link) (t u : List ℤ) (c : ℤ) → c ≡ get_or strict (a.act * n + b.con) (pos zero)
    → u ≡ new_edge r n a.act b.con (cell_of r.mark c) t → u ≡ follow_lower r n strict a b t
unfolding follow_lower table_of
follow_lower_is r n strict a b t u c ec eu = rw (← ec) eu

pub follow_upper_is : (r : Ranges) (n : ℕ) (strict : List ℤ) (a : Link) (x : ℕ) (t u : List ℤ) (c : ℤ) → c ≡ get_or strict (x * n + a.act) (pos zero)
    → u ≡ new_edge r n x a.act (cell_of r.mark c) t → u ≡ follow_upper r n strict a x t
unfolding follow_upper table_of
follow_upper_is r n strict a x t u c ec eu = rw (← ec) eu

-- both, with the link as it was read between them
pub follow_link_is : (r : Ranges) (n : ℕ) (strict : List ℤ) (link : ℕ → Link) (count : ℕ) (t : List ℤ) {a b : Link} {u v : List ℤ} → a ≡ b
    → u ≡ follow_lowers r n strict link count b t → v ≡ follow_uppers r n strict a u → v ≡ follow_link r n strict link count b t
unfolding follow_link
follow_link_is r n strict link count t e eu ev = rw (← eu, ← e) ev

-- the links of a table's plan name its points
pub link_points : {s : List ℕ} {n m k : ℕ} → Ready s n m k → LinkPoints n (link_at s m) k
link_points {s} {n} {m} {k} r =
    record { act_below = λ i h. (link_range s n m k r i h).act; con_below = λ i h. (link_range s n m k r i h).con }

-- Lower with both links as they were read
pub pair_at : (r : Ranges) (n : ℕ) {a a' b b' : Link} (t : List ℤ) {u : List ℤ} → a ≡ a' → b ≡ b' → u ≡ lower_pair r n a b t → u ≡ lower_pair r n a' b' t
pair_at r n t ea eb eu = rw (← ea, ← eb) eu

-- a step with its record as it was read
pub at_read : {A : Type 0} (f : A → List ℤ) {a a' : A} {u : List ℤ} → a ≡ a' → u ≡ f a → u ≡ f a'
at_read f e eu = eu ∙ ap f e
