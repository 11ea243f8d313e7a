-- Spreading as functions of lists: what Judge does to tables that are joined already. An edge that lowers a cell goes through the whole table at once, as an added
-- limit does in source document 004: each row takes the way over the edge, and no other cell is looked at. So a joined table stays joined, and no
-- joins are worked out again. Assumes nothing.
use Rattle.std.specs.Prelude.{◌≡◌, cond, List, ℕ, zero, ◌*◌, ◌≤◌, ◌<◌, eqb, length, get_or, ℤ, pos}
use Rattle.rules.specs.Plan.{Link, Ranges}
use Rattle.rules.specs.Cells.{Cell, num, ◌+ᶜ◌, lowered, uppered, table_of}
use Rattle.cell.specs.Steps.{belowᶜ, clamped}
use Rattle.lowering.specs.Sweep.{iter, lower_cell, join_cell}

-- ---- one edge

-- row x by the cells from y, with a what leads from x to y
unfoldable pub row_by : Ranges → ℕ → ℕ → ℕ → Cell → List ℤ → List ℤ
row_by r n y x a t = iter (join_cell r n y x a) n t

-- row x by an edge from a to b of w, if that shortens the way from x to b
unfoldable pub spread_row : Ranges → ℕ → ℕ → ℕ → Cell → ℕ → List ℤ → List ℤ
spread_row r n a b w x t =
    cond (belowᶜ (table_of r n t x a +ᶜ w) (table_of r n t x b)) (row_by r n b x (table_of r n t x a +ᶜ w) t) t

-- every row
unfoldable pub spread_all : Ranges → ℕ → ℕ → ℕ → Cell → List ℤ → List ℤ
spread_all r n a b w t = iter (spread_row r n a b w) n t

-- an edge from a to b of w: one that closes a walk below 0 is written to the diagonal, where that is looked for; any other is spread
unfoldable pub take_edge : Ranges → ℕ → ℕ → ℕ → Cell → List ℤ → List ℤ
take_edge r n a b w t =
    cond (belowᶜ (w +ᶜ table_of r n t b a) (num (pos zero))) (lower_cell r n a a (w +ᶜ table_of r n t b a) t) (spread_all r n a b w t)

-- an edge from a to b of c, as a sweep stores it, taken if it lowers the cell
unfoldable pub new_edge : Ranges → ℕ → ℕ → ℕ → Cell → List ℤ → List ℤ
new_edge r n a b c t = cond (belowᶜ (clamped r.reach c) (table_of r n t a b)) (take_edge r n a b (clamped r.reach c) t) t

-- ---- the strict table: Lower, then Upper

-- what Lower yields for the link k and the contingent point of the link j, if another
unfoldable pub lower_edge : Ranges → ℕ → Link → Link → List ℤ → List ℤ
lower_edge r n k j t =
    cond (eqb j.con k.con) t (new_edge r n k.act j.con (lowered k j (table_of r n t k.con j.con)) t)

-- for the link k and each of the links
unfoldable pub lower_edges : Ranges → ℕ → (ℕ → Link) → ℕ → Link → List ℤ → List ℤ
lower_edges r n link count k t = iter (λ j. lower_edge r n k (link j)) count t

-- for each of the links
unfoldable pub lower_round : Ranges → ℕ → (ℕ → Link) → ℕ → List ℤ → List ℤ
lower_round r n link count t = iter (λ i. lower_edges r n link count (link i)) count t

-- what Upper yields for the link k from the point x
unfoldable pub upper_edge : Ranges → ℕ → Link → ℕ → List ℤ → List ℤ
upper_edge r n k x t = new_edge r n x k.act (uppered k (table_of r n t x k.con)) t

-- from each point
unfoldable pub upper_edges : Ranges → ℕ → Link → List ℤ → List ℤ
upper_edges r n k t = iter (upper_edge r n k) n t

-- for each of the links
unfoldable pub upper_round : Ranges → ℕ → (ℕ → Link) → ℕ → List ℤ → List ℤ
upper_round r n link count t = iter (λ i. upper_edges r n (link i)) count t

-- a round of the strict table
unfoldable pub strict_round : Ranges → ℕ → (ℕ → Link) → ℕ → List ℤ → List ℤ
strict_round r n link count t = upper_round r n link count (lower_round r n link count t)

-- ---- the open table

-- the first m cells of another list
pub record Copied (m : ℕ) (from before after : List ℤ) : Type 0 where
  pub length_same : length after ≡ length before
  pub same : (i : ℕ) → i < m → get_or after i (pos zero) ≡ get_or from i (pos zero)
  pub beyond_same : (i : ℕ) → m ≤ i → get_or after i (pos zero) ≡ get_or before i (pos zero)

-- the lower-case edge of the link k
unfoldable pub case_edge : Ranges → ℕ → Link → List ℤ → List ℤ
case_edge r n k t = new_edge r n k.act k.con (num (pos k.short)) t

-- of each of the links
unfoldable pub case_edges : Ranges → ℕ → (ℕ → Link) → ℕ → List ℤ → List ℤ
case_edges r n link count t = iter (λ i. case_edge r n (link i)) count t

-- the open table to start with: the strict one with every lower-case edge taken
pub record Opened (r : Ranges) (n : ℕ) (link : ℕ → Link) (count : ℕ) (strict before after : List ℤ) : Type 0 where
  pub copy : List ℤ
  pub copied : Copied (n * n) strict before copy
  pub taken : after ≡ case_edges r n link count copy

-- the strict cell to which Lower leads, for the link k and the link j
unfoldable pub follow_lower : Ranges → ℕ → List ℤ → Link → Link → List ℤ → List ℤ
follow_lower r n strict k j t = new_edge r n k.act j.con (table_of r n strict k.act j.con) t

-- for the link k and each of the links
unfoldable pub follow_lowers : Ranges → ℕ → List ℤ → (ℕ → Link) → ℕ → Link → List ℤ → List ℤ
follow_lowers r n strict link count k t = iter (λ j. follow_lower r n strict k (link j)) count t

-- the strict cell to which Upper leads, for the link k from the point x
unfoldable pub follow_upper : Ranges → ℕ → List ℤ → Link → ℕ → List ℤ → List ℤ
follow_upper r n strict k x t = new_edge r n x k.act (table_of r n strict x k.act) t

-- from each point
unfoldable pub follow_uppers : Ranges → ℕ → List ℤ → Link → List ℤ → List ℤ
follow_uppers r n strict k t = iter (follow_upper r n strict k) n t

-- both, for the link k
unfoldable pub follow_link : Ranges → ℕ → List ℤ → (ℕ → Link) → ℕ → Link → List ℤ → List ℤ
follow_link r n strict link count k t = follow_uppers r n strict k (follow_lowers r n strict link count k t)

-- a round of the open table: for each of the links
unfoldable pub open_round : Ranges → ℕ → List ℤ → (ℕ → Link) → ℕ → List ℤ → List ℤ
open_round r n strict link count t = iter (λ i. follow_link r n strict link count (link i)) count t
