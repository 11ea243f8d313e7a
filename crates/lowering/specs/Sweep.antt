-- The sweep as functions of lists: one lowering, the joins and the first tables, which Judge and Add both do, and the whole sweep, which Add repeats at 64 bits. Every step lowers one cell to what a rule yields,
-- where that is smaller. The order is the one the reason list of a refused night is to have: joins by middle, from, to; Lower by link and then by second
-- link; Upper by point and then link; the open table after the strict one. Assumes nothing.
use Rattle.std.specs.Prelude.{◌≡◌, cond, List, ℕ, zero, suc, ◌+◌, ◌*◌, eqb, get_or, set, ℤ, pos, neg_ℤ}
use Rattle.rules.specs.Plan.{Limit, Link, Ranges}
use Rattle.rules.specs.Cells.{Cell, mark, num, ◌+ᶜ◌, lowered, uppered, cell_of, table_of}
use Rattle.cell.specs.Steps.{smallerᶜ, clamped, number_of, height}

-- a step for each number below m, in their order
abbrev pub iter : (ℕ → List ℤ → List ℤ) → ℕ → List ℤ → List ℤ
iter f zero t = t
iter f (suc m) t = f m (iter f m t)

-- from the table after the first i of such steps to the one after the first j
abbrev pub Between : (ℕ → List ℤ → List ℤ) → ℕ → ℕ → List ℤ → List ℤ → Type 0
Between f i j t u = (s : List ℤ) → t ≡ iter f i s → u ≡ iter f j s

-- the cell x to y lowered to c, as a sweep stores it, where that is smaller
unfoldable pub lower_cell : Ranges → ℕ → ℕ → ℕ → Cell → List ℤ → List ℤ
lower_cell r n x y c t = set t (x * n + y) (number_of r.mark (smallerᶜ (clamped r.reach c) (table_of r n t x y)))

-- ---- Join

-- the cell x to z by the middle y, with a the cell x to y
unfoldable pub join_cell : Ranges → ℕ → ℕ → ℕ → Cell → ℕ → List ℤ → List ℤ
join_cell r n y x a z t = lower_cell r n x z (a +ᶜ table_of r n t y z) t

-- row x by the middle y
unfoldable pub join_row : Ranges → ℕ → ℕ → ℕ → List ℤ → List ℤ
join_row r n y x t = iter (join_cell r n y x (table_of r n t x y)) n t

-- every row by the middle y
unfoldable pub join_middle : Ranges → ℕ → ℕ → List ℤ → List ℤ
join_middle r n y t = iter (join_row r n y) n t

-- every row by every middle
unfoldable pub join_all : Ranges → ℕ → List ℤ → List ℤ
join_all r n t = iter (join_middle r n) n t

-- ---- Lower

-- for the link k and the contingent point of the link j, if another
unfoldable pub lower_pair : Ranges → ℕ → Link → Link → List ℤ → List ℤ
lower_pair r n k j t =
    cond (eqb j.con k.con) t
    (lower_cell r n k.act j.con (lowered k j (table_of r n t k.con j.con)) t)

-- for the link k and each of the links
unfoldable pub lower_link : Ranges → ℕ → (ℕ → Link) → ℕ → Link → List ℤ → List ℤ
lower_link r n link count k t = iter (λ j. lower_pair r n k (link j)) count t

-- for each of the links
unfoldable pub lower_all : Ranges → ℕ → (ℕ → Link) → ℕ → List ℤ → List ℤ
lower_all r n link count t = iter (λ i. lower_link r n link count (link i)) count t

-- ---- Upper

-- from the point x, for the link k
unfoldable pub upper_cell : Ranges → ℕ → ℕ → Link → List ℤ → List ℤ
upper_cell r n x k t = lower_cell r n x k.act (uppered k (table_of r n t x k.con)) t

-- from the point x, for each of the links
unfoldable pub upper_point : Ranges → ℕ → (ℕ → Link) → ℕ → ℕ → List ℤ → List ℤ
upper_point r n link count x t = iter (λ i. upper_cell r n x (link i)) count t

-- from each point
unfoldable pub upper_all : Ranges → ℕ → (ℕ → Link) → ℕ → List ℤ → List ℤ
upper_all r n link count t = iter (upper_point r n link count) n t

-- ---- the open table

-- the open cell x to y under the strict one
unfoldable pub open_cell : Ranges → ℕ → List ℤ → ℕ → ℕ → List ℤ → List ℤ
open_cell r n strict x y t = lower_cell r n x y (table_of r n strict x y) t

unfoldable pub open_row : Ranges → ℕ → List ℤ → ℕ → List ℤ → List ℤ
open_row r n strict x t = iter (open_cell r n strict x) n t

unfoldable pub open_all : Ranges → ℕ → List ℤ → List ℤ → List ℤ
open_all r n strict t = iter (open_row r n strict) n t

-- the open cell under the lower-case edge of the link k
unfoldable pub case_link : Ranges → ℕ → Link → List ℤ → List ℤ
case_link r n k t = lower_cell r n k.act k.con (num (pos k.short)) t

unfoldable pub case_all : Ranges → ℕ → (ℕ → Link) → ℕ → List ℤ → List ℤ
case_all r n link count t = iter (λ i. case_link r n (link i)) count t

-- ---- a whole sweep

-- the strict table: joins, then Lower, then Upper
unfoldable pub sweep_strict : Ranges → ℕ → (ℕ → Link) → ℕ → List ℤ → List ℤ
sweep_strict r n link count t = upper_all r n link count (lower_all r n link count (join_all r n t))

-- the open table: under the strict one, under the lower-case edges, joins
unfoldable pub sweep_open : Ranges → ℕ → (ℕ → Link) → ℕ → List ℤ → List ℤ → List ℤ
sweep_open r n link count strict t = join_all r n (case_all r n link count (open_all r n strict t))

-- ---- first tables

-- the first m cells all the mark
unfoldable pub mark_all : Ranges → ℕ → List ℤ → List ℤ
mark_all r m t = iter (λ i u. set u i (pos r.mark)) m t

-- the diagonal at 0: "The empty walk counts"
unfoldable pub diagonal_all : Ranges → ℕ → List ℤ → List ℤ
diagonal_all r n t = iter (λ x. lower_cell r n x x (num (pos zero))) n t

-- the cell of a limit
unfoldable pub limit_cell : Ranges → ℕ → Limit → List ℤ → List ℤ
limit_cell r n m t = lower_cell r n m.from m.to (num m.weight) t

-- every limit
unfoldable pub limit_all : Ranges → ℕ → (ℕ → Limit) → ℕ → List ℤ → List ℤ
limit_all r n limit count t = iter (λ i. limit_cell r n (limit i)) count t

-- every start edge
unfoldable pub start_all : Ranges → ℕ → List ℤ → List ℤ
start_all r n t = iter (λ x. lower_cell r n x zero (num (pos zero))) n t

-- both ordinary edges of a link: its longest, its shortest
unfoldable pub link_edges : Ranges → ℕ → Link → List ℤ → List ℤ
link_edges r n k t =
    lower_cell r n k.con k.act (num (neg_ℤ (pos k.short))) (lower_cell r n k.act k.con (num (pos k.long)) t)

unfoldable pub link_all : Ranges → ℕ → (ℕ → Link) → ℕ → List ℤ → List ℤ
link_all r n link count t = iter (λ i. link_edges r n (link i)) count t

-- the strict table to start with: the mark everywhere, the diagonal, and every given edge
unfoldable pub first_strict : Ranges → ℕ → (ℕ → Limit) → ℕ → (ℕ → Link) → ℕ → List ℤ → List ℤ
first_strict r n limit limits link links t =
    link_all r n link links (start_all r n (limit_all r n limit limits (diagonal_all r n (mark_all r (n * n) t))))

-- the open table to start with: the mark everywhere, and the diagonal
unfoldable pub first_open : Ranges → ℕ → List ℤ → List ℤ
first_open r n t = diagonal_all r n (mark_all r (n * n) t)

-- ---- how far it can still fall

-- the heights of the first m cells together
unfoldable pub heights : Ranges → ℕ → List ℤ → ℕ
heights r zero t = zero
heights r (suc m) t = heights r m t + height r.reach (cell_of r.mark (get_or t m (pos zero)))
