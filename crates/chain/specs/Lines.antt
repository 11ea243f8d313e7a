-- Document 02, item 4: the lines of a reason list, and a pair's best line so far. A list so far is held with its newest line first, so the number of a line
-- is how many lines stand after it here. Assumes nothing.
use Rattle.std.specs.Prelude.{Bool, true, not, cond, ◌&&◌, List, [], ◌∷◌, ℕ, zero, eqb, length, ℤ, pos, neg_ℤ}
use Rattle.std.specs.Int.Signed.{lt_z}
use Rattle.rules.specs.declared.Side.{Side}
use Rattle.rules.specs.declared.Side.TheVariants.{Strict, Open}
use Rattle.rules.specs.Plan.{Limit, Link}
use Rattle.rules.specs.Cells.{Cell, mark, num, Table}

-- "lines, each with a kind, from, to, weight and two references"
pub record Line : Type 0 where
  pub kind : ℕ
  pub from : ℕ
  pub to : ℕ
  pub weight : ℤ
  pub first : ℕ
  pub second : ℕ

-- "Kinds 1 to 9: start edge, limit, link longest, link shortest, lower-case edge, strict join, Lower, Upper, open join"
abbrev pub start_edge : ℕ
start_edge = 1

abbrev pub limit_edge : ℕ
limit_edge = 2

abbrev pub link_longest : ℕ
link_longest = 3

abbrev pub link_shortest : ℕ
link_shortest = 4

abbrev pub lower_case : ℕ
lower_case = 5

abbrev pub strict_join : ℕ
strict_join = 6

abbrev pub by_lower : ℕ
by_lower = 7

abbrev pub by_upper : ℕ
by_upper = 8

abbrev pub open_join : ℕ
open_join = 9

-- "start edges": from the point x to point 0
abbrev pub start_line : ℕ → Line
start_line x = record { kind = start_edge; from = x; to = 0; weight = pos zero; first = 0; second = 0 }

-- "first the index of a limit or link; unused ones 0": limit i, and the three lines of link i
abbrev pub limit_line : ℕ → Limit → Line
limit_line i m = record { kind = limit_edge; from = m.from; to = m.to; weight = m.weight; first = i; second = 0 }

abbrev pub longest_line : ℕ → Link → Line
longest_line i k = record { kind = link_longest; from = k.act; to = k.con; weight = pos k.long; first = i; second = 0 }

abbrev pub shortest_line : ℕ → Link → Line
shortest_line i k = record { kind = link_shortest; from = k.con; to = k.act; weight = neg_ℤ (pos k.short); first = i; second = 0 }

abbrev pub lower_case_line : ℕ → Link → Line
lower_case_line i k = record { kind = lower_case; from = k.act; to = k.con; weight = pos k.short; first = i; second = 0 }

-- a line that there is not
abbrev pub no_line : Line
no_line = record { kind = 0; from = 0; to = 0; weight = pos zero; first = 0; second = 0 }

-- "line numbers, from 0": line i of a list so far
abbrev pub line_at : List Line → ℕ → Line
line_at [] i = no_line
line_at (l ∷ ls) i = cond (eqb i (length ls)) l (line_at ls i)

-- whether a line is for strict pairs: lower-case edges and open joins are for open pairs only; "an open pair's best includes its strict one"
abbrev pub counts : Side → ℕ → Bool
counts Strict kind = not (eqb kind lower_case) && not (eqb kind open_join)
counts Open kind = true

-- the best of a pair so far: no line; for "a point to itself" the 0 at which it "starts", which is no line; or a line, with its number and its weight
pub data Best : Type 0 where
  none : Best
  still : Best
  made : ℕ → ℤ → Best

-- whether a weight "beats the pair's best so far": "a point to itself starts at 0 and ties keep the older line"
abbrev pub beats : ℤ → Best → Bool
beats w none = true
beats w still = lt_z w (pos zero)
beats w (made i v) = lt_z w v

-- whether a line is one from x to y, for pairs of that side
abbrev pub leads : Side → ℕ → ℕ → Line → Bool
leads s x y l = counts s l.kind && (eqb l.from x && eqb l.to y)

-- "the pair's best so far"
unfoldable pub best : Side → ℕ → ℕ → List Line → Best
best s x y [] = cond (eqb x y) still none
best s x y (l ∷ ls) = cond (leads s x y l && beats l.weight (best s x y ls)) (made (length ls) l.weight) (best s x y ls)

-- its weight: the mark where there is no line
abbrev pub weight_of : Best → Cell
weight_of none = mark
weight_of still = num (pos zero)
weight_of (made i w) = num w

-- its line's number, 0 where there is no line
abbrev pub line_of : Best → ℕ
line_of none = 0
line_of still = 0
line_of (made i w) = i

-- the weights of all pairs as a table
abbrev pub cells : Side → List Line → Table
cells s ls x y = weight_of (best s x y ls)
