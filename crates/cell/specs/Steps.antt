-- What the methods of a cell compute, on the cells of document 01 ("Two tables"), and the ranges they are used in.
-- Assumes nothing.
use Rattle.std.specs.Prelude.{◌≡◌, Bool, true, false, cond, ℕ, suc, ◌+◌, ℤ, pos, negsuc, neg_ℤ, ◌+ℤ◌, ◌≤ℤ◌}
use Rattle.std.specs.Int.Signed.{lt_z}
use Rattle.whole.specs.Signed.{up}
use Rattle.rules.specs.Plan.{Ranges, version1}
use Rattle.rules.specs.Cells.{Cell, mark, num, cell_of}

-- "What Add answers for any tables": the ranges of the plan whose limits are strict cells, "its weights may exceed a file's range". At
-- most each of 64 x 63 pairs and the new limit; a weight is a cell of the paper's reach; a cell lies within 63 such weights of zero.
unfoldable pub adding : Ranges
adding =
    record { points = 64; limits = 4_033; links = 32; weight = 63_000_000; mark = 9_223_372_036_854_775_807; reach = 3_969_000_000 }

-- how far from zero a 64-bit cell may lie to be added to: the same weights and the same mark, and a reach of which two make no number as large as the mark
abbrev pub roomy : Ranges
roomy =
    record {
      points = adding.points;
      limits = adding.limits;
      links = adding.links;
      weight = adding.weight;
      mark = adding.mark;
      reach = 2_000_000_000_000_000_000;
    }

-- a number of a 32-bit table as a cell, and one of a 64-bit table
abbrev pub cell32 : ℤ → Cell
cell32 v = cell_of version1.mark v

abbrev pub cell64 : ℤ → Cell
cell64 v = cell_of adding.mark v

-- whether a cell is "the no-path mark"
abbrev pub is_mark : Cell → Bool
is_mark mark = true
is_mark (num a) = false

-- whether one cell is below another: "The mark counts as larger than every number."
abbrev pub belowᶜ : Cell → Cell → Bool
belowᶜ mark c = false
belowᶜ (num a) mark = true
belowᶜ (num a) (num b) = lt_z a b

-- the smaller of two cells
abbrev pub smallerᶜ : Cell → Cell → Cell
smallerᶜ a b = cond (belowᶜ a b) a b

-- a cell as a sweep holds it: the mark, or a number from the floor, which is one under the reach, to the reach
abbrev pub Stored : ℕ → Cell → Type 0
Stored reach mark = Unit {0}
Stored reach (num c) = (negsuc reach ≤ℤ c) × (c ≤ℤ pos reach)

-- the sum of two cells that a sweep holds
abbrev pub Summed : ℕ → Cell → Type 0
Summed reach c = Stored (reach + suc reach) c

-- a cell as a sweep stores it: a number above the reach is no path, one below it is the floor
abbrev pub clamped : ℕ → Cell → Cell
clamped reach mark = mark
clamped reach (num c) = cond (lt_z (pos reach) c) mark (cond (lt_z c (neg_ℤ (pos reach))) (num (negsuc reach)) (num c))

-- a cell as a number of a table: the mark by the number that stands for it
abbrev pub number_of : ℕ → Cell → ℤ
number_of m mark = pos m
number_of m (num a) = a

-- how far a cell stands above the floor: the mark stands one above the reach
abbrev pub height : ℕ → Cell → ℕ
height reach mark = reach + reach + 2
height reach (num c) = up (c +ℤ pos (suc reach))

-- a test that decides a statement
pub record Decides (b : Bool) (P : Type 0) : Type 0 where
  pub holds : b ≡ true → P
  pub fails : b ≡ false → P → ⊥
