-- Document 01, "Two tables": a cell, the mark and how it adds, and a lent list read as a table.
-- Assumes nothing.
use Rattle.std.specs.Prelude.{cond, List, ℕ, zero, ◌+◌, ◌*◌, eqb, get_or, ℤ, pos, negsuc, neg_ℤ, ◌+ℤ◌, ◌≤ℤ◌}
use Rattle.std.specs.Int.Signed.{lt_z}
use Rattle.rules.specs.Plan.{Link, Ranges}
use Rattle.rules.specs.Edges.{spread, upper_weight}

-- "Where there is no walk the cell is .. the no-path mark." Any other cell is a number.
pub data Cell : Type 0 where
  mark : Cell
  num : ℤ → Cell

-- "Adding to the mark gives the mark".
infixl 6 ◌+ᶜ◌
abbrev pub ◌+ᶜ◌ : Cell → Cell → Cell
mark +ᶜ c = mark
num a +ᶜ mark = mark
num a +ᶜ num b = num (a +ℤ b)

-- one cell does not exceed another: "The mark counts as larger than every number."
infix 50 ◌≤ᶜ◌
abbrev pub ◌≤ᶜ◌ : Cell → Cell → Type 0
mark ≤ᶜ mark = Unit {0}
num a ≤ᶜ mark = Unit {0}
mark ≤ᶜ num b = ⊥
num a ≤ᶜ num b = a ≤ℤ b

-- what Lower yields for a link from the cell C to R, with r the link of R: "w < D(R) gives A to R of l + w"
abbrev pub lowered : Link → Link → Cell → Cell
lowered k r mark = mark
lowered k r (num w) = cond (lt_z w (spread r)) (num (pos k.short +ℤ w)) mark

-- what Upper yields for a link from the cell P to C
abbrev pub uppered : Link → Cell → Cell
uppered k mark = mark
uppered k (num v) = num (upper_weight k v)

-- "each cell is the mark or lies from -63,000,000 to 63,000,000"
abbrev pub Within : ℕ → Cell → Type 0
Within reach mark = Unit {0}
Within reach (num c) = (neg_ℤ (pos reach) ≤ℤ c) × (c ≤ℤ pos reach)

-- "row = from, column = to"
abbrev pub Table : Type 0
Table = ℕ → ℕ → Cell

-- a number of a lent list as a cell
abbrev pub cell_of : ℕ → ℤ → Cell
cell_of m (pos c) = cond (eqb c m) mark (num (pos c))
cell_of m (negsuc c) = num (negsuc c)

-- the first n x n numbers of a lent list as a table
unfoldable pub table_of : Ranges → ℕ → List ℤ → Table
table_of r n cells x y = cell_of r.mark (get_or cells (x * n + y) (pos zero))
