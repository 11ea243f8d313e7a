-- Document 01, "What Add answers for any tables", and the third demand's sequences of additions.
-- Assumes nothing.
use Rattle.std.specs.Prelude.{cond, List, [], ◌∷◌, ◌++◌, ℕ, zero, suc, eqb}
use Rattle.rules.specs.Plan.{Limit, Plan, Ranges, LimitInRange}
use Rattle.rules.specs.Walks.{Uncontrollable}
use Rattle.rules.specs.Cells.{Cell, mark, num, Table}
use Rattle.rules.specs.Tables.{Tables}

-- a cell as a limit, where it "isn't the mark"
abbrev pub cell_limit : ℕ → ℕ → Cell → List Limit
cell_limit x y mark = []
cell_limit x y (num c) = record { from = x; to = y; weight = c } ∷ []

-- the cells "off the diagonal" of row x, in the first m columns
unfoldable pub row_limits : Table → ℕ → ℕ → List Limit
row_limits t x zero = []
row_limits t x (suc y) = cond (eqb x y) [] (cell_limit x y (t x y)) ++ row_limits t x y

-- "every strict cell off the diagonal that isn't the mark", in the first m rows of n cells
unfoldable pub table_limits : Table → ℕ → ℕ → List Limit
table_limits t n zero = []
table_limits t n (suc x) = row_limits t x n ++ table_limits t n x

-- "Take as limits every strict cell off the diagonal that isn't the mark, and the new limit. With the plan's links and the start
-- edges they make a plan; its weights may exceed a file's range."
abbrev pub with_cells : Plan → Table → Limit → Plan
with_cells p strict m =
    record { points = p.points; limits = m ∷ table_limits strict p.points p.points; links = p.links }

-- a plan with one limit more
abbrev pub with_limit : Plan → Limit → Plan
with_limit p m = record { points = p.points; limits = m ∷ p.limits; links = p.links }

-- a plan with all of these limits more
abbrev pub with_limits : Plan → List Limit → Plan
with_limits p ms = record { points = p.points; limits = ms ++ p.limits; links = p.links }

-- Additions to the tables of a plan, one after the other, in any order, repeats allowed: the limits taken and those refused so far, and the
-- tables now. A limit in range is taken where Add's plan has tables, which are then the tables; it is refused where Add's plan is
-- uncontrollable, and the tables stay.
pub data Additions (r : Ranges) (p : Plan) : List Limit → List Limit → Table → Table → Type 0 where
  opened : {strict weak : Table} → Tables p strict weak → Additions r p [] [] strict weak
  taken : {ts rs : List Limit} {strict weak strict' weak' : Table} {m : Limit} → Additions r p ts rs strict weak
      → LimitInRange r p.points m → Tables (with_cells p strict m) strict' weak' → Additions r p (m ∷ ts) rs strict' weak'
  refused : {ts rs : List Limit} {strict weak : Table} {m : Limit} → Additions r p ts rs strict weak
      → LimitInRange r p.points m → Uncontrollable (with_cells p strict m) → Additions r p ts (m ∷ rs) strict weak
