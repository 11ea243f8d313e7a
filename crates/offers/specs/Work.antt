-- How the work room holds the best lines so far: "The work room is 4 x n x n 64-bit cells" (document 02, item 4), four tables one after another: the weights of the strict
-- pairs' bests, the numbers of their lines, and the same of the open pairs. Assumes nothing.
use Rattle.std.specs.Prelude.{◌≡◌, false, List, ℕ, suc, ◌+◌, ◌*◌, ◌≤◌, ◌<◌, length, get_or, ℤ, pos}
use Rattle.rules.specs.declared.Side.{Side}
use Rattle.rules.specs.declared.Side.TheVariants.{Strict, Open}
use Rattle.rules.specs.Cells.{Cell, Within}
use Rattle.cell.specs.Steps.{adding, roomy, cell64, number_of}
use Rattle.chain.specs.Lines.{Line, still, best, line_of, cells}
use Rattle.chain.specs.Reasons.{ended}

-- where the cell of a pair stands in one of the four tables
abbrev pub spot_of : ℕ → ℕ → ℕ → ℕ → ℕ
spot_of n part x y = part * (n * n) + (x * n + y)

-- which table holds the weights of a side; the numbers of the lines stand in the next one
abbrev pub part_of : Side → ℕ
part_of Strict = 0
part_of Open = 2

-- a cell of a table of weights
abbrev pub weight_in : ℕ → List ℤ → ℕ → ℕ → ℕ → Cell
weight_in n work part x y = cell64 (get_or work (spot_of n part x y) (pos 0))

-- the work room holds the bests of a list so far
pub record Holds (n : ℕ) (ls : List Line) (work : List ℤ) : Type 0 where
  pub room : 4 * (n * n) ≤ length work
  pub weight : (s : Side) (x y : ℕ) → x < n → y < n
      → get_or work (spot_of n (part_of s) x y) (pos 0) ≡ number_of adding.mark (cells s ls x y)
  pub line : (s : Side) (x y : ℕ) → x < n → y < n → get_or work (spot_of n (suc (part_of s)) x y) (pos 0) ≡ pos (line_of (best s x y ls))

-- it does, the list has not ended, and neither its weights nor its lines are too many to go on
pub record Standing (n : ℕ) (ls : List Line) (work : List ℤ) : Type 0 where
  pub holds : Holds n ls work
  pub near : (s : Side) (x y : ℕ) → x < n → y < n → Within roomy.reach (cells s ls x y)
  pub few : length ls ≤ roomy.reach
  pub going : ended ls ≡ false
  -- no line leads from a point to itself
  pub diagonal : (x : ℕ) → best Strict x x ls ≡ still

-- of some list
pub record Known (n : ℕ) (work : List ℤ) : Type 0 where
  pub lines : List Line
  pub standing : Standing n lines work
