-- Document 01, "Numbers returned": what Judge, Check, Add and Earliest answer and what they leave in each lent cell, for all inputs. `file` is
-- what the file's bytes answer (for Add: with Add's limit tested between the file's limits and links), p the plan they hold, the lists
-- are the lent slices before and after. Assumes nothing.
use Rattle.std.specs.Prelude.{◌≡◌, ◌≢◌, ◌⊎◌, List, [], ℕ, zero, ◌*◌, ◌≤◌, ◌<◌, length, get_or, ℤ, pos, neg_ℤ}
use Rattle.rules.specs.Answers.{Answer}
use Rattle.rules.specs.Answers.{Done, ShortRoom, HasLinks, NotControllable, NotClosed}
use Rattle.rules.specs.Plan.{Limit, Plan, Ranges}
use Rattle.rules.specs.Walks.{Uncontrollable}
use Rattle.rules.specs.Cells.{num, Within, Table, table_of}
use Rattle.rules.specs.Tables.{Tables, Closed}
use Rattle.rules.specs.Additions.{with_cells}

-- "n x n cells in each table"
abbrev pub cells_of : Plan → ℕ
cells_of p = p.points * p.points

-- "Cells beyond the needed room are never changed."
pub record Kept (room : ℕ) (before after : List ℤ) : Type 0 where
  pub length_same : length after ≡ length before
  pub beyond_same : (i : ℕ) → room ≤ i → get_or after i (pos zero) ≡ get_or before i (pos zero)

-- the first cells all hold one number, and no other cell changed
pub record Filled (room : ℕ) (c : ℤ) (before after : List ℤ) : Type 0 where
  pub kept : Kept room before after
  pub all_same : (i : ℕ) → i < room → get_or after i (pos zero) ≡ c

-- "a lent slice is shorter than needed": "n x n cells in each table"
abbrev pub ShortTables : Plan → List ℤ → List ℤ → Type 0
ShortTables p strict weak = (length strict < cells_of p) ⊎ (length weak < cells_of p)

pub record RoomForTables (p : Plan) (strict weak : List ℤ) : Type 0 where
  pub strict_room : cells_of p ≤ length strict
  pub open_room : cells_of p ≤ length weak

-- "fill the first n x n cells of both tables with the mark"
pub record Marked (r : Ranges) (p : Plan) (strict weak strict' weak' : List ℤ) : Type 0 where
  pub strict_marked : Filled (cells_of p) (pos r.mark) strict strict'
  pub open_marked : Filled (cells_of p) (pos r.mark) weak weak'

-- the first n x n cells are the plan's tables, and no other cell changed
pub record Written (r : Ranges) (p : Plan) (strict weak strict' weak' : List ℤ) : Type 0 where
  pub strict_kept : Kept (cells_of p) strict strict'
  pub open_kept : Kept (cells_of p) weak weak'
  pub tables : Tables p (table_of r p.points strict') (table_of r p.points weak')

-- Judge: the file's code; 9; 11; 0. "Judge with 11 .. fill the first n x n cells of both tables with the mark; their other refusals change no cell."
pub data Judged (r : Ranges) (file : Answer) (p : Plan) (strict weak : List ℤ) : Answer → List ℤ → List ℤ → Type 0 where
  bad_file : file ≢ Done → Judged r file p strict weak file strict weak
  short_room : file ≡ Done → ShortTables p strict weak → Judged r file p strict weak ShortRoom strict weak
  uncontrollable : {strict' weak' : List ℤ} → file ≡ Done → RoomForTables p strict weak → Uncontrollable p
      → Marked r p strict weak strict' weak' → Judged r file p strict weak NotControllable strict' weak'
  judged : {strict' weak' : List ℤ} → file ≡ Done → RoomForTables p strict weak
      → Written r p strict weak strict' weak' → Judged r file p strict weak Done strict' weak'

-- Check: the file's code; 9; 12; 0. "Check writes nothing."
pub data Checked (r : Ranges) (file : Answer) (p : Plan) (strict weak : List ℤ) : Answer → Type 0 where
  bad_file : file ≢ Done → Checked r file p strict weak file
  short_room : file ≡ Done → ShortTables p strict weak → Checked r file p strict weak ShortRoom
  not_closed : file ≡ Done → RoomForTables p strict weak
      → (Closed r p (table_of r p.points strict) (table_of r p.points weak) → ⊥) → Checked r file p strict weak NotClosed
  closed : file ≡ Done → RoomForTables p strict weak
      → Closed r p (table_of r p.points strict) (table_of r p.points weak) → Checked r file p strict weak Done

-- "for Earliest also n signed 32-bit times"; "time of X is minus the strict cell from X to 0"
pub record TimesOf (r : Ranges) (p : Plan) (strict times times' : List ℤ) : Type 0 where
  pub times_kept : Kept p.points times times'
  pub minus_cell : (x : ℕ) → x < p.points → (c : ℤ) → table_of r p.points strict x zero ≡ num c → get_or times' x (pos zero) ≡ neg_ℤ c

-- Earliest: the file's code; 9; 10; 11; 0. "Earliest fills both tables when it succeeds, and writes times only then".
pub data Timed (r : Ranges) (file : Answer) (p : Plan) (strict weak times : List ℤ) : Answer → List ℤ → List ℤ → List ℤ → Type 0 where
  bad_file : file ≢ Done → Timed r file p strict weak times file strict weak times
  short_room : file ≡ Done → ShortTables p strict weak ⊎ (length times < p.points) → Timed r file p strict weak times ShortRoom strict weak times
  has_links : file ≡ Done → RoomForTables p strict weak → p.points ≤ length times → p.links ≢ []
      → Timed r file p strict weak times HasLinks strict weak times
  uncontrollable : {strict' weak' : List ℤ} → file ≡ Done → RoomForTables p strict weak → p.points ≤ length times → p.links ≡ []
      → Uncontrollable p → Marked r p strict weak strict' weak' → Timed r file p strict weak times NotControllable strict' weak' times
  timed : {strict' weak' times' : List ℤ} → file ≡ Done → RoomForTables p strict weak → p.points ≤ length times → p.links ≡ []
      → Written r p strict weak strict' weak' → TimesOf r p strict' times times'
      → Timed r file p strict weak times Done strict' weak' times'

-- "for Add also a scratch of 2 x n x n 64-bit cells"
abbrev pub scratch_of : Plan → ℕ
scratch_of p = 2 * cells_of p

-- "a cell .. beyond 63,000,000" in one of two tables
pub record Beyond (r : Ranges) (p : Plan) (strict weak : Table) : Type 0 where
  pub row : ℕ
  pub column : ℕ
  pub row_below : row < p.points
  pub column_below : column < p.points
  pub beyond : (Within r.reach (strict row column) → ⊥) ⊎ (Within r.reach (weak row column) → ⊥)

-- Add of the limit m: the file's code with 6 for m; 9; 12 for tables not closed; 11; 12 for a result out of range; 0. "Add changes the tables only with
-- code 0. Its scratch is unchanged with codes 1 to 9, and else its first 2 x n x n cells are 0."
pub data Added (r : Ranges) (file : Answer) (p : Plan) (m : Limit) (strict weak scratch : List ℤ)
    : Answer → List ℤ → List ℤ → List ℤ → Type 0 where
  bad_file : file ≢ Done → Added r file p m strict weak scratch file strict weak scratch
  short_room : file ≡ Done → ShortTables p strict weak ⊎ (length scratch < scratch_of p)
      → Added r file p m strict weak scratch ShortRoom strict weak scratch
  not_closed : {scratch' : List ℤ} → file ≡ Done → RoomForTables p strict weak → scratch_of p ≤ length scratch
      → (Closed r p (table_of r p.points strict) (table_of r p.points weak) → ⊥)
      → Filled (scratch_of p) (pos zero) scratch scratch' → Added r file p m strict weak scratch NotClosed strict weak scratch'
  uncontrollable : {scratch' : List ℤ} → file ≡ Done → RoomForTables p strict weak → scratch_of p ≤ length scratch
      → Closed r p (table_of r p.points strict) (table_of r p.points weak)
      → Uncontrollable (with_cells p (table_of r p.points strict) m)
      → Filled (scratch_of p) (pos zero) scratch scratch' → Added r file p m strict weak scratch NotControllable strict weak scratch'
  beyond : {scratch' : List ℤ} {strict' weak' : Table} → file ≡ Done → RoomForTables p strict weak → scratch_of p ≤ length scratch
      → Closed r p (table_of r p.points strict) (table_of r p.points weak)
      → Tables (with_cells p (table_of r p.points strict) m) strict' weak' → Beyond r p strict' weak'
      → Filled (scratch_of p) (pos zero) scratch scratch' → Added r file p m strict weak scratch NotClosed strict weak scratch'
  added : {strict' weak' scratch' : List ℤ} → file ≡ Done → RoomForTables p strict weak → scratch_of p ≤ length scratch
      → Closed r p (table_of r p.points strict) (table_of r p.points weak)
      → Written r (with_cells p (table_of r p.points strict) m) strict weak strict' weak'
      → (Beyond r p (table_of r p.points strict') (table_of r p.points weak') → ⊥)
      → Filled (scratch_of p) (pos zero) scratch scratch' → Added r file p m strict weak scratch Done strict' weak' scratch'
