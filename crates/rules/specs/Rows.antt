-- Document 01, "What the library does" and "Numbers returned": row access, what it hands back and where that lies. A reference to a lent slice
-- holds its numbers now (`now`) and where they lie (`ptr`): a block of memory and a place in it, counted in bytes. Assumes nothing.
use Rattle.std.specs.Prelude.{◌≡◌, Bool, true, cond, ◌&&◌, List, [], ℕ, ◌+◌, ◌*◌, leb, ltb, length, take, drop, ℤ}
use Rattle.std.specs.Borrow.{Bor}
use Rattle.rules.specs.declared.Side.{Side}
use Rattle.rules.specs.declared.Side.TheVariants.{Strict, Open}
use Rattle.rules.specs.Plan.{version1}

-- "signed 32-bit cells": so many bytes each
abbrev pub cell_bytes : ℕ
cell_bytes = 4

-- "a choice, strict or open only": of two tables, or of two of anything
abbrev pub chosen : {A : Type 0} → A → A → Side → A
chosen strict weak Strict = strict
chosen strict weak Open = weak

-- whether there is a row x in tables of so many cells: not "with n not 1 to 64, a point at or above n, or either table shorter than n x n"
unfoldable pub has_row : ℕ → ℕ → ℕ → ℕ → Bool
has_row strict weak n x = leb n version1.points && (leb 1 n && ltb x n && leb (n * n) strict && leb (n * n) weak)

-- "hands back that row of the chosen table", or "an empty part"
unfoldable pub row_of : List ℤ → List ℤ → ℕ → ℕ → Side → List ℤ
row_of strict weak n x which =
    cond (has_row (length strict) (length weak) n x) (take n (drop (x * n) (chosen strict weak which))) []

-- "the caller's own cells and no copy": a part that starts where cell k of a lent table lies, in the table's own block
pub record OwnCells (table : Bor (List ℤ)) (k : ℕ) (part : Bor (List ℤ)) : Type 0 where
  pub block : part.ref_ptr.0 ≡ table.ref_ptr.0
  pub offset : part.ref_ptr.1 ≡ table.ref_ptr.1 + cell_bytes * k

-- Row access: the numbers of that row, or none; and where there is a row, it is the chosen table's own cells from x * n on
pub record RowHanded (strict weak : Bor (List ℤ)) (n x : ℕ) (which : Side) (part : Bor (List ℤ)) : Type 0 where
  pub cells : part.now ≡ row_of strict.now weak.now n x which
  pub own : has_row (length strict.now) (length weak.now) n x ≡ true → OwnCells (chosen strict weak which) (x * n) part
