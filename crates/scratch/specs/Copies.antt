-- Cells from one width to the other. Assumes nothing.
use Rattle.std.specs.Prelude.{◌≡◌, List, ℕ, zero, ◌<◌, get_or, ℤ, pos}
use Rattle.rules.specs.Plan.{version1}
use Rattle.rules.specs.Cells.{Within}
use Rattle.rules.specs.Calls.{Kept}
use Rattle.cell.specs.Steps.{cell32, cell64}

-- the first cells of a 64-bit list and of a 32-bit one are the same
abbrev pub SameCells : ℕ → List ℤ → List ℤ → Type 0
SameCells m wide narrow = (i : ℕ) → i < m → cell64 (get_or wide i (pos zero)) ≡ cell32 (get_or narrow i (pos zero))

-- the first cells of a 32-bit list are those of a 64-bit one, and no other changed
pub record Narrowed (m : ℕ) (wide before after : List ℤ) : Type 0 where
  pub same : SameCells m wide after
  pub kept : Kept m before after

-- no cell of the first m is "beyond 63,000,000"
abbrev pub InReach : ℕ → List ℤ → Type 0
InReach m t = (i : ℕ) → i < m → Within version1.reach (cell64 (get_or t i (pos zero)))

-- one of them is
pub record OutOfReach (m : ℕ) (t : List ℤ) : Type 0 where
  pub index : ℕ
  pub below : index < m
  pub out : Within version1.reach (cell64 (get_or t index (pos zero))) → ⊥
