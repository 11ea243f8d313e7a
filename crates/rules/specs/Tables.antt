-- Document 01, "Two tables": least totals, the two tables of a plan, and closed tables.
-- Assumes nothing.
use Rattle.std.specs.Prelude.{◌≡◌, ◌≢◌, ℕ, zero, ◌<◌, ℤ, pos, ◌≤ℤ◌}
use mathlib.Core.List.{Memᴰ}
use Rattle.rules.specs.Plan.{Link, Plan, Ranges}
use Rattle.rules.specs.Edges.{Given, Derivable, Open}
use Rattle.rules.specs.Walks.{Walk}
use Rattle.rules.specs.Cells.{Cell, mark, num, ◌+ᶜ◌, ◌≤ᶜ◌, lowered, uppered, Within, Table}

-- the cell is "the least total of a walk"; "Where there is no walk the cell is .. the no-path mark."
abbrev pub Least : (ℕ → ℕ → ℤ → Type 0) → ℕ → ℕ → Cell → Type 0
Least E x y mark = (t : ℤ) → Walk E x y t → ⊥
Least E x y (num c) = Walk E x y c × ((t : ℤ) → Walk E x y t → c ≤ℤ t)

-- "The strict cell is the least total of a walk over derivable edges; the open cell is the least over derivable and lower-case edges together."
pub record Tables (p : Plan) (strict weak : Table) : Type 0 where
  pub strict_least : (x y : ℕ) → x < p.points → y < p.points → Least (Derivable p) x y (strict x y)
  pub open_least : (x y : ℕ) → x < p.points → y < p.points → Least (Open p) x y (weak x y)

-- "Tables are closed for a plan if ..": each part of that sentence, in its order. `weak` is the open table.
pub record Closed (r : Ranges) (p : Plan) (strict weak : Table) : Type 0 where
  -- "each cell is the mark or lies from -63,000,000 to 63,000,000"
  pub strict_within : (x y : ℕ) → x < p.points → y < p.points → Within r.reach (strict x y)
  pub open_within : (x y : ℕ) → x < p.points → y < p.points → Within r.reach (weak x y)
  -- "both diagonals are 0"
  pub strict_diagonal : (x : ℕ) → x < p.points → strict x x ≡ num (pos zero)
  pub open_diagonal : (x : ℕ) → x < p.points → weak x x ≡ num (pos zero)
  -- "in each table no cell exceeds the sum of two cells along a middle point"
  pub strict_join_rule : (x y z : ℕ) → x < p.points → y < p.points → z < p.points → strict x z ≤ᶜ (strict x y +ᶜ strict y z)
  pub open_join_rule : (x y z : ℕ) → x < p.points → y < p.points → z < p.points → weak x z ≤ᶜ (weak x y +ᶜ weak y z)
  -- "no strict cell exceeds a given edge"
  pub given : (x y : ℕ) (w : ℤ) → Given p x y w → strict x y ≤ᶜ num w
  -- "or what Lower or Upper yields from strict cells"
  pub lower : (k j : Link) → Memᴰ k p.links → Memᴰ j p.links → j.con ≢ k.con
      → strict k.act j.con ≤ᶜ lowered k j (strict k.con j.con)
  pub upper : (k : Link) → Memᴰ k p.links → (x : ℕ) → x < p.points
      → strict x k.act ≤ᶜ uppered k (strict x k.con)
  -- "no open cell exceeds the strict cell of its pair or the lower-case edge"
  pub open_strict : (x y : ℕ) → x < p.points → y < p.points → weak x y ≤ᶜ strict x y
  pub open_lower_case : (k : Link) → Memᴰ k p.links → weak k.act k.con ≤ᶜ num (pos k.short)
