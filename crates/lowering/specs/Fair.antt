-- What is looked at in both tables in every round, and after every sweep of Add: no cell under the reach, no diagonal cell
-- below 0. Assumes nothing.
use Rattle.std.specs.Prelude.{◌≡◌, Bool, true, false, List, ℕ, zero, ◌<◌, ℤ, pos, neg_ℤ, ◌<ℤ◌}
use Rattle.rules.specs.Plan.{Ranges}
use Rattle.rules.specs.Cells.{num, ◌≤ᶜ◌, Within, table_of}

-- no cell is under the reach
abbrev pub AllWithin : Ranges → ℕ → List ℤ → Type 0
AllWithin r n t = (x y : ℕ) → x < n → y < n → Within r.reach (table_of r n t x y)

-- no diagonal cell is below 0
abbrev pub NoneNegative : Ranges → ℕ → List ℤ → Type 0
NoneNegative r n t = (x : ℕ) → x < n → num (pos zero) ≤ᶜ table_of r n t x x

-- nothing speaks against the plan
pub record Fair (r : Ranges) (n : ℕ) (t : List ℤ) : Type 0 where
  pub within : AllWithin r n t
  pub diagonal : NoneNegative r n t

-- a cell under the reach, or a negative one on the diagonal
pub data Unfair (r : Ranges) (n : ℕ) (t : List ℤ) : Type 0 where
  low : {x y : ℕ} {c : ℤ} → x < n → y < n → table_of r n t x y ≡ num c → c <ℤ neg_ℤ (pos r.reach) → Unfair r n t
  negative : {x : ℕ} {c : ℤ} → x < n → table_of r n t x x ≡ num c → c <ℤ pos zero → Unfair r n t

-- what a look at tables says: true where one thing holds, false where another does
pub record Looked (b : Bool) (good bad : Type 0) : Type 0 where
  pub holds : b ≡ true → good
  pub fails : b ≡ false → bad
