-- Both tables of Add's plan in one scratch: the strict one in its first n x n cells, the open one in the next n x n. Assumes nothing.
use Rattle.std.specs.Prelude.{◌≡◌, Bool, true, false, ◌⊎◌, List, ℕ, ◌+◌, ◌*◌, ◌≤◌, length, take, drop, ℤ}
use Rattle.rules.specs.Plan.{Link, Ranges}
use Rattle.lowering.specs.Sweep.{sweep_strict, sweep_open}
use Rattle.lowering.specs.Table.{Sound}
use Rattle.lowering.specs.Fair.{Fair, Unfair}

-- the part that holds the strict table, and the part that holds the open one
abbrev pub strict_part : ℕ → List ℤ → List ℤ
strict_part n t = take (n * n) t

abbrev pub open_part : ℕ → List ℤ → List ℤ
open_part n t = drop (n * n) t

-- a scratch with room for both, whose cells a sweep stores
pub record Both (r : Ranges) (n : ℕ) (t : List ℤ) : Type 0 where
  pub room : n * n + n * n ≤ length t
  pub strict : Sound r n (strict_part n t)
  pub weak : Sound r n (open_part n t)

-- two tables come from two others by sweeps
pub data Swept (r : Ranges) (n : ℕ) (link : ℕ → Link) (links : ℕ) (strict weak : List ℤ) : List ℤ → List ℤ → Type 0 where
  none : Swept r n link links strict weak strict weak
  more : {u v u' v' : List ℤ} → Swept r n link links strict weak u v → u' ≡ sweep_strict r n link links u → v' ≡ sweep_open r n link links u' v
      → Swept r n link links strict weak u' v'

-- a sweep changes neither table, and nothing in them speaks against the plan
pub record Quiet (r : Ranges) (n : ℕ) (link : ℕ → Link) (links : ℕ) (u v : List ℤ) : Type 0 where
  pub strict_same : sweep_strict r n link links u ≡ u
  pub open_same : sweep_open r n link links u v ≡ v
  pub strict_fair : Fair r n u
  pub open_fair : Fair r n v

-- sweeps of two tables until both stay, with true, or until one of them speaks against the plan, with false
pub record Settled (r : Ranges) (n : ℕ) (link : ℕ → Link) (links : ℕ) (strict weak u v : List ℤ) (b : Bool) : Type 0 where
  pub swept : Swept r n link links strict weak u v
  pub quiet : b ≡ true → Quiet r n link links u v
  pub against : b ≡ false → Unfair r n u ⊎ Unfair r n v

-- the same of both parts of a scratch
abbrev pub Ended : Ranges → ℕ → (ℕ → Link) → ℕ → List ℤ → List ℤ → Bool → Type 0
Ended r n link links t u b = Settled r n link links (strict_part n t) (open_part n t) (strict_part n u) (open_part n u) b
