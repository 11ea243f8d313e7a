-- Tests over every number below a count: the turns of a loop that stops at the first number for which its test fails, and of one that goes on to the
-- end. Assumes nothing.
use mathlib.Core.Path.{◌≡◌}
use mathlib.Core.Bool.{Bool, true, false, not}
use Prim.Native.Nat.{ℕ, ◌+◌, ◌≤◌, ◌<◌}
use native.Mathlib.Omega.{arith}
use borrow.Author.Count.{below_none, below_more}
use borrow.Author.Tests.{not-true, not-false}
use Rattle.cell.specs.Steps.{Decides}
use Rattle.cell.proofs.CellMethods.{decided_yes, decided_no}

-- ---- a loop that stops

-- the first i of m numbers have passed
pub record Passed (m : ℕ) (P : ℕ → Type 0) (i : ℕ) : Type 0 where
  pub bound : i ≤ m
  pub each : (x : ℕ) → x < i → P x

module _ {m : ℕ} {P : ℕ → Type 0} where
  pub none_yet : Passed m P 0
  none_yet = record { bound = omega arith; each = below_none P }

  module _ {i : ℕ} (t : Passed m P i) where
    -- one more
    pub passes : i < m → P i → Passed m P (i + 1)
    passes h p = record { bound = omega arith; each = below_more P i t.each p }

    -- one more passed its test
    pub one_more : {b : Bool} → i < m → Decides b (P i) → b ≡ true → Passed m P (i + 1)
    one_more {b} h d e = passes h (d.holds (e))

    -- one failed
    pub one_failed : {b : Bool} → i < m → Decides b (P i) → b ≡ false → Decides false ((x : ℕ) → x < m → P x)
    one_failed {b} h d e = decided_no (λ all. d.fails (e) (all i h))

    -- all passed
    pub passed_all : m ≤ i → (x : ℕ) → x < m → P x
    passed_all h x l = t.each x (omega arith)

    pub all_passed : m ≤ i → Decides true ((x : ℕ) → x < m → P x)
    all_passed h = decided_yes (passed_all h)

-- ---- a loop that goes on to the end

-- what was found of the first i of m numbers
pub record Tried (m : ℕ) (P : ℕ → Type 0) (i : ℕ) (b : Bool) : Type 0 where
  pub bound : i ≤ m
  pub decides : Decides b ((x : ℕ) → x < i → P x)

module _ {m : ℕ} {P : ℕ → Type 0} where
  pub none_tried : Tried m P 0 true
  none_tried = record { bound = omega arith; decides = decided_yes (below_none P) }

  module _ {i : ℕ} {b : Bool} (t : Tried m P i b) where
    -- one more passed its test
    pub tried_more : {d : Bool} → i < m → Decides d (P i) → d ≡ true → Tried m P (i + 1) b
    tried_more {d} h k e =
        record {
          bound = omega arith;
          decides = record {
            holds = λ q. below_more P i (t.decides.holds q) (k.holds (e));
            fails = λ q all. t.decides.fails q (λ x l. all x (omega arith));
          };
        }

    -- one failed
    pub tried_failed : {d : Bool} → i < m → Decides d (P i) → d ≡ false → Tried m P (i + 1) false
    tried_failed {d} h k e = record { bound = omega arith; decides = decided_no (λ all. k.fails (e) (all i (omega arith))) }

    -- all were tried
    pub all_tried : m ≤ i → Decides b ((x : ℕ) → x < m → P x)
    all_tried h =
        let e : i ≡ m = omega (arith, t.bound) in
        rw (← e) t.decides
