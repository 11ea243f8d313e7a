-- Add's statement fixes its answer. Assumes nothing.
use mathlib.Core.List.{List}
use Prim.Native.Nat.{ℕ}
use lib.IntN.{ℤ}
use Rattle.rules.specs.Plan.{Limit, version1}
use Rattle.rules.specs.Calls.{Added}
use Rattle.rules.specs.Answers.{Answer}
use Rattle.rules.proofs.OneAnswer.{SameAdded, added_once}
use Rattle.plan.specs.Layout.{plan_of}
use Rattle.plan.specs.File.{add_answer}
use Rattle.plan.proofs.SoundFile.{good, add_exactly}

-- two answers that meet Add's statement are equal, in code, place and every lent cell
pub add_once : (s : List ℕ) (l : Limit) {strict weak scratch : List ℤ} {a b : Answer} {s₁ s₂ w₁ w₂ c₁ c₂ : List ℤ}
    → Added version1 (add_answer s l) (plan_of s) l strict weak scratch a s₁ w₁ c₁
    → Added version1 (add_answer s l) (plan_of s) l strict weak scratch b s₂ w₂ c₂ → SameAdded a b s₁ s₂ w₁ w₂ c₁ c₂
add_once s l x y =
    added_once version1 (add_answer s l) (plan_of s) l (λ e. (good s ((add_exactly s l).0 e).0).ranges) (λ e. ((add_exactly s l).0 e).1) x y
