-- What a plan that was made of a file says of that file. Assumes nothing.
use mathlib.Core.Path.{◌≡◌, subst}
use mathlib.Core.List.{List}
use Prim.Native.Nat.{ℕ}
use Rattle.std.specs.Borrow.{Bor}
use Rattle.plan.specs.Ready.{Ready}
use Rattle.reader.specs.declared.sound.SoundPlan.{SoundPlan}

-- the file is sound, and has the plan's counts
pub ready_of : {file : Bor (List ℕ)} (plan : SoundPlan) → plan.file ≡ file → Ready file.now plan.n plan.m plan.k
ready_of plan e = subst (λ (f : Bor (List ℕ)). Ready f.now plan.n plan.m plan.k) e plan.ready
