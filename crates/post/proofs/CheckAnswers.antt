-- Check, answer by answer: from what its calls ensure to its statement. Assumes nothing.
use mathlib.Core.Path.{◌≡◌, refl, subst⁻¹}
use mathlib.Core.Bool.{Bool, true, false}
use mathlib.Core.Logic.{◌≢◌}
use mathlib.Core.List.{List}
use Prim.Native.Nat.{ℕ, ◌*◌, ◌≤◌}
use lib.ListN.{length}
use lib.IntN.{ℤ}
use Rattle.rules.specs.Plan.{version1}
use Rattle.rules.specs.Answers.{Answer, Done, NotClosed}
use Rattle.rules.specs.Cells.{table_of}
use Rattle.rules.specs.Tables.{Closed}
use Rattle.rules.specs.Calls as calls
use Rattle.rules.specs.Calls.{Checked}
use Rattle.plan.specs.Layout.{plan_of}
use Rattle.plan.specs.File.{file_answer}
use Rattle.lowering.specs.Table.{Ready}
use Rattle.lowering.proofs.Laws.ReadyFile.{ready_points}
use Rattle.post.specs.Lent.{Lent}
use Rattle.post.specs.Lent as before
use Rattle.post.proofs.JudgeAnswers.{ready_room}
use Rattle.cell.specs.Steps.{Decides}

-- a refusal of what comes before the work
pub lent_checked : {s : List ℕ} {a : Answer} (strict weak : List ℤ) → Lent s (length strict) (length weak) a → a ≢ Done
    → Checked version1 (file_answer s) (plan_of s) strict weak a
lent_checked strict weak (before.Lent.bad_file n) e = calls.Checked.bad_file n
lent_checked strict weak (before.Lent.short d r) e = calls.Checked.short_room d r
lent_checked strict weak (before.Lent.enough d r w) e = absurd (e refl)

-- past it, by the counts of the file, the rest of Check's answers
module _ {s : List ℕ} {n m k : ℕ} (r : Ready s n m k) (strict weak : List ℤ) (ls : n * n ≤ length strict) (lw : n * n ≤ length weak) (b : Bool)
    (t : Decides b (Closed version1 (plan_of s) (table_of version1 n strict) (table_of version1 n weak))) where
  -- the plan's tables are those that were tested
  there : Decides b (Closed version1 (plan_of s) (table_of version1 (plan_of s).points strict) (table_of version1 (plan_of s).points weak))
  there =
      subst⁻¹ (λ (o : ℕ). Decides b (Closed version1 (plan_of s) (table_of version1 o strict) (table_of version1 o weak))) (ready_points s n m k r) t

  pub are_closed : b ≡ true → Checked version1 (file_answer s) (plan_of s) strict weak Done
  are_closed y = calls.Checked.closed r.sound (ready_room s n m k r strict weak ls lw) (there.holds y)

  pub are_not : b ≡ false → Checked version1 (file_answer s) (plan_of s) strict weak NotClosed
  are_not y = calls.Checked.not_closed r.sound (ready_room s n m k r strict weak ls lw) (there.fails y)
