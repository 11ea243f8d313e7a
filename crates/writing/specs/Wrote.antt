-- Document 02, item 1: what `write` answers, and what it leaves in every byte of the buffer, for all lists and buffers.
-- Assumes nothing.
use Rattle.std.specs.Prelude.{◌≡◌, ◌≢◌, List, ◌++◌, ℕ, leb, length, drop}
use Rattle.rules.specs.Plan.{version1}
use Rattle.rules.specs.Answers.{Answer, Done, ShortRoom}
use Rattle.answers.specs.Order.{◌then◌, unless}
use Rattle.plan.specs.Layout.{plan_bytes}
use Rattle.plan.specs.File.{plan_answer}
use Rattle.writing.specs.PlanLists.{Lists, listed_plan, even_lists}

-- the file to be written: the bytes of the plan that the lists hold
abbrev pub file_of : Lists → List ℕ
file_of l = plan_bytes (listed_plan l)

-- "It refuses what the reader refuses, with the same codes; a buffer shorter than the file gets 9, last."
unfoldable pub write_answer : Lists → ℕ → Answer
write_answer l room = plan_answer version1 (even_lists l) (listed_plan l) then unless (leb (length (file_of l)) room) ShortRoom

-- The lists, the buffer before, the answer, the buffer after.
pub record Wrote (l : Lists) (before : List ℕ) (a : Answer) (after : List ℕ) : Type 0 where
  pub answer : a ≡ write_answer l (length before)
  -- "plans written into a lent buffer: header, limits and links in the order given"; "Bytes past the file stay."
  pub written : a ≡ Done → after ≡ file_of l ++ drop (length (file_of l)) before
  -- "Any refusal leaves the buffer unchanged."
  pub refused : a ≢ Done → after ≡ before
