-- Document 01, "Numbers returned": what comes before the work of every call that is lent two tables, codes 1 to 8 and then 9.
-- Assumes nothing.
use Rattle.std.specs.Prelude.{◌≡◌, ◌≢◌, ◌⊎◌, List, ℕ, ◌≤◌, ◌<◌}
use Rattle.rules.specs.Answers.{Answer, Done, ShortRoom}
use Rattle.rules.specs.Calls.{cells_of}
use Rattle.plan.specs.Layout.{plan_of}
use Rattle.plan.specs.File.{file_answer}

-- the file's own refusal; "a lent slice is shorter than needed", of two tables of so many cells; or neither
pub data Lent (s : List ℕ) (strict weak : ℕ) : Answer → Type 0 where
  bad_file : file_answer s ≢ Done → Lent s strict weak (file_answer s)
  short : file_answer s ≡ Done → (strict < cells_of (plan_of s)) ⊎ (weak < cells_of (plan_of s)) → Lent s strict weak ShortRoom
  enough : file_answer s ≡ Done → cells_of (plan_of s) ≤ strict → cells_of (plan_of s) ≤ weak → Lent s strict weak Done
