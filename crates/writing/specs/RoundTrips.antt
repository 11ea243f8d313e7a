-- Document 02, item 1: "It refuses what the reader refuses, with the same codes"; "Reading what was written gives the same plan, and writing what was
-- read gives the same bytes." Assumes nothing.
use Rattle.std.specs.Prelude.{◌≡◌, ◌↔◌, true, List, ◌++◌, ℕ, ◌≤◌, leb, length, take, drop}
use Rattle.rules.specs.Plan.{Plan, version1, InRange}
use Rattle.rules.specs.Answers.{Answer, Done, ShortRoom}
use Rattle.answers.specs.Order.{◌then◌, unless}
use Rattle.fields.specs.Bytes.{AllBytes}
use Rattle.plan.specs.Layout.{link_offset, plan_of, plan_bytes, FitsFields}
use Rattle.plan.specs.File.{file_answer, PlanFile}
use Rattle.writing.specs.PlanLists.{Lists, listed_plan, even_lists, Hold, lists_of}
use Rattle.writing.specs.Wrote.{file_of, write_answer, Wrote}

-- what the reader makes of a list of bytes: a sound file, with this plan
pub record Reads (s : List ℕ) (p : Plan) : Type 0 where
  pub sound : file_answer s ≡ Done
  pub plan : plan_of s ≡ p

-- the bytes of a plan in range
pub record BytesOfPlan (s : List ℕ) : Type 0 where
  pub plan : Plan
  pub ranges : InRange version1 plan
  pub bytes : s ≡ plan_bytes plan

-- the length of the file of lists: "exactly 24 + 12m + 16k bytes"
abbrev pub size_of : Lists → ℕ
size_of l = link_offset (length l.from) (length l.act)

pub record RoundTrips : Type 0 where
  -- "It refuses what the reader refuses, with the same codes; a buffer shorter than the file gets 9, last.": the answer to lists of 32-bit numbers, each list
  -- whole, is the reader's to the file that is to be written, and then 9
  pub refuses_what_the_reader_refuses : (l : Lists) (room : ℕ) → FitsFields (listed_plan l) → even_lists l ≡ true
      → write_answer l room ≡ (file_answer (file_of l) then unless (leb (length (file_of l)) room) ShortRoom)
  -- "Reading what was written gives the same plan"
  pub reading_what_was_written : (l : Lists) (before after : List ℕ) → Wrote l before Done after
      → Reads (take (size_of l) after) (listed_plan l)
  -- "writing what was read gives the same bytes": for every sound file, whatever buffer with room is lent
  pub writing_what_was_read : (s : List ℕ) → AllBytes s → file_answer s ≡ Done → (l : Lists) → Hold l (plan_of s)
      → (before : List ℕ) (a : Answer) (after : List ℕ) → length s ≤ length before → Wrote l before a after
      → (a ≡ Done) × (after ≡ s ++ drop (length s) before)
  -- there are lists that hold any plan
  pub lists_of_a_plan : (p : Plan) → Hold (lists_of p) p
  -- a plan file is exactly the bytes of a plan in range
  pub plan_files_exactly : (s : List ℕ) → (AllBytes s × PlanFile s) ↔ BytesOfPlan s
