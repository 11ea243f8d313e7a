-- Document 02, item 7: "The post stores a plan in the afternoon and judges it at night. Split Judge: one call says whether the file is sound
-- (codes 1 to 8), one fills the tables and still refuses unsound files, since flash can change." What the two come to together, of any Sound and
-- any Judge. Assumes nothing.
use Rattle.std.specs.Prelude.{◌≡◌, ◌≢◌, ◌⊎◌, ◌↔◌, List, ℕ, ℤ}
use Rattle.rules.specs.Answers.{Answer, Done, NotControllable}
use Rattle.rules.specs.Calls.{RoomForTables}
use Rattle.plan.specs.Layout.{plan_of}
use Rattle.plan.specs.File.{PlanFile}
use Rattle.demands.specs.Programs.{ASound, AJudge}

-- A caller that has moved to the pair, on a file that stays: Sound, and Judge only where Sound said 0. The file; both tables before; the answer; both
-- tables after.
pub data InTurn (Sound : ASound) (Judge : AJudge) (s : List ℕ) (strict weak : List ℤ) : Answer → List ℤ → List ℤ → Type 0 where
  refused : {a : Answer} → Sound s a → a ≢ Done → InTurn Sound Judge s strict weak a strict weak
  gone_on : {a : Answer} {strict' weak' : List ℤ} → Sound s Done → Judge s strict weak a strict' weak'
      → InTurn Sound Judge s strict weak a strict' weak'

pub record PairLaws (Sound : ASound) (Judge : AJudge) : Type 0 where
  -- "whether the file is sound": 0 exactly for what "Plan file" of document 01 lays down
  pub sound_exactly : (s : List ℕ) (a : Answer) → Sound s a → (a ≡ Done) ↔ PlanFile s
  -- Sound said 0 and the file did not change: Judge with room answers 0 or 11 and nothing else
  pub unchanged : (s : List ℕ) (strict weak : List ℤ) (a : Answer) (strict' weak' : List ℤ) → Sound s Done
      → RoomForTables (plan_of s) strict weak → Judge s strict weak a strict' weak' → (a ≡ Done) ⊎ (a ≡ NotControllable)
  -- "still refuses unsound files, since flash can change": whatever Sound said of other bytes before, Judge answers what Sound would say of those that it
  -- finds, and both tables stay
  pub changed : (t : List ℕ) (b : Answer) (strict weak : List ℤ) (a : Answer) (strict' weak' : List ℤ) → Sound t b → b ≢ Done
      → Judge t strict weak a strict' weak' → (a ≡ b) × (strict' ≡ strict) × (weak' ≡ weak)
  -- "All callers move to the pair; codes, order and leftovers stay.": the pair answers and leaves what Judge alone does, and nothing else
  pub in_turn_as_alone : (s : List ℕ) (strict weak : List ℤ) (a : Answer) (strict' weak' : List ℤ)
      → InTurn Sound Judge s strict weak a strict' weak' ↔ Judge s strict weak a strict' weak'
