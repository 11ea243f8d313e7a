-- The second demand: Judge refuses exactly the uncontrollable plans and else writes the least walk totals; Check accepts exactly the closed tables, so
-- everything that Judge writes, and nothing for an uncontrollable plan. Assumes nothing.
use Rattle.std.specs.Prelude.{◌≡◌, ◌≢◌, ◌⊎◌, ◌↔◌, List, ℕ, ◌*◌, ◌-◌, ◌<◌, ℤ}
use Rattle.rules.specs.Answers.{Answer, Done, NotControllable}
use Rattle.rules.specs.Plan.{version1}
use Rattle.rules.specs.Walks.{Uncontrollable}
use Rattle.rules.specs.Cells.{Within, table_of}
use Rattle.rules.specs.Tables.{Tables, Closed}
use Rattle.rules.specs.Calls.{RoomForTables}
use Rattle.plan.specs.Layout.{plan_of}
use Rattle.plan.specs.File.{file_answer}
use Rattle.demands.specs.Programs.{AJudge, ACheck}

-- of any Judge and any Check, for a sound file and tables with room
pub record Demand2 (Judge : AJudge) (Check : ACheck) : Type 0 where
  -- Judge answers 0 or 11
  pub judge_decides : (s : List ℕ) (strict weak : List ℤ) (a : Answer) (strict' weak' : List ℤ) → file_answer s ≡ Done
      → RoomForTables (plan_of s) strict weak → Judge s strict weak a strict' weak'
      → (a ≡ Done) ⊎ (a ≡ NotControllable)
  -- 11 exactly when the plan is uncontrollable
  pub judge_refuses_exactly : (s : List ℕ) (strict weak : List ℤ) (a : Answer) (strict' weak' : List ℤ) → file_answer s ≡ Done
      → RoomForTables (plan_of s) strict weak → Judge s strict weak a strict' weak'
      → (a ≡ NotControllable) ↔ Uncontrollable (plan_of s)
  -- with 0 the tables are the least walk totals
  pub judge_writes_least : (s : List ℕ) (strict weak strict' weak' : List ℤ)
      → Judge s strict weak Done strict' weak'
      → Tables (plan_of s) (table_of version1 (plan_of s).points strict') (table_of version1 (plan_of s).points weak')
  -- "every other cell lies within 1,000,000 x (n - 1) of zero"
  pub judge_strict_near_zero : (s : List ℕ) (strict weak strict' weak' : List ℤ)
      → Judge s strict weak Done strict' weak' → (x y : ℕ) → x < (plan_of s).points → y < (plan_of s).points
      → Within (version1.weight * ((plan_of s).points - 1)) (table_of version1 (plan_of s).points strict' x y)
  pub judge_open_near_zero : (s : List ℕ) (strict weak strict' weak' : List ℤ)
      → Judge s strict weak Done strict' weak' → (x y : ℕ) → x < (plan_of s).points → y < (plan_of s).points
      → Within (version1.weight * ((plan_of s).points - 1)) (table_of version1 (plan_of s).points weak' x y)
  -- Check answers 0 exactly for closed tables
  pub check_accepts_exactly : (s : List ℕ) (strict weak : List ℤ) (a : Answer) → file_answer s ≡ Done → RoomForTables (plan_of s) strict weak
      → Check s strict weak a
      → (a ≡ Done) ↔ Closed version1 (plan_of s) (table_of version1 (plan_of s).points strict) (table_of version1 (plan_of s).points weak)
  -- Check accepts what Judge wrote with the same file
  pub check_accepts_judged : (s : List ℕ) (strict weak strict' weak' : List ℤ) (a : Answer)
      → Judge s strict weak Done strict' weak' → Check s strict' weak' a → a ≡ Done
  -- and no tables for an uncontrollable plan
  pub check_rejects_uncontrollable : (s : List ℕ) (strict weak : List ℤ) (a : Answer) → Check s strict weak a
      → Uncontrollable (plan_of s) → a ≢ Done
