-- A worked plan, what is said of it, and when that holds of the definitions. Assumes nothing.
use Rattle.std.specs.Prelude.{◌≡◌, List, [], ◌∷◌, ℕ, zero, ◌≤◌, ◌<◌, length, get_or, ℤ, pos, neg_ℤ}
use Rattle.rules.specs.Answers.{Answer, Done, NotControllable}
use Rattle.rules.specs.Plan.{Limit, Plan, version1}
use Rattle.rules.specs.Walks.{Uncontrollable}
use Rattle.rules.specs.Cells.{num, Table, table_of}
use Rattle.rules.specs.Tables.{Tables}
use Rattle.rules.specs.Calls.{Filled, scratch_of, Added}

-- what is said of a plan: refused; controllable; its strict and its open table row by row, and its earliest timetable where one is given; or of
-- Add of a limit to its two tables: taken, with the tables after it, or declined
pub data Verdict : Type 0 where
  refused : Verdict
  controllable : Verdict
  settled : List ℤ → List ℤ → List ℤ → Verdict
  takes : Limit → List ℤ → List ℤ → List ℤ → List ℤ → Verdict
  declines : Limit → List ℤ → List ℤ → Verdict

pub record Case : Type 0 where
  pub plan : Plan
  pub verdict : Verdict

-- some tables are the plan's
pub record HasTables (p : Plan) : Type 0 where
  pub strict : Table
  pub weak : Table
  pub tables : Tables p strict weak

-- these lists are the plan's tables, and these its earliest times: "time of X is minus the strict cell from X to 0"
pub record Settled (p : Plan) (strict weak times : List ℤ) : Type 0 where
  pub tables : Tables p (table_of version1 p.points strict) (table_of version1 p.points weak)
  pub early : (x : ℕ) → x < length times → table_of version1 p.points strict x zero ≡ num (neg_ℤ (get_or times x (pos zero)))

-- these lists are the plan's tables, and Add of the limit to them, for a sound file and any scratch with room, gives this answer and leaves these
-- lists and a scratch of zeros; that it gives no other is `added_once` of the rules
pub record Adds (p : Plan) (m : Limit) (strict weak : List ℤ) (a : Answer) (strict' weak' : List ℤ) : Type 0 where
  pub tables : Settled p strict weak []
  pub answer : (scratch scratch' : List ℤ) → scratch_of p ≤ length scratch → Filled (scratch_of p) (pos zero) scratch scratch'
      → Added version1 Done p m strict weak scratch a strict' weak' scratch'

-- what is said holds
abbrev pub Says : Plan → Verdict → Type 0
Says p refused = Uncontrollable p
Says p controllable = HasTables p
Says p (settled strict weak times) = Settled p strict weak times
Says p (takes m strict weak strict' weak') = Adds p m strict weak Done strict' weak'
Says p (declines m strict weak) = Adds p m strict weak NotControllable strict weak

-- of every case of a table
abbrev pub AllHold : List Case → Type 0
AllHold [] = Unit {0}
AllHold (c ∷ cs) = Says c.plan c.verdict × AllHold cs
