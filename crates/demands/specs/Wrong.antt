-- Document 01, "What each statement must determine": "Try these on demands 2 and 3 together". Each of its wrong programs, as any call that behaves so, and that no such
-- call meets the demands. Assumes nothing.
use Rattle.std.specs.Prelude.{◌≡◌, ◌≢◌, List, [], ℕ, ℤ}
use Rattle.rules.specs.Answers.{Answer, Done, NotControllable, NotClosed}
use Rattle.rules.specs.Plan.{Limit}
use Rattle.plan.specs.Layout.{plan_of}
use Rattle.demands.specs.Programs.{AJudge, ACheck, AnAdd}
use Rattle.demands.specs.Demand2.{Demand2}
use Rattle.demands.specs.Demand3.{Desk, Demand3}

-- A program ends: whatever it is lent, it gives some answer and leaves something.
pub record JudgeGives (Judge : AJudge) (s : List ℕ) (strict weak : List ℤ) : Type 0 where
  pub answer : Answer
  pub strict_after : List ℤ
  pub open_after : List ℤ
  pub given : Judge s strict weak answer strict_after open_after

pub record CheckGives (Check : ACheck) (s : List ℕ) (strict weak : List ℤ) : Type 0 where
  pub answer : Answer
  pub given : Check s strict weak answer

pub record AddGives (Add : AnAdd) (s : List ℕ) (m : Limit) (strict weak scratch : List ℤ) : Type 0 where
  pub answer : Answer
  pub strict_after : List ℤ
  pub open_after : List ℤ
  pub scratch_after : List ℤ
  pub given : Add s m strict weak scratch answer strict_after open_after scratch_after

abbrev pub JudgeEnds : AJudge → Type 0
JudgeEnds Judge = (s : List ℕ) (strict weak : List ℤ) → JudgeGives Judge s strict weak

abbrev pub CheckEnds : ACheck → Type 0
CheckEnds Check = (s : List ℕ) (strict weak : List ℤ) → CheckGives Check s strict weak

abbrev pub AddEnds : AnAdd → Type 0
AddEnds Add = (s : List ℕ) (m : Limit) (strict weak scratch : List ℤ) → AddGives Add s m strict weak scratch

-- "a Judge that refuses everything": it never answers 0
abbrev pub RefusesEverything : AJudge → Type 0
RefusesEverything Judge = (s : List ℕ) (strict weak strict' weak' : List ℤ) → Judge s strict weak Done strict' weak' → ⊥

-- "a Check that rejects everything": it never answers 0
abbrev pub RejectsEverything : ACheck → Type 0
RejectsEverything Check = (s : List ℕ) (strict weak : List ℤ) → Check s strict weak Done → ⊥

-- "a Judge with one table for all plans": what it leaves with 0 in the same slices follows from the number of points alone
abbrev pub OneTableForAll : AJudge → Type 0
OneTableForAll Judge =
    (s t : List ℕ) (strict weak s₁ w₁ s₂ w₂ : List ℤ) → (plan_of s).points ≡ (plan_of t).points → Judge s strict weak Done s₁ w₁
    → Judge t strict weak Done s₂ w₂ → (s₁ ≡ s₂) × (w₁ ≡ w₂)

-- "an Add that writes nothing": both tables stay, whatever it answers
abbrev pub WritesNothing : AnAdd → Type 0
WritesNothing Add =
    (s : List ℕ) (m : Limit) (strict weak scratch : List ℤ) (a : Answer) (strict' weak' scratch' : List ℤ)
    → Add s m strict weak scratch a strict' weak' scratch' → (strict' ≡ strict) × (weak' ≡ weak)

-- "or refuses all": it never answers 0
abbrev pub RefusesAll : AnAdd → Type 0
RefusesAll Add =
    (s : List ℕ) (m : Limit) (strict weak scratch strict' weak' scratch' : List ℤ) → Add s m strict weak scratch Done strict' weak' scratch' → ⊥

-- "or that handles its first limit and then only answers 0": once a limit was taken at a desk, it answers 0 to every other, and both tables stay
abbrev pub OnlyItsFirst : AJudge → AnAdd → Type 0
OnlyItsFirst Judge Add =
    (s : List ℕ) (ts rs : List Limit) (strict weak : List ℤ) → Desk Judge Add s ts rs strict weak → ts ≢ []
    → (m : Limit) (scratch : List ℤ) (a : Answer) (strict' weak' scratch' : List ℤ) → Add s m strict weak scratch a strict' weak' scratch'
    → (a ≡ Done) × (strict' ≡ strict) × (weak' ≡ weak)

-- none of them meets the demands, whatever the other calls are, as long as they end: what never answers would meet any demand
pub record WrongOnesShutOut : Type 1 where
  -- "demand 2 shuts both out, by 'exactly'"
  pub refusing_judge : (Judge : AJudge) (Check : ACheck) → JudgeEnds Judge → RefusesEverything Judge → Demand2 Judge Check → ⊥
  pub rejecting_check : (Judge : AJudge) (Check : ACheck) → JudgeEnds Judge → CheckEnds Check → RejectsEverything Check → Demand2 Judge Check → ⊥
  -- "(demand 2)"
  pub one_table_judge : (Judge : AJudge) (Check : ACheck) → JudgeEnds Judge → OneTableForAll Judge → Demand2 Judge Check → ⊥
  -- "(demand 3, whose end tables are demand 2's)"
  pub silent_add : (Judge : AJudge) (Check : ACheck) (Add : AnAdd) → JudgeEnds Judge → AddEnds Add → WritesNothing Add
      → Demand2 Judge Check → Demand3 Judge Add → ⊥
  pub refusing_add : (Judge : AJudge) (Check : ACheck) (Add : AnAdd) → JudgeEnds Judge → AddEnds Add → RefusesAll Add
      → Demand2 Judge Check → Demand3 Judge Add → ⊥
  pub first_only_add : (Judge : AJudge) (Check : ACheck) (Add : AnAdd) → JudgeEnds Judge → AddEnds Add → OnlyItsFirst Judge Add
      → Demand2 Judge Check → Demand3 Judge Add → ⊥

-- The simplest of them: programs that give one answer to everything and leave both tables as they were.
abbrev pub judge_saying : Answer → AJudge
judge_saying a s strict weak b strict' weak' = (b ≡ a) × (strict' ≡ strict) × (weak' ≡ weak)

abbrev pub check_saying : Answer → ACheck
check_saying a s strict weak b = b ≡ a

abbrev pub add_saying : Answer → AnAdd
add_saying a s m strict weak scratch b strict' weak' scratch' = (b ≡ a) × (strict' ≡ strict) × (weak' ≡ weak)

-- so each behaviour above is some program's, and what is said of it is said of something
pub record WrongOnesExist : Type 1 where
  pub refusing_judge : JudgeEnds (judge_saying NotControllable) × RefusesEverything (judge_saying NotControllable)
  pub rejecting_check : CheckEnds (check_saying NotClosed) × RejectsEverything (check_saying NotClosed)
  pub one_table_judge : JudgeEnds (judge_saying Done) × OneTableForAll (judge_saying Done)
  pub silent_add : AddEnds (add_saying Done) × WritesNothing (add_saying Done)
  pub refusing_add : AddEnds (add_saying NotControllable) × RefusesAll (add_saying NotControllable)
  pub first_only_add : (Judge : AJudge) → AddEnds (add_saying Done) × OnlyItsFirst Judge (add_saying Done)
