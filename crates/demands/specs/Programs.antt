-- A Sound, a Judge, a Check and an Add, as far as the demands can see one: which answer it may give, and what it may leave in each lent cell, for what
-- it is lent. The demands speak of any; ours are the statements that the calls are proved to meet. Assumes nothing.
use Rattle.std.specs.Prelude.{◌≡◌, List, ℕ, ℤ}
use Rattle.rules.specs.Answers.{Answer}
use Rattle.rules.specs.Plan.{Limit, version1}
use Rattle.rules.specs.Calls.{Judged, Checked, Added}
use Rattle.plan.specs.Layout.{plan_of}
use Rattle.plan.specs.File.{file_answer, add_answer}

-- the file; the answer. It is lent nothing that it could write.
abbrev pub ASound : Type 1
ASound = List ℕ → Answer → Type 0

-- the file; both tables before; the answer; both tables after
abbrev pub AJudge : Type 1
AJudge = List ℕ → List ℤ → List ℤ → Answer → List ℤ → List ℤ → Type 0

-- the file; both tables; the answer. "Check writes nothing."
abbrev pub ACheck : Type 1
ACheck = List ℕ → List ℤ → List ℤ → Answer → Type 0

-- the file; the new limit; both tables and the scratch before; the answer; all three after
abbrev pub AnAdd : Type 1
AnAdd = List ℕ → Limit → List ℤ → List ℤ → List ℤ → Answer → List ℤ → List ℤ → List ℤ → Type 0

-- the calls of the library: the contracts of `sound`, `judge`, `check` and `add` say these
abbrev pub our_sound : ASound
our_sound s a = a ≡ file_answer s

abbrev pub our_judge : AJudge
our_judge s = Judged version1 (file_answer s) (plan_of s)

abbrev pub our_check : ACheck
our_check s = Checked version1 (file_answer s) (plan_of s)

abbrev pub our_add : AnAdd
our_add s m = Added version1 (add_answer s m) (plan_of s) m
