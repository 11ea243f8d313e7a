-- The small program "writes `controllable` or `refused CODE PLACE`, then a line feed". Assumes nothing.
use Rattle.std.specs.Prelude.{List, ◌++◌, ℕ, if◌then◌else◌, ◌==◌, codes, decimal}
use Rattle.rules.specs.Answers.{Answer, code_of, place_of}

-- the numbers of an answer, code and place
abbrev pub numbers_of : Answer → List ℕ
numbers_of a = decimal (code_of a) ++ (codes " " ++ decimal (place_of a))

-- the verdict of an answer: 0 says that the plan is controllable, any other code that it is refused
abbrev pub verdict_of : Answer → List ℕ
verdict_of a = if code_of a == 0 then codes "controllable\n" else codes "refused " ++ (numbers_of a ++ codes "\n")
