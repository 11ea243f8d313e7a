-- What Earliest's times are: "the earliest timetable of a plan without links". Assumes nothing.
use Rattle.std.specs.Prelude.{List, ℕ, zero, get_or, ℤ, pos}
use Rattle.rules.specs.Answers.{Done}
use Rattle.rules.specs.Plan.{version1}
use Rattle.rules.specs.Times.{EarliestTimes}
use Rattle.rules.specs.Calls.{Timed}
use Rattle.plan.specs.Layout.{plan_of}
use Rattle.plan.specs.File.{file_answer}

-- with 0 the times meet every limit, point 0 is at 0, none is below 0, and no timetable that meets the limits has an earlier time at any point
abbrev pub EarliestIsEarliest : Type 0
EarliestIsEarliest =
    (s : List ℕ) (strict weak times strict' weak' times' : List ℤ)
    → Timed version1 (file_answer s) (plan_of s) strict weak times Done strict' weak' times'
    → EarliestTimes (plan_of s) (λ x. get_or times' x (pos zero))
