-- What Judge answers to a file when it is lent two tables of 4,096 zeros, room for any plan. Assumes nothing.
use Rattle.std.specs.Prelude.{List, ℕ, ℤ, pos, replicate}
use Rattle.rules.specs.Answers.{Answer}
use Rattle.rules.specs.Plan.{version1}
use Rattle.rules.specs.Calls.{Judged}
use Rattle.plan.specs.Layout.{plan_of}
use Rattle.plan.specs.File.{file_answer}

-- a table as it is before the call
abbrev pub blank : List ℤ
blank = replicate 4096 (pos 0)

pub record IsJudged (file : List ℕ) (a : Answer) : Type 0 where
  pub strict : List ℤ
  pub weak : List ℤ
  pub judged : Judged version1 (file_answer file) (plan_of file) blank blank a strict weak
