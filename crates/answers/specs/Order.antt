-- Document 01, "Numbers returned": "The order is ..". Answers that are asked for one after another, of which the first refusal counts.
-- Assumes nothing.
use Rattle.std.specs.Prelude.{Bool, true, false, Err}
use Rattle.rules.specs.Answers.{Answer, Done}

-- the first refusal of two answers, in their order
infixr 20 ◌then◌
abbrev pub ◌then◌ : Answer → Answer → Answer
Done then b = b
Err refusal then b = Err refusal

-- a refusal, unless a test holds
abbrev pub unless : Bool → Answer → Answer
unless true refusal = Done
unless false refusal = refusal
