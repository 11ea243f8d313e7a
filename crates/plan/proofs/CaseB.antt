-- Case b of the paper, whose bytes it gives: "The file's fields in order: 1, 2, 1, 0, 24, 36; 0, 1, 10; 36 bytes." The reader takes
-- it for the plan that the paper says, and they are that plan's bytes. Assumes nothing.
use mathlib.Core.Path.{◌≡◌, refl}
use mathlib.Core.List.{List, [], ◌∷◌, ◌++◌, flat_map}
use Prim.Native.Nat.{ℕ}
use lib.IntN.{pos}
use Rattle.rules.specs.Plan.{Plan, version1}
use Rattle.rules.specs.Answers.{Done}
use Rattle.fields.specs.Bytes.{word_at, signed_at, signed_of, word_bytes, bits_of}
use Rattle.plan.specs.Layout.{head_of, limit_at, link_at, plan_of, plan_fields, plan_bytes}
use Rattle.plan.specs.File.{counts_answer, limit_fits, link_fits, front_answer, plan_answer, file_answer}

-- a field of a small number
field : ℕ → List ℕ
field b = b ∷ 0 ∷ 0 ∷ 0 ∷ []

case_b_bytes : List ℕ
case_b_bytes = field 1 ++ field 2 ++ field 1 ++ field 0 ++ field 24 ++ field 36 ++ field 0 ++ field 1 ++ field 10

plan_b : Plan
plan_b = record { points = 2; limits = record { from = 0; to = 1; weight = pos 10 } ∷ []; links = [] }

b_is_read : plan_of case_b_bytes ≡ plan_b
unfolding case_b_bytes plan_b field plan_of head_of limit_at link_at word_at signed_at signed_of
b_is_read = refl

b_is_sound : file_answer case_b_bytes ≡ Done
unfolding case_b_bytes field plan_of head_of limit_at link_at word_at signed_at signed_of counts_answer limit_fits link_fits front_answer plan_answer file_answer version1
b_is_sound = refl

b_is_written : plan_bytes plan_b ≡ case_b_bytes
unfolding case_b_bytes plan_b field plan_bytes plan_fields flat_map word_bytes bits_of
b_is_written = refl
