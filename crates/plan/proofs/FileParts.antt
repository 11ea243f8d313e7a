-- A file's answer in its parts, as the code works them out: header, limits, links. The plan's lists are as long as the header says.
-- Assumes nothing.
use mathlib.Core.Path.{◌≡◌, refl, sym}
use mathlib.Core.List.{List}
use Prim.Native.Nat.{ℕ}
use lib.ListN.{length}
use Rattle.rules.specs.Plan.{version1}
use Rattle.rules.specs.Answers.{Answer}
use Rattle.answers.specs.Order.{◌then◌}
use Rattle.answers.proofs.CodeZero.{then_assoc}
use Rattle.plan.specs.declared.Header.{Header}
use Rattle.plan.specs.Layout.{head_of, limit_at, link_at, plan_of}
use Rattle.plan.specs.File.{laid_out, form_answer, counts_answer, limits_answer, front_answer, back_answer, plan_answer, file_front, file_answer}
use Rattle.plan.proofs.Records.{records_length}

pub limits_length : (s : List ℕ) → length (plan_of s).limits ≡ (head_of s).limits
unfolding plan_of
limits_length s = records_length (limit_at s) 0 (head_of s).limits

pub links_length : (s : List ℕ) → length (plan_of s).links ≡ (head_of s).links
unfolding plan_of
links_length s = records_length (link_at s (head_of s).limits) 0 (head_of s).links

pub points_is : (s : List ℕ) → (plan_of s).points ≡ (head_of s).points
unfolding plan_of
points_is s = refl

-- codes 1 to 5
abbrev pub head_answer : ℕ → Header → Answer
head_answer size h = form_answer size h then counts_answer version1 h.points h.limits h.links (laid_out size h)

-- the answer to a file's limits
abbrev pub to_limits : List ℕ → Answer
to_limits s = limits_answer version1 (plan_of s).points 0 (plan_of s).limits

-- codes 1 to 5, then 6
pub front_parts : (s : List ℕ) → file_front s ≡ (head_answer (length s) (head_of s) then to_limits s)
unfolding file_front front_answer
front_parts s =
    let h = head_of s in
    let laid = laid_out (length s) h in
    rw (limits_length s, links_length s, points_is s)
    (sym (then_assoc (form_answer (length s) h) (counts_answer version1 h.points h.limits h.links laid) (limits_answer version1 h.points 0 (plan_of s).limits)))

-- those, then 7 and 8
pub file_parts : (s : List ℕ) → file_answer s ≡ (file_front s then back_answer version1 (plan_of s))
unfolding file_answer file_front plan_answer
file_parts s =
    let laid = laid_out (length s) (head_of s) in
    sym (then_assoc (form_answer (length s) (head_of s)) (front_answer version1 laid (plan_of s)) (back_answer version1 (plan_of s)))
