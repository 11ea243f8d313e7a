-- A file's own answer has a code of at most 8, with or without Add's limit; and of codes up to 9 only 6, 7 and 8 have a place. Assumes nothing.
use mathlib.Core.Path.{refl}
use mathlib.Core.Logic.{inl, inr}
use mathlib.Core.List.{List}
use Prim.Native.Nat.{ℕ, ◌≤◌}
use native.Mathlib.Omega.{arith}
use lib.Dec.{leb, eqb}
use lib.ListN.{length}
use Rattle.rules.specs.Answers.{Answer, Done, FewBytes, BadVersion, BadPoints, BadCounts, BadLayout, BadLimit, BadLink, RepeatedLink, ShortRoom, HasLinks, NotControllable, ReasonsListed, NotClosed, code_of}
use Rattle.rules.specs.Plan.{Limit, version1}
use Rattle.answers.specs.Order.{◌then◌, unless}
use Rattle.plan.specs.declared.Header.{Header}
use Rattle.plan.specs.Layout.{head_of, plan_of}
use Rattle.plan.specs.File.{laid_out, form_answer, limit_answer, front_answer, back_answer, plan_answer, file_front, file_answer, add_answer}
use Rattle.plan.proofs.PlanCodes.{Refusals, then_holds, unless_holds, limit_holds, front_holds, back_holds, plan_holds}
use Rattle.demands.specs.Demand1.{PlaceNamed}

pub place_named : (a : Answer) → code_of a ≤ 9 → PlaceNamed a
place_named Done h = inl refl
place_named FewBytes h = inl refl
place_named BadVersion h = inl refl
place_named BadPoints h = inl refl
place_named BadCounts h = inl refl
place_named BadLayout h = inl refl
place_named (BadLimit i) h = inr (omega arith)
place_named (BadLink i) h = inr (omega arith)
place_named (RepeatedLink i) h = inr (omega arith)
place_named ShortRoom h = inl refl
place_named HasLinks h = inl refl
place_named NotControllable h = inl refl
place_named (ReasonsListed lines) h = absurd (omega arith)
place_named NotClosed h = inl refl

-- an answer with a code of a file
abbrev pub FileCode : Answer → Type 0
FileCode a = code_of a ≤ 8

refusals : Refusals FileCode
refusals =
    record {
      done = omega arith;
      points = omega arith;
      counts = omega arith;
      layout = omega arith;
      limit = λ i. omega arith;
      link = λ i. omega arith;
      repeated = λ i. omega arith;
    }

form_code : (size : ℕ) (h : Header) → FileCode (form_answer size h)
form_code size h =
    then_holds FileCode (unless (leb 24 size) FewBytes) (unless (eqb h.version 1) BadVersion)
    (unless_holds FileCode (leb 24 size) FewBytes (omega arith) (omega arith))
    (unless_holds FileCode (eqb h.version 1) BadVersion (omega arith) (omega arith))

pub file_code : (s : List ℕ) → FileCode (file_answer s)
unfolding file_answer
file_code s =
    let laid = laid_out (length s) (head_of s) in
    then_holds FileCode (form_answer (length s) (head_of s)) (plan_answer version1 laid (plan_of s)) (form_code (length s) (head_of s))
    (plan_holds FileCode refusals version1 laid (plan_of s))

pub add_code : (s : List ℕ) (m : Limit) → FileCode (add_answer s m)
unfolding add_answer file_front
add_code s m =
    let laid = laid_out (length s) (head_of s) in
    let own = limit_answer version1 (plan_of s).points (head_of s).limits m in
    let links = back_answer version1 (plan_of s) in
    then_holds FileCode (file_front s) (own then links)
    (then_holds FileCode (form_answer (length s) (head_of s)) (front_answer version1 laid (plan_of s)) (form_code (length s) (head_of s))
    (front_holds FileCode refusals version1 laid (plan_of s)))
    (then_holds FileCode own links (limit_holds FileCode refusals version1 (plan_of s).points (head_of s).limits m)
    (back_holds FileCode refusals version1 (plan_of s)))
