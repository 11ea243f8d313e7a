-- Earliest's times are the earliest timetable. Assumes nothing.
use mathlib.Core.Path.{◌≡◌, refl, sym, ap, ◌∙◌}
use mathlib.Core.List.{List, []}
use Prim.Native.Nat.{ℕ, zero}
use native.Mathlib.Omega.{arith}
use lib.ListN.{get_or}
use lib.IntN.{ℤ, pos, neg_ℤ, neg_ℤ-neg_ℤ}
use Rattle.rules.specs.Answers.{Answer, Done, code_of}
use Rattle.rules.specs.Plan.{Plan, version1, InRange}
use Rattle.rules.specs.Cells.{num, table_of}
use Rattle.rules.specs.Calls.{Written, TimesOf, Timed}
use Rattle.rules.proofs.Points.{in_range_pointed}
use Rattle.rules.proofs.OneAnswer.{start_number}
use Rattle.rules.proofs.Times.{earliest_times}
use Rattle.plan.specs.Layout.{plan_of}
use Rattle.plan.specs.File.{file_answer}
use Rattle.plan.proofs.SoundFile.{good}
use Rattle.demands.specs.Earliest.{EarliestIsEarliest}
use Rattle.demands.proofs.Demand2.{not_done_refused, not_short_done}

-- what a Done answer of Earliest says
record TimedDone (file : Answer) (p : Plan) (strict weak times strict' weak' times' : List ℤ) : Type 0 where
  sound : file ≡ Done
  no_links : p.links ≡ []
  written : Written version1 p strict weak strict' weak'
  written_times : TimesOf version1 p strict' times times'

timed_done : {file : Answer} {p : Plan} {strict weak times strict' weak' times' : List ℤ} {a : Answer}
    → Timed version1 file p strict weak times a strict' weak' times' → a ≡ Done → TimedDone file p strict weak times strict' weak' times'
timed_done (Timed.bad_file n) k = absurd (n k)
timed_done (Timed.short_room e r) k = not_short_done k
timed_done (Timed.has_links e r l n) k = let z : ◌≡◌ {A = ℕ} 0 10 = sym (ap code_of k) in absurd (omega arith)
timed_done (Timed.uncontrollable e r l z u m) k = not_done_refused (sym k)
timed_done (Timed.timed e r l z t o) k = record { sound = e; no_links = z; written = t; written_times = o }

pub earliest_is_earliest : EarliestIsEarliest
earliest_is_earliest s strict weak times strict' weak' times' x =
    let d : TimedDone (file_answer s) (plan_of s) strict weak times strict' weak' times' = timed_done x refl in
    let g : InRange version1 (plan_of s) = (good s d.sound).ranges in
    earliest_times (plan_of s) d.no_links (table_of version1 (plan_of s).points strict') (table_of version1 (plan_of s).points weak')
    (in_range_pointed g) d.written.tables (λ x. get_or times' x (pos zero))
    (λ x hx.
    let c : (c : ℤ) × (table_of version1 (plan_of s).points strict' x zero ≡ num c) =
    start_number version1 (file_answer s) (plan_of s) (λ e. (good s e).ranges) d.written.tables (in_range_pointed g) x hx in
    let e : get_or times' x (pos zero) ≡ neg_ℤ c.0 = d.written_times.minus_cell x hx c.0 c.1 in
    c.1 ∙ ap num (sym (ap neg_ℤ e ∙ neg_ℤ-neg_ℤ c.0)))
