-- Each cell passed is the one of the scratch. Assumes nothing.
use Rattle.lowering.proofs.Common.{◌≡◌, get_or, pos, cell32, cell64, Writing}
use Rattle.scratch.proofs.copies.narrow.Given as goal

abbrev pub invariant-loop-i : goal.invariant-loop-i
invariant-loop-i l = Writing l.count (λ j v. cell64 (get_or l.t j (pos 0)) ≡ cell32 v) l.i l.fn.table l.table
