-- The cells passed are those of the strict table. Assumes nothing.
use Rattle.lowering.proofs.Common.{◌≡◌, get_or, pos, Writing}
use Rattle.tables.proofs.opening.copy_all.Given as goal

abbrev pub invariant-loop-i : goal.invariant-loop-i
invariant-loop-i l = Writing l.count (λ j v. v ≡ get_or l.strict j (pos 0)) l.i l.initial.open l.open
