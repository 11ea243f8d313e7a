-- The cells passed hold the mark. Assumes nothing.
use Rattle.lowering.proofs.Common.{◌≡◌, pos, Writing}
use Rattle.joining.proofs.cells.mark_all.Given as goal

abbrev pub invariant-loop-i : goal.invariant-loop-i
invariant-loop-i g l =
    let w = g.W.Word in
    Writing l.count (λ j v. v ≡ pos w.ranges.mark) l.i (w.values l.initial.t) (w.values l.t)
