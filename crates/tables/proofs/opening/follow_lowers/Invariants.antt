-- A turn for each second link passed. Assumes nothing.
use Rattle.lowering.proofs.Common.{version1, link_at, link_of}
use Rattle.lowering.specs.Spread.{follow_lower}
use Rattle.joining.proofs.Taking.{Turned}
use Rattle.tables.proofs.opening.follow_lowers.Given as goal

abbrev pub invariant-loop-j : goal.invariant-loop-j
invariant-loop-j l =
    let n = l.initial.«open».n in
    Turned (λ j. follow_lower version1 n l.strict.cells.now (link_of l.a) (link_at l.plan.file.now l.plan.m j)) l.j l.initial.«open» l.«open»
