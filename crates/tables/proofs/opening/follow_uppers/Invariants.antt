-- A turn for each point passed. Assumes nothing.
use Rattle.lowering.proofs.Common.{version1, link_of}
use Rattle.lowering.specs.Spread.{follow_upper}
use Rattle.joining.proofs.Taking.{Turned}
use Rattle.tables.proofs.opening.follow_uppers.Given as goal

abbrev pub invariant-loop-x : goal.invariant-loop-x
invariant-loop-x l =
    let n = l.initial.«open».n in
    Turned (follow_upper version1 n l.strict.cells.now (link_of l.a)) l.x l.initial.«open» l.«open»
