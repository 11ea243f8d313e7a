-- A turn for each link passed. Assumes nothing.
use Rattle.lowering.proofs.Common.{version1, link_at}
use Rattle.lowering.specs.Spread.{follow_link}
use Rattle.joining.proofs.Taking.{Turned}
use Rattle.tables.proofs.opening.open_round.Given as goal

abbrev pub invariant-loop-i : goal.invariant-loop-i
invariant-loop-i l =
    let n = l.initial.«open».n in
    let link = link_at l.plan.file.now l.plan.m in
    Turned (λ i. follow_link version1 n l.strict.cells.now link l.plan.k (link i)) l.i l.initial.«open» l.«open»
