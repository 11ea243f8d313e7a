-- A turn for each point passed. Assumes nothing.
use Rattle.lowering.proofs.Common.{version1, link_of}
use Rattle.lowering.specs.Spread.{upper_edge}
use Rattle.joining.proofs.Taking.{Turned}
use Rattle.spreads.proofs.uppers.upper_edges.Given as goal

abbrev pub invariant-loop-x : goal.invariant-loop-x
invariant-loop-x l = Turned (upper_edge version1 l.initial.t.n (link_of l.a)) l.x l.initial.t l.t
