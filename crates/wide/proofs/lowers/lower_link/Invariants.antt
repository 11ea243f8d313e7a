-- A turn for each second link passed. Assumes nothing.
use Rattle.lowering.proofs.Common.{adding, link_at, link_of}
use Rattle.lowering.specs.Sweep.{lower_pair}
use Rattle.joining.proofs.Taking.{Turned}
use Rattle.wide.proofs.lowers.lower_link.Given as goal

abbrev pub invariant-loop-j : goal.invariant-loop-j
invariant-loop-j l = Turned (λ j. lower_pair adding l.fn.t.n (link_of l.a) (link_at l.plan.file.now l.plan.m j)) l.j l.fn.t l.t
