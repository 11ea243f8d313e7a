-- No column passed has a join that lowers its cell.
use Rattle.offers.specs.Work.{part_of}
use Rattle.offers.specs.Drafts.{NoneBefore}
use Rattle.offers.proofs.joins.next_join.Given as goal

abbrev pub invariant-loop-at : goal.invariant-loop-at
invariant-loop-at l = NoneBefore l.work.n l.work.cells.now (part_of l.side) l.y l.x l.z l.at
