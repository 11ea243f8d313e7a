-- The smallest of seven numbers. Assumes nothing.
use Rattle.chain.specs.Call.{room_of}
use Rattle.reasons.proofs.ListLaws.{min_comm}
use Rattle.reasons.proofs.lists.Lists.most.Goals as goal

pub returns : goal.returns
unfolding room_of
returns c = rw (c.min-3.ensures, c.min-most-3.ensures, c.min-2.ensures, c.min-most-2.ensures, c.min.ensures, c.min-most.ensures) (min_comm _ 4_294_967_295)
