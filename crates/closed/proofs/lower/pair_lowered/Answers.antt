-- `lower::pair_lowered` meets its contract. Assumes nothing.
use Rattle.closed.proofs.Common.{link_of, lower_decides, read_here}
use Rattle.closed.proofs.lower.pair_lowered.Goals as goal

pub returns : goal.returns
returns c =
    lower_decides _ _ (link_of c.args.link) (link_of c.args.other) _ c.requires.1 c.if-other-link.false
    (read_here c.get-c.type_inv _ _ _ _ c.get-c.ensures) c.lower-edge.ensures c.lower-edge.type_inv c.at_most.ensures
