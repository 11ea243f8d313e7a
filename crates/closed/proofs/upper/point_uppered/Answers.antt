-- `upper::point_uppered` meets its contract. Assumes nothing.
use Rattle.closed.proofs.Common.{link_of, read_here, upper_decides}
use Rattle.closed.proofs.upper.point_uppered.Goals as goal

pub returns : goal.returns
returns c =
    upper_decides _ _ (link_of c.args.link) _ _ (read_here c.get-c.type_inv _ _ _ _ c.get-c.ensures) c.upper-edge.ensures c.upper-edge.type_inv c.at_most.ensures
