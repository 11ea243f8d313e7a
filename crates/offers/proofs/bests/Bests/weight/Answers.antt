-- The cell lies within the work room. Assumes nothing.
use Rattle.offers.proofs.Common.{rules, part_small}
use Rattle.offers.proofs.bests.Bests.weight.Goals as goal

pub spot-requires : goal.spot-requires
spot-requires c = search (part_small, c.args.self.few, rules)

pub returns : goal.returns
returns c = rw (← c.weights_of.ensures, ← c.spot.ensures) (search rules)
