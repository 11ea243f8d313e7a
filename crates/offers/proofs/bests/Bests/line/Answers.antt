-- The cell lies within the work room, and holds the number of a line. Assumes nothing.
use Rattle.offers.proofs.Common.{◌≡◌, rules, suc, add-one, part_of, part_next, spot_of, same_line}
use Rattle.offers.proofs.bests.Bests.line.Goals as goal

pub spot-requires : goal.spot-requires
spot-requires c = search (part_next, c.args.self.few, rules)

pub returns : goal.returns
returns c v e =
    let at : c.spot.result ≡ spot_of c.args.self.n (suc (part_of c.args.side)) c.args.x c.args.y = rw (← add-one (part_of c.args.side), ← c.weights_of.ensures) c.spot.ensures in
    same_line c.args.self.cells.now (search rules) at e
