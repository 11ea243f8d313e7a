-- The pair's cell is read, and where the weight is below it the two cells are written.
use Rattle.std.proofs.Common.{◌≡◌, ◌+◌, ◌<◌, rules, arith}
use mir.Syntax.{w64}
use mir.Val.{to_z, of_z}
use Rattle.lowering.proofs.Laws.LinksAsRead.{few}
use Rattle.offers.specs.Work.{part_of}
use Rattle.offers.specs.Drafts.{made_of}
use Rattle.offers.proofs.OfferLaws.{spot_below, part_small, part_next}
use Rattle.reasons.proofs.NoteLaws.{pair_stays, pair_written}
use Rattle.reasons.proofs.work.Work.note_pair.Goals as goal

pub returns-then-not-below-clause-cells : goal.returns-then-not-below-clause-cells
returns-then-not-below-clause-cells c =
    pair_stays c.args.self.now.plan.n (part_of c.args.side) (made_of c.args.d) c.args.line c.args.self.now.cells.now
    (rw (c.bests.ensures.0, c.bests.ensures.1) at c.weight-old.ensures) (search rules) c.if-not-below.true

pub spot-at-requires : goal.spot-at-requires
spot-at-requires c = search (part_small, few c.args.self.now.plan.ready, rules)

pub spot-after-requires : goal.spot-after-requires
spot-after-requires c = search (part_next, few c.args.self.now.plan.ready, rules)

pub bounds-self-after : goal.bounds-self-after
bounds-self-after c =
    let s = c.args.self.now in
    let next : c.weights_of-2.result + 1 < 4 = omega (arith, part_next c.args.side, c.weights_of-2.ensures) in
    let at = spot_below {n = s.plan.n} c.requires.0 c.requires.1 next in
    omega (arith, at, s.room, c.spot-after.ensures)

pub returns-clause-cells : goal.returns-clause-cells
returns-clause-cells c =
    let fits : to_z w64 (of_z w64 c.args.d.weight) ≡ c.args.d.weight = search rules in
    let number : to_z w64 (of_z w64 c.of_line.result) ≡ c.of_line.result = search rules in
    rw (fits, number)
    (pair_written c.args.self.now.plan.n (part_of c.args.side) (made_of c.args.d) c.args.line c.args.self.now.cells.now
    (rw (c.bests.ensures.0, c.bests.ensures.1) at c.weight-old.ensures) (search rules) c.if-not-below.false
    (rw c.weights_of.ensures at c.spot-at.ensures) (rw c.weights_of-2.ensures at c.spot-after.ensures) c.of_line.ensures)
