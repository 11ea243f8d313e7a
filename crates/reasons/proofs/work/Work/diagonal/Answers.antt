-- One more point, and all of them. Assumes nothing.
use Rattle.std.proofs.Common.{◌≡◌, refl, arith}
use Rattle.lowering.proofs.Laws.LinksAsRead.{few}
use Rattle.reasons.proofs.StartLaws.{diagonal_none, diagonal_more}
use Rattle.reasons.proofs.LentLaws.{work_refl}
use Rattle.reasons.proofs.work.Work.diagonal.Goals as goal

pub loop-x-init : goal.loop-x-init
loop-x-init c = record { same = work_refl; done = diagonal_none }

pub spot-at-requires : goal.spot-at-requires
spot-at-requires c =
    let q = c.loop-x.invariant.same.plan in
    let below = rw (← q) at c.loop-x-test.true in
    (below, below, few c.loop-x.self.plan.ready, c.requires)

pub loop-x-preserved : goal.loop-x-preserved
loop-x-preserved c =
    let i = c.loop-x.invariant in
    record {
      same = record { plan = i.same.plan; cells = i.same.cells };
      done = diagonal_more i.done c.loop-x-test.true c.requires (rw i.same.plan at c.loop-x.self.room) (rw i.same.plan at c.spot-at.ensures) refl;
    }

pub returns : goal.returns
returns c =
    let i = c.loop-x.invariant in
    let all : c.loop-x.x ≡ c.args.self.now.plan.n = omega (arith, c.loop-x.auto.x-end, c.loop-x-test.false) in
    record { same = i.same; cells = rw all at i.done }
