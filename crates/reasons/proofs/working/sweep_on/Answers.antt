-- Every sweep that goes on has added lines, and they are never too many.
use Rattle.std.proofs.Common.{refl, arith, ◌∙◌}
use Rattle.plan.specs.Layout.{plan_of}
use Rattle.lowering.proofs.Laws.ReadyFile.{ready_points, ready_in_range}
use Rattle.reasons.proofs.LentLaws.{lists_trans, work_trans}
use Rattle.reasons.proofs.SweepLaws.{before_few, sweeping_begins, sweeping_ended, sweeping_still, sweeping_more, sweeping_less}
use Rattle.reasons.proofs.working.sweep_on.Goals as goal

pub work_through-requires : goal.work_through-requires
work_through-requires c =
    let p = c.args.work.now.plan in
    let e = ready_points p.file.now p.n p.m p.k p.ready in
    let r = ready_in_range p.file.now p.n p.m p.k p.ready in
    let q = c.loop-swept.invariant in
    rw (q.room_same, q.work_same.plan)
    (omega (arith, before_few (plan_of p.file.now) r, c.requires.0), (refl, (refl, (refl, (refl, tt)))), sweeping_begins e c.requires.0 r q.sweeping)

pub returns-in_err-swept-clause-worked : goal.returns-in_err-swept-clause-worked
returns-in_err-swept-clause-worked c =
    let p = c.args.work.now.plan in
    let e = ready_points p.file.now p.n p.m p.k p.ready in
    let r = ready_in_range p.file.now p.n p.m p.k p.ready in
    let q = c.loop-swept.invariant in
    let w = c.work_through.ensures in
    let left = rw (q.room_same, q.work_same.plan, c.in_err-swept.was) at w.left in
    rw c.from_residual.ensures (sweeping_ended e c.requires.0 r q.sweeping (rw q.work_same.plan at w.kept) left refl)

pub returns-then-swept-lines-clause-worked : goal.returns-then-swept-lines-clause-worked
returns-then-swept-lines-clause-worked c =
    let p = c.args.work.now.plan in
    let e = ready_points p.file.now p.n p.m p.k p.ready in
    let r = ready_in_range p.file.now p.n p.m p.k p.ready in
    let q = c.loop-swept.invariant in
    let w = c.work_through.ensures in
    let left = rw (q.room_same, q.work_same.plan, c.in_ok-swept.was) at w.left in
    rw (← c.if-swept-lines.true) (sweeping_still e c.requires.0 r q.sweeping (rw q.work_same.plan at w.kept) left c.if-swept-lines.true)

pub loop-swept-smaller : goal.loop-swept-smaller
loop-swept-smaller c =
    let p = c.args.work.now.plan in
    let e = ready_points p.file.now p.n p.m p.k p.ready in
    let r = ready_in_range p.file.now p.n p.m p.k p.ready in
    let q = c.loop-swept.invariant in
    let w = c.work_through.ensures in
    let left = rw (q.room_same, q.work_same.plan, c.in_ok-swept.was) at w.left in
    sweeping_less e c.requires.0 r q.sweeping (rw q.work_same.plan at w.kept) left refl c.if-swept-lines.false

pub loop-swept-preserved : goal.loop-swept-preserved
loop-swept-preserved c =
    let p = c.args.work.now.plan in
    let e = ready_points p.file.now p.n p.m p.k p.ready in
    let r = ready_in_range p.file.now p.n p.m p.k p.ready in
    let q = c.loop-swept.invariant in
    let w = c.work_through.ensures in
    let left = rw (q.room_same, q.work_same.plan, c.in_ok-swept.was) at w.left in
    record {
      lists_same = lists_trans q.lists_same w.same.0;
      room_same = w.same.1 ∙ q.room_same;
      work_same = work_trans q.work_same w.same.2;
      sweeping = sweeping_more e c.requires.0 r q.sweeping (rw q.work_same.plan at w.kept) left refl;
    }
