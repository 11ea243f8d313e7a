-- A turn of the loop for each step, and the place falls.
use Rattle.std.proofs.Common.{◌≡◌, ◌+◌, ◌-◌, refl, sym, ◌∙◌, arith}
use Rattle.reasons.specs.Stands.{part_number}
use Rattle.plan.specs.Layout.{plan_of}
use Rattle.lowering.proofs.Laws.ReadyFile.{ready_points}
use Rattle.reasons.proofs.LentLaws.{lists_refl, lists_trans, work_refl, work_trans}
use Rattle.reasons.proofs.WorkLaws.{going_none, going_few, known_here, notable_here, kept_here, more_here, kept_after, ended_here, done_here}
use Rattle.reasons.proofs.working.work_part.Goals as goal

pub loop-next-init : goal.loop-next-init
loop-next-init c =
    let a = c.args in
    record {
      lists_same = lists_refl;
      room_same = refl;
      work_same = work_refl;
      going = going_none (plan_of a.work.now.plan.file.now) a.g (part_number a.part) (part_number a.part + 1) a.lists.now.room a.count _ a.work.now.cells.now (omega arith);
    }

pub step_at-step-requires : goal.step_at-step-requires
step_at-step-requires c =
    let p = c.args.work.now.plan in
    let e = ready_points p.file.now p.n p.m p.k p.ready in
    let q = c.loop-next.invariant in
    let going = rw c.in-Some.is at q.going in
    rw (c.bests.ensures.0, c.bests.ensures.1, q.work_same.plan)
    (refl, going.placed, c.requires.0, known_here e going (omega arith) c.requires.1)

pub take-lines-requires : goal.take-lines-requires
take-lines-requires c =
    let a = c.args in
    let p = a.work.now.plan in
    let e = ready_points p.file.now p.n p.m p.k p.ready in
    let q = c.loop-next.invariant in
    let going = rw c.in-Some.is at q.going in
    let step = rw (c.bests.ensures.1, q.work_same.plan) at c.step_at-step.ensures in
    rw q.work_same.plan (
      notable_here e step,
      going_few (plan_of p.file.now) a.g (part_number a.part) (part_number a.part + 1) a.lists.now.room a.count _ a.work.now.cells.now going (omega arith) step c.requires.1,
    )

pub returns-then-closes-clause-kept : goal.returns-then-closes-clause-kept
returns-then-closes-clause-kept c =
    let p = c.args.work.now.plan in
    let e = ready_points p.file.now p.n p.m p.k p.ready in
    let q = c.loop-next.invariant in
    let going = rw c.in-Some.is at q.going in
    let step = rw (c.bests.ensures.1, q.work_same.plan) at c.step_at-step.ensures in
    let t = c.take-lines.ensures in
    kept_after e going (omega arith) step _ _ _ t.lines (rw q.work_same.plan at t.cells) (rw q.room_same at t.lists)

pub returns-then-closes-clause-left : goal.returns-then-closes-clause-left
returns-then-closes-clause-left c =
    let p = c.args.work.now.plan in
    let e = ready_points p.file.now p.n p.m p.k p.ready in
    let q = c.loop-next.invariant in
    let going = rw c.in-Some.is at q.going in
    let step = rw (c.bests.ensures.1, q.work_same.plan) at c.step_at-step.ensures in
    let t = c.take-lines.ensures in
    let one : part_number c.args.part + 1 - part_number c.args.part ≡ 1 = omega arith in
    ended_here e going (omega arith) step _ _ _ t.lines (rw q.work_same.plan at t.cells) (rw q.room_same at t.lists) one _ refl refl (sym c.closes.ensures ∙ c.if-closes.true)

pub loop-next-preserved : goal.loop-next-preserved
loop-next-preserved c =
    let p = c.args.work.now.plan in
    let e = ready_points p.file.now p.n p.m p.k p.ready in
    let q = c.loop-next.invariant in
    let going = rw c.in-Some.is at q.going in
    let step = rw (c.bests.ensures.1, q.work_same.plan) at c.step_at-step.ensures in
    let t = c.take-lines.ensures in
    record {
      lists_same = lists_trans q.lists_same t.same.0;
      room_same = t.same.1 ∙ q.room_same;
      work_same = work_trans q.work_same t.same.2;
      going = more_here e going (omega arith) step _ _ _ t.lines (rw q.work_same.plan at t.cells) (rw q.room_same at t.lists) (sym c.closes.ensures ∙ c.if-closes.false);
    }

pub returns-clause-kept : goal.returns-clause-kept
returns-clause-kept c =
    let p = c.args.work.now.plan in
    kept_here (ready_points p.file.now p.n p.m p.k p.ready) c.loop-next.invariant.going

pub returns-clause-left : goal.returns-clause-left
returns-clause-left c =
    let p = c.args.work.now.plan in
    let going = rw c.in_default.is at c.loop-next.invariant.going in
    let one : part_number c.args.part + 1 - part_number c.args.part ≡ 1 = omega arith in
    done_here (ready_points p.file.now p.n p.m p.k p.ready) going (omega arith) one _ refl refl
