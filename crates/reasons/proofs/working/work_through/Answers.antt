-- One part more, and all of them.
use Rattle.std.proofs.Common.{refl, ◌∙◌, arith}
use Rattle.lowering.proofs.Laws.ReadyFile.{ready_points}
use Rattle.reasons.proofs.LentLaws.{lists_refl, lists_trans, work_refl, work_trans}
use Rattle.reasons.proofs.PlaceLaws.{part_at}
use Rattle.reasons.proofs.WorkLaws.{done_none, done_begins, done_kept, done_more, done_ended, all_kept, all_done}
use Rattle.reasons.proofs.working.work_through.Goals as goal

pub loop-part-init : goal.loop-part-init
loop-part-init c = record { lists_same = lists_refl; room_same = refl; work_same = work_refl; done = done_none }

pub work_part-requires : goal.work_part-requires
work_part-requires c =
    let q = c.loop-part.invariant in
    let is = part_at _ c.args.parts.now c.loop-part.part-index c.requires.1 c.loop-part-test.true in
    rw (is, q.work_same.plan, q.room_same) (c.requires.0, done_begins q.done (omega (arith, c.loop-part-test.true)) c.requires.2)

pub returns-in_err-lines-clause-kept : goal.returns-in_err-lines-clause-kept
returns-in_err-lines-clause-kept c =
    let p = c.args.work.now.plan in
    let e = ready_points p.file.now p.n p.m p.k p.ready in
    let q = c.loop-part.invariant in
    let w = c.work_part.ensures in
    let is = part_at _ c.args.parts.now c.loop-part.part-index c.requires.1 c.loop-part-test.true in
    done_kept q.done (omega (arith, c.loop-part-test.true)) e (rw q.work_same.plan at w.kept) (rw (is, q.work_same.plan, q.room_same) at w.left)

pub returns-in_err-lines-clause-left : goal.returns-in_err-lines-clause-left
returns-in_err-lines-clause-left c =
    let p = c.args.work.now.plan in
    let e = ready_points p.file.now p.n p.m p.k p.ready in
    let q = c.loop-part.invariant in
    let w = c.work_part.ensures in
    let is = part_at _ c.args.parts.now c.loop-part.part-index c.requires.1 c.loop-part-test.true in
    let left = rw (is, q.work_same.plan, q.room_same, c.in_err-lines.was) at w.left in
    rw c.from_residual.ensures
    (done_ended q.done (omega (arith, c.loop-part-test.true)) e (rw q.work_same.plan at w.kept) left (omega arith) refl)

pub loop-part-preserved : goal.loop-part-preserved
loop-part-preserved c =
    let p = c.args.work.now.plan in
    let e = ready_points p.file.now p.n p.m p.k p.ready in
    let q = c.loop-part.invariant in
    let w = c.work_part.ensures in
    let is = part_at _ c.args.parts.now c.loop-part.part-index c.requires.1 c.loop-part-test.true in
    let left = rw (is, q.work_same.plan, q.room_same, c.in_ok-lines.was) at w.left in
    record {
      lists_same = lists_trans q.lists_same w.same.0;
      room_same = w.same.1 ∙ q.room_same;
      work_same = work_trans q.work_same w.same.2;
      done = done_more q.done (omega (arith, c.loop-part-test.true)) e (rw q.work_same.plan at w.kept) left refl;
    }

pub returns-clause-kept : goal.returns-clause-kept
returns-clause-kept c =
    let p = c.args.work.now.plan in
    all_kept c.loop-part.invariant.done (ready_points p.file.now p.n p.m p.k p.ready)

pub returns-clause-left : goal.returns-clause-left
returns-clause-left c =
    let p = c.args.work.now.plan in
    let q = c.loop-part.invariant in
    all_done q.done (ready_points p.file.now p.n p.m p.k p.ready) (omega (arith, c.loop-part-test.false, c.loop-part.auto.part-index-end)) _ refl refl
