-- The lines before those of the links, those of the links, and sweeps.
use Rattle.std.proofs.Common.{[], refl, arith, ◌∙◌}
use Rattle.plan.specs.Layout.{plan_of}
use Rattle.lowering.proofs.Laws.ReadyFile.{ready_points, ready_in_range}
use Rattle.chain.specs.Reasons.{before_links}
use Rattle.reasons.specs.Lent.{lists_of}
use Rattle.reasons.proofs.LentLaws.{work_trans}
use Rattle.reasons.proofs.SweepLaws.{begun_none, before_counted, before_ended, begun_before, given_ended, given_swept}
use Rattle.reasons.proofs.working.run.Goals as goal

pub work_through-requires : goal.work_through-requires
work_through-requires c =
    let p = c.args.work.now.plan in
    let e = ready_points p.file.now p.n p.m p.k p.ready in
    let r = ready_in_range p.file.now p.n p.m p.k p.ready in
    let lent = lists_of c.args.lists.now in
    rw c.begin.ensures.same.plan (omega arith, (refl, (refl, tt)), record { base = []; first = lent; begun = begun_none e r c.begin.ensures.holds })

pub returns-in_err-before-clause-worked : goal.returns-in_err-before-clause-worked
returns-in_err-before-clause-worked c =
    let p = c.args.work.now.plan in
    let e = ready_points p.file.now p.n p.m p.k p.ready in
    let r = ready_in_range p.file.now p.n p.m p.k p.ready in
    let lent = lists_of c.args.lists.now in
    let left = rw (c.begin.ensures.same.plan, c.in_err-before.was) at c.work_through.ensures.left in
    rw c.from_residual.ensures (before_ended e r (left [] lent (begun_none e r c.begin.ensures.holds)) refl)

pub work_through-requires-2 : goal.work_through-requires-2
work_through-requires-2 c =
    let p = c.args.work.now.plan in
    let e = ready_points p.file.now p.n p.m p.k p.ready in
    let r = ready_in_range p.file.now p.n p.m p.k p.ready in
    let lent = lists_of c.args.lists.now in
    let before = c.work_through.ensures in
    let one = (rw (c.begin.ensures.same.plan, c.in_ok-before.was) at before.left) [] lent (begun_none e r c.begin.ensures.holds) in
    let same = work_trans c.begin.ensures.same before.same.2 in
    rw (before.same.1, same.plan)
    (omega arith, (refl, tt), record { base = before_links (plan_of p.file.now); first = lent; begun = begun_before e r one refl })

pub returns-in_err-given-clause-worked : goal.returns-in_err-given-clause-worked
returns-in_err-given-clause-worked c =
    let p = c.args.work.now.plan in
    let e = ready_points p.file.now p.n p.m p.k p.ready in
    let r = ready_in_range p.file.now p.n p.m p.k p.ready in
    let lent = lists_of c.args.lists.now in
    let before = c.work_through.ensures in
    let one = (rw (c.begin.ensures.same.plan, c.in_ok-before.was) at before.left) [] lent (begun_none e r c.begin.ensures.holds) in
    let same = work_trans c.begin.ensures.same before.same.2 in
    let left = rw (before.same.1, same.plan, c.in_err-given.was) at c.work_through-2.ensures.left in
    rw c.from_residual-in_err-given.ensures (given_ended e r (left (before_links (plan_of p.file.now)) lent (begun_before e r one refl)) refl)

pub sweep_on-requires : goal.sweep_on-requires
sweep_on-requires c =
    let p = c.args.work.now.plan in
    let e = ready_points p.file.now p.n p.m p.k p.ready in
    let r = ready_in_range p.file.now p.n p.m p.k p.ready in
    let lent = lists_of c.args.lists.now in
    let before = c.work_through.ensures in
    let one = (rw (c.begin.ensures.same.plan, c.in_ok-before.was) at before.left) [] lent (begun_none e r c.begin.ensures.holds) in
    let same = work_trans c.begin.ensures.same before.same.2 in
    let given = c.work_through-2.ensures in
    let two = (rw (before.same.1, same.plan, c.in_ok-given.was) at given.left) (before_links (plan_of p.file.now)) lent (begun_before e r one refl) in
    let all = work_trans same given.same.2 in
    rw (given.same.1 ∙ before.same.1, all.plan) (before_counted e r one, record { first = lent; swept = given_swept e r two refl })

pub returns-clause-worked : goal.returns-clause-worked
returns-clause-worked c =
    let p = c.args.work.now.plan in
    let e = ready_points p.file.now p.n p.m p.k p.ready in
    let r = ready_in_range p.file.now p.n p.m p.k p.ready in
    let lent = lists_of c.args.lists.now in
    let before = c.work_through.ensures in
    let one = (rw (c.begin.ensures.same.plan, c.in_ok-before.was) at before.left) [] lent (begun_none e r c.begin.ensures.holds) in
    let same = work_trans c.begin.ensures.same before.same.2 in
    let given = c.work_through-2.ensures in
    let two = (rw (before.same.1, same.plan, c.in_ok-given.was) at given.left) (before_links (plan_of p.file.now)) lent (begun_before e r one refl) in
    let all = work_trans same given.same.2 in
    (rw (given.same.1 ∙ before.same.1, all.plan) at c.sweep_on.ensures.worked) lent (given_swept e r two refl)
