-- Controllable, too long a list, or the list: the room that was worked out is that of the lists as they were lent, since the pass that counts writes no line.
use Rattle.std.proofs.Common.{◌≡◌, refl, ap, ◌∙◌, arith}
use Rattle.chain.specs.Call.{room_of}
use Rattle.reasons.specs.Lent.{lists_of}
use Rattle.reasons.proofs.ListLaws.{room_roomy}
use Rattle.reasons.proofs.CallLaws.{counted_lists, answer_done, answer_long, answer_listed}
use Rattle.reasons.proofs.listing.listed.Goals as goal

pub returns-in_default-clause-reasoned : goal.returns-in_default-clause-reasoned
returns-in_default-clause-reasoned c =
    let w = c.args.work.now in
    let r = c.run.ensures in
    answer_done w.plan.ready w.room r.kept (rw (c.requires, c.in_default.is) at r.worked) refl (rw r.same.2.plan at c.clear.ensures.cells)

pub invariant_of-lists : goal.invariant_of-lists
invariant_of-lists c = record { roomy = rw c.most-lists.ensures (room_roomy (lists_of c.run.new.lists)) }

pub returns-then-counted-lists-clause-reasoned : goal.returns-then-counted-lists-clause-reasoned
returns-then-counted-lists-clause-reasoned c =
    let w = c.args.work.now in
    let r = c.run.ensures in
    let worked = rw (c.requires, c.in-Break.is) at r.worked in
    let room : c.most-lists.result ≡ room_of (lists_of c.args.lists.now) = c.most-lists.ensures ∙ ap room_of (counted_lists w.plan.ready w.room r.kept worked) in
    answer_long w.plan.ready w.room r.kept worked refl (omega (arith, room, c.if-counted-lists.true)) (rw r.same.2.plan at c.clear-then-counted-lists.ensures.cells)

pub returns-clause-reasoned : goal.returns-clause-reasoned
returns-clause-reasoned c =
    let w = c.args.work.now in
    let r = c.run.ensures in
    let worked = rw (c.requires, c.in-Break.is) at r.worked in
    let room : c.most-lists.result ≡ room_of (lists_of c.args.lists.now) = c.most-lists.ensures ∙ ap room_of (counted_lists w.plan.ready w.room r.kept worked) in
    let v = c.run-2.ensures in
    answer_listed w.plan.ready w.room r.kept worked refl (omega (arith, room, c.if-counted-lists.false)) (rw r.same.2.plan at v.kept)
    (rw (r.same.2.plan, room) at v.worked) (rw (v.same.2.plan ∙ r.same.2.plan) at c.clear-2.ensures.cells)
