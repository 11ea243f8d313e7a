-- Part by part. Assumes nothing.
use Rattle.std.proofs.Common.{sym, ap, ◌∙◌, arith}
use Rattle.plan.specs.Layout.{plan_of, limit_at}
use Rattle.lowering.proofs.Laws.ReadyFile.{ready_points}
use Rattle.chain.specs.Reasons.{start_offer, limit_offer}
use Rattle.reasons.specs.Stands.{part_number, place_of}
use Rattle.reasons.proofs.PlaceLaws.{inner_most, bounded}
use Rattle.reasons.proofs.StepLaws.{try_step, start_plain, limit_plain, start_offers, limit_offers, tried_start, tried_limit, tried_link}
use Rattle.reasons.proofs.stepping.try_at.Goals as goal

-- ---- start edges

pub kept-requires : goal.kept-requires
kept-requires c = start_plain (rw c.requires.0 (rw c.in-StartEdges.is at c.requires.1)) c.start_draft.ensures

pub returns-in-StartEdges : goal.returns-in-StartEdges
returns-in-StartEdges c =
    let a = c.args in
    let w = a.work in
    let p = a.plan in
    try_step p.ready (part_number a.part) a.at c.requires.1 c.requires.2 c.requires.3 c.tried.ensures
    (tried_start p.file.now w.n p.n p.m p.k c.requires.0 p.ready a.g w.cells.now (place_of (part_number a.part) a.at) c.kept.result c.kept.ensures.1 (ap part_number c.in-StartEdges.is)
    (c.kept.ensures.0 (start_offer a.at.a) (start_offers w.n w.cells.now a.at.a c.start_draft.result c.start_draft.ensures)))

-- ---- limits

pub limit_draft-requires : goal.limit_draft-requires
limit_draft-requires c = rw c.in-Limits.is at c.requires.1

pub kept-requires-in-Limits : goal.kept-requires-in-Limits
kept-requires-in-Limits c = rw c.requires.0 (limit_plain c.args.plan.ready (rw c.in-Limits.is at c.requires.1) c.limit_draft.ensures)

pub returns-in-Limits : goal.returns-in-Limits
returns-in-Limits c =
    let a = c.args in
    let w = a.work in
    let p = a.plan in
    try_step p.ready (part_number a.part) a.at c.requires.1 c.requires.2 c.requires.3 c.tried-in-Limits.ensures
    (tried_limit p.file.now w.n p.n p.m p.k c.requires.0 p.ready a.g w.cells.now (place_of (part_number a.part) a.at) c.kept-in-Limits.result c.kept-in-Limits.ensures.1
    (ap part_number c.in-Limits.is) (rw c.in-Limits.is at c.requires.1)
    (c.kept-in-Limits.ensures.0 (limit_offer a.at.a (limit_at p.file.now a.at.a))
    (limit_offers w.n w.cells.now a.at.a (limit_at p.file.now a.at.a) c.limit_draft.result c.limit_draft.ensures)))

-- ---- links

pub link_line-requires : goal.link_line-requires
link_line-requires c = (rw c.in-Links.is at c.requires.1, rw c.in-Links.is at c.requires.3)

pub returns-in-Links : goal.returns-in-Links
returns-in-Links c =
    let a = c.args in
    let w = a.work in
    let p = a.plan in
    try_step p.ready (part_number a.part) a.at c.requires.1 c.requires.2 c.requires.3 c.tried-in-Links.ensures
    (tried_link p.file.now p.n p.m p.k p.ready a.g w.cells.now (place_of (part_number a.part) a.at) c.link_line.result c.link_line.ensures.1 (ap part_number c.in-Links.is)
    (rw c.in-Links.is at c.requires.1) c.link_line.ensures.2 c.link_line.ensures.0)

pub tried-requires : goal.tried-requires
tried-requires c = let p = c.args.plan in omega (arith, inner_most p.n p.m p.k (part_number c.args.part) (bounded p.file.now p.n p.m p.k p.ready), c.requires.3)

pub tried-requires-in-Limits : goal.tried-requires-in-Limits
tried-requires-in-Limits c = let p = c.args.plan in omega (arith, inner_most p.n p.m p.k (part_number c.args.part) (bounded p.file.now p.n p.m p.k p.ready), c.requires.3)

pub tried-requires-in-Links : goal.tried-requires-in-Links
tried-requires-in-Links c = let p = c.args.plan in omega (arith, inner_most p.n p.m p.k (part_number c.args.part) (bounded p.file.now p.n p.m p.k p.ready), c.requires.3)

pub tried-requires-in-Lower : goal.tried-requires-in-Lower
tried-requires-in-Lower c = let p = c.args.plan in omega (arith, inner_most p.n p.m p.k (part_number c.args.part) (bounded p.file.now p.n p.m p.k p.ready), c.requires.3)

pub tried-requires-in-Upper : goal.tried-requires-in-Upper
tried-requires-in-Upper c = let p = c.args.plan in omega (arith, inner_most p.n p.m p.k (part_number c.args.part) (bounded p.file.now p.n p.m p.k p.ready), c.requires.3)

-- ---- Lower

pub lower_line-requires : goal.lower_line-requires
lower_line-requires c = (c.requires.0, rw c.in-Lower.is at c.requires.1, rw c.in-Lower.is at c.requires.2, c.requires.4, c.requires.5)

pub returns-in-Lower : goal.returns-in-Lower
returns-in-Lower c =
    try_step c.args.plan.ready (part_number c.args.part) c.args.at c.requires.1 c.requires.2 c.requires.3 c.tried-in-Lower.ensures
    (rw c.in-Lower.is c.lower_line.ensures)

-- ---- Upper

pub upper_line-requires : goal.upper_line-requires
upper_line-requires c = (c.requires.0, rw c.requires.0 (rw c.in-Upper.is at c.requires.1), rw c.in-Upper.is at c.requires.2, c.requires.4, c.requires.5)

pub returns-in-Upper : goal.returns-in-Upper
returns-in-Upper c =
    try_step c.args.plan.ready (part_number c.args.part) c.args.at c.requires.1 c.requires.2 c.requires.3 c.tried-in-Upper.ensures
    (rw c.in-Upper.is c.upper_line.ensures)

-- ---- joins

pub join_step-requires : goal.join_step-requires
join_step-requires c = (rw c.requires.0 (rw c.in-StrictJoins.is at c.requires.1), rw c.requires.0 (rw c.in-StrictJoins.is at c.requires.2), rw c.requires.0 (rw c.in-StrictJoins.is at c.requires.3), c.requires.5)

pub returns-in-StrictJoins : goal.returns-in-StrictJoins
returns-in-StrictJoins c =
    let p = c.args.plan in
    rw c.in-StrictJoins.is (c.join_step.ensures (plan_of p.file.now) c.args.g (ready_points p.file.now p.n p.m p.k p.ready ∙ sym c.requires.0))

pub join_step-requires-in-OpenJoins : goal.join_step-requires-in-OpenJoins
join_step-requires-in-OpenJoins c = (rw c.requires.0 (rw c.in-OpenJoins.is at c.requires.1), rw c.requires.0 (rw c.in-OpenJoins.is at c.requires.2), rw c.requires.0 (rw c.in-OpenJoins.is at c.requires.3), c.requires.5)

pub returns-in-OpenJoins : goal.returns-in-OpenJoins
returns-in-OpenJoins c =
    let p = c.args.plan in
    rw c.in-OpenJoins.is (c.join_step-in-OpenJoins.ensures (plan_of p.file.now) c.args.g (ready_points p.file.now p.n p.m p.k p.ready ∙ sym c.requires.0))
