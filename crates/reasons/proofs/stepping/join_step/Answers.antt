-- The end of the row, or the next join. Assumes nothing.
use Rattle.offers.specs.Kinds.{join_number}
use Rattle.reasons.specs.Stands.{place_of}
use Rattle.reasons.specs.Stepping.{join_part}
use Rattle.reasons.proofs.StepLaws.{joins, join_none_left, join_one_left}
use Rattle.reasons.proofs.stepping.join_step.Goals as goal

pub join_draft-requires : goal.join_draft-requires
join_draft-requires c =
    let q = c.requires in
    (q.1, q.0, c.in-Some.ensures.to, q.3, c.in-Some.ensures.lowers)

pub returns-in-Some : goal.returns-in-Some
returns-in-Some c p g e =
    let a = c.args in
    let q = c.requires in
    join_one_left p g a.work.n a.work.cells.now a.side (join_number a.side) (place_of (join_part a.side) a.at) e (joins a.side) q.0 q.1 q.2 a.work.few c.join_draft.result c.in-Some.z
    c.in-Some.ensures c.join_draft.ensures.0 c.join_draft.ensures.1

pub returns-in-None : goal.returns-in-None
returns-in-None c p g e =
    let a = c.args in
    let q = c.requires in
    join_none_left p g a.work.n a.work.cells.now a.side (join_number a.side) (place_of (join_part a.side) a.at) e (joins a.side) q.0 q.1 q.2 a.work.few c.in-None.ensures
