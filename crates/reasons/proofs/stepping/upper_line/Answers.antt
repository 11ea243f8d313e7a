-- What is offered is kept where it adds. Assumes nothing.
use Rattle.std.proofs.Common.{None, refl}
use Rattle.offers.proofs.OfferLaws.{none_adds}
use Rattle.reasons.specs.Stands.{place_of}
use Rattle.reasons.proofs.StepLaws.{tried_upper}
use Rattle.reasons.proofs.stepping.upper_line.Goals as goal

pub returns-in_err-upper_draft : goal.returns-in_err-upper_draft
returns-in_err-upper_draft c =
    let a = c.args in
    let w = a.work in
    let p = a.plan in
    let offers = rw c.in_err-upper_draft.was at c.upper_draft.ensures.0 in
    rw c.from_residual.ensures
    (tried_upper p.file.now w.n p.n p.m p.k c.requires.0 p.ready a.g w.cells.now (place_of 5 a.at) None tt refl c.requires.2 (none_adds _ offers))

pub kept-requires : goal.kept-requires
kept-requires c = rw c.in_ok-upper_draft.was at c.upper_draft.ensures.1

pub returns : goal.returns
returns c =
    let a = c.args in
    let w = a.work in
    let p = a.plan in
    tried_upper p.file.now w.n p.n p.m p.k c.requires.0 p.ready a.g w.cells.now (place_of 5 a.at) c.kept.result c.kept.ensures.1 refl c.requires.2
    (c.kept.ensures.0 _ (rw c.in_ok-upper_draft.was at c.upper_draft.ensures.0))
