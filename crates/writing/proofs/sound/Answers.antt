-- What refuses the lists first is the answer, and past the counts they are even. Assumes nothing.
use Rattle.std.proofs.lemmas.Result.{err_from_is_err_and}
use Rattle.writing.proofs.Common.{refl}
use Rattle.writing.specs.Puts.{lent}
use Rattle.writing.proofs.WriteAnswers.{counts_stop, counts_passed, limits_stop, links_all}
use Rattle.writing.proofs.sound.Goals as goal

pub returns-in_err-counts_answer : goal.returns-in_err-counts_answer
returns-in_err-counts_answer c =
    let p = err_from_is_err_and c.from_residual.result c.from_residual.ensures.1 in
    rw (p.1, p.2) (counts_stop (lent c.args.lists) c.even.ensures c.counts_answer.ensures c.in_err-counts_answer.was)

pub invariant_of-even : goal.invariant_of-even
invariant_of-even c =
    record { even = counts_passed (lent c.args.lists) c.even.ensures c.counts_answer.ensures c.in_ok-counts_answer.was }

pub returns-in_err-limits : goal.returns-in_err-limits
returns-in_err-limits c =
    let p = err_from_is_err_and c.from_residual-in_err-limits.result c.from_residual-in_err-limits.ensures.1 in
    let tested = rw c.m.ensures at c.limits.ensures in
    rw (p.1, p.2)
    (limits_stop (lent c.args.lists) c.even.ensures c.counts_answer.ensures c.in_ok-counts_answer.was tested c.in_err-limits.was)

pub returns-in_err-links : goal.returns-in_err-links
returns-in_err-links c =
    let p = err_from_is_err_and c.from_residual-in_err-links.result c.from_residual-in_err-links.ensures.1 in
    let tested = rw c.m.ensures at c.limits.ensures in
    let linked = rw (c.m-2.ensures, c.k.ensures) at c.links.ensures in
    rw (p.1, p.2, links_all (lent c.args.lists) c.even.ensures c.counts_answer.ensures c.in_ok-counts_answer.was tested c.in_ok-limits.was linked)
    c.in_err-links.was

pub returns : goal.returns
returns c =
    let tested = rw c.m.ensures at c.limits.ensures in
    let linked = rw (c.m-2.ensures, c.k.ensures) at c.links.ensures in
    (refl, rw (links_all (lent c.args.lists) c.even.ensures c.counts_answer.ensures c.in_ok-counts_answer.was tested c.in_ok-limits.was linked) c.in_ok-links.was)
