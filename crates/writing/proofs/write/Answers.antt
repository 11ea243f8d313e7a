-- The lists' own refusal, a buffer that is too short, or the file. Assumes nothing.
use Rattle.std.proofs.lemmas.Result.{err_from_is_err_and}
use Rattle.writing.proofs.Common.{arith}
use Rattle.writing.proofs.WriteAnswers.{refused, short, wrote}
use Rattle.writing.proofs.write.Goals as goal

pub returns-in_err-even : goal.returns-in_err-even
returns-in_err-even c =
    let p = err_from_is_err_and c.from_residual.result c.from_residual.ensures.1 in
    rw (p.1, p.2) (refused _ c.args.buffer.now c.in_err-even.ensures)

pub returns-then-buffer-size : goal.returns-then-buffer-size
returns-then-buffer-size c =
    let size = rw c.in_ok-even.ensures.0 at c.size.ensures in
    short _ c.args.buffer.now c.in_ok-even.ensures.1 (omega (arith, size))

pub returns : goal.returns
returns c =
    let size = rw c.in_ok-even.ensures.0 at c.size.ensures in
    let file = rw c.in_ok-even.ensures.0 at c.lay_down.ensures in
    wrote _ c.args.buffer.now c.in_ok-even.ensures.1 (omega (arith, size)) file
