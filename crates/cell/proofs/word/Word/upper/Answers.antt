-- The larger of v - u and -l, past the test for the mark. Assumes nothing.
use Rattle.cell.proofs.Common.{number, upper_is}
use Rattle.cell.proofs.word.Word.upper.Goals as goal

pub returns : goal.returns
returns g c k e f =
    let w = g.Self.Word in
    let s = number (w.value c.args.self) c.is_mark.ensures c.if-is_mark.false c.requires.0 in
    rw (c.larger.ensures, c.minus-after.ensures, c.of.ensures, c.negated-least.ensures, c.of-2.ensures)
    (upper_is g.met.Self.Word.far_room s c.requires.1 c.requires.2 k e f)
