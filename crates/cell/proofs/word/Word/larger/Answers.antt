-- The larger of two numbers, by the test that `less` makes. Assumes nothing.
use Rattle.cell.proofs.Common.{larger, tested}
use Rattle.cell.proofs.word.Word.larger.Goals as goal

pub returns-then-less : goal.returns-then-less
unfolding larger
returns-then-less g c = rw (tested c.less.ensures c.if-less.true)

pub returns : goal.returns
unfolding larger
returns g c = rw (tested c.less.ensures c.if-less.false)
