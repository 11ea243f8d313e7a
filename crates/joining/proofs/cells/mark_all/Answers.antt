-- A turn for each cell. Assumes nothing.
use Rattle.lowering.proofs.Common.{rules, arith, writing_more, all_marked}
use Rattle.joining.proofs.cells.mark_all.Goals as goal

pub loop-i-preserved : goal.loop-i-preserved
loop-i-preserved g c = search (writing_more, g.met.W.Word.numbers.mark_is, rules)

pub returns : goal.returns
returns g c = all_marked g.W.Word.ranges c.loop-i.invariant (omega arith) c.requires
