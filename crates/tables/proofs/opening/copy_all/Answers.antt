-- A turn for each cell. Assumes nothing.
use Rattle.lowering.proofs.Common.{rules, arith, writing_more, writing_all}
use Rattle.tables.proofs.opening.copy_all.Goals as goal

pub loop-i-preserved : goal.loop-i-preserved
loop-i-preserved c = search (writing_more, rules)

pub returns : goal.returns
returns c =
    let w = writing_all c.loop-i.invariant (omega arith) in
    record { length_same = w.kept.length_same; same = w.written; beyond_same = w.kept.beyond_same }
