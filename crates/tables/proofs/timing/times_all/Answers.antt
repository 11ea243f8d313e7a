-- A turn for each point. Assumes nothing.
use Rattle.lowering.proofs.Common.{arith, refl, passed, w32, writing_more}
use Rattle.tables.proofs.TimesWritten.{time_fits, time_is, all_timed}
use Rattle.tables.proofs.timing.times_all.Goals as goal

pub negated-requires : goal.negated-requires
negated-requires c = rw (passed w32 c.get.type_inv) (time_fits c.requires.1 c.loop-x.x c.loop-x-test.true c.get.ensures)

pub loop-x-preserved : goal.loop-x-preserved
loop-x-preserved c =
    let minus = rw (passed w32 c.get.type_inv) at c.negated.ensures in
    writing_more c.loop-x.invariant _ c.loop-x-test.true c.requires.2 (time_is c.requires.1 c.loop-x.x c.loop-x-test.true c.get.ensures minus) refl

pub returns : goal.returns
returns c = all_timed c.loop-x.invariant (omega arith)
