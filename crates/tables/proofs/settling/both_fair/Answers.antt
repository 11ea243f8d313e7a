-- One table is looked at after the other. Assumes nothing.
use Rattle.lowering.proofs.Common.{inl, looked_no, looked_also}
use Rattle.tables.proofs.settling.both_fair.Goals as goal

pub returns-then-fair : goal.returns-then-fair
returns-then-fair c = looked_also (c.fair.ensures.holds c.if-fair.true) c.fair-then-fair.ensures

pub returns-else-fair : goal.returns-else-fair
returns-else-fair c = rw c.if-fair.false (looked_no (inl (c.fair.ensures.fails c.if-fair.false)))
