-- The points passed have their times. Assumes nothing.
use Rattle.lowering.proofs.Common.{Writing}
use Rattle.tables.proofs.TimesWritten.{TimeOf}
use Rattle.tables.proofs.timing.times_all.Given as goal

abbrev pub invariant-loop-x : goal.invariant-loop-x
invariant-loop-x l = Writing l.n (TimeOf l.n l.strict) l.x l.initial.times l.times
