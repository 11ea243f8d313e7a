-- The lines below the place reached are written, and the others are as they were.
use Rattle.std.proofs.Common.{◌≡◌}
use Rattle.lines.specs.Reads.{line_in, filled}
use Rattle.lines.proofs.gather.Given as goal

abbrev pub invariant-loop-at : goal.invariant-loop-at
invariant-loop-at l = l.lines ≡ filled (line_in l.columns) l.at l.initial.lines
