-- A turn for each row passed, of those before that of b and of those after it. Assumes nothing.
use Rattle.lowering.proofs.Common.{version1, cell32}
use Rattle.lowering.specs.Spread.{spread_row}
use Rattle.joining.proofs.Taking.{Turned}
use Rattle.spreads.proofs.spreading.spread_all.Given as goal

abbrev pub invariant-above : goal.invariant-above
invariant-above l = Turned (spread_row version1 l.fn.t.n l.a l.b (cell32 l.w)) l.x l.fn.t l.t

abbrev pub invariant-below : goal.invariant-below
invariant-below l = Turned (spread_row version1 l.fn.t.n l.a l.b (cell32 l.w)) l.x l.fn.t l.t
