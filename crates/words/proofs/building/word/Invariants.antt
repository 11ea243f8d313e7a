-- The bits of the points before y are set. Assumes nothing.
use Rattle.std.proofs.Common.{◌≡◌}
use Rattle.words.specs.Sets.{word_of}
use Rattle.words.specs.Calls.{bounds}
use Rattle.words.proofs.building.word.Given as goal

abbrev pub invariant-loop-y : goal.invariant-loop-y
invariant-loop-y l = l.w ≡ word_of l.y (bounds l.n l.strict l.x)
