-- The words before x are written. Assumes nothing.
use Rattle.std.proofs.Common.{◌≡◌, ℕ, ◌<◌}
use Rattle.words.specs.Sets.{word_of}
use Rattle.words.specs.Calls.{bounds, point_word}
use Rattle.words.proofs.building.reach.Given as goal

abbrev pub invariant-loop-x : goal.invariant-loop-x
invariant-loop-x l = (k : ℕ) → k < l.x → point_word l.w-items k ≡ word_of l.n (bounds l.n l.strict k)
