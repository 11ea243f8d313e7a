-- The words before w have taken the bits, and the others are as they were. Assumes nothing.
use Rattle.std.proofs.Common.{◌≡◌, ℕ, ◌<◌, ◌≤◌}
use Rattle.words.specs.Calls.{taking, point_word}
use Rattle.words.proofs.updating.reach_add.Given as goal

abbrev pub invariant-loop-w : goal.invariant-loop-w
invariant-loop-w l =
    ((k : ℕ) → k < l.w-index → point_word l.w-items k ≡ taking l.x l.to (point_word l.initial.w-items k))
    × ((k : ℕ) → l.w-index ≤ k → point_word l.w-items k ≡ point_word l.initial.w-items k)
