-- What the theory asks of the numbers that a version of the file format fixes. Assumes nothing.
use Prim.Native.Nat.{◌+◌, ◌*◌, ◌-◌, ◌≤◌, ◌<◌}
use Rattle.rules.specs.Plan.{Ranges}

-- numbers that go together: the closed range holds one weight and the longest walk's, and the mark is above every sum of two cells
pub record Coherent (r : Ranges) : Type 0 where
  pub holds_weight : r.weight ≤ r.reach
  pub holds_walks : r.weight * (r.points - 1) ≤ r.reach
  pub mark_above : r.reach + r.reach < r.mark
