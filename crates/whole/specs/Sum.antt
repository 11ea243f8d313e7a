-- The sum of a list of natural numbers. Assumes nothing.
use Rattle.std.specs.Prelude.{ℕ, zero, ◌+◌, List, [], ◌∷◌}

-- all the numbers of the list together
abbrev pub total : List ℕ → ℕ
total [] = zero
total (a ∷ l) = a + total l
