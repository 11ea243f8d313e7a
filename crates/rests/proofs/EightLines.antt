-- A list of eight lines worked out by hand, to hold the definition to: two lines of the plan, a strict join of them, an Upper of that join, an open join of
-- the Upper and the first join, a join whose references are no earlier lines, a line of no kind, and a Lower of that line and the open join. Assumes nothing.
use mathlib.Core.Path.{◌≡◌, refl}
use mathlib.Core.List.{List, [], ◌∷◌}
use Prim.Native.Nat.{ℕ, min}
use Rattle.rests.specs.Rests.{kind_at, is_join, is_rule, within, rests_on, largest}

kinds : List ℕ
kinds = 2 ∷ 3 ∷ 6 ∷ 8 ∷ 9 ∷ 6 ∷ 12 ∷ 7 ∷ []

-- the first line's reference is the number of a limit, and no line
firsts : List ℕ
firsts = 7 ∷ 0 ∷ 0 ∷ 2 ∷ 3 ∷ 5 ∷ 1 ∷ 6 ∷ []

seconds : List ℕ
seconds = 0 ∷ 0 ∷ 1 ∷ 1 ∷ 2 ∷ 9 ∷ 1 ∷ 4 ∷ []

on : ℕ → ℕ
on = rests_on kinds firsts seconds

-- a line of the plan rests on nothing; a join on its two lines; an Upper on its two lines and what they rest on; repeats count
cases : (on 0 ≡ 0) × (on 1 ≡ 0) × (on 2 ≡ 2) × (on 3 ≡ 4) × (on 4 ≡ 8)
unfolding on kinds firsts seconds rests_on within kind_at is_join is_rule
cases = (refl, refl, refl, refl, refl)

-- references to no earlier line add 0, a line of no kind gives 0 and counts 1 where it is referred to, and a line past the list gives 0
edges : (on 5 ≡ 0) × (on 6 ≡ 0) × (on 7 ≡ 10) × (on 8 ≡ 0)
unfolding on kinds firsts seconds rests_on within kind_at is_join is_rule
edges = (refl, refl, refl, refl)

-- the larger number reads as the million
capped : min 1000001 largest ≡ 1000000
capped = refl
