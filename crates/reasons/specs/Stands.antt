-- Where the working-out of a reason list stands, by numbers: in which of its seven parts, and how many steps of the three loops of that part are done. Parts
-- 0 to 2 are what is given, parts 3 to 6 are a sweep. Assumes nothing.
use Rattle.std.specs.Prelude.{◌≡◌, Option, Some, None, List, [], ◌∷◌, ℕ, zero, suc, ◌+◌, ◌*◌, ◌-◌, ◌≤◌, ◌<◌, length}
use Rattle.rules.specs.Plan.{Plan}
use Rattle.chain.specs.Lines.{Line}
use Rattle.chain.specs.Places.{Steps, pass, part, start_steps, limit_steps, link_steps, strict_steps, lower_steps, upper_steps, open_steps}
use Rattle.reasons.specs.declared.Part.{Part}
use Rattle.reasons.specs.declared.Part.TheVariants.{StartEdges, Limits, Links, StrictJoins, Lower, Upper, OpenJoins}
use Rattle.reasons.specs.declared.Turns.{Turns}

-- the numbers of the parts
abbrev pub part_number : Part → ℕ
part_number StartEdges = 0
part_number Limits = 1
part_number Links = 2
part_number StrictJoins = 3
part_number Lower = 4
part_number Upper = 5
part_number OpenJoins = 6

-- of some parts that of the first one
abbrev pub first_of : List Part → ℕ
first_of [] = 0
first_of (x ∷ xs) = part_number x

-- parts in their order, from one on
abbrev pub InOrder : ℕ → List Part → Type 0
InOrder q [] = Unit {0}
InOrder q (x ∷ xs) = (part_number x ≡ q) × InOrder (suc q) xs

-- a place: the number of a part, and the steps of its loops that are done
pub record Place : Type 0 where
  pub phase : ℕ
  pub a : ℕ
  pub b : ℕ
  pub c : ℕ

abbrev pub place_of : ℕ → Turns → Place
place_of q at = record { phase = q; a = at.a; b = at.b; c = at.c }

-- where it goes on: within a part, or with the next one
abbrev pub next_of : ℕ → Option Turns → Place
next_of q None = record { phase = q + 1; a = 0; b = 0; c = 0 }
next_of q (Some at) = place_of q at

-- the steps of a part, with g lines before those of the links
abbrev pub steps_of : Plan → ℕ → ℕ → Steps
steps_of p g zero = start_steps
steps_of p g (suc zero) = limit_steps p
steps_of p g (suc (suc zero)) = link_steps p
steps_of p g (suc (suc (suc zero))) = strict_steps
steps_of p g (suc (suc (suc (suc zero)))) = lower_steps p g
steps_of p g (suc (suc (suc (suc (suc zero))))) = upper_steps p g
steps_of p g (suc (suc (suc (suc (suc (suc q)))))) = open_steps

-- how often its three loops turn, of n points, m limits and k links
abbrev pub outer_of : ℕ → ℕ → ℕ → ℕ → ℕ
outer_of n m k zero = n
outer_of n m k (suc zero) = m
outer_of n m k (suc (suc zero)) = k
outer_of n m k (suc (suc (suc zero))) = n
outer_of n m k (suc (suc (suc (suc zero)))) = k
outer_of n m k (suc (suc (suc (suc (suc q))))) = n

abbrev pub middle_of : ℕ → ℕ → ℕ → ℕ
middle_of n k zero = 1
middle_of n k (suc zero) = 1
middle_of n k (suc (suc zero)) = 1
middle_of n k (suc (suc (suc zero))) = n
middle_of n k (suc (suc (suc (suc zero)))) = k
middle_of n k (suc (suc (suc (suc (suc zero))))) = k
middle_of n k (suc (suc (suc (suc (suc (suc q)))))) = n

abbrev pub inner_of : ℕ → ℕ → ℕ
inner_of n zero = 1
inner_of n (suc zero) = 1
inner_of n (suc (suc zero)) = 3
inner_of n (suc (suc (suc zero))) = n
inner_of n (suc (suc (suc (suc zero)))) = 1
inner_of n (suc (suc (suc (suc (suc zero))))) = 1
inner_of n (suc (suc (suc (suc (suc (suc q)))))) = n

-- the same of a plan
abbrev pub outer : Plan → ℕ → ℕ
outer p q = outer_of p.points (length p.limits) (length p.links) q

abbrev pub middle : Plan → ℕ → ℕ
middle p q = middle_of p.points (length p.links) q

abbrev pub inner : Plan → ℕ → ℕ
inner p q = inner_of p.points q

-- so many parts done, from one on
abbrev pub through : Plan → ℕ → ℕ → ℕ → List Line → List Line
through p g from zero ls = ls
through p g from (suc i) ls =
    pass (steps_of p g (from + i)) (outer p (from + i)) (middle p (from + i)) (inner p (from + i)) (through p g from i ls)

-- the list at a place, of what it was before the part numbered `from`
unfoldable pub after : Plan → ℕ → ℕ → Place → List Line → List Line
after p g from at ls =
    part (steps_of p g at.phase) (middle p at.phase) (inner p at.phase) at.a at.b at.c (through p g from (at.phase - from) ls)

-- from one place to another the list goes from one to another
abbrev pub Moves : Plan → ℕ → Place → Place → List Line → List Line → Type 0
Moves p g at next ls ms = (from : ℕ) → from ≤ at.phase → (base : List Line) → ls ≡ after p g from at base → ms ≡ after p g from next base

-- a place within its part: an outer loop that is through has nothing begun within it
pub record Placed (p : Plan) (at : Place) : Type 0 where
  pub a_most : at.a ≤ outer p at.phase
  pub b_most : at.b ≤ middle p at.phase
  pub c_most : at.c ≤ inner p at.phase
  pub a_through : outer p at.phase ≤ at.a → (at.b ≡ 0) × (at.c ≡ 0)
  pub b_through : middle p at.phase ≤ at.b → at.c ≡ 0

-- a try is left at a place
pub record TryLeft (p : Plan) (at : Place) : Type 0 where
  pub a : at.a < outer p at.phase
  pub b : at.b < middle p at.phase
  pub c : at.c < inner p at.phase

-- how much is left at most, a number that falls with every step
unfoldable pub left_of : Place → ℕ
left_of at = (8 - at.phase) * 100_000_000 + (1_100 - at.a) * 20_000 + (100 - at.b) * 100 + (99 - at.c)
