-- What one step of the working-out does: a line or none, and the place where it goes on. Assumes nothing.
use Rattle.std.specs.Prelude.{◌≡◌, ◌⊎◌, Option, None, IfSome, List, ℕ, ◌+◌, ◌<◌, ℤ}
use Rattle.rules.specs.declared.Side.{Side}
use Rattle.rules.specs.declared.Side.TheVariants.{Strict, Open}
use Rattle.rules.specs.Plan.{Plan}
use Rattle.chain.specs.Lines.{Line}
use Rattle.offers.specs.declared.Draft.{Draft}
use Rattle.offers.specs.Work.{Standing}
use Rattle.offers.specs.Drafts.{added, Notable}
use Rattle.reasons.specs.Stands.{Place, steps_of, Moves, Placed, TryLeft, left_of}

-- a draft is what the try at a place adds
pub record Tried (p : Plan) (g : ℕ) (work : List ℤ) (at : Place) (d : Option Draft) : Type 0 where
  pub adds : (ls : List Line) → Standing p.points ls work → steps_of p g at.phase at.a at.b at.c ls ≡ added d ls
  pub notable : IfSome d (Notable p.points)

-- where a step goes on: within its part, with a line only where a try was left; or to the next part, with none
pub data GoesOn (p : Plan) (at : Place) (d : Option Draft) (next : Place) : Type 0 where
  within : next.phase ≡ at.phase → (d ≡ None) ⊎ (TryLeft p at × (next.a ≡ at.a) × (next.b ≡ at.b)) → GoesOn p at d next
  beyond : d ≡ None → next ≡ record { phase = at.phase + 1; a = 0; b = 0; c = 0 } → GoesOn p at d next

pub record Stepped (p : Plan) (g : ℕ) (work : List ℤ) (at : Place) (d : Option Draft) (next : Place) : Type 0 where
  pub moves : (ls : List Line) → (TryLeft p at → Standing p.points ls work) → Moves p g at next ls (added d ls)
  pub goes : GoesOn p at d next
  pub notable : IfSome d (Notable p.points)
  pub placed : Placed p next
  pub falls : left_of next < left_of at

-- which joins: of strict pairs, or of open ones
pub data Joins (side : Side) (kind phase : ℕ) : Type 0 where
  strict : side ≡ Strict → kind ≡ 6 → phase ≡ 3 → Joins side kind phase
  weak : side ≡ Open → kind ≡ 9 → phase ≡ 6 → Joins side kind phase

-- the part of the joins of a side's bests
abbrev pub join_part : Side → ℕ
join_part Strict = 3
join_part Open = 6
