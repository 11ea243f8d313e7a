-- Document 02, item 4: what is promised of the list of reasons, of every plan in range. Assumes nothing.
use Rattle.std.specs.Prelude.{◌≡◌, true, false, List, ◌∷◌}
use Rattle.rules.specs.Plan.{Plan, Ranges, InRange}
use Rattle.rules.specs.Walks.{Uncontrollable}
use Rattle.chain.specs.Lines.{Line}
use Rattle.chain.specs.Reasons.{ended, ReasonList}
use Rattle.chain.specs.Follows.{Followed}

pub record ReasonLaws (r : Ranges) : Type 0 where
  -- "Every line follows from the plan and what it names"
  pub every_line_follows : (p : Plan) (ls : List Line) → InRange r p → ReasonList p ls → Followed p ls
  -- wherever a list came from: where every line follows and one line closes below zero, the plan is uncontrollable
  pub following_refutes : (p : Plan) (ls : List Line) → InRange r p → Followed p ls → ended ls ≡ true → Uncontrollable p
  -- the list ends below zero exactly where the plan is uncontrollable
  pub ended_refused : (p : Plan) (ls : List Line) → InRange r p → ReasonList p ls → ended ls ≡ true → Uncontrollable p
  pub going_controllable : (p : Plan) (ls : List Line) → InRange r p → ReasonList p ls → ended ls ≡ false → Uncontrollable p → ⊥
  -- "It stops at the first line below zero": no line before the last one is such
  pub first_below : (p : Plan) (l : Line) (ls : List Line) → ReasonList p (l ∷ ls) → ended ls ≡ false
  -- "The list is fixed": one, and no other
  pub one_list : (p : Plan) (ls ms : List Line) → ReasonList p ls → ReasonList p ms → ls ≡ ms
