-- Document 02, item 6: what is promised of the calls on reach words together, over their statements alone; and that two answers are equal. Assumes nothing.
use Rattle.std.specs.Prelude.{◌≡◌, ◌↔◌, true, ◌&&◌, List, ℕ, ◌<◌, ltb, ℤ, Result, Ok}
use Rattle.rules.specs.Answers.{Answer, Done}
use Rattle.rules.specs.declared.Refusal.{Refusal}
use Rattle.rules.specs.Plan.{Limit, Plan, version1}
use Rattle.rules.specs.Edges.{Given}
use Rattle.rules.specs.Walks.{Walk}
use Rattle.rules.specs.Calls.{Judged, Added}
use Rattle.plan.specs.Layout.{plan_of}
use Rattle.plan.specs.File.{file_answer, add_answer}
use Rattle.words.specs.declared.Extent.{Extent}
use Rattle.words.specs.Sets.{Numbers, word_bits, bit}
use Rattle.words.specs.Calls.{bounds, point_word, Reached, BoundedIs, BothIs, ReachAdded}
use Rattle.words.specs.Handed.{BoundedInto, BothInto}

-- "A word of 0 answers a count of 0, and 64 as lowest and highest."
abbrev pub WordOfZero : Type 0
WordOfZero = (number low high : ℕ) → Numbers word_bits (bit 0) number low high → (number ≡ 0) × (low ≡ 64) × (high ≡ 64)

-- "bit Y of word X is set exactly when the cell from X to Y isn't the no-path mark": of words that Reach built, with no bit from n on
abbrev pub BitsOfBuilt : Type 0
BitsOfBuilt =
    (n : ℕ) (strict : List ℤ) (words words' : List ℕ) → Reached n strict words Done words'
    → (x y : ℕ) → x < n → bit (point_word words' x) y ≡ (ltb y n && bounds n strict x y)

-- "the number of bounded points, the lowest and the highest bounded point": of built words they are those of the points whose cell is a number
abbrev pub BoundedOfBuilt : Type 0
BoundedOfBuilt =
    (n : ℕ) (strict : List ℤ) (words words' : List ℕ) (x : ℕ) (r : Result Extent Refusal) → Reached n strict words Done words' → x < n
    → BoundedIs n words' x r → (e : Extent) × (r ≡ Ok e) × Numbers n (bounds n strict x) e.number e.lowest e.highest

-- "the points that two points both bound": of built words
abbrev pub BothOfBuilt : Type 0
BothOfBuilt =
    (n : ℕ) (strict : List ℤ) (words words' : List ℕ) (x y : ℕ) (r : Result ℕ Refusal) → Reached n strict words Done words' → x < n → y < n
    → BothIs n words' x y r → (w : ℕ) × (r ≡ Ok w) × ((z : ℕ) → bit w z ≡ (ltb z n && (bounds n strict x z && bounds n strict y z)))

-- there is a walk over given edges
abbrev pub Leads : Plan → ℕ → ℕ → Type 0
Leads p x y = (total : ℤ) × Walk (Given p) x y total

-- "building the words after Judge": a point bounds exactly those to which the plan's given edges lead from it
abbrev pub BitsOfJudged : Type 0
BitsOfJudged =
    (s : List ℕ) (strict weak strict' weak' : List ℤ) (words words' : List ℕ) → Judged version1 (file_answer s) (plan_of s) strict weak Done strict' weak'
    → Reached (plan_of s).points strict' words Done words' → (x y : ℕ) → x < (plan_of s).points → y < (plan_of s).points
    → (bit (point_word words' x) y ≡ true) ↔ Leads (plan_of s) x y

-- "After a taken Add they are updated from the one new limit and equal words built afresh": the update is taken, and leaves what Reach builds on the
-- same lent words from the new strict table. That is one list (ReachedOnce).
abbrev pub UpdatedAsAfresh : Type 0
UpdatedAsAfresh =
    (s : List ℕ) (m : Limit) (strict weak scratch strict' weak' scratch' : List ℤ) (words words₁ words₂ : List ℕ) (a : Answer)
    → Added version1 (add_answer s m) (plan_of s) m strict weak scratch Done strict' weak' scratch'
    → Reached (plan_of s).points strict words Done words₁ → ReachAdded (plan_of s).points m.from m.to words₁ a words₂
    → (a ≡ Done) × Reached (plan_of s).points strict' words₁ Done words₂

-- Updating twice with the same limit changes nothing more, whatever the words.
abbrev pub UpdatedTwice : Type 0
UpdatedTwice =
    (n x y : ℕ) (words words₁ words₂ : List ℕ) (a b : Answer) → ReachAdded n x y words a words₁ → ReachAdded n x y words₁ b words₂
    → (b ≡ a) × (words₂ ≡ words₁)

-- The order of two updates does not matter, whatever the words; so it does not after taken Adds.
abbrev pub UpdatedInAnyOrder : Type 0
UpdatedInAnyOrder =
    (n x y x' y' : ℕ) (words one two one_two two_one : List ℕ) → ReachAdded n x y words Done one → ReachAdded n x' y' one Done one_two
    → ReachAdded n x' y' words Done two → ReachAdded n x y two Done two_one → one_two ≡ two_one

-- all of these
pub record ReachLaws : Type 0 where
  pub zero_word : WordOfZero
  pub built_bits : BitsOfBuilt
  pub built_numbers : BoundedOfBuilt
  pub built_both : BothOfBuilt
  pub judged_bits : BitsOfJudged
  pub afresh : UpdatedAsAfresh
  pub twice : UpdatedTwice
  pub any_order : UpdatedInAnyOrder

-- Two answers to the same input are equal, in every number and every lent word.
abbrev pub ReachedOnce : Type 0
ReachedOnce =
    (n : ℕ) (strict : List ℤ) (words : List ℕ) (a b : Answer) (words₁ words₂ : List ℕ) → Reached n strict words a words₁ → Reached n strict words b words₂
    → (a ≡ b) × (words₁ ≡ words₂)

abbrev pub BoundedOnce : Type 0
BoundedOnce = (n : ℕ) (words : List ℕ) (x : ℕ) (r q : Result Extent Refusal) → BoundedIs n words x r → BoundedIs n words x q → r ≡ q

abbrev pub BothOnce : Type 0
BothOnce = (n : ℕ) (words : List ℕ) (x y : ℕ) (r q : Result ℕ Refusal) → BothIs n words x y r → BothIs n words x y q → r ≡ q

abbrev pub ReachAddedOnce : Type 0
ReachAddedOnce =
    (n x y : ℕ) (words : List ℕ) (a b : Answer) (words₁ words₂ : List ℕ) → ReachAdded n x y words a words₁ → ReachAdded n x y words b words₂
    → (a ≡ b) × (words₁ ≡ words₂)

-- The same of what C gets in a lent slice.
abbrev pub BoundedIntoOnce : Type 0
BoundedIntoOnce =
    (n : ℕ) (words : List ℕ) (x : ℕ) (out : List ℕ) (a b : Answer) (out₁ out₂ : List ℕ) → BoundedInto n words x out a out₁
    → BoundedInto n words x out b out₂ → (a ≡ b) × (out₁ ≡ out₂)

abbrev pub BothIntoOnce : Type 0
BothIntoOnce =
    (n : ℕ) (words : List ℕ) (x y : ℕ) (out : List ℕ) (a b : Answer) (out₁ out₂ : List ℕ) → BothInto n words x y out a out₁
    → BothInto n words x y out b out₂ → (a ≡ b) × (out₁ ≡ out₂)
