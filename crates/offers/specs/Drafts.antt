-- A line that may be written, as the code holds it. Assumes nothing.
use Rattle.std.specs.Prelude.{◌≡◌, Bool, true, false, List, ◌∷◌, Option, Some, None, ℕ, ◌≤◌, ◌<◌, ℤ}
use Rattle.rules.specs.declared.Side.TheVariants.{Strict}
use Rattle.rules.specs.Cells.{num, ◌+ᶜ◌}
use Rattle.cell.specs.Steps.{cell64, belowᶜ}
use Rattle.chain.specs.Lines.{Line}
use Rattle.chain.specs.Reasons.{Offer, nothing, line, always, side_of, try}
use Rattle.offers.specs.declared.Draft.{Draft}
use Rattle.offers.specs.Kinds.{kind_number}
use Rattle.offers.specs.Work.{weight_in, Standing}

abbrev pub made_of : Draft → Line
made_of d = record { kind = kind_number d.kind; from = d.from; to = d.to; weight = d.weight; first = d.first; second = d.second }

-- what it offers, if there is one
abbrev pub offer_of : Option Draft → Offer
offer_of None = nothing
offer_of (Some d) = line (made_of d)

-- a list so far with that line, if there is one
abbrev pub added : Option Draft → List Line → List Line
added None ls = ls
added (Some d) ls = made_of d ∷ ls

-- a draft is what a try offers to the list that the work room holds
abbrev pub Offers : ℕ → List ℤ → (List Line → Offer) → Option Draft → Type 0
Offers n work offer d = (ls : List Line) → Standing n ls work → offer ls ≡ offer_of d

-- and one is what a try adds
abbrev pub Adds : ℕ → List ℤ → (List Line → Offer) → Option Draft → Type 0
Adds n work offer d = (ls : List Line) → Standing n ls work → try offer ls ≡ added d ls

-- one that can be noted: between points of the plan, of a weight that is no mark
pub record Notable (n : ℕ) (d : Draft) : Type 0 where
  pub from : d.from < n
  pub to : d.to < n
  pub number : cell64 d.weight ≡ num d.weight

-- and that is written only if it beats the strict pair's best
pub record Plain (n : ℕ) (d : Draft) : Type 0 where
  pub notable : Notable n d
  pub ordinary : always (kind_number d.kind) ≡ false
  pub strict : side_of (kind_number d.kind) ≡ Strict

-- whether a join by the middle y lowers the cell from x to z
abbrev pub lowers_by : ℕ → List ℤ → ℕ → ℕ → ℕ → ℕ → Bool
lowers_by n work part y x z = belowᶜ (weight_in n work part x y +ᶜ weight_in n work part y z) (weight_in n work part x z)

-- no such join of the columns from z on and before r does
pub record NoneBefore (n : ℕ) (work : List ℤ) (part y x z r : ℕ) : Type 0 where
  pub stays : (j : ℕ) → z ≤ j → j < r → lowers_by n work part y x j ≡ false

-- a column from z on whose cell such a join lowers, and no earlier one is
pub record Lowering (n : ℕ) (work : List ℤ) (part y x z r : ℕ) : Type 0 where
  pub from : z ≤ r
  pub to : r < n
  pub none_before : NoneBefore n work part y x z r
  pub lowers : lowers_by n work part y x r ≡ true

-- the first such column, or none
abbrev pub NextJoin : ℕ → List ℤ → ℕ → ℕ → ℕ → ℕ → Option ℕ → Type 0
NextJoin n work part y x z None = NoneBefore n work part y x z n
NextJoin n work part y x z (Some r) = Lowering n work part y x z r
