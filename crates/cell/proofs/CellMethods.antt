-- What the methods of a cell rest on, once for every width: from the numbers that the code compares, adds and stores to the cells of the
-- paper. `Room` is all that is asked of a width and its ranges. Assumes nothing.
use mathlib.Core.Path.{◌≡◌, refl, sym, ◌∙◌}
use mathlib.Core.Bool.{Bool, true, false, cond, true≢false}
use mathlib.Core.Logic.{◌⊎◌, inl, inr}
use Prim.Native.Nat.{ℕ, suc, ◌-◌, ◌^◌, ◌≤◌, ◌<◌}
use native.Mathlib.Omega.{arith}
use lib.Dec.{eqb}
use lib.IntN.{ℤ, pos, negsuc, neg_ℤ, ◌-ℤ◌}
use lib.Signed.{lt_z, mag, ◌≤ℤ◌, ◌<ℤ◌}
use borrow.Author.Tests.{eq-eqb, ne_eqb}
use mir.Syntax.{Width}
use mir.Val.{SFits, of_z, to_z, bits, hbits}
use mir.ValLaws.{pow-bits}
use Rattle.whole.specs.Signed.{larger}
use Rattle.whole.proofs.Order.{ints, plus, neg, split}
use Rattle.whole.proofs.Larger.{larger_least}
use Rattle.whole.proofs.Bits.{signed, kept, back, fit, lt_lt_z, le_lt_z, cast_is}
use Rattle.rules.specs.Plan.{Ranges, Link}
use Rattle.rules.specs.Cells.{Cell, mark, num, cell_of, ◌+ᶜ◌, uppered}
pub use Rattle.cell.specs.Widths.{Room, room32, room64, room_roomy}
use Rattle.cell.specs.Steps.{adding, roomy, is_mark, belowᶜ, Stored, Summed, Decides}

-- ---- the mark and the numbers beside it

-- the number that stands for the mark
pub mark_is : (m : ℕ) → cell_of m (pos m) ≡ mark
mark_is m = rw (eq-eqb m m refl)

-- a number below the mark is that number
pub number_is : (m : ℕ) (a : ℤ) → a <ℤ pos m → cell_of m a ≡ num a
number_is m (pos n) h = rw (ne_eqb n m (λ e. omega (signed, e)))
number_is m (negsuc n) h = refl

-- a test for the mark that held: the cell is the mark
pub is_mark_lem : {c : Cell} {b : Bool} → b ≡ is_mark c → b ≡ true → c ≡ mark
is_mark_lem {c = mark} e f = refl
is_mark_lem {c = num a} e f = absurd (true≢false (sym f ∙ e))

-- and one that did not: the cell is a number
pub no_mark : (m : ℕ) (a : ℤ) {b : Bool} → b ≡ is_mark (cell_of m a) → b ≡ false → cell_of m a ≡ num a
no_mark m (pos n) e f = by (eqb n m) (sym e ∙ f)
  where
    by : (t : Bool) → is_mark (cond t mark (num (pos n))) ≡ false → cond t mark (num (pos n)) ≡ num (pos n)
    by true g = absurd (true≢false g)
    by false g = refl
no_mark m (negsuc n) e f = refl

-- a number of a type whose largest number is m: the mark, or a number below it
pub data Side (m : ℕ) (a : ℤ) : Type 0 where
  top : a ≡ pos m → cell_of m a ≡ mark → Side m a
  under : a <ℤ pos m → cell_of m a ≡ num a → Side m a

-- every such number is on one side
pub sides : (m : ℕ) (a : ℤ) → a ≤ℤ pos m → Side m a
sides m a h = by (split (pos m) a)
  where
    by : (pos m ≤ℤ a) ⊎ (a <ℤ pos m) → Side m a
    by (inl k) = let e : a ≡ pos m = omega ints in top e (rw e (mark_is m))
    by (inr k) = under k (number_is m a k)

-- ---- the test for the reach

-- a test that held decides what holds, and one that did not decides what does not
pub decided_yes : {P : Type 0} → P → Decides true P
decided_yes p = record { holds = λ _. p; fails = λ e. absurd (true≢false e) }

pub decided_no : {P : Type 0} → (P → ⊥) → Decides false P
decided_no n = record { holds = λ e. absurd (true≢false (sym e)); fails = λ _. n }

-- ---- from one call to another

-- a number that one call gave is what the next is passed, by the bound that the step of the first has as its `type_inv`
pub passed : (w : Width) {a : ℤ} → mag a < 2 ^ hbits w → to_z w (of_z w a) ≡ a
passed w {a} h = back (fit w a h)

-- ---- from one width to another

-- a cell that is a number, and whose number fits both types and is below the mark of the second, is the same cell there
pub cast_cell : {w v : Width} (n : ℕ) {a : ℤ} {c : Cell} → SFits w a → SFits v a → c ≡ num a → a <ℤ pos n
    → cell_of n (to_z v (of_z v (to_z w (of_z w a)))) ≡ c
cast_cell n {a} h k i l = rw (cast_is h k, i) (number_is n a l)

-- ---- what is asked of a width and its ranges

-- a cell that a sweep of Add holds may be added to
pub stored_roomy : (c : Cell) → Stored adding.reach c → Stored roomy.reach c
unfolding adding
stored_roomy mark h = tt
stored_roomy (num a) h = (omega (ints, h.0), omega (ints, h.1))

-- a cell that is a number of the reach or the floor
pub record Number (r : Ranges) (a : ℤ) : Type 0 where
  pub is : cell_of r.mark a ≡ num a
  pub least : negsuc r.reach ≤ℤ a
  pub most : a ≤ℤ pos r.reach

-- from a cell in range for which the test for the mark did not hold
pub number : {r : Ranges} (a : ℤ) {b : Bool} → b ≡ is_mark (cell_of r.mark a) → b ≡ false → Stored r.reach (cell_of r.mark a) → Number r a
number {r} a e f s =
    let i : cell_of r.mark a ≡ num a = no_mark r.mark a e f in
    let t : Stored r.reach (num a) = rw i at s in
    record { is = i; least = t.0; most = t.1 }

-- a cell that a sweep holds is within the range of sums, and so is the sum of two
pub stored_summed : (reach : ℕ) (c : Cell) → Stored reach c → Summed reach c
stored_summed reach mark s = tt
stored_summed reach (num a) s = (omega ints, omega ints)

pub summed : (reach : ℕ) (a b : Cell) → Stored reach a → Stored reach b → Summed reach (a +ᶜ b)
summed reach mark b s t = tt
summed reach (num a) mark s t = tt
summed reach (num a) (num b) s t = (omega (ints, plus a b), omega (ints, plus a b))

-- a cell that a sweep holds, and the sum of two, are so at any farther reach
pub stored_far : {reach far : ℕ} → reach ≤ far → (c : Cell) → Stored reach c → Stored far c
stored_far h mark s = tt
stored_far h (num a) s = (omega (ints, s.0), omega (ints, s.1))

pub summed_far : {reach far : ℕ} → reach ≤ far → (c : Cell) → Summed reach c → Summed far c
summed_far h c s = stored_far (omega arith) c s

module _ {w : Width} {r : Ranges} (room : Room w r) where
  -- a number of the type is at most the mark
  pub at_most : {a : ℤ} → SFits w a → a ≤ℤ pos r.mark
  at_most {a} h = omega (signed, kept h)

  -- every number of the reach, and the floor, is such a cell
  pub in_range : {a : ℤ} → negsuc r.reach ≤ℤ a → a ≤ℤ pos r.reach → Number r a
  in_range {a} h k = record { is = number_is r.mark a (omega ints); least = h; most = k }

  -- so is a weight
  pub weight_number : {n : ℕ} → n ≤ r.weight → Number r (pos n)
  weight_number h = in_range (omega ints) (omega ints)

  -- and its cell is that number
  pub weight_is : {v : ℤ} {n : ℕ} → n ≤ r.weight → v ≡ pos n → cell_of r.mark v ≡ num (pos n)
  weight_is h e = rw e (weight_number h).is

  -- so is the negation of a weight
  pub minus_is : {v : ℤ} {n : ℕ} → n ≤ r.weight → v ≡ neg_ℤ (pos n) → cell_of r.mark v ≡ num (neg_ℤ (pos n))
  minus_is {v} {n} h e = rw e (in_range {a = neg_ℤ (pos n)} (omega (ints, neg (pos n), room.weight)) (omega (ints, neg (pos n)))).is

  -- and a number between the two
  pub number_between : {v : ℤ} → neg_ℤ (pos r.weight) ≤ℤ v → v ≤ℤ pos r.weight → cell_of r.mark v ≡ num v
  number_between {v} h k = (in_range {a = v} (omega (ints, neg (pos r.weight), room.weight)) (omega (ints, room.weight))).is

  -- the test of the bits for the mark is the test of the cell
  pub mark_flag : (a : ℤ) → SFits w a → eqb (of_z w a) r.mark ≡ is_mark (cell_of r.mark a)
  mark_flag (pos n) h = by (eqb n r.mark)
    where
      by : (t : Bool) → t ≡ is_mark (cond t mark (num (pos n)))
      by true = refl
      by false = refl
  mark_flag (negsuc n) h = ne_eqb (2 ^ bits w - suc n) r.mark (λ e. omega (arith, h.sfits, pow-bits w))

  -- the order of the numbers is the order of the cells: the mark is the largest number
  pub below_flag : (a b : ℤ) → SFits w a → SFits w b → lt_z a b ≡ belowᶜ (cell_of r.mark a) (cell_of r.mark b)
  below_flag a b h k = by (sides r.mark a (at_most h)) (sides r.mark b (at_most k))
    where
      by : Side r.mark a → Side r.mark b → lt_z a b ≡ belowᶜ (cell_of r.mark a) (cell_of r.mark b)
      by (top e c) y = rw c (le_lt_z a b (rw e (at_most k)))
      by (under l c) (top e d) = rw (c, d) (lt_lt_z a b (rw e l))
      by (under l c) (under n d) = rw (c, d)

  pub negation_fits : {l : ℕ} → l ≤ r.weight → SFits w (neg_ℤ (pos l))
  negation_fits {l} h = omega (signed, neg (pos l))

  -- what the rule yields: the larger of the two
  pub upper_is : {a : ℤ} {l u : ℕ} → Number r a → l ≤ r.weight → u ≤ r.weight → (k : Link) → k.short ≡ l → k.long ≡ u
      → cell_of r.mark (larger (a -ℤ pos u) (neg_ℤ (pos l))) ≡ uppered k (cell_of r.mark a)
  upper_is {a} {l} {u} x hl hu k e f =
      let most : larger (a -ℤ pos u) (neg_ℤ (pos l)) ≤ℤ pos r.reach =
      larger_least (omega (signed, plus a (neg_ℤ (pos u)), neg (pos u))) (omega (signed, neg (pos l))) in
      rw (x.is, e, f) (number_is r.mark (larger (a -ℤ pos u) (neg_ℤ (pos l))) (omega signed))
