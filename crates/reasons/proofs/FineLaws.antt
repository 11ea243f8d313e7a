-- The working-out can go on at every place where a try is left: what is small enough by the theory of the list is near enough for the code. Assumes nothing.
use mathlib.Core.Path.{◌≡◌, refl}
use mathlib.Core.Bool.{false}
use mathlib.Core.List.{List, []}
use Prim.Native.Nat.{ℕ, zero, suc, ◌+◌, ◌*◌, ◌-◌, ◌≤◌, ◌<◌}
use native.Mathlib.Nat.{mul-le-mul}
use native.Mathlib.Omega.{arith}
use lib.ListN.{length}
use lib.IntN.{ℤ, pos, neg_ℤ}
use lib.Signed.{◌≤ℤ◌}
use Rattle.whole.proofs.Order.{ints, neg}
use Rattle.rules.specs.declared.Side.TheVariants.{Strict}
use Rattle.rules.specs.Plan.{Plan, version1, InRange}
use Rattle.rules.specs.Cells.{Cell, mark, num, ◌≤ᶜ◌, Within}
use Rattle.cell.specs.Steps.{roomy}
use Rattle.chain.specs.Lines.{Line, cells}
use Rattle.chain.specs.Reasons.{ended, each, starts, limits, links, before_links, given, strict_joins, lowers, uppers, open_joins, sweep, sweeps}
use Rattle.chain.specs.Places.{Steps, part}
use Rattle.chain.proofs.Keeping.{Keeps, each_keeps}
use Rattle.chain.proofs.OneList.{First, first_kept, sweeps_first}
use Rattle.chain.proofs.BestWeights.{diagonal}
use Rattle.chain.proofs.Places.{lowest, highest, most_lines, Small}
use Rattle.chain.proofs.Safe.{Safe}
use Rattle.chain.proofs.SafeSweeps.{safe}
use Rattle.reasons.specs.Stands.{Place, steps_of, outer, middle, inner, through, after}
use Rattle.reasons.specs.Working.{Fine, FineWithin}

-- ---- how far numbers go

lowest_most : (n : ℕ) → n ≤ 64 → lowest 1_000_000 n ≤ 1_048_576_000_000
lowest_most n h =
    let a : 4 * 1_000_000 * n ≤ 4 * 1_000_000 * 64 = omega arith in
    let b : 4 * 1_000_000 * n * n ≤ 4 * 1_000_000 * 64 * 64 = mul-le-mul a h in
    let c : 4 * 1_000_000 * n * n * n ≤ 4 * 1_000_000 * 64 * 64 * 64 = mul-le-mul b h in
    omega (arith, c)

highest_most : (n : ℕ) → n ≤ 64 → highest 1_000_000 n ≤ 128_000_000
highest_most n h = omega arith

lines_most : (n k : ℕ) → n ≤ 64 → k ≤ 32 → most_lines 1_000_000 n k < roomy.reach
lines_most n k h l =
    let a = lowest_most n h in
    let b = highest_most n h in
    let c : n * n ≤ 64 * 64 = mul-le-mul h h in
    let d : lowest 1_000_000 n + highest 1_000_000 n + 1 ≤ 1_048_704_000_001 = omega (arith, a, b) in
    let e : n * n * (lowest 1_000_000 n + highest 1_000_000 n + 1) ≤ 64 * 64 * 1_048_704_000_001 = mul-le-mul c d in
    omega (arith, e)

near : (n : ℕ) (c : Cell) → n ≤ 64 → num (neg_ℤ (pos (lowest 1_000_000 n))) ≤ᶜ c → ((w : ℤ) → c ≡ num w → w ≤ℤ pos (highest 1_000_000 n)) → Within roomy.reach c
near n mark h l m = tt
near n (num w) h l m =
    let a = lowest_most n h in
    let b = highest_most n h in
    let k = m w refl in
    (omega (ints, l, a, neg (pos (lowest 1_000_000 n)), neg (pos roomy.reach)), omega (ints, k, b))

pub small_fine : (n k : ℕ) (ls : List Line) → n ≤ 64 → k ≤ 32 → First ls → ended ls ≡ false → Small 1_000_000 n k ls → Fine n ls
small_fine n k ls h l f e s =
    let m = lines_most n k h l in
    record {
      near = λ d x y hx hy. near n (cells d ls x y) h (s.least d x y hx hy) (s.most d x y hx hy);
      few = omega (arith, m, s.few);
      diagonal = λ x. diagonal Strict x ls f e;
    }

-- ---- no line before the last one closes below zero

steps_first : (p : Plan) (g q a b c : ℕ) → Keeps First (steps_of p g q a b c)
steps_first p g zero a b c = first_kept _
steps_first p g (suc zero) a b c = first_kept _
steps_first p g (suc (suc zero)) a b c = first_kept _
steps_first p g (suc (suc (suc zero))) a b c = first_kept _
steps_first p g (suc (suc (suc (suc zero)))) a b c = first_kept _
steps_first p g (suc (suc (suc (suc (suc zero))))) a b c = first_kept _
steps_first p g (suc (suc (suc (suc (suc (suc q)))))) a b c = first_kept _

module _ (f : Steps) (keeps : (a b c : ℕ) → Keeps First (f a b c)) (M C : ℕ) where
  outers_first : (a : ℕ) → Keeps First (each (λ a. each (λ b. each (f a b) C) M) a)
  outers_first a = each_keeps First _ a (λ i hi. each_keeps First _ M (λ j hj. each_keeps First _ C (λ k hk. keeps i j k)))

  part_first : (a b c : ℕ) → Keeps First (part f M C a b c)
  part_first a b c ls h =
      each_keeps First (f a b) c (λ k hk. keeps a b k) _
      (each_keeps First (λ b. each (f a b) C) b (λ j hj. each_keeps First (f a j) C (λ k hk. keeps a j k)) _ (outers_first a ls h))

through_first : (p : Plan) (g from i : ℕ) (base : List Line) → First base → First (through p g from i base)
through_first p g from zero base h = h
through_first p g from (suc i) base h =
    outers_first (steps_of p g (from + i)) (steps_first p g (from + i)) (middle p (from + i)) (inner p (from + i)) (outer p (from + i)) (through p g from i base)
    (through_first p g from i base h)

pub after_first : (p : Plan) (g from : ℕ) (at : Place) (base : List Line) → First base → First (after p g from at base)
unfolding after
after_first p g from at base h =
    part_first (steps_of p g at.phase) (steps_first p g at.phase) (middle p at.phase) (inner p at.phase) at.a at.b at.c (through p g from (at.phase - from) base)
    (through_first p g from (at.phase - from) base h)

-- ---- of a plan in range

module _ (p : Plan) (h : InRange version1 p) where
  few_points : p.points ≤ 64
  unfolding version1
  few_points = h.points

  few_links : length p.links ≤ 32
  unfolding version1
  few_links = h.links

  small : Safe 1_000_000 p
  unfolding version1
  small = safe version1 p h

  fine : (ls : List Line) → First ls → ended ls ≡ false → Small 1_000_000 p.points (length p.links) ls → Fine p.points ls
  fine ls = small_fine p.points (length p.links) ls few_points few_links

  -- the parts before the links
  before_small : (g q a b c : ℕ) → q < 2 → a < outer p q → b < middle p q → c ≤ inner p q
      → ended (after p g 0 (record { phase = q; a = a; b = b; c = c }) []) ≡ false
      → Small 1_000_000 p.points (length p.links) (after p g 0 (record { phase = q; a = a; b = b; c = c }) [])
  unfolding after starts
  before_small g zero a b c u ha hb hc e = small.in_starts a b c ha hb hc e
  before_small g (suc zero) a b c u ha hb hc e = small.in_limits a b c ha hb hc e
  before_small g (suc (suc q)) a b c u ha hb hc e = absurd (omega arith)

  pub fine_before : (g : ℕ) → FineWithin p g 0 2 []
  fine_before g at l u ha hb hc e =
      fine (after p g 0 at []) (after_first p g 0 at [] tt) e (before_small g at.phase at.a at.b at.c u ha hb hc e)

  -- the links
  links_small : (g q a b c : ℕ) → 2 ≤ q → q < 3 → a < outer p q → b < middle p q → c ≤ inner p q
      → ended (after p g 2 (record { phase = q; a = a; b = b; c = c }) (before_links p)) ≡ false
      → Small 1_000_000 p.points (length p.links) (after p g 2 (record { phase = q; a = a; b = b; c = c }) (before_links p))
  unfolding after
  links_small g zero a b c l u ha hb hc e = absurd (omega arith)
  links_small g (suc zero) a b c l u ha hb hc e = absurd (omega arith)
  links_small g (suc (suc zero)) a b c l u ha hb hc e = small.in_links a b c ha hb hc e
  links_small g (suc (suc (suc q))) a b c l u ha hb hc e = absurd (omega arith)

  before_first : First (before_links p)
  unfolding before_links starts limits
  before_first = through_first p 0 0 2 [] tt

  pub fine_links : (g : ℕ) → FineWithin p g 2 3 (before_links p)
  fine_links g at l u ha hb hc e =
      fine (after p g 2 at (before_links p)) (after_first p g 2 at (before_links p) before_first) e
      (links_small g at.phase at.a at.b at.c l u ha hb hc e)

  -- a sweep, after any number of sweeps
  sweep_small : (i q a b c : ℕ) → 3 ≤ q → q < 7 → a < outer p q → b < middle p q → c ≤ inner p q
      → ended (after p (length (before_links p)) 3 (record { phase = q; a = a; b = b; c = c }) (sweeps p i)) ≡ false
      → Small 1_000_000 p.points (length p.links) (after p (length (before_links p)) 3 (record { phase = q; a = a; b = b; c = c }) (sweeps p i))
  unfolding after strict_joins lowers uppers
  sweep_small i zero a b c l u ha hb hc e = absurd (omega arith)
  sweep_small i (suc zero) a b c l u ha hb hc e = absurd (omega arith)
  sweep_small i (suc (suc zero)) a b c l u ha hb hc e = absurd (omega arith)
  sweep_small i (suc (suc (suc zero))) a b c l u ha hb hc e = small.in_strict i a b c ha hb hc e
  sweep_small i (suc (suc (suc (suc zero)))) a b c l u ha hb hc e = small.in_lowers i a b c ha hb hc e
  sweep_small i (suc (suc (suc (suc (suc zero))))) a b c l u ha hb hc e = small.in_uppers i a b c ha hb hc e
  sweep_small i (suc (suc (suc (suc (suc (suc zero)))))) a b c l u ha hb hc e = small.in_opens i a b c ha hb hc e
  sweep_small i (suc (suc (suc (suc (suc (suc (suc q))))))) a b c l u ha hb hc e = absurd (omega arith)

  pub fine_sweep : (i : ℕ) → FineWithin p (length (before_links p)) 3 7 (sweeps p i)
  fine_sweep i at l u ha hb hc e =
      fine (after p (length (before_links p)) 3 at (sweeps p i)) (after_first p (length (before_links p)) 3 at (sweeps p i) (sweeps_first p i)) e
      (sweep_small i at.phase at.a at.b at.c l u ha hb hc e)

  -- the lines after any number of sweeps that have not ended the list are not too many
  pub sweeps_few : (i : ℕ) → ended (sweeps p i) ≡ false → length (sweeps p i) < roomy.reach
  sweeps_few i e =
      (fine (sweeps p i) (sweeps_first p i) e (small.in_strict i 0 0 0 h.some_point h.some_point (omega arith) e)).few

-- ---- all the parts are the item's list

pub before_through : (p : Plan) (g : ℕ) → through p g 0 2 [] ≡ before_links p
unfolding before_links starts limits
before_through p g = refl

pub given_through : (p : Plan) (g : ℕ) → through p g 2 1 (before_links p) ≡ sweeps p 0
unfolding sweeps given links
given_through p g = refl

pub sweep_through : (p : Plan) (i : ℕ) → through p (length (before_links p)) 3 4 (sweeps p i) ≡ sweeps p (suc i)
unfolding sweeps sweep strict_joins lowers uppers open_joins
sweep_through p i = refl
