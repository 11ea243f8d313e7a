-- The places of the working-out: how often loops turn, and from one place to the next. Assumes nothing.
use mathlib.Core.Path.{◌≡◌, sym, ap, ◌∙◌}
use mathlib.Core.Logic.{⊎_elim}
use mathlib.Core.List.{List, [], ◌∷◌}
use Prim.Native.Nat.{ℕ, zero, suc, ◌+◌, ◌-◌, ◌≤◌, ◌<◌}
use native.Mathlib.Nat.{eq-or-lt_of_le}
use native.Mathlib.Numerals.{add-one}
use native.Mathlib.Omega.{arith}
use lib.ListN.{length, get_or}
use Rattle.rules.specs.Plan.{Plan, version1, InRange}
use Rattle.plan.specs.Layout.{plan_of}
use Rattle.plan.proofs.SoundFile.{limits_length, links_length}
use Rattle.lowering.specs.Table.{Ready}
use Rattle.lowering.proofs.Laws.ReadyFile.{ready_points, ready_in_range}
use Rattle.chain.specs.Lines.{Line}
use Rattle.chain.specs.Reasons.{each}
use Rattle.reasons.specs.declared.Part.{Part}
use Rattle.reasons.specs.declared.Part.TheVariants.{StartEdges, Limits, Links, StrictJoins, Lower, Upper, OpenJoins}
use Rattle.reasons.specs.Stands.{Place, part_number, InOrder, steps_of, outer_of, middle_of, inner_of, outer, middle, inner, through, after, Moves, Placed, TryLeft, left_of}

-- ---- the counts of a sound file

module _ (s : List ℕ) (n m k : ℕ) (r : Ready s n m k) where
  pub limits_are : length (plan_of s).limits ≡ m
  limits_are = limits_length s ∙ sym r.limits

  pub links_are : length (plan_of s).links ≡ k
  links_are = links_length s ∙ sym r.links

  pub outer_is : (q : ℕ) → outer (plan_of s) q ≡ outer_of n m k q
  outer_is q = rw (ready_points s n m k r, limits_are, links_are)

  pub middle_is : (q : ℕ) → middle (plan_of s) q ≡ middle_of n k q
  middle_is q = rw (ready_points s n m k r, links_are)

  pub inner_is : (q : ℕ) → inner (plan_of s) q ≡ inner_of n q
  inner_is q = rw (ready_points s n m k r)

-- ---- the parts

pub part_few : (x : Part) → part_number x < 7
part_few StartEdges = omega arith
part_few Limits = omega arith
part_few Links = omega arith
part_few StrictJoins = omega arith
part_few Lower = omega arith
part_few Upper = omega arith
part_few OpenJoins = omega arith

-- each of some parts in their order
pub part_at : (q : ℕ) (parts : List Part) (i : ℕ) → InOrder q parts → i < length parts → part_number (get_or parts i StartEdges) ≡ q + i
part_at q [] i h l = absurd (omega arith)
part_at q (x ∷ xs) zero h l = omega (arith, h.0)
part_at q (x ∷ xs) (suc i) h l = let k = part_at (suc q) xs i h.1 (omega arith) in omega (arith, k)

-- ---- from one place to the next

module _ (p : Plan) (g phase a b : ℕ) where
  -- a step of the innermost loop
  pub move_step : (c : ℕ) (ls : List Line) → Moves p g (record { phase = phase; a = a; b = b; c = c }) (record { phase = phase; a = a; b = b; c = c + 1 }) ls (steps_of p g phase a b c ls)
  unfolding after
  move_step c ls from h base e =
      rw (add-one c) (ap (steps_of p g phase a b c) e)

  -- the innermost loop through
  pub move_inner : (c : ℕ) (ls : List Line) → inner p phase ≡ c → Moves p g (record { phase = phase; a = a; b = b; c = c }) (record { phase = phase; a = a; b = b + 1; c = 0 }) ls ls
  unfolding after
  move_inner c ls q from h base e =
      let rows : List Line =
      each (λ b. each (steps_of p g phase a b) (inner p phase)) b (each (λ a. each (λ b. each (steps_of p g phase a b) (inner p phase)) (middle p phase)) a (through p g from (phase - from) base)) in
      rw (add-one b) (e ∙ ap (λ (m : ℕ). each (steps_of p g phase a b) m rows) (sym q))

module _ (p : Plan) (g phase a : ℕ) where
  -- the middle one through
  pub move_middle : (b : ℕ) (ls : List Line) → middle p phase ≡ b → Moves p g (record { phase = phase; a = a; b = b; c = 0 }) (record { phase = phase; a = a + 1; b = 0; c = 0 }) ls ls
  unfolding after
  move_middle b ls q from h base e =
      let outers : List Line =
      each (λ a. each (λ b. each (steps_of p g phase a b) (inner p phase)) (middle p phase)) a (through p g from (phase - from) base) in
      rw (add-one a) (e ∙ ap (λ (m : ℕ). each (λ b. each (steps_of p g phase a b) (inner p phase)) m outers) (sym q))

-- the part through
pub move_part : (p : Plan) (g phase a : ℕ) (ls : List Line) → outer p phase ≡ a → Moves p g (record { phase = phase; a = a; b = 0; c = 0 }) (record { phase = phase + 1; a = 0; b = 0; c = 0 }) ls ls
unfolding after
move_part p g phase a ls q from h base e =
    let next : phase + 1 - from ≡ suc (phase - from) = omega arith in
    let same : from + (phase - from) ≡ phase = omega arith in
    rw (next, same)
    (e
    ∙ ap
    (λ (m : ℕ). each (λ a. each (λ b. each (steps_of p g phase a b) (inner p phase)) (middle p phase)) m (through p g from (phase - from) base))
    (sym q))

-- columns passed by
pub each_passed : (f : ℕ → List Line → List Line) (c r : ℕ) (ls ms : List Line) → c ≤ r → ms ≡ each f c ls → ((j : ℕ) → c ≤ j → j < r → f j ms ≡ ms) → ms ≡ each f r ls
each_passed f c zero ls ms h e q = let z : c ≡ zero = omega arith in e ∙ ap (λ (j : ℕ). each f j ls) z
each_passed f c (suc r) ls ms h e q =
    ⊎_elim
    (λ (z : c ≡ suc r). e ∙ ap (λ (j : ℕ). each f j ls) z)
    (λ (z : c < suc r). sym (q r (omega arith) (omega arith)) ∙ ap (f r) (each_passed f c r ls ms (omega arith) e (λ j a b. q j a (omega arith))))
    (eq-or-lt_of_le h)

-- columns passed by, as a move
pub move_passed : (p : Plan) (g phase a b c r : ℕ) (ls : List Line) → c ≤ r → ((j : ℕ) → c ≤ j → j < r → steps_of p g phase a b j ls ≡ ls)
    → Moves p g (record { phase = phase; a = a; b = b; c = c }) (record { phase = phase; a = a; b = b; c = r }) ls ls
unfolding after
move_passed p g phase a b c r ls h q from f base e = each_passed (steps_of p g phase a b) c r _ ls h e q

-- ---- how much is left

module _ (phase a b c : ℕ) where
  pub left_step : (r : ℕ) → c < r → r ≤ 64 → left_of (record { phase = phase; a = a; b = b; c = r }) < left_of (record { phase = phase; a = a; b = b; c = c })
  unfolding left_of
  left_step r h k = omega arith

  pub left_inner : b ≤ 64 → c ≤ 64 → left_of (record { phase = phase; a = a; b = b + 1; c = 0 }) < left_of (record { phase = phase; a = a; b = b; c = c })
  unfolding left_of
  left_inner h k = omega arith

  pub left_middle : a ≤ 1024 → b ≤ 64 → c ≤ 64 → left_of (record { phase = phase; a = a + 1; b = 0; c = 0 }) < left_of (record { phase = phase; a = a; b = b; c = c })
  unfolding left_of
  left_middle h k l = omega arith

  pub left_part : phase < 7 → a ≤ 1024 → b ≤ 64 → c ≤ 64 → left_of (record { phase = phase + 1; a = 0; b = 0; c = 0 }) < left_of (record { phase = phase; a = a; b = b; c = c })
  unfolding left_of
  left_part h k l m = omega arith

-- ---- how far the loops go

pub record Bounded (n m k : ℕ) : Type 0 where
  pub points : n ≤ 64
  pub limits : m ≤ 1024
  pub links : k ≤ 64

pub outer_most : (n m k q : ℕ) → Bounded n m k → outer_of n m k q ≤ 1024
outer_most n m k zero b = omega (arith, b.points)
outer_most n m k (suc zero) b = b.limits
outer_most n m k (suc (suc zero)) b = omega (arith, b.links)
outer_most n m k (suc (suc (suc zero))) b = omega (arith, b.points)
outer_most n m k (suc (suc (suc (suc zero)))) b = omega (arith, b.links)
outer_most n m k (suc (suc (suc (suc (suc q))))) b = omega (arith, b.points)

pub middle_most : (n m k q : ℕ) → Bounded n m k → middle_of n k q ≤ 64
middle_most n m k zero b = omega arith
middle_most n m k (suc zero) b = omega arith
middle_most n m k (suc (suc zero)) b = omega arith
middle_most n m k (suc (suc (suc zero))) b = b.points
middle_most n m k (suc (suc (suc (suc zero)))) b = b.links
middle_most n m k (suc (suc (suc (suc (suc zero))))) b = b.links
middle_most n m k (suc (suc (suc (suc (suc (suc q)))))) b = b.points

pub inner_most : (n m k q : ℕ) → Bounded n m k → inner_of n q ≤ 64
inner_most n m k zero b = omega arith
inner_most n m k (suc zero) b = omega arith
inner_most n m k (suc (suc zero)) b = omega arith
inner_most n m k (suc (suc (suc zero))) b = b.points
inner_most n m k (suc (suc (suc (suc zero)))) b = omega arith
inner_most n m k (suc (suc (suc (suc (suc zero))))) b = omega arith
inner_most n m k (suc (suc (suc (suc (suc (suc q)))))) b = b.points

pub bounded : (s : List ℕ) (n m k : ℕ) → Ready s n m k → Bounded n m k
unfolding version1
bounded s n m k r =
    let i : InRange version1 (plan_of s) = ready_in_range s n m k r in
    record {
      points = omega (arith, i.points, ready_points s n m k r);
      limits = omega (arith, i.limits, limits_are s n m k r);
      links = omega (arith, i.links, links_are s n m k r);
    }

-- a place within its part is not far
pub placed_most : {s : List ℕ} {n m k : ℕ} {at : Place} → Ready s n m k → Placed (plan_of s) at → (at.a ≤ 1024) × (at.b ≤ 64) × (at.c ≤ 64)
placed_most {s} {n} {m} {k} {at} r q =
    let few = bounded s n m k r in (
      omega (arith, q.a_most, outer_is s n m k r at.phase, outer_most n m k at.phase few),
      omega (arith, q.b_most, middle_is s n m k r at.phase, middle_most n m k at.phase few),
      omega (arith, q.c_most, inner_is s n m k r at.phase, inner_most n m k at.phase few),
    )

-- before the ends of its loops a try is left
pub try_before : {s : List ℕ} {n m k : ℕ} (r : Ready s n m k) (at : Place) {turns rows columns : ℕ} → turns ≡ outer_of n m k at.phase → at.a < turns
    → rows ≡ middle_of n k at.phase → at.b < rows → columns ≡ inner_of n at.phase → at.c < columns → TryLeft (plan_of s) at
try_before {s} {n} {m} {k} r at eo ha em hb ei hc =
    record {
      a = omega (arith, outer_is s n m k r at.phase);
      b = omega (arith, middle_is s n m k r at.phase);
      c = omega (arith, inner_is s n m k r at.phase);
    }
