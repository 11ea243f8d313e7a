-- A sweep that changes nothing: tables that have their walks, hold the given edges, have 0 on both diagonals and no cell under the reach are closed, with
-- exact sums, so they are the plan's tables. What was left out above the reach is harmless: along a trail of fewer than n given edges every part stays in reach, so
-- every connected pair has a cell in reach. And a cell under the reach, or a negative diagonal, makes the plan uncontrollable. Assumes nothing.
use mathlib.Core.Path.{◌≡◌, subst}
use mathlib.Core.Logic.{◌≢◌, inl, inr, ⊎_elim}
use mathlib.Core.List.{List, ◌∷◌, Memᴰ}
use Prim.Native.Nat.{ℕ, zero, suc, ◌*◌, ◌-◌, ◌≤◌, ◌<◌}
use native.Mathlib.Nat.{mul-le-mul_left, le_trans}
use native.Mathlib.Omega.{arith}
use lib.ListN.{length}
use lib.IntN.{ℤ, pos, neg_ℤ, ◌+ℤ◌}
use lib.Signed.{◌≤ℤ◌, ◌<ℤ◌, ≤ℤ_refl}
use Rattle.whole.proofs.Order.{ints, neg}
use Rattle.rules.specs.Plan.{Link, Plan, Ranges}
use Rattle.rules.proofs.Coherence.{Coherent}
use Rattle.rules.specs.Edges.{Given, Derivable, Open}
use Rattle.rules.specs.Walks.{Walk, Uncontrollable}
use Rattle.rules.specs.Cells.{Cell, num, ◌+ᶜ◌, ◌≤ᶜ◌, lowered, uppered, Within, table_of}
use Rattle.rules.specs.Tables.{Tables, Closed}
use Rattle.rules.proofs.Cells.{AtMost, at_most, under, sum, raised}
use Rattle.rules.proofs.Walks.{Dominated}
use Rattle.rules.proofs.Points.{Pointed, Weighted, Ends, given_ends}
use Rattle.rules.proofs.Expansion.{basic_least, basic_given}
use Rattle.rules.proofs.Shortening.{Trail, stop, go, trail_least, trail_most}
use Rattle.rules.proofs.Reach.{GivenTrail, given_trail, given_most, floor}
use Rattle.rules.proofs.Justified.{justified_closed}
use Rattle.rules.proofs.Domination.{as_open}
use Rattle.lowering.specs.Sweep.{sweep_strict, sweep_open}
use Rattle.lowering.proofs.Theory.StoredNumbers.{stored_at_most}
use Rattle.lowering.proofs.Theory.LoweredTables.{Lowered, lowered_below}
use Rattle.lowering.proofs.Theory.WalksKept.{Has, Walked, PlanLinks}
use Rattle.lowering.proofs.Theory.StepsTaken.{Steps, Among, Rule, rule_reaches, still_down, still_obeys}
use Rattle.lowering.proofs.Theory.CellRules.{join_rule, lower_rule, lower_among, upper_rule, case_rule, strict_rule}
use Rattle.lowering.proofs.Theory.SweepsTaken.{Any, join_among, strict_cells, open_cells, strict_steps_lem, open_steps_lem}

-- ---- a sweep that changed nothing

-- where the sweep stands when it has changed nothing and no diagonal and no cell speaks against the plan
pub record Still (p : Plan) (r : Ranges) (link : ℕ → Link) (count : ℕ) (strict weak : List ℤ) : Type 0 where
  pub strict_walks : Walked (Derivable p) r p.points strict
  pub open_walks : Walked (Open p) r p.points weak
  pub strict_same : sweep_strict r p.points link count strict ≡ strict
  pub open_same : sweep_open r p.points link count strict weak ≡ weak
  pub strict_within : (x y : ℕ) → x < p.points → y < p.points → Within r.reach (table_of r p.points strict x y)
  pub open_within : (x y : ℕ) → x < p.points → y < p.points → Within r.reach (table_of r p.points weak x y)
  pub strict_zero : (x : ℕ) → x < p.points → table_of r p.points strict x x ≡ num (pos zero)
  pub open_zero : (x : ℕ) → x < p.points → table_of r p.points weak x x ≡ num (pos zero)
  pub given_below : (x y : ℕ) (w : ℤ) → Given p x y w → table_of r p.points strict x y ≤ᶜ num w

-- what was under every given edge, and is lowered, is so
pub given_stays : {p : Plan} {r : Ranges} {t u : List ℤ} → Pointed p → Lowered r p.points t u
    → ((x y : ℕ) (w : ℤ) → Given p x y w → table_of r p.points t x y ≤ᶜ num w) → (x y : ℕ) (w : ℤ) → Given p x y w → table_of r p.points u x y ≤ᶜ num w
given_stays {p} g d below x y w e = let q : Ends p x y = given_ends p g e in lowered_below d x y q.from q.to (num w) (below x y w e)

-- the code's links are all of the plan's
pub record AllLinks (p : Plan) (link : ℕ → Link) (count : ℕ) : Type 0 where
  pub links : PlanLinks p link count
  pub index : (k : Link) → Memᴰ k p.links → ℕ
  pub index_below : (k : Link) (m : Memᴰ k p.links) → index k m < count
  pub index_is : (k : Link) (m : Memᴰ k p.links) → link (index k m) ≡ k

-- what holds of the code's links holds of all of the plan's
module _ {p : Plan} {link : ℕ → Link} {count : ℕ} (l : AllLinks p link count) where
  pub each_link : (Q : Link → Type 0) → ((i : ℕ) → i < count → Q (link i)) → (k : Link) → Memᴰ k p.links → Q k
  each_link Q f k m = subst Q (l.index_is k m) (f (l.index k m) (l.index_below k m))

  pub two_links : (Q : Link → Link → Type 0) → ((i j : ℕ) → i < count → j < count → Q (link i) (link j))
      → (k j : Link) → Memᴰ k p.links → Memᴰ j p.links → Q k j
  two_links Q f k j m o = each_link (λ a. Q a j) (λ i hi. each_link (Q (link i)) (λ i' hi'. f i i' hi hi') j o) k m

module _ (p : Plan) (r : Ranges) (h : Coherent r) (g : Pointed p) (b : Weighted r.weight p) (few : p.points ≤ r.points)
    (link : ℕ → Link) (count : ℕ) (l : AllLinks p link count) where
  -- the reach holds B(n - 1)
  pub holds : r.weight * (p.points - 1) ≤ r.reach
  holds =
      let k : p.points - 1 ≤ r.points - 1 = omega arith in
      le_trans (mul-le-mul_left r.weight k) h.holds_walks

  -- a cell under the reach makes the plan uncontrollable
  pub low_uncontrollable : (x y : ℕ) (c : ℤ) → x < p.points → Dominated (Open p) x y c → c <ℤ neg_ℤ (pos r.reach) → Uncontrollable p
  low_uncontrollable x y c hx d lo =
      ⊎_elim (λ u. u)
      (λ k. absurd (omega (ints, d.le, holds, neg (pos r.reach), neg (pos (r.weight * (p.points - 1))))))
      (floor r.weight p g b hx d.walk)

  module _ (strict weak : List ℤ) (s : Still p r link count strict weak) where
    abbrev at : List ℤ → ℕ → ℕ → Cell
    at t x y = table_of r p.points t x y

    abbrev steps : Steps (Walked (Derivable p) r p.points) r p.points (sweep_strict r p.points link count)
    steps = strict_steps_lem p r h link count l.links

    abbrev weak_steps : Steps (Walked (Open p) r p.points) r p.points (sweep_open r p.points link count strict)
    weak_steps = open_steps_lem p r h link count l.links strict s.strict_walks

    -- along a trail of given edges, the strict cell is at most the total
    along : {x z : ℕ} {t : ℤ} {ps : List ℕ} → x < p.points → z < p.points → r.weight * length ps ≤ r.reach → Trail (Given p) x z t ps
        → AtMost (at strict x z) t
    unfolding strict_steps_lem
    along {x} hx hz room stop = record { value = pos zero; is = s.strict_zero x hx; le = ≤ℤ_refl (pos zero) }
    along {x} {z} hx hz room (go {y} {v} {w} {ps} e k) =
        let hy : y < p.points = (given_ends p g e).to in
        let shorter : r.weight * length ps ≤ r.reach = omega (arith, room) in
        let whole : Trail (Given p) x z (v +ℤ w) (y ∷ ps) = go e k in
        let lo : neg_ℤ (pos (r.weight * suc (length ps))) ≤ℤ (v +ℤ w) =
        trail_least (Given p) r.weight (λ x y w e. basic_least b (basic_given e)) whole in
        let hi : (v +ℤ w) ≤ℤ pos (r.weight * suc (length ps)) = trail_most (Given p) r.weight (given_most b) whole in
        let first : AtMost (at strict x y) v = at_most (s.given_below x y v e) in
        let rest : AtMost (at strict y z) w = along hy hz shorter k in
        under
        (still_down (strict_cells p r h) (join_rule (Derivable p) r p.points x y z hx hy hz) steps
        (inl (inl (join_among (Derivable p) r h p.points x y z hx hy hz))) strict s.strict_walks s.strict_same tt)
        (stored_at_most r.reach (at strict x y +ᶜ at strict y z)
        (omega (ints, neg (pos r.reach), neg (pos (r.weight * suc (length ps))))) (omega ints)
        (sum first rest))

    -- so a strict cell of a connected pair is in reach
    connected : {x z : ℕ} {t : ℤ} → x < p.points → z < p.points → Walk (Open p) x z t → AtMost (at strict x z) (pos r.reach)
    connected {x} {z} hx hz k =
        let t : GivenTrail p x z = given_trail p g hx k in
        let m : ℕ = length t.points in
        let short : r.weight * m ≤ r.weight * (p.points - 1) = mul-le-mul_left r.weight (omega (arith, t.few)) in
        let hi : t.total ≤ℤ pos (r.weight * m) = trail_most (Given p) r.weight (given_most b) t.trail in
        raised (along hx hz (omega (arith, short, holds)) t.trail) (omega (ints, short, holds))

    -- and an open one, which is under the strict one
    under_strict : (x y : ℕ) → x < p.points → y < p.points → Rule (Open p) r p.points x y (λ t. at strict x y)
    under_strict x y hx hy = strict_rule p r link count l.links strict s.strict_walks x y hx hy

    open_among : (x y : ℕ) → x < p.points → y < p.points → Among (Walked (Open p) r p.points) Any r p.points x y (λ t. at strict x y) weak_steps
    unfolding open_steps_lem
    open_among x y hx hy = inl (inl (x, hx, (y, hy, rule_reaches (open_cells p r h) (under_strict x y hx hy))))

    open_connected : {x z : ℕ} {t : ℤ} → x < p.points → z < p.points → Walk (Open p) x z t → AtMost (at weak x z) (pos r.reach)
    open_connected {x} {z} hx hz k =
        under (still_down (open_cells p r h) (under_strict x z hx hz) weak_steps (open_among x z hx hz) weak s.open_walks s.open_same tt)
        (stored_at_most r.reach (at strict x z) (omega (ints, neg (pos r.reach))) (≤ℤ_refl (pos r.reach)) (connected hx hz k))

    -- each rule of a sweep is obeyed
    strict_obeys : {x y : ℕ} {rule : List ℤ → Cell} → Rule (Derivable p) r p.points x y rule
        → Among (Walked (Derivable p) r p.points) Any r p.points x y rule steps → at strict x y ≤ᶜ rule strict
    strict_obeys {x} {y} o q =
        still_obeys (strict_cells p r h) o steps q strict s.strict_walks s.strict_same tt (s.strict_within x y o.from_below o.to_below)
        (λ v k. connected o.from_below o.to_below (as_open k))

    open_obeys : {x y : ℕ} {rule : List ℤ → Cell} → Rule (Open p) r p.points x y rule
        → Among (Walked (Open p) r p.points) Any r p.points x y rule weak_steps → at weak x y ≤ᶜ rule weak
    open_obeys {x} {y} o q =
        still_obeys (open_cells p r h) o weak_steps q weak s.open_walks s.open_same tt (s.open_within x y o.from_below o.to_below)
        (λ v k. open_connected o.from_below o.to_below k)

    -- the tables are closed
    pub still_closed : Closed r p (table_of r p.points strict) (table_of r p.points weak)
    unfolding strict_steps_lem open_steps_lem
    still_closed =
        record {
          strict_within = s.strict_within;
          open_within = s.open_within;
          strict_diagonal = s.strict_zero;
          open_diagonal = s.open_zero;
          strict_join_rule = λ x y z hx hy hz.
              strict_obeys (join_rule (Derivable p) r p.points x y z hx hy hz) (inl (inl (join_among (Derivable p) r h p.points x y z hx hy hz)));
          open_join_rule = λ x y z hx hy hz.
              open_obeys (join_rule (Open p) r p.points x y z hx hy hz) (inr (join_among (Open p) r h p.points x y z hx hy hz));
          given = s.given_below;
          lower =
              two_links l (λ k j. j.con ≢ k.con → at strict k.act j.con ≤ᶜ lowered k j (at strict k.con j.con))
              (λ i j hi hj ne.
              strict_obeys (lower_rule p r link count l.links i j hi hj ne)
              (inl (inr (lower_among p r link count l.links (strict_cells p r h) i j hi hj ne))));
          upper =
              each_link l (λ k. (x : ℕ) → x < p.points → at strict x k.act ≤ᶜ uppered k (at strict x k.con))
              (λ i hi x hx.
              let o = upper_rule p r link count l.links x i hx hi in
              strict_obeys o (inr (x, hx, (i, hi, rule_reaches (strict_cells p r h) o))));
          open_strict = λ x y hx hy. open_obeys (under_strict x y hx hy) (open_among x y hx hy);
          open_lower_case =
              each_link l (λ k. at weak k.act k.con ≤ᶜ num (pos k.short))
              (λ i hi. let o = case_rule p r link count l.links i hi in open_obeys o (inl (inr (i, hi, rule_reaches (open_cells p r h) o))));
        }

    -- so they are the plan's tables
    pub still_tables : Tables p (table_of r p.points strict) (table_of r p.points weak)
    still_tables =
        justified_closed r p (table_of r p.points strict) (table_of r p.points weak) g
        (record {
          strict_walk = λ x y hx hy c e. subst (Has (Derivable p) x y) e (s.strict_walks.has x y hx hy);
          open_walk = λ x y hx hy c e. subst (Has (Open p) x y) e (s.open_walks.has x y hx hy);
        })
        still_closed
