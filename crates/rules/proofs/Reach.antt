-- How far from zero totals lie, for a plan whose weights are at most B: an open walk below -B(n - 1) makes the plan uncontrollable, and two
-- points that any walk joins are joined by fewer than n given edges, so by a total of at most B(n - 1). Assumes nothing.
use mathlib.Core.Logic.{◌⊎◌, inl, inr, ⊎_elim}
use mathlib.Core.List.{List}
use Prim.Native.Nat.{ℕ, zero, ◌*◌, ◌-◌, ◌≤◌, ◌<◌}
use native.Mathlib.Nat.{mul-le-mul_left}
use native.Mathlib.Omega.{arith}
use lib.ListN.{length}
use lib.IntN.{ℤ, pos, neg_ℤ, ◌+ℤ◌, +ℤ_idl}
use lib.Signed.{◌≤ℤ◌, ≤ℤ_refl, clash_ℤ}
use Rattle.whole.proofs.Order.{ints, neg}
use Rattle.rules.specs.Plan.{Plan}
use Rattle.rules.specs.Edges as edges
use Rattle.rules.specs.Edges.{Given, limit, start, longest, shortest, Derivable, Open}
use Rattle.rules.specs.Walks.{Walk, stay, step, NegativeWalk, Uncontrollable}
use Rattle.rules.proofs.Walks.{single, append, replaced, Dominated}
use Rattle.rules.proofs.Points.{Pointed, Weighted, Ends, given_ends, open_ends}
use Rattle.rules.proofs.Expansion.{Basic, open_expand, basic_open, basic_least}
use Rattle.rules.proofs.Shortening.{Trail, stop, go, Short, few, shorten, trail_least, trail_most, trail_walk}

-- fewer than n edges of B each are at most B(n - 1)
few_bound : (B : ℕ) {m n : ℕ} → m < n → B * m ≤ B * (n - 1)
few_bound B {m} {n} h = mul-le-mul_left B (omega arith)

-- ---- below

module _ (B : ℕ) (p : Plan) (g : Pointed p) (b : Weighted B p) where
  -- an open walk lies at least at -B(n - 1), or the plan is uncontrollable
  pub floor : {x y : ℕ} {t : ℤ} → x < p.points → Walk (Open p) x y t
      → Uncontrollable p ⊎ (neg_ℤ (pos (B * (p.points - 1))) ≤ℤ t)
  floor {x} {y} {t} hx k =
      ⊎_elim negative short
      (shorten (Basic p) p.points ends hx (replaced (λ x y w e. open_expand e) k))
    where
      ends : (x y : ℕ) (w : ℤ) → Basic p x y w → (x < p.points) × (y < p.points)
      ends x y w e = let h : Ends p x y = open_ends p g (basic_open e) in (h.from, h.to)

      negative : NegativeWalk (Basic p) → Uncontrollable p ⊎ (neg_ℤ (pos (B * (p.points - 1))) ≤ℤ t)
      negative m =
          inl
          (record {
            at = m.at;
            total = m.total;
            walk = replaced (λ x y w e. single (basic_open e)) m.walk;
            negative = m.negative;
          })

      short : Short (Basic p) p.points x y t → Uncontrollable p ⊎ (neg_ℤ (pos (B * (p.points - 1))) ≤ℤ t)
      short s =
          let m : ℕ = length s.points in
          let e : neg_ℤ (pos (B * m)) ≤ℤ s.total = trail_least (Basic p) B (λ x y w e. basic_least b e) s.trail in
          let f : B * m ≤ B * (p.points - 1) = few_bound B (few s) in
          inr (omega (ints, s.le, neg (pos (B * m)), neg (pos (B * (p.points - 1)))))

-- ---- above

-- a given edge with its weight forgotten
data Linked (p : Plan) : ℕ → ℕ → ℤ → Type 0 where
  linked : {x y : ℕ} {w : ℤ} → Given p x y w → Linked p x y (pos zero)

-- some walk of such edges
record Connected (p : Plan) (x y : ℕ) : Type 0 where
  total : ℤ
  walk : Walk (Linked p) x y total

connected_given : {p : Plan} {x y : ℕ} {w : ℤ} → Given p x y w → Connected p x y
connected_given e = record { total = pos zero; walk = single (linked e) }

connected_after : {p : Plan} {x y z : ℕ} → Connected p x y → Connected p y z → Connected p x z
connected_after a b = record { total = a.total +ℤ b.total; walk = append a.walk b.walk }

-- a derivable edge joins points that given edges join
connected_derivable : {p : Plan} {x y : ℕ} {w : ℤ} → Derivable p x y w → Connected p x y
connected_derivable (edges.given e) = connected_given e
connected_derivable (edges.join a b) = connected_after (connected_derivable a) (connected_derivable b)
connected_derivable (edges.lower {k} h j l d) = connected_after (connected_given (longest {k = k} h)) (connected_derivable d)
connected_derivable (edges.upper {k} h d) = connected_after (connected_derivable d) (connected_given (shortest {k = k} h))

connected_open : {p : Plan} {x y : ℕ} {w : ℤ} → Open p x y w → Connected p x y
connected_open (edges.ordinary d) = connected_derivable d
connected_open (edges.lower_case_rule {k} h) = connected_given (longest {k = k} h)

connected_walk : {p : Plan} {x y : ℕ} {t : ℤ} → Walk (Open p) x y t → Connected p x y
connected_walk stay = record { total = pos zero; walk = stay }
connected_walk (step e k) = connected_after (connected_open e) (connected_walk k)

-- fewer than n given edges, one after the other
pub record GivenTrail (p : Plan) (x y : ℕ) : Type 0 where
  pub total : ℤ
  pub points : List ℕ
  pub trail : Trail (Given p) x y total points
  pub few : length points < p.points

-- the weights of a trail of linked edges put back
record Weighed (p : Plan) (x y : ℕ) (ps : List ℕ) : Type 0 where
  total : ℤ
  trail : Trail (Given p) x y total ps

weigh : {p : Plan} {x y : ℕ} {t : ℤ} {ps : List ℕ} → Trail (Linked p) x y t ps → Weighed p x y ps
weigh stop = record { total = pos zero; trail = stop }
weigh {p} (go {y} {z} {ps} (linked {w} e) k) =
    let r : Weighed p y z ps = weigh k in
    record { total = w +ℤ r.total; trail = go e r.trail }

-- which never fall below 0
linked_walk_least : {p : Plan} {x y : ℕ} {t : ℤ} → Walk (Linked p) x y t → pos zero ≤ℤ t
linked_walk_least stay = ≤ℤ_refl (pos zero)
linked_walk_least (step {w} (linked e) k) = omega (ints, linked_walk_least k, +ℤ_idl w)

module _ (p : Plan) (g : Pointed p) where
  linked_ends : (x y : ℕ) (w : ℤ) → Linked p x y w → (x < p.points) × (y < p.points)
  linked_ends x y w (linked e) = let h : Ends p x y = given_ends p g e in (h.from, h.to)

  -- two points that an open walk joins are joined by fewer than n given edges
  pub given_trail : {x y : ℕ} {t : ℤ} → x < p.points → Walk (Open p) x y t → GivenTrail p x y
  given_trail {x} {y} hx k =
      let c : Connected p x y = connected_walk k in
      ⊎_elim never short (shorten (Linked p) p.points linked_ends hx c.walk)
    where
      never : NegativeWalk (Linked p) → GivenTrail p x y
      never m = clash_ℤ m.negative (linked_walk_least m.walk)

      short : {w : ℤ} → Short (Linked p) p.points x y w → GivenTrail p x y
      short s =
          let r : Weighed p x y s.points = weigh s.trail in
          record { total = r.total; points = s.points; trail = r.trail; few = few s }

-- a given edge weighs at most B
pub given_most : {B : ℕ} {p : Plan} → Weighted B p → (x y : ℕ) (w : ℤ) → Given p x y w → w ≤ℤ pos B
given_most b x y w (limit {m} h) = b.limit_most m h
given_most b x y w (start h) = omega ints
given_most b x y w (longest {k} h) = omega (ints, b.long_most k h)
given_most b x y w (shortest {k} h) = omega (ints, neg (pos k.short))

-- two points that an open walk joins are joined by derivable edges with a total of at most B(n - 1)
pub ceiling : (B : ℕ) (p : Plan) → Pointed p → Weighted B p → {x y : ℕ} {t : ℤ} → x < p.points → Walk (Open p) x y t
    → Dominated (Derivable p) x y (pos (B * (p.points - 1)))
ceiling B p g b {x} {y} hx k =
    let r : GivenTrail p x y = given_trail p g hx k in
    let m : ℕ = length r.points in
    let f : B * m ≤ B * (p.points - 1) = few_bound B r.few in
    let e : r.total ≤ℤ pos (B * m) = trail_most (Given p) B (given_most b) r.trail in
    record {
      total = r.total;
      walk = replaced (λ x y w e. single (edges.given e)) (trail_walk r.trail);
      le = omega ints;
    }
