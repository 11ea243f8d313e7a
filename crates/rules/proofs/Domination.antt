-- Domination: of two plans with the same links, where every given edge of the second has a walk of derivable edges of the first with no
-- larger total, so has every derivable edge and every open walk of the second. Hence what is uncontrollable in the second is so in the
-- first, and two plans that dominate each other have the same tables. Assumes nothing.
use mathlib.Core.Path.{◌≡◌, refl, sym, subst, subst₂, ◌∙◌}
use mathlib.Core.List.{Memᴰ}
use Prim.Native.Nat.{ℕ, zero, ◌<◌}
use lib.IntN.{ℤ, pos, neg_ℤ, ◌+ℤ◌, ◌-ℤ◌, +ℤ_idr}
use lib.Signed.{◌≤ℤ◌, ≤ℤ_refl}
use Rattle.whole.proofs.Order.{ints, plus_mono, ≤ℤ_trans}
use Rattle.whole.proofs.Larger.{larger_right}
use Rattle.rules.specs.Plan.{Link, Plan}
use Rattle.rules.specs.Edges as edges
use Rattle.rules.specs.Edges.{Given, shortest, Derivable, Open, Lowers, upper_weight}
use Rattle.rules.specs.Walks.{Walk, stay, step, Uncontrollable}
use Rattle.rules.specs.Cells.{Cell, mark, num, Table}
use Rattle.rules.specs.Tables.{Least, Tables}
use Rattle.rules.proofs.Cells.{upper_mono}
use Rattle.rules.proofs.Walks.{single, replaced, Dominated, exactly, after, dominated}

-- a walk of derivable edges is empty or one derivable edge
pub data Collapsed (p : Plan) (x y : ℕ) (t : ℤ) : Type 0 where
  nothing : x ≡ y → t ≡ pos zero → Collapsed p x y t
  edge : Derivable p x y t → Collapsed p x y t

pub collapse : {p : Plan} {x y : ℕ} {t : ℤ} → Walk (Derivable p) x y t → Collapsed p x y t
collapse stay = nothing refl refl
collapse {p} (step {x} {y} {z} {v} {w} e k) = more (collapse k)
  where
    more : Collapsed p y z w → Collapsed p x z (v +ℤ w)
    more (edge d) = edge (edges.join e d)
    more (nothing h i) =
        edge
        (subst (λ (t : ℤ). Derivable p x z (v +ℤ t)) (sym i)
        (subst (λ (t : ℤ). Derivable p x z t) (sym (+ℤ_idr v)) (subst (λ (a : ℕ). Derivable p x a v) h e)))

-- p dominates q: the same links, and each given edge of q has a walk of derivable edges of p with no larger total
pub record Dominates (p q : Plan) : Type 0 where
  pub links : (k : Link) → Memᴰ k q.links → Memᴰ k p.links
  pub given : (x y : ℕ) (w : ℤ) → Given q x y w → Dominated (Derivable p) x y w

module _ (p : Plan) where
  -- Lower from a walk of at most w
  pub lower_walk : {k j : Link} {x y : ℕ} {w : ℤ} → Memᴰ k p.links → Memᴰ j p.links → x ≡ k.con → y ≡ j.con
      → Lowers k j w → Dominated (Derivable p) x y w → Dominated (Derivable p) k.act j.con (pos k.short +ℤ w)
  lower_walk {k} {j} {x} {y} {w} hk hj ex ey l d = from (collapse d.walk)
    where
      from : Collapsed p x y d.total → Dominated (Derivable p) k.act j.con (pos k.short +ℤ w)
      from (nothing e i) = absurd (l.other (sym ey ∙ sym e ∙ ex))
      from (edge e) =
          let e' : Derivable p k.con j.con d.total = subst₂ (λ (a b : ℕ). Derivable p a b d.total) ex ey e in
          record {
            total = pos k.short +ℤ d.total;
            walk = single (edges.lower hk hj (record { other = l.other; below = omega (ints, d.le, l.below) }) e');
            le = plus_mono (≤ℤ_refl (pos k.short)) d.le;
          }

  -- Upper from a walk of at most v: from the empty walk, the link's shortest edge
  pub upper_walk : {k : Link} {x y : ℕ} {v : ℤ} → Memᴰ k p.links → y ≡ k.con → Dominated (Derivable p) x y v
      → Dominated (Derivable p) x k.act (upper_weight k v)
  upper_walk {k} {x} {y} {v} hk ey d = from (collapse d.walk)
    where
      from : Collapsed p x y d.total → Dominated (Derivable p) x k.act (upper_weight k v)
      from (nothing e i) =
          record {
            total = neg_ℤ (pos k.short);
            walk = subst (λ (a : ℕ). Walk (Derivable p) a k.act (neg_ℤ (pos k.short))) (sym (e ∙ ey)) (single (edges.given (shortest hk)));
            le = larger_right (v -ℤ pos k.long) (neg_ℤ (pos k.short));
          }
      from (edge e) =
          let e' : Derivable p x k.con d.total = subst (λ (b : ℕ). Derivable p x b d.total) ey e in
          record { total = upper_weight k d.total; walk = single (edges.upper hk e'); le = upper_mono k d.le }

-- ordinary edges are open edges
pub as_open : {p : Plan} {x y : ℕ} {t : ℤ} → Walk (Derivable p) x y t → Walk (Open p) x y t
as_open k = replaced (λ x y w d. single (edges.ordinary d)) k

module _ (p q : Plan) (h : Dominates p q) where
  -- every derivable edge of q has a walk of p with no larger total
  pub derivable_dominated : {x y : ℕ} {w : ℤ} → Derivable q x y w → Dominated (Derivable p) x y w
  derivable_dominated {x} {y} {w} (edges.given e) = h.given x y w e
  derivable_dominated (edges.join a b) = after (derivable_dominated a) (derivable_dominated b)
  derivable_dominated (edges.lower {k} {r = j} hk hj l d) =
      lower_walk p (h.links k hk) (h.links j hj) refl refl l (derivable_dominated d)
  derivable_dominated (edges.upper {k} hk d) = upper_walk p (h.links k hk) refl (derivable_dominated d)

  open_edge_dominated : (x y : ℕ) (w : ℤ) → Open q x y w → Dominated (Open p) x y w
  open_edge_dominated x y w (edges.ordinary d) =
      let e : Dominated (Derivable p) x y w = derivable_dominated d in
      record { total = e.total; walk = as_open e.walk; le = e.le }
  open_edge_dominated x y w (edges.lower_case_rule {k} hk) = exactly (single (edges.lower_case_rule (h.links k hk)))

  -- and so has every walk of derivable edges, and every open walk
  pub walk_dominated : {x y : ℕ} {t : ℤ} → Walk (Derivable q) x y t → Dominated (Derivable p) x y t
  walk_dominated k = dominated (λ x y w d. derivable_dominated d) k

  pub open_dominated : {x y : ℕ} {t : ℤ} → Walk (Open q) x y t → Dominated (Open p) x y t
  open_dominated k = dominated open_edge_dominated k

  -- what is uncontrollable in q is so in p
  pub uncontrollable_dominated : Uncontrollable q → Uncontrollable p
  uncontrollable_dominated u =
      let d : Dominated (Open p) u.at u.at u.total = open_dominated u.walk in
      record { at = u.at; total = d.total; walk = d.walk; negative = omega (ints, d.le, u.negative) }

-- two families that dominate each other have the same least totals
pub least_moves : (E F : ℕ → ℕ → ℤ → Type 0) (x y : ℕ) (c : Cell) → ((t : ℤ) → Walk E x y t → Dominated F x y t)
    → ((t : ℤ) → Walk F x y t → Dominated E x y t) → Least E x y c → Least F x y c
least_moves E F x y mark f g h = λ t k. h (g t k).total (g t k).walk
least_moves E F x y (num c) f g h =
    let d : Dominated F x y c = f c h.0 in
    let b : Dominated E x y d.total = g d.total d.walk in
    let l : c ≤ℤ b.total = h.1 b.total b.walk in
    let e : d.total ≡ c = omega (ints, d.le, b.le) in
    (subst (λ (t : ℤ). Walk F x y t) e d.walk, λ t k. ≤ℤ_trans (h.1 (g t k).total (g t k).walk) (g t k).le)

-- plans that dominate each other have the same tables
pub tables_move : (p q : Plan) → p.points ≡ q.points → Dominates p q → Dominates q p → (strict weak : Table) → Tables p strict weak
    → Tables q strict weak
tables_move p q e h k strict weak t = record {
  strict_least = λ x y hx hy.
      least_moves (Derivable p) (Derivable q) x y (strict x y) (λ t w. walk_dominated q p k w) (λ t w. walk_dominated p q h w)
      (t.strict_least x y (subst (λ (n : ℕ). x < n) (sym e) hx) (subst (λ (n : ℕ). y < n) (sym e) hy));
  open_least = λ x y hx hy.
      least_moves (Open p) (Open q) x y (weak x y) (λ t w. open_dominated q p k w) (λ t w. open_dominated p q h w)
      (t.open_least x y (subst (λ (n : ℕ). x < n) (sym e) hx) (subst (λ (n : ℕ). y < n) (sym e) hy));
}
