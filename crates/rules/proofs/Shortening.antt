-- Shortening: a walk over points below n either holds a closed walk of negative total or is matched by a trail, a walk that
-- meets no point twice, of no larger total. A trail has at most n - 1 edges. Over any family of edges. Assumes nothing.
use mathlib.Core.Path.{◌≡◌, sym, ap, subst, ◌∙◌}
use mathlib.Core.Logic.{◌⊎◌, inl, inr, ⊎_elim}
use mathlib.Core.List.Memᴰ
use mathlib.Core.List.{List, [], ◌∷◌, Memᴰ}
use Prim.Native.Nat.{ℕ, zero, suc, ◌*◌, ◌<◌}
use lib.ListN.{length}
use lib.IntN.{ℤ, pos, neg_ℤ, ◌+ℤ◌, +ℤ_idl, +ℤ_assoc}
use lib.Signed.{◌≤ℤ◌, ◌<ℤ◌, ≤ℤ_refl}
use Rattle.whole.proofs.Order.{ints, plus, neg, split}
use Rattle.rules.specs.Walks.{Walk, stay, step, NegativeWalk}
use Rattle.rules.proofs.Different.{Different, Below, member, at_most_all}

-- a walk with the list of the points after its first
pub data Trail (E : ℕ → ℕ → ℤ → Type 0) : ℕ → ℕ → ℤ → List ℕ → Type 0 where
  stop : {x : ℕ} → Trail E x x (pos zero) []
  go : {x y z : ℕ} {v w : ℤ} {ps : List ℕ} → E x y v → Trail E y z w ps → Trail E x z (v +ℤ w) (y ∷ ps)

-- a trail that meets no point twice, of total at most w, over points below n
pub record Short (E : ℕ → ℕ → ℤ → Type 0) (n x y : ℕ) (w : ℤ) : Type 0 where
  pub total : ℤ
  pub points : List ℕ
  pub trail : Trail E x y total points
  pub le : total ≤ℤ w
  pub different : Different (x ∷ points)
  pub below : Below n (x ∷ points)

-- it has fewer than n edges
pub few : {E : ℕ → ℕ → ℤ → Type 0} {n x y : ℕ} {w : ℤ} (s : Short E n x y w) → length s.points < n
few {n} {x} s = at_most_all n (x ∷ s.points) s.different s.below

-- a trail cut in two at one of its points: a walk there, and the rest
record Cut (E : ℕ → ℕ → ℤ → Type 0) (n y x z : ℕ) (w : ℤ) : Type 0 where
  first : ℤ
  walk : Walk E y x first
  rest : ℤ
  points : List ℕ
  trail : Trail E x z rest points
  sum : first +ℤ rest ≡ w
  different : Different (x ∷ points)
  below : Below n (x ∷ points)

module _ (E : ℕ → ℕ → ℤ → Type 0) (n : ℕ) where
  -- cut at the first point
  here : {x y z : ℕ} {w : ℤ} {ps : List ℕ} → x ≡ y → Trail E y z w ps → Different (y ∷ ps) → Below n (y ∷ ps) → Cut E n y x z w
  here {x} {y} {z} {w} {ps} e t d b = record {
    first = pos zero;
    walk = subst (λ (a : ℕ). Walk E y a (pos zero)) (sym e) stay;
    rest = w;
    points = ps;
    trail = subst (λ (a : ℕ). Trail E a z w ps) (sym e) t;
    sum = +ℤ_idl w;
    different = subst (λ (a : ℕ). Different (a ∷ ps)) (sym e) d;
    below = subst (λ (a : ℕ). Below n (a ∷ ps)) (sym e) b;
  }

  -- one edge more before the cut
  later : {x y q z : ℕ} {v w : ℤ} → E q y v → Cut E n y x z w → Cut E n q x z (v +ℤ w)
  later {v} e c = record {
    first = v +ℤ c.first;
    walk = step e c.walk;
    rest = c.rest;
    points = c.points;
    trail = c.trail;
    sum = +ℤ_assoc v c.first c.rest ∙ ap (λ (a : ℤ). v +ℤ a) c.sum;
    different = c.different;
    below = c.below;
  }

  cut : {x y z : ℕ} {w : ℤ} {ps : List ℕ} → Trail E y z w ps → Different (y ∷ ps) → Below n (y ∷ ps) → Memᴰ x (y ∷ ps)
      → Cut E n y x z w
  cut stop d b m = here (Memᴰ.eq_of_singleton m) stop d b
  cut (go e t) d b m = ⊎_elim (λ h. here h (go e t) d b) (λ h. later e (cut t d.1 b.1 h)) (Memᴰ.cases_cons m)

  -- an edge before a trail that has its first point: the piece between is a closed walk, negative or cut out
  around : {x y z : ℕ} {v w : ℤ} → E x y v → Cut E n y x z w → NegativeWalk E ⊎ Short E n x z (v +ℤ w)
  around {x} {y} {z} {v} {w} e c = ⊎_elim out negative (split (pos zero) (v +ℤ c.first))
    where
      negative : (v +ℤ c.first) <ℤ pos zero → NegativeWalk E ⊎ Short E n x z (v +ℤ w)
      negative h = inl (record { at = x; total = v +ℤ c.first; walk = step e c.walk; negative = h })

      out : pos zero ≤ℤ (v +ℤ c.first) → NegativeWalk E ⊎ Short E n x z (v +ℤ w)
      out h = inr (record {
        total = c.rest;
        points = c.points;
        trail = c.trail;
        le = omega (ints, h, plus v c.first, plus c.first c.rest, plus v w, c.sum);
        different = c.different;
        below = c.below;
      })

  -- an edge before a short trail
  before : {x y z : ℕ} {v w : ℤ} → x < n → E x y v → Short E n y z w → NegativeWalk E ⊎ Short E n x z (v +ℤ w)
  before {x} {y} {z} {v} {w} hx e s = ⊎_elim met fresh (member x (y ∷ s.points))
    where
      lift : {t : ℤ} → t ≤ℤ w → NegativeWalk E ⊎ Short E n x z (v +ℤ t) → NegativeWalk E ⊎ Short E n x z (v +ℤ w)
      lift h (inl m) = inl m
      lift {t} h (inr k) = inr (record {
        total = k.total;
        points = k.points;
        trail = k.trail;
        le = omega (ints, k.le, h, plus v t, plus v w);
        different = k.different;
        below = k.below;
      })

      met : Memᴰ x (y ∷ s.points) → NegativeWalk E ⊎ Short E n x z (v +ℤ w)
      met m = lift s.le (around e (cut s.trail s.different s.below m))

      fresh : (Memᴰ x (y ∷ s.points) → ⊥) → NegativeWalk E ⊎ Short E n x z (v +ℤ w)
      fresh m = inr (record {
        total = v +ℤ s.total;
        points = y ∷ s.points;
        trail = go e s.trail;
        le = omega (ints, s.le, plus v s.total, plus v w);
        different = (m, s.different);
        below = (hx, s.below);
      })

  -- a walk holds a closed walk of negative total, or is matched by a short trail
  pub shorten : ((x y : ℕ) (w : ℤ) → E x y w → (x < n) × (y < n)) → {x y : ℕ} {w : ℤ} → x < n → Walk E x y w
      → NegativeWalk E ⊎ Short E n x y w
  shorten ends {x} hx stay =
      inr
      (record {
        total = pos zero;
        points = [];
        trail = stop;
        le = ≤ℤ_refl (pos zero);
        different = (Memᴰ.not-nil, tt);
        below = (hx, tt);
      })
  shorten ends {x} hx (step {y} {v} e k) = ⊎_elim inl (before hx e) (shorten ends (ends x y v e).1 k)

-- a trail of edges of at least -B totals at least -B for each edge
pub trail_least : (E : ℕ → ℕ → ℤ → Type 0) (B : ℕ) → ((x y : ℕ) (w : ℤ) → E x y w → neg_ℤ (pos B) ≤ℤ w)
    → {x y : ℕ} {t : ℤ} {ps : List ℕ} → Trail E x y t ps → neg_ℤ (pos (B * length ps)) ≤ℤ t
trail_least E B h stop = omega (ints, neg (pos (B * zero)))
trail_least E B h (go {x} {y} {v} {w} {ps} e k) =
    omega
    (ints, h x y v e, trail_least E B h k, plus v w, neg (pos B), neg (pos (B * length ps)), neg (pos (B * suc (length ps))))

-- a trail of edges of at most B totals at most B for each edge
pub trail_most : (E : ℕ → ℕ → ℤ → Type 0) (B : ℕ) → ((x y : ℕ) (w : ℤ) → E x y w → w ≤ℤ pos B)
    → {x y : ℕ} {t : ℤ} {ps : List ℕ} → Trail E x y t ps → t ≤ℤ pos (B * length ps)
trail_most E B h stop = omega ints
trail_most E B h (go {x} {y} {v} {w} e k) = omega (ints, h x y v e, trail_most E B h k, plus v w)

-- a trail is a walk
pub trail_walk : {E : ℕ → ℕ → ℤ → Type 0} {x y : ℕ} {t : ℤ} {ps : List ℕ} → Trail E x y t ps → Walk E x y t
trail_walk stop = stay
trail_walk (go e k) = step e (trail_walk k)
