-- The sweep run on a plan's lists of limits and links, and what its outcome says of the plan. Assumes nothing.
use mathlib.Core.Path.{◌≡◌, refl, sym, ap, subst}
use mathlib.Core.Bool.{Bool, true, false, cond, ◌&&◌}
use mathlib.Core.List.{List, [], ◌∷◌, Memᴰ}
use mathlib.Core.Logic.{⊎_elim}
use Prim.Native.Nat.{ℕ, zero, suc, ◌*◌, ◌<◌}
use native.Mathlib.Omega.{arith}
use lib.ListN.{length, get_or}
use lib.IntN.{ℤ, pos}
use Rattle.rules.specs.Plan.{Limit, Link, Plan, Ranges}
use Rattle.rules.proofs.Coherence.{Coherent}
use Rattle.rules.specs.Walks.{Uncontrollable}
use Rattle.rules.specs.Cells.{table_of}
use Rattle.rules.specs.Tables.{Tables}
use Rattle.rules.proofs.Points.{Pointed}
use Rattle.lowering.specs.Fair.{Fair}
use Rattle.lowering.specs.Sweep.{sweep_strict, sweep_open, first_strict, first_open}
use Rattle.lowering.proofs.Theory.StillSweep.{AllLinks}
use Rattle.lowering.proofs.Theory.FirstTables.{AllLimits}
use Rattle.lowering.proofs.Theory.SweepsEnd.{Going, first_going, going_on, going_ends, unfair_strict, unfair_open}
use Rattle.cases.proofs.ComputedTests.{eq_list, eq_list_is, fair_test, fair_true, fair_false, both, either, Fit}

-- ---- records by their index

abbrev pub limit_in : List Limit → ℕ → Limit
limit_in ms i = get_or ms i (record { from = 0; to = 0; weight = pos 0 })

abbrev pub link_in : List Link → ℕ → Link
link_in ks i = get_or ks i (record { act = 0; con = 0; short = 0; long = 0 })

-- a member's index
place : {A : Type 0} {x : A} (l : List A) → Memᴰ x l → ℕ
place l (Memᴰ.head e) = zero
place l (Memᴰ.tail {xs} m) = suc (place xs m)

place_below : {A : Type 0} {x : A} (l : List A) (m : Memᴰ x l) → place l m < length l
unfolding place
place_below l (Memᴰ.head e) = omega arith
place_below l (Memᴰ.tail {xs} m) = omega (arith, place_below xs m)

place_is : {A : Type 0} {x : A} (d : A) (l : List A) (m : Memᴰ x l) → get_or l (place l m) d ≡ x
unfolding place
place_is d l (Memᴰ.head e) = sym e
place_is d l (Memᴰ.tail {xs} m) = place_is d xs m

in_list : {A : Type 0} (d : A) (l : List A) (i : ℕ) → i < length l → Memᴰ (get_or l i d) l
in_list d [] i h = absurd (omega arith)
in_list d (x ∷ xs) zero h = Memᴰ.head refl
in_list d (x ∷ xs) (suc i) h = Memᴰ.tail (in_list d xs i (omega arith))

all_limits : (p : Plan) → AllLimits p (limit_in p.limits) (length p.limits)
all_limits p =
    record {
      member = in_list (record { from = 0; to = 0; weight = pos 0 }) p.limits;
      index = λ m h. place p.limits h;
      index_below = λ m h. place_below p.limits h;
      index_is = λ m h. place_is (record { from = 0; to = 0; weight = pos 0 }) p.limits h;
    }

all_links : (p : Plan) → Pointed p → AllLinks p (link_in p.links) (length p.links)
all_links p g =
    let member = in_list (record { act = 0; con = 0; short = 0; long = 0 }) p.links in
    record {
      links = record {
        member = member;
        points = record {
          act_below = λ i h. g.link_act (link_in p.links i) (member i h);
          con_below = λ i h. g.link_con (link_in p.links i) (member i h);
        };
      };
      index = λ k h. place p.links h;
      index_below = λ k h. place_below p.links h;
      index_is = λ k h. place_is (record { act = 0; con = 0; short = 0; long = 0 }) p.links h;
    }

-- ---- the run

pub data Outcome : Type 0 where
  unknown : Outcome
  unfair : Outcome
  still : List ℤ → List ℤ → Outcome

-- at most so many sweeps
abbrev pub sweeps : Ranges → Plan → ℕ → List ℤ → List ℤ → Outcome
sweeps r p zero s w = unknown
sweeps r p (suc fuel) s w =
    let s' = sweep_strict r p.points (link_in p.links) (length p.links) s in
    let w' = sweep_open r p.points (link_in p.links) (length p.links) s' w in
    let again = sweeps r p fuel s' w' in
    cond (fair_test r p.points s' && fair_test r p.points w') (cond (eq_list s' s && eq_list w' w) (still s w) again) unfair

-- a list of m numbers
abbrev pub blank : ℕ → List ℤ
blank zero = []
blank (suc m) = pos zero ∷ blank m

abbrev pub run : Ranges → Plan → Outcome
run r p =
    sweeps r p 16
    (first_strict r p.points (limit_in p.limits) (length p.limits) (link_in p.links) (length p.links) (blank (p.points * p.points)))
    (first_open r p.points (blank (p.points * p.points)))

-- ---- what it says

abbrev pub Right : Ranges → Plan → Outcome → Type 0
Right r p unknown = Unit {0}
Right r p unfair = Uncontrollable p
Right r p (still s w) = Tables p (table_of r p.points s) (table_of r p.points w)

blank_length : (m : ℕ) → length (blank m) ≡ m
blank_length zero = refl
blank_length (suc m) = ap suc (blank_length m)

module _ (r : Ranges) (h : Coherent r) (p : Plan) (f : Fit r p) where
  links : AllLinks p (link_in p.links) (length p.links)
  links = all_links p f.pointed

  sweeps_right : (fuel : ℕ) (s w : List ℤ) → Going p r s w → Right r p (sweeps r p fuel s w)
  sweeps_right zero s w g = tt
  sweeps_right (suc fuel) s w g =
      by (fair_test r p.points s' && fair_test r p.points w') refl (eq_list s' s && eq_list w' w) refl (sweeps_right fuel s' w' next)
    where
      s' : List ℤ
      s' = sweep_strict r p.points (link_in p.links) (length p.links) s

      w' : List ℤ
      w' = sweep_open r p.points (link_in p.links) (length p.links) s' w

      next : Going p r s' w'
      next = going_on p r h f.pointed (link_in p.links) (length p.links) links s w g

      by : (b : Bool) → fair_test r p.points s' && fair_test r p.points w' ≡ b → (c : Bool) → eq_list s' s && eq_list w' w ≡ c
          → Right r p (sweeps r p fuel s' w') → Right r p (cond b (cond c (still s w) (sweeps r p fuel s' w')) unfair)
      by false e c k again =
          ⊎_elim
          (λ q. unfair_strict p r h f.pointed f.weighted f.few (link_in p.links) (length p.links) links s' w' next
          (fair_false r p.points s' q))
          (λ q. unfair_open p r h f.pointed f.weighted f.few (link_in p.links) (length p.links) links s' w' next
          (fair_false r p.points w' q))
          (either (fair_test r p.points s') (fair_test r p.points w') e)
      by true e false k again = again
      by true e true k again =
          let fair = both (fair_test r p.points s') (fair_test r p.points w') e in
          let same = both (eq_list s' s) (eq_list w' w) k in
          let es : s' ≡ s = eq_list_is s' s same.0 in
          let ew : w' ≡ w = eq_list_is w' w same.1 in
          going_ends p r h f.pointed f.weighted f.few (link_in p.links) (length p.links) links s w g es
          (subst (λ (u : List ℤ). sweep_open r p.points (link_in p.links) (length p.links) u w ≡ w) es ew)
          (subst (λ (u : List ℤ). Fair r p.points u) es (fair_true r p.points s' next.strict_walks.sound fair.0))
          (subst (λ (u : List ℤ). Fair r p.points u) ew (fair_true r p.points w' next.open_walks.sound fair.1))

  pub run_right : Right r p (run r p)
  run_right =
      let m : ℕ = p.points * p.points in
      sweeps_right 16
      (first_strict r p.points (limit_in p.limits) (length p.limits) (link_in p.links) (length p.links) (blank m))
      (first_open r p.points (blank m))
      (first_going p r h f.pointed f.weighted (limit_in p.limits) (length p.limits) (all_limits p) (link_in p.links) (length p.links) links
      (blank m) (blank m) (omega (arith, blank_length m)) (omega (arith, blank_length m)))
