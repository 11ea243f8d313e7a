-- Tests that compute: of every number below m, of two lists, of a table's fairness, of a plan's ranges. Each with what it says. Assumes nothing.
use mathlib.Core.Path.{◌≡◌, refl, sym, ap, ap₂}
use mathlib.Core.Bool.{Bool, true, false, ◌&&◌, true≢false}
use mathlib.Core.List.Memᴰ
use mathlib.Core.List.{List, [], ◌∷◌, Memᴰ}
use mathlib.Core.Logic.{◌⊎◌, inl, inr, ⊎_elim}
use Prim.Native.Nat.{ℕ, zero, suc, ◌≤◌, ◌<◌}
use native.Mathlib.Nat.{eq-or-lt_of_le, le_of_suc-le-suc, not-suc-le-zero}
use native.Mathlib.Omega.{arith}
use lib.Dec.{T, leb, eqb, eqb→eq, leb→le}
use lib.IntN.{ℤ, pos, negsuc, neg_ℤ}
use lib.Signed.{le_z, ◌<ℤ◌, le_z_yes}
use Rattle.whole.proofs.Bits.{signed}
use Rattle.rules.specs.Plan.{Limit, Link, Plan, Ranges, LimitInRange, LinkInRange}
use Rattle.rules.specs.Cells.{Cell, mark, num, ◌≤ᶜ◌, Within, table_of}
use Rattle.rules.proofs.Points.{Pointed, Weighted}
use Rattle.plan.specs.File.{limit_fits, link_fits}
use Rattle.plan.proofs.TestsDecide.{limit_ok, link_ok}
use Rattle.cell.specs.Steps.{Stored}
use Rattle.lowering.specs.Table.{Sound}
use Rattle.lowering.specs.Fair.{Fair, Unfair, low, negative}

-- ---- Booleans

pub is_true : {b : Bool} → b ≡ true → T b
is_true e = rw e tt

pub both : (a b : Bool) → a && b ≡ true → (a ≡ true) × (b ≡ true)
both true b e = (refl, e)
both false b e = absurd (true≢false (sym e))

pub either : (a b : Bool) → a && b ≡ false → (a ≡ false) ⊎ (b ≡ false)
either true b e = inr e
either false b e = inl refl

-- ---- every number below m

abbrev pub every : (ℕ → Bool) → ℕ → Bool
every f zero = true
every f (suc m) = every f m && f m

pub every_true : (f : ℕ → Bool) (m : ℕ) → every f m ≡ true → (i : ℕ) → i < m → f i ≡ true
every_true f zero e i h = absurd (not-suc-le-zero h)
every_true f (suc m) e i h =
    let p : (every f m ≡ true) × (f m ≡ true) = both (every f m) (f m) e in
    ⊎_elim (λ k. rw k p.1) (λ k. every_true f m p.0 i k) (eq-or-lt_of_le (le_of_suc-le-suc h))

pub record Fails (f : ℕ → Bool) (m : ℕ) : Type 0 where
  pub at : ℕ
  pub below : at < m
  pub fails : f at ≡ false

pub every_false : (f : ℕ → Bool) (m : ℕ) → every f m ≡ false → Fails f m
every_false f zero e = absurd (true≢false e)
every_false f (suc m) e =
    ⊎_elim
    (λ k. let r : Fails f m = every_false f m k in record { at = r.at; below = omega (arith, r.below); fails = r.fails })
    (λ k. record { at = m; below = omega arith; fails = k }) (either (every f m) (f m) e)

-- ---- equal numbers and lists

abbrev pub eq_z : ℤ → ℤ → Bool
eq_z (pos a) (pos b) = eqb a b
eq_z (pos a) (negsuc b) = false
eq_z (negsuc a) (pos b) = false
eq_z (negsuc a) (negsuc b) = eqb a b

pub eq_z_is : (a b : ℤ) → eq_z a b ≡ true → a ≡ b
eq_z_is (pos a) (pos b) e = ap pos (eqb→eq a b (is_true e))
eq_z_is (pos a) (negsuc b) e = absurd (true≢false (sym e))
eq_z_is (negsuc a) (pos b) e = absurd (true≢false (sym e))
eq_z_is (negsuc a) (negsuc b) e = ap negsuc (eqb→eq a b (is_true e))

abbrev pub eq_list : List ℤ → List ℤ → Bool
eq_list [] [] = true
eq_list [] (b ∷ bs) = false
eq_list (a ∷ xs) [] = false
eq_list (a ∷ xs) (b ∷ bs) = eq_z a b && eq_list xs bs

pub eq_list_is : (a b : List ℤ) → eq_list a b ≡ true → a ≡ b
eq_list_is [] [] e = refl
eq_list_is [] (b ∷ bs) e = absurd (true≢false (sym e))
eq_list_is (a ∷ xs) [] e = absurd (true≢false (sym e))
eq_list_is (a ∷ xs) (b ∷ bs) e =
    let p = both (eq_z a b) (eq_list xs bs) e in
    ap₂ (λ (z : ℤ) (zs : List ℤ). z ∷ zs) (eq_z_is a b p.0) (eq_list_is xs bs p.1)

abbrev pub eq_cell : Cell → Cell → Bool
eq_cell mark mark = true
eq_cell mark (num b) = false
eq_cell (num a) mark = false
eq_cell (num a) (num b) = eq_z a b

pub eq_cell_is : (a b : Cell) → eq_cell a b ≡ true → a ≡ b
eq_cell_is mark mark e = refl
eq_cell_is mark (num b) e = absurd (true≢false (sym e))
eq_cell_is (num a) mark e = absurd (true≢false (sym e))
eq_cell_is (num a) (num b) e = ap num (eq_z_is a b e)

-- ---- a fair table

-- at least a number, with the mark on top
abbrev pub at_least : ℤ → Cell → Bool
at_least b mark = true
at_least b (num c) = le_z b c

abbrev pub fair_test : Ranges → ℕ → List ℤ → Bool
fair_test r n t =
    every (λ x. every (λ y. at_least (neg_ℤ (pos r.reach)) (table_of r n t x y)) n) n
    && every (λ x. at_least (pos zero) (table_of r n t x x)) n

at_least_within : (reach : ℕ) (c : Cell) → Stored reach c → at_least (neg_ℤ (pos reach)) c ≡ true → Within reach c
at_least_within reach mark s e = tt
at_least_within reach (num c) s e = (le_z_yes (is_true e), s.1)

at_least_le : (c : Cell) → at_least (pos zero) c ≡ true → num (pos zero) ≤ᶜ c
at_least_le mark e = tt
at_least_le (num c) e = le_z_yes (is_true e)

pub fair_true : (r : Ranges) (n : ℕ) (t : List ℤ) → Sound r n t → fair_test r n t ≡ true → Fair r n t
fair_true r n t s e =
    let rows : ℕ → Bool = λ x. every (λ y. at_least (neg_ℤ (pos r.reach)) (table_of r n t x y)) n in
    let diagonal : ℕ → Bool = λ x. at_least (pos zero) (table_of r n t x x) in
    let p = both (every rows n) (every diagonal n) e in
    record {
      within = λ x y hx hy.
          at_least_within r.reach (table_of r n t x y) (s.stored x y hx hy)
          (every_true (λ y. at_least (neg_ℤ (pos r.reach)) (table_of r n t x y)) n (every_true rows n p.0 x hx) y hy);
      diagonal = λ x hx. at_least_le (table_of r n t x x) (every_true diagonal n p.1 x hx);
    }

-- a cell that is not at least a number is a number below it
below_is : (b : ℤ) (c : Cell) → at_least b c ≡ false → (z : ℤ) × (c ≡ num z) × (z <ℤ b)
below_is b mark e = absurd (true≢false e)
below_is b (num z) e = (z, refl, omega signed)

pub fair_false : (r : Ranges) (n : ℕ) (t : List ℤ) → fair_test r n t ≡ false → Unfair r n t
fair_false r n t e = ⊎_elim cells diagonals (either (every rows n) (every diagonal n) e)
  where
    rows : ℕ → Bool
    rows x = every (λ y. at_least (neg_ℤ (pos r.reach)) (table_of r n t x y)) n

    diagonal : ℕ → Bool
    diagonal x = at_least (pos zero) (table_of r n t x x)

    cells : every rows n ≡ false → Unfair r n t
    cells k =
        let f : Fails rows n = every_false rows n k in
        let g = every_false (λ y. at_least (neg_ℤ (pos r.reach)) (table_of r n t f.at y)) n f.fails in
        let b = below_is (neg_ℤ (pos r.reach)) (table_of r n t f.at g.at) g.fails in
        low f.below g.below b.1 b.2

    diagonals : every diagonal n ≡ false → Unfair r n t
    diagonals k =
        let f : Fails diagonal n = every_false diagonal n k in
        let b = below_is (pos zero) (table_of r n t f.at f.at) f.fails in
        negative f.below b.1 b.2

-- ---- ranges

abbrev pub limits_test : Ranges → ℕ → List Limit → Bool
limits_test r n [] = true
limits_test r n (m ∷ ms) = limit_fits r n m && limits_test r n ms

abbrev pub links_test : Ranges → ℕ → List Link → Bool
links_test r n [] = true
links_test r n (k ∷ ks) = link_fits r n k && links_test r n ks

abbrev pub range_test : Ranges → Plan → Bool
range_test r p =
    leb 1 p.points && leb p.points r.points && limits_test r p.points p.limits && links_test r p.points p.links

limits_fit : (r : Ranges) (n : ℕ) (ms : List Limit) → limits_test r n ms ≡ true → (m : Limit) → Memᴰ m ms → LimitInRange r n m
limits_fit r n [] e m h = absurd (Memᴰ.not-nil h)
limits_fit r n (l ∷ ms) e m h =
    let p = both (limit_fits r n l) (limits_test r n ms) e in
    ⊎_elim (λ k. rw k (limit_ok r n l p.0)) (λ k. limits_fit r n ms p.1 m k) (Memᴰ.cases_cons h)

links_fit : (r : Ranges) (n : ℕ) (ks : List Link) → links_test r n ks ≡ true → (k : Link) → Memᴰ k ks → LinkInRange r n k
links_fit r n [] e k h = absurd (Memᴰ.not-nil h)
links_fit r n (l ∷ ks) e k h =
    let p = both (link_fits r n l) (links_test r n ks) e in
    ⊎_elim (λ q. rw q (link_ok r n l p.0)) (λ q. links_fit r n ks p.1 k q) (Memᴰ.cases_cons h)

-- what the sweep asks of a plan
pub record Fit (r : Ranges) (p : Plan) : Type 0 where
  pub few : p.points ≤ r.points
  pub pointed : Pointed p
  pub weighted : Weighted r.weight p

pub range_fit : (r : Ranges) (p : Plan) → range_test r p ≡ true → Fit r p
range_fit r p e =
    let n = p.points in
    let a = both (leb 1 n && leb n r.points && limits_test r n p.limits) (links_test r n p.links) e in
    let b = both (leb 1 n && leb n r.points) (limits_test r n p.limits) a.0 in
    let c = both (leb 1 n) (leb n r.points) b.0 in
    let ms : (m : Limit) → Memᴰ m p.limits → LimitInRange r n m = limits_fit r n p.limits b.1 in
    let ks : (k : Link) → Memᴰ k p.links → LinkInRange r n k = links_fit r n p.links a.1 in
    record {
      few = leb→le n r.points (is_true c.1);
      pointed = record {
        some_point = leb→le 1 n (is_true c.0);
        limit_from = λ m h. (ms m h).from;
        limit_to = λ m h. (ms m h).to;
        link_act = λ k h. (ks k h).act;
        link_con = λ k h. (ks k h).con;
      };
      weighted = record {
        limit_least = λ m h. (ms m h).least;
        limit_most = λ m h. (ms m h).most;
        short_most = λ k h. omega (arith, (ks k h).order, (ks k h).most);
        long_most = λ k h. (ks k h).most;
      };
    }
