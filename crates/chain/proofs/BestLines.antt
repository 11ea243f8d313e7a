-- A pair's best line is a line of the list, from the one to the other, of that weight and for pairs of that side; and a line keeps its number and what it says
-- as lines are added. Assumes nothing.
use mathlib.Core.Path.{◌≡◌, refl, sym, subst, ◌∙◌}
use mathlib.Core.Bool.{Bool, true, false, cond, ◌&&◌, ◌||◌, true≢false, false≢true}
use mathlib.Core.List.{List, [], ◌∷◌}
use Prim.Native.Nat.{ℕ, ◌<◌}
use native.Mathlib.Omega.{arith}
use lib.Dec.{eqb}
use lib.ListN.{length}
use lib.IntN.{ℤ}
use borrow.Author.Tests.{eqb-true, eq-eqb, ne_eqb}
use Rattle.rules.specs.declared.Side.{Side}
use Rattle.chain.specs.Lines.{Line, line_at, counts, none, still, made, beats, leads, best}
use Rattle.chain.specs.Follows.{Earlier}

-- both halves of a test that is true
pub both : (a b : Bool) → (a && b) ≡ true → (a ≡ true) × (b ≡ true)
both true b e = (refl, e)
both false b e = absurd (false≢true e)

-- both halves of a test that is false
pub neither : (a b : Bool) → (a || b) ≡ false → (a ≡ false) × (b ≡ false)
neither true b e = absurd (true≢false e)
neither false b e = (refl, e)

-- ---- lines keep their numbers

pub newest : (l : Line) (ls : List Line) → line_at (l ∷ ls) (length ls) ≡ l
newest l ls = simp (eq-eqb (length ls) (length ls) refl)

pub older : (l : Line) (ls : List Line) (i : ℕ) → i < length ls → line_at (l ∷ ls) i ≡ line_at ls i
older l ls i h = simp (ne_eqb i (length ls) (λ (q : i ≡ length ls). omega arith))

pub earlier_still : {ls : List Line} {i : ℕ} {m : Line} (l : Line) → Earlier ls i m → Earlier (l ∷ ls) i m
earlier_still {ls} {i} l e = record { before = omega (arith, e.before); is = older l ls i e.before ∙ e.is }

-- ---- the best of a pair

-- where a line leads
pub led : (s : Side) (x y : ℕ) (l : Line) → leads s x y l ≡ true → (l.from ≡ x) × (l.to ≡ y)
led s x y l t =
    let f : (eqb l.from x && eqb l.to y) ≡ true = (both (counts s l.kind) (eqb l.from x && eqb l.to y) t).1 in
    (eqb-true l.from x (both (eqb l.from x) (eqb l.to y) f).0, eqb-true l.to y (both (eqb l.from x) (eqb l.to y) f).1)

-- a line that is the best of a pair
pub record BestLine (s : Side) (x y : ℕ) (ls : List Line) (i : ℕ) (w : ℤ) (l : Line) : Type 0 where
  pub earlier : Earlier ls i l
  pub from : l.from ≡ x
  pub to : l.to ≡ y
  pub weight : l.weight ≡ w
  pub side : counts s l.kind ≡ true

same_number : {i j : ℕ} {v w : ℤ} → made i v ≡ made j w → i ≡ j
same_number e = cc

same_weight : {i j : ℕ} {v w : ℤ} → made i v ≡ made j w → v ≡ w
same_weight e = cc

pub still_not_made : {A : Type 0} {i : ℕ} {w : ℤ} → still ≡ made i w → A
still_not_made e = let z : ◌≡◌ {A = ℕ} 0 1 = cc in absurd (omega arith)

pub none_not_made : {A : Type 0} {i : ℕ} {w : ℤ} → none ≡ made i w → A
none_not_made e = let z : ◌≡◌ {A = ℕ} 0 1 = cc in absurd (omega arith)

pub made_not_still : {A : Type 0} {i : ℕ} {w : ℤ} → made i w ≡ still → A
made_not_still e = still_not_made (sym e)

pub none_not_still : {A : Type 0} → none ≡ still → A
none_not_still e = let z : ◌≡◌ {A = ℕ} 0 1 = cc in absurd (omega arith)

pub best_line : (s : Side) (x y : ℕ) (ls : List Line) (i : ℕ) (w : ℤ) → best s x y ls ≡ made i w → BestLine s x y ls i w (line_at ls i)
unfolding best
best_line s x y [] i w e = by (eqb x y) e
  where
    by : (b : Bool) → cond b still none ≡ made i w → BestLine s x y [] i w (line_at [] i)
    by true q = still_not_made q
    by false q = none_not_made q
best_line s x y (l ∷ ls) i w e = by (λ q. best_line s x y ls i w q) (leads s x y l && beats l.weight (best s x y ls)) refl e
  where
    by : (best s x y ls ≡ made i w → BestLine s x y ls i w (line_at ls i))
        → (b : Bool) → (leads s x y l && beats l.weight (best s x y ls)) ≡ b → cond b (made (length ls) l.weight) (best s x y ls) ≡ made i w
        → BestLine s x y (l ∷ ls) i w (line_at (l ∷ ls) i)
    by before true t q =
        let n : length ls ≡ i = same_number q in
        let a : leads s x y l ≡ true = (both (leads s x y l) (beats l.weight (best s x y ls)) t).0 in
        let m : BestLine s x y (l ∷ ls) (length ls) w l = record {
          earlier = record { before = omega arith; is = newest l ls };
          from = (led s x y l a).0;
          to = (led s x y l a).1;
          weight = same_weight q;
          side = (both (counts s l.kind) (eqb l.from x && eqb l.to y) a).0;
        } in
        subst (λ (j : ℕ). BestLine s x y (l ∷ ls) j w (line_at (l ∷ ls) j)) n (rw (newest l ls) m)
    by before false t q =
        let m : BestLine s x y ls i w (line_at ls i) = before q in
        let o : line_at (l ∷ ls) i ≡ line_at ls i = older l ls i m.earlier.before in
        subst (λ (k : Line). BestLine s x y (l ∷ ls) i w k) (sym o) (record {
          earlier = earlier_still l m.earlier;
          from = m.from;
          to = m.to;
          weight = m.weight;
          side = m.side;
        })

-- only "a point to itself" starts at 0
pub still_same : (s : Side) (x y : ℕ) (ls : List Line) → best s x y ls ≡ still → x ≡ y
unfolding best
still_same s x y [] e = by (eqb x y) refl e
  where
    by : (b : Bool) → eqb x y ≡ b → cond b still none ≡ still → x ≡ y
    by true t q = eqb-true x y t
    by false t q = none_not_still q
still_same s x y (l ∷ ls) e = by (λ q. still_same s x y ls q) (leads s x y l && beats l.weight (best s x y ls)) e
  where
    by : (best s x y ls ≡ still → x ≡ y) → (b : Bool) → cond b (made (length ls) l.weight) (best s x y ls) ≡ still → x ≡ y
    by before true q = made_not_still q
    by before false q = before q
