-- The weights of the best lines as cells: adding a line never raises one and covers its own pair; a pair's open cell never exceeds its strict one; and while no
-- line closes below zero, a point's way to itself stays at the 0 at which it starts. Assumes nothing.
use mathlib.Core.Path.{◌≡◌, refl, sym, subst, ◌∙◌}
use mathlib.Core.Bool.{Bool, true, false, cond, ◌&&◌, true≢false}
use mathlib.Core.List.{List, [], ◌∷◌}
use Prim.Native.Nat.{ℕ, zero}
use lib.Dec.{eqb}
use lib.ListN.{length}
use lib.IntN.{ℤ, pos}
use lib.Signed.{lt_z, ◌≤ℤ◌, ◌<ℤ◌, lt_z_yes, lt_z_no}
use borrow.Author.Tests.{eq-eqb}
use Rattle.whole.proofs.Order.{ints}
use Rattle.rules.specs.declared.Side.{Side}
use Rattle.rules.specs.declared.Side.TheVariants.{Strict, Open}
use Rattle.rules.proofs.Cells.{AtMost, mark_no_number, itself, by_at_most, raised}
use Rattle.chain.specs.Lines.{Line, counts, Best, none, still, made, beats, leads, best, weight_of, cells}
use Rattle.chain.specs.Reasons.{ended}
use Rattle.chain.proofs.BestLines.{both, led}
use Rattle.chain.proofs.OneList.{First}

-- ---- one best

-- what beats a best is below all that the best is at most
pub beaten : {w v : ℤ} (b : Best) → beats w b ≡ true → AtMost (weight_of b) v → w ≤ℤ v
beaten none t a = absurd (mark_no_number a.is)
beaten {w} {v} still t a = let l : w <ℤ pos zero = lt_z_yes (rw t tt) in let m : pos zero ≤ℤ v = by_at_most a in omega ints
beaten {w} {v} (made i u) t a = let l : w <ℤ u = lt_z_yes (rw t tt) in let m : u ≤ℤ v = by_at_most a in omega ints

-- where a weight does not beat it, the best is at most that
pub unbeaten : {w : ℤ} (b : Best) → beats w b ≡ false → AtMost (weight_of b) w
unbeaten none t = absurd (true≢false t)
unbeaten {w} still t = record { value = pos zero; is = refl; le = lt_z_no (rw t tt) }
unbeaten {w} (made i u) t = record { value = u; is = refl; le = lt_z_no (rw t tt) }

-- ---- a line more

-- no cell rises
pub falls : (s : Side) (x y : ℕ) (l : Line) (ls : List Line) {v : ℤ} → AtMost (cells s ls x y) v → AtMost (cells s (l ∷ ls) x y) v
unfolding best
falls s x y l ls {v} a = by (leads s x y l && beats l.weight (best s x y ls)) refl
  where
    by : (b : Bool) → (leads s x y l && beats l.weight (best s x y ls)) ≡ b → AtMost (weight_of (cond b (made (length ls) l.weight) (best s x y ls))) v
    by true t =
        raised (itself l.weight) (beaten (best s x y ls) (both (leads s x y l) (beats l.weight (best s x y ls)) t).1 a)
    by false t = a

-- a line covers its own pair
pub covers : (s : Side) (l : Line) (ls : List Line) → counts s l.kind ≡ true → AtMost (cells s (l ∷ ls) l.from l.to) l.weight
unfolding best
covers s l ls c =
    simp (c, eq-eqb l.from l.from refl, eq-eqb l.to l.to refl) (by (beats l.weight (best s l.from l.to ls)) refl)
  where
    by : (b : Bool) → beats l.weight (best s l.from l.to ls) ≡ b
        → AtMost (weight_of (cond b (made (length ls) l.weight) (best s l.from l.to ls))) l.weight
    by true t = itself l.weight
    by false t = unbeaten (best s l.from l.to ls) t

-- ---- the two sides

-- "an open pair's best includes its strict one"
pub open_includes : (x y : ℕ) (ls : List Line) {v : ℤ} → AtMost (cells Strict ls x y) v → AtMost (cells Open ls x y) v
unfolding best
open_includes x y [] a = a
open_includes x y (l ∷ ls) {v} a = by (λ h. open_includes x y ls h) (leads Strict x y l && beats l.weight (best Strict x y ls)) refl a
  where
    by : (AtMost (cells Strict ls x y) v → AtMost (cells Open ls x y) v) → (b : Bool) → (leads Strict x y l && beats l.weight (best Strict x y ls)) ≡ b
        → AtMost (weight_of (cond b (made (length ls) l.weight) (best Strict x y ls))) v → AtMost (cells Open (l ∷ ls) x y) v
    by before true t h =
        let e : (l.from ≡ x) × (l.to ≡ y) = led Strict x y l (both (leads Strict x y l) (beats l.weight (best Strict x y ls)) t).0 in
        let c : AtMost (cells Open (l ∷ ls) l.from l.to) l.weight = covers Open l ls refl in
        raised
        (subst (λ (b : ℕ). AtMost (cells Open (l ∷ ls) x b) l.weight) e.1
        (subst (λ (a : ℕ). AtMost (cells Open (l ∷ ls) a l.to) l.weight) e.0 c))
        (by_at_most h)
    by before false t h = falls Open x y l ls (before h)

-- ---- a point to itself

pub diagonal : (s : Side) (x : ℕ) (ls : List Line) → First ls → ended ls ≡ false → best s x x ls ≡ still
unfolding best
diagonal s x [] f e = simp (eq-eqb x x refl)
diagonal s x (l ∷ ls) f e = by (diagonal s x ls f.1 f.0) (leads s x x l) refl
  where
    by : best s x x ls ≡ still → (b : Bool) → leads s x x l ≡ b
        → cond (b && beats l.weight (best s x x ls)) (made (length ls) l.weight) (best s x x ls) ≡ still
    by q false t = q
    by q true t =
        let d : (l.from ≡ x) × (l.to ≡ x) = led s x x l t in
        let n : eqb l.from l.to ≡ true = eq-eqb l.from l.to (d.0 ∙ sym d.1) in
        let z : lt_z l.weight (pos zero) ≡ false = simp n at e in
        simp (q, z)
