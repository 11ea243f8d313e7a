-- Tries one after another: what each of them keeps all of them keep, and once the list has ended nothing is added. Assumes nothing.
use mathlib.Core.Path.{◌≡◌, refl, sym, ap, ◌∙◌}
use mathlib.Core.Bool.{Bool, true, false, true≢false}
use mathlib.Core.List.{List}
use Prim.Native.Nat.{ℕ, zero, suc, ◌≤◌, ◌<◌}
use native.Mathlib.Nat.{eq-or-lt_of_le}
use native.Mathlib.Omega.{arith}
use mathlib.Core.Logic.{⊎_elim}
use Rattle.chain.specs.Lines.{Line}
use Rattle.chain.specs.Reasons.{Offer, ended, try, each}

-- a step that adds nothing to a list that has ended
abbrev pub Stops : (List Line → List Line) → Type 0
Stops f = (ls : List Line) → ended ls ≡ true → f ls ≡ ls

pub try_stops : (o : List Line → Offer) → Stops (try o)
unfolding try
try_stops o ls e = simp e

pub each_stops : (f : ℕ → List Line → List Line) → ((i : ℕ) → Stops (f i)) → (m : ℕ) → Stops (each f m)
each_stops f s zero ls e = refl
each_stops f s (suc m) ls e = rw (each_stops f s m ls e) (s m ls e)

-- where the steps before number i have ended it, those after it add nothing
pub each_rest : (f : ℕ → List Line → List Line) → ((i : ℕ) → Stops (f i)) → (i m : ℕ) → i ≤ m → (ls : List Line) → ended (each f i ls) ≡ true
    → each f m ls ≡ each f i ls
each_rest f s i zero h ls e = let q : zero ≡ i = omega arith in ap (λ (j : ℕ). each f j ls) q
each_rest f s i (suc m) h ls e =
    ⊎_elim
    (λ (q : i ≡ suc m). ap (λ (j : ℕ). each f j ls) (sym q))
    (λ (q : i < suc m). let r : each f m ls ≡ each f i ls = each_rest f s i m (omega arith) ls e in rw r (s m (each f i ls) e))
    (eq-or-lt_of_le h)

-- a list that has not ended had not ended before
pub going_before : (f : ℕ → List Line → List Line) → ((i : ℕ) → Stops (f i)) → (i m : ℕ) → i ≤ m → (ls : List Line) → ended (each f m ls) ≡ false
    → ended (each f i ls) ≡ false
going_before f s i m h ls e = by (ended (each f i ls)) refl
  where
    by : (b : Bool) → ended (each f i ls) ≡ b → b ≡ false
    by false q = refl
    by true q = absurd (true≢false (sym q ∙ ap ended (sym (each_rest f s i m h ls q)) ∙ e))

-- nor had what a step was done to
pub going_back : (f : List Line → List Line) → Stops f → (ls : List Line) → ended (f ls) ≡ false → ended ls ≡ false
going_back f s ls e = by (ended ls) refl
  where
    by : (b : Bool) → ended ls ≡ b → b ≡ false
    by false q = refl
    by true q = absurd (true≢false (sym q ∙ ap ended (sym (s ls q)) ∙ e))
