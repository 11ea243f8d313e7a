-- "It stops at the first line below zero from a point to itself", so no line before the last one is such; and "The list is fixed": where sweeps add nothing, all
-- further ones add nothing, so there is one such list. Assumes nothing.
use mathlib.Core.Path.{◌≡◌, refl, sym, ap, ◌∙◌}
use mathlib.Core.Bool.{Bool, true, false}
use mathlib.Core.List.{List, [], ◌∷◌}
use mathlib.Core.Logic.{⊎_elim}
use Prim.Native.Nat.{ℕ, zero, suc, ◌≤◌, ◌<◌}
use native.Mathlib.Nat.{eq-or-lt_of_le}
use native.Mathlib.Omega.{arith}
use lib.Dec.{leb}
use lib.ListN.{length}
use borrow.Author.Tests.{leb-true, leb-false}
use Rattle.rules.specs.Plan.{Plan}
use Rattle.chain.specs.Lines.{Line}
use Rattle.chain.specs.Reasons.{Offer, ended, try, each, before_links, given, sweep, sweeps, ReasonList}
use Rattle.chain.proofs.Keeping.{Keeps, try_keeps, given_kept, sweeps_kept, any_given, any_sweep}

-- no line before the last one closes below zero
abbrev pub First : List Line → Type 0
First [] = Unit {0}
First (l ∷ ls) = (ended ls ≡ false) × First ls

pub first_kept : (o : List Line → Offer) → Keeps First (try o)
first_kept o = try_keeps First o (λ ls f e l q. (e, f))

pub sweeps_first : (p : Plan) (c : ℕ) → First (sweeps p c)
sweeps_first p = sweeps_kept p First (any_sweep p (length (before_links p)) First first_kept) (given_kept p First (any_given p First first_kept) tt)

pub reasons_first : (p : Plan) (ls : List Line) → ReasonList p ls → First ls
reasons_first p ls r = rw r.swept (sweeps_first p r.count)

-- a step done again and again adds nothing more where it once added nothing
still_after : (f : List Line → List Line) (ls : List Line) (c d : ℕ) → c ≤ d → f (each (λ i. f) c ls) ≡ each (λ i. f) c ls
    → each (λ i. f) d ls ≡ each (λ i. f) c ls
still_after f ls c zero h e = let q : zero ≡ c = omega arith in ap (λ (j : ℕ). each (λ i. f) j ls) q
still_after f ls c (suc d) h e =
    ⊎_elim
    (λ (q : c ≡ suc d). ap (λ (j : ℕ). each (λ i. f) j ls) (sym q))
    (λ (q : c < suc d). let r : each (λ i. f) d ls ≡ each (λ i. f) c ls = still_after f ls c d (omega arith) e in rw r e)
    (eq-or-lt_of_le h)

sweeps_after : (p : Plan) (c d : ℕ) → c ≤ d → sweep p (length (before_links p)) (sweeps p c) ≡ sweeps p c → sweeps p d ≡ sweeps p c
unfolding sweeps
sweeps_after p c d h e = still_after (sweep p (length (before_links p))) (given p) c d h e

pub one : (p : Plan) (ls ms : List Line) → ReasonList p ls → ReasonList p ms → ls ≡ ms
one p ls ms r s = by (leb r.count s.count) refl
  where
    kept : {ks : List Line} (t : ReasonList p ks) → sweep p (length (before_links p)) (sweeps p t.count) ≡ sweeps p t.count
    kept t = rw t.swept at t.stays

    by : (b : Bool) → leb r.count s.count ≡ b → ls ≡ ms
    by true t = r.swept ∙ sym (sweeps_after p r.count s.count (leb-true r.count s.count t) (kept r)) ∙ sym s.swept
    by false t =
        let h : s.count < r.count = leb-false r.count s.count t in
        r.swept ∙ sweeps_after p s.count r.count (omega arith) (kept s) ∙ sym s.swept
