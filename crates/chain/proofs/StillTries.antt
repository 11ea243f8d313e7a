-- Lists only grow, so a sweep that adds nothing is made of tries that add nothing; and a try that adds nothing to a list that has not ended offered nothing, or
-- a line that does not beat the best of its pair. Assumes nothing.
use mathlib.Core.Path.{◌≡◌, refl, ap, subst, ◌∙◌}
use mathlib.Core.Bool.{Bool, true, false, cond}
use mathlib.Core.List.{List, ◌∷◌}
use mathlib.Core.Logic.{◌⊎◌, inl, inr}
use Prim.Native.Nat.{ℕ, zero, suc, ◌<◌, ◌≤◌}
use native.Mathlib.Nat.{eq-or-lt_of_le}
use native.Mathlib.Omega.{arith}
use lib.ListN.{length}
use Rattle.rules.specs.Plan.{Plan}
use Rattle.rules.proofs.Cells.{AtMost}
use Rattle.chain.specs.Lines.{Line, cells}
use Rattle.chain.specs.Reasons.{Offer, nothing, line, side_of, write, ended, try, each, link_of, strict_offer, open_offer, lower_offer, upper_offer, longest_at, lower_case_at, strict_joins, lowers, uppers, open_joins, sweep}
use Rattle.chain.proofs.Places.{Steps, pass, strict_steps, lower_steps, upper_steps, open_steps}
use Rattle.chain.proofs.Keeping.{writes}
use Rattle.chain.proofs.GivenBest.{unwritten}

-- ---- growing

record Grows (f : List Line → List Line) : Type 0 where
  longer : (ls : List Line) → length ls ≤ length (f ls)
  same : (ls : List Line) → length (f ls) ≤ length ls → f ls ≡ ls

grows_by : (f : List Line → List Line) → ((ls : List Line) → (length ls < length (f ls)) ⊎ (f ls ≡ ls)) → Grows f
grows_by f k = record { longer = λ ls. by_longer ls (k ls); same = λ ls h. by_same ls h (k ls) }
  where
    by_longer : (ls : List Line) → (length ls < length (f ls)) ⊎ (f ls ≡ ls) → length ls ≤ length (f ls)
    by_longer ls (inl h) = omega arith
    by_longer ls (inr q) = let e : length (f ls) ≡ length ls = ap length q in omega arith

    by_same : (ls : List Line) → length (f ls) ≤ length ls → (length ls < length (f ls)) ⊎ (f ls ≡ ls) → f ls ≡ ls
    by_same ls h (inl l) = absurd (omega arith)
    by_same ls h (inr q) = q

try_grows : (o : List Line → Offer) → Grows (try o)
unfolding try write
try_grows o = grows_by (try o) (λ ls. by ls (ended ls))
  where
    written : (ls : List Line) (l : Line) (b : Bool) → (length ls < length (cond b (l ∷ ls) ls)) ⊎ (cond b (l ∷ ls) ls ≡ ls)
    written ls l true = inl (omega arith)
    written ls l false = inr refl

    offered : (ls : List Line) (a : Offer) → (length ls < length (write a ls)) ⊎ (write a ls ≡ ls)
    offered ls nothing = inr refl
    offered ls (line l) = written ls l (writes l ls)

    by : (ls : List Line) (b : Bool) → (length ls < length (cond b ls (write (o ls) ls))) ⊎ (cond b ls (write (o ls) ls) ≡ ls)
    by ls true = inr refl
    by ls false = offered ls (o ls)

after_grows : (f g : List Line → List Line) → Grows f → Grows g → Grows (λ ls. g (f ls))
after_grows f g hf hg = record {
  longer = λ ls. omega (arith, hf.longer ls, hg.longer (f ls));
  same = λ ls h.
      let q : f ls ≡ ls = hf.same ls (omega (arith, hg.longer (f ls))) in
      let k : length (g (f ls)) ≤ length (f ls) = omega (arith, hf.longer ls) in
      hg.same (f ls) k ∙ q;
}

each_grows : (f : ℕ → List Line → List Line) → ((i : ℕ) → Grows (f i)) → (m : ℕ) → Grows (each f m)
each_grows f k zero = record { longer = λ ls. omega arith; same = λ ls h. refl }
each_grows f k (suc m) = after_grows (each f m) (f m) (each_grows f k m) (k m)

-- where two steps add nothing, the first adds nothing, and so does the second
first_still : (f g : List Line → List Line) → Grows f → Grows g → (ls : List Line) → g (f ls) ≡ ls → f ls ≡ ls
first_still f g hf hg ls q =
    let e : length (g (f ls)) ≡ length ls = ap length q in
    hf.same ls (omega (arith, hg.longer (f ls)))

second_still : (f g : List Line → List Line) → Grows f → Grows g → (ls : List Line) → g (f ls) ≡ ls → g ls ≡ ls
second_still f g hf hg ls q = rw (first_still f g hf hg ls q) at q

each_still : (f : ℕ → List Line → List Line) → ((i : ℕ) → Grows (f i)) → (m : ℕ) (ls : List Line) → each f m ls ≡ ls → (i : ℕ) → i < m → f i ls ≡ ls
each_still f k zero ls q i h = absurd (omega arith)
each_still f k (suc m) ls q i h =
    by (λ g. each_still f k m ls (first_still (each f m) (f m) (each_grows f k m) (k m) ls q) i g) (eq-or-lt_of_le h)
  where
    by : (i < m → f i ls ≡ ls) → (suc i ≡ suc m) ⊎ (suc i < suc m) → f i ls ≡ ls
    by before (inl e) =
        let n : m ≡ i = omega arith in
        subst (λ (j : ℕ). f j ls ≡ ls) n (second_still (each f m) (f m) (each_grows f k m) (k m) ls q)
    by before (inr e) = before (omega arith)

-- the same of three loops, one within the other
pass_grows : (f : Steps) → ((a b c : ℕ) → Grows (f a b c)) → (A B C : ℕ) → Grows (pass f A B C)
pass_grows f k A B C =
    each_grows (λ a. each (λ b. each (f a b) C) B) (λ a. each_grows (λ b. each (f a b) C) (λ b. each_grows (f a b) (k a b) C) B) A

pass_still : (f : Steps) → ((a b c : ℕ) → Grows (f a b c)) → (A B C : ℕ) (ls : List Line) → pass f A B C ls ≡ ls
    → (a b c : ℕ) → a < A → b < B → c < C → f a b c ls ≡ ls
pass_still f k A B C ls q a b c ha hb hc =
    let inner : (a b : ℕ) → Grows (each (f a b) C) = λ a b. each_grows (f a b) (k a b) C in
    let middle : each (λ b. each (f a b) C) B ls ≡ ls =
    each_still (λ a. each (λ b. each (f a b) C) B) (λ a. each_grows (λ b. each (f a b) C) (inner a) B) A ls q a ha in
    each_still (f a b) (k a b) C ls (each_still (λ b. each (f a b) C) (inner a) B ls middle b hb) c hc

-- ---- a sweep that adds nothing

pub record StillTries (p : Plan) (g : ℕ) (ls : List Line) : Type 0 where
  pub strict : (y x z : ℕ) → y < p.points → x < p.points → z < p.points → strict_steps y x z ls ≡ ls
  pub lower : (i j : ℕ) → i < length p.links → j < length p.links → lower_steps p g i j 0 ls ≡ ls
  pub upper : (x i : ℕ) → x < p.points → i < length p.links → upper_steps p g x i 0 ls ≡ ls
  pub weak : (y x z : ℕ) → y < p.points → x < p.points → z < p.points → open_steps y x z ls ≡ ls

pub still_tries : (p : Plan) (g : ℕ) (ls : List Line) → sweep p g ls ≡ ls → StillTries p g ls
unfolding sweep strict_joins lowers uppers open_joins
still_tries p g ls q =
    let n : ℕ = p.points in
    let k : ℕ = length p.links in
    let strict_grow : (y x z : ℕ) → Grows (strict_steps y x z) = λ y x z. try_grows (strict_offer y x z) in
    let lower_grow : (i j c : ℕ) → Grows (lower_steps p g i j c) = λ i j c. try_grows (lower_offer (lower_case_at g i) (link_of p i) (link_of p j)) in
    let upper_grow : (x i c : ℕ) → Grows (upper_steps p g x i c) = λ x i c. try_grows (upper_offer (longest_at g i) x (link_of p i)) in
    let open_grow : (y x z : ℕ) → Grows (open_steps y x z) = λ y x z. try_grows (open_offer y x z) in
    -- the sweep is one part after the other
    let first : Grows (strict_joins n) = pass_grows strict_steps strict_grow n n n in
    let second : Grows (lowers p g) = pass_grows (lower_steps p g) lower_grow k k 1 in
    let third : Grows (uppers p g) = pass_grows (upper_steps p g) upper_grow n k 1 in
    let fourth : Grows (open_joins n) = pass_grows open_steps open_grow n n n in
    let two : List Line → List Line = λ ms. lowers p g (strict_joins n ms) in
    let three : List Line → List Line = λ ms. uppers p g (lowers p g (strict_joins n ms)) in
    let two_grow : Grows two = after_grows (strict_joins n) (lowers p g) first second in
    let three_grow : Grows three = after_grows two (uppers p g) two_grow third in
    let three_still : three ls ≡ ls = first_still three (open_joins n) three_grow fourth ls q in
    let two_still : two ls ≡ ls = first_still two (uppers p g) two_grow third ls three_still in
    record {
      strict = pass_still strict_steps strict_grow n n n ls (first_still (strict_joins n) (lowers p g) first second ls two_still);
      lower = λ i j hi hj.
          pass_still (lower_steps p g) lower_grow k k 1 ls (second_still (strict_joins n) (lowers p g) first second ls two_still) i j 0 hi hj (omega arith);
      upper = λ x i hx hi.
          pass_still (upper_steps p g) upper_grow n k 1 ls (second_still two (uppers p g) two_grow third ls three_still) x i 0 hx hi (omega arith);
      weak = pass_still open_steps open_grow n n n ls (second_still three (open_joins n) three_grow fourth ls q);
    }

-- ---- a try that adds nothing

no_longer : (l : Line) (ls : List Line) → l ∷ ls ≡ ls → ⊥
no_longer l ls q = let e : suc (length ls) ≡ length ls = ap length q in omega arith

-- its line, if it offers one, does not beat the best
pub still_best : (o : List Line → Offer) (ls : List Line) → ended ls ≡ false → try o ls ≡ ls → (l : Line) → o ls ≡ line l
    → AtMost (cells (side_of l.kind) ls l.from l.to) l.weight
unfolding try write
still_best o ls n q l a = by (writes l ls) refl (simp (n, a) at q)
  where
    by : (b : Bool) → writes l ls ≡ b → cond b (l ∷ ls) ls ≡ ls → AtMost (cells (side_of l.kind) ls l.from l.to) l.weight
    by true t e = absurd (no_longer l ls e)
    by false t e = unwritten l ls t
