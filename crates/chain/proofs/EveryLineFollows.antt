-- "Every line follows from the plan and what it names": of every list so far. Lower and Upper name the lines of their link, which stand in threes after the lines
-- before them, as long as what is given has not ended; where it has, sweeps add nothing. Assumes nothing.
use mathlib.Core.Path.{◌≡◌, refl, sym, ap, subst, ◌∙◌}
use mathlib.Core.Bool.{Bool, true, false, cond}
use mathlib.Core.List.{List, ◌∷◌}
use mathlib.Core.Logic.{◌⊎◌, inl, inr}
use Prim.Native.Nat.{ℕ, zero, suc, ◌+◌, ◌*◌, ◌<◌}
use native.Mathlib.Nat.{eq-or-lt_of_le}
use native.Mathlib.Omega.{arith}
use lib.Dec.{eqb}
use lib.ListN.{length}
use lib.IntN.{ℤ, pos, ◌+ℤ◌}
use lib.Signed.{lt_z, lt_z_yes}
use borrow.Author.Tests.{eqb-false}
use Rattle.rules.specs.declared.Side.TheVariants.{Strict, Open}
use Rattle.rules.specs.Plan.{Plan, Link}
use Rattle.rules.specs.Edges.{spread}
use Rattle.chain.specs.Lines.{Line, strict_join, open_join, by_lower, longest_line, shortest_line, lower_case_line, line_at, Best, none, still, made, best}
use Rattle.chain.specs.Reasons.{Offer, nothing, line, always, write, ended, try, each, link_of, limit_of, start_offer, limit_offer, link_offer, joined, lower_from, upper_from, strict_offer, open_offer, lower_offer, upper_offer, longest_at, lower_case_at, links, before_links, given, sweeps, ReasonList}
use Rattle.chain.specs.Follows.{Earlier, Ordinary, Follows, start, limit, longest, shortest, lower_case_rule, join, lower, upper, open_join_rule, Followed}
use Rattle.chain.proofs.Tries.{try_stops, each_stops, going_back}
use Rattle.chain.proofs.BestLines.{newest, earlier_still, BestLine, best_line}
use Rattle.chain.proofs.Keeping.{try_keeps, SweepKeeps, given_kept, sweeps_kept, sweeps_stop}

-- ---- where the lines of the links stand

-- the longest and the lower-case lines of the first m links, with g lines before them
pub record Placed (p : Plan) (g m : ℕ) (ls : List Line) : Type 0 where
  pub longest_line_at : (i : ℕ) → i < m → Earlier ls (longest_at g i) (longest_line i (link_of p i))
  pub lower_case_line_at : (i : ℕ) → i < m → Earlier ls (lower_case_at g i) (lower_case_line i (link_of p i))

pub placed_still : {p : Plan} {g m : ℕ} {ls : List Line} (l : Line) → Placed p g m ls → Placed p g m (l ∷ ls)
placed_still l k = record {
  longest_line_at = λ i h. earlier_still l (k.longest_line_at i h);
  lower_case_line_at = λ i h. earlier_still l (k.lower_case_line_at i h);
}

-- "these three always written"
written_always : (o : List Line → Offer) (ls : List Line) (l : Line) → o ls ≡ line l → always l.kind ≡ true → ended (try o ls) ≡ false → try o ls ≡ l ∷ ls
unfolding try write
written_always o ls l q a e =
    let n : ended ls ≡ false = going_back (try o) (try_stops o) ls e in
    simp (n, q, a)

-- the three lines of a link
abbrev link_tries : ℕ → Link → List Line → List Line
link_tries i k ls = each (λ c. try (link_offer i k c)) 3 ls

three_lines : (i : ℕ) (k : Link) (ls : List Line) → ended (link_tries i k ls) ≡ false
    → link_tries i k ls ≡ lower_case_line i k ∷ shortest_line i k ∷ longest_line i k ∷ ls
unfolding link_offer
three_lines i k ls e =
    let a : List Line = try (link_offer i k 0) ls in
    let b : List Line = try (link_offer i k 1) (try (link_offer i k 0) ls) in
    let eb : ended (try (link_offer i k 1) (try (link_offer i k 0) ls)) ≡ false = going_back (try (link_offer i k 2)) (try_stops (link_offer i k 2)) b e in
    let ea : ended (try (link_offer i k 0) ls) ≡ false = going_back (try (link_offer i k 1)) (try_stops (link_offer i k 1)) a eb in
    let qa : try (link_offer i k 0) ls ≡ longest_line i k ∷ ls = written_always (link_offer i k 0) ls (longest_line i k) refl refl ea in
    let qb : try (link_offer i k 1) a ≡ shortest_line i k ∷ a = written_always (link_offer i k 1) a (shortest_line i k) refl refl eb in
    let qc : try (link_offer i k 2) b ≡ lower_case_line i k ∷ b = written_always (link_offer i k 2) b (lower_case_line i k) refl refl e in
    qc ∙ ap (λ (m : List Line). lower_case_line i k ∷ m) (qb ∙ ap (λ (m : List Line). shortest_line i k ∷ m) qa)

-- the first m links' lines stand, and no others with them
record Threes (p : Plan) (g m : ℕ) (ls : List Line) : Type 0 where
  placed : Placed p g m ls
  many : length ls ≡ g + 3 * m

three_more : (p : Plan) (g m : ℕ) (ms : List Line) → Threes p g m ms
    → Threes p g (suc m) (lower_case_line m (link_of p m) ∷ shortest_line m (link_of p m) ∷ longest_line m (link_of p m) ∷ ms)
three_more p g m ms t = record {
  placed = record { longest_line_at = longest_by; lower_case_line_at = lower_case_by };
  many = let q : length ms ≡ g + 3 * m = t.many in omega arith;
}
  where
    k : Link
    k = link_of p m

    all : List Line
    all = lower_case_line m (link_of p m) ∷ shortest_line m (link_of p m) ∷ longest_line m (link_of p m) ∷ ms

    longest_newest : Earlier (longest_line m k ∷ ms) (length ms) (longest_line m k)
    longest_newest = record { before = omega arith; is = newest (longest_line m k) ms }

    longest_by : (i : ℕ) → i < suc m → Earlier all (longest_at g i) (longest_line i (link_of p i))
    longest_by i h = by (eq-or-lt_of_le h)
      where
        by : (suc i ≡ suc m) ⊎ (suc i < suc m) → Earlier all (longest_at g i) (longest_line i (link_of p i))
        by (inl q) =
            let n : m ≡ i = omega arith in
            let c : length ms ≡ longest_at g m = t.many in
            subst (λ (j : ℕ). Earlier all (longest_at g j) (longest_line j (link_of p j))) n
            (rw c at (earlier_still (lower_case_line m k) (earlier_still (shortest_line m k) longest_newest)))
        by (inr q) =
            earlier_still (lower_case_line m k)
            (earlier_still (shortest_line m k) (earlier_still (longest_line m k) (t.placed.longest_line_at i (omega arith))))

    lower_case_by : (i : ℕ) → i < suc m → Earlier all (lower_case_at g i) (lower_case_line i (link_of p i))
    lower_case_by i h = by (eq-or-lt_of_le h)
      where
        by : (suc i ≡ suc m) ⊎ (suc i < suc m) → Earlier all (lower_case_at g i) (lower_case_line i (link_of p i))
        by (inl q) =
            let n : m ≡ i = omega arith in
            let d : length ms ≡ g + 3 * m = t.many in
            let c : suc (suc (length ms)) ≡ lower_case_at g m = omega arith in
            subst (λ (j : ℕ). Earlier all (lower_case_at g j) (lower_case_line j (link_of p j))) n
            (rw (← c) (record { before = omega arith; is = newest (lower_case_line m k) (shortest_line m k ∷ longest_line m k ∷ ms) }))
        by (inr q) =
            earlier_still (lower_case_line m k)
            (earlier_still (shortest_line m k) (earlier_still (longest_line m k) (t.placed.lower_case_line_at i (omega arith))))

threes : (p : Plan) (ls : List Line) (m : ℕ) → ended (each (λ i. link_tries i (link_of p i)) m ls) ≡ false
    → Threes p (length ls) m (each (λ i. link_tries i (link_of p i)) m ls)
threes p ls zero e = record {
  placed = record { longest_line_at = λ i h. absurd (omega arith); lower_case_line_at = λ i h. absurd (omega arith) };
  many = omega arith;
}
threes p ls (suc m) e =
    let before : List Line = each (λ i. link_tries i (link_of p i)) m ls in
    let n : ended before ≡ false =
    going_back (link_tries m (link_of p m)) (each_stops (λ c. try (link_offer m (link_of p m) c)) (λ c. try_stops (link_offer m (link_of p m) c)) 3) before e in
    rw (three_lines m (link_of p m) before e) (three_more p (length ls) m before (threes p ls m n))

pub given_placed : (p : Plan) → ended (given p) ≡ false → Placed p (length (before_links p)) (length p.links) (given p)
unfolding given links
given_placed p e = (threes p (before_links p) (length p.links) e).placed

-- ---- how each offered line follows

same_line : {a b : Line} → line a ≡ line b → a ≡ b
same_line e = cc

nothing_offered : {A : Type 0} {l : Line} → nothing ≡ line l → A
nothing_offered e = let z : ◌≡◌ {A = ℕ} 0 1 = cc in absurd (omega arith)

start_follows : (p : Plan) (x : ℕ) → x < p.points → (ls : List Line) (l : Line) → start_offer x ls ≡ line l → Follows p ls l
unfolding start_offer
start_follows p x h ls l q = start h (sym (same_line q))

limit_follows : (p : Plan) (i : ℕ) → i < length p.limits → (ls : List Line) (l : Line) → limit_offer i (limit_of p i) ls ≡ line l → Follows p ls l
unfolding limit_offer
limit_follows p i h ls l q = limit h (sym (same_line q))

link_follows : (p : Plan) (i : ℕ) → i < length p.links → (c : ℕ) (ls : List Line) (l : Line) → link_offer i (link_of p i) c ls ≡ line l → Follows p ls l
unfolding link_offer
link_follows p i h zero ls l q = longest h (sym (same_line q))
link_follows p i h (suc zero) ls l q = shortest h (sym (same_line q))
link_follows p i h (suc (suc c)) ls l q = lower_case_rule h (sym (same_line q))

-- an ordinary pair's best line is an ordinary line
ordinary_best : {x y : ℕ} {ls : List Line} {i : ℕ} {w : ℤ} → BestLine Strict x y ls i w (line_at ls i) → Ordinary ls i (line_at ls i)
ordinary_best b = record { earlier = b.earlier; strict = b.side }

strict_follows : (p : Plan) (y x z : ℕ) (ls : List Line) (l : Line) → strict_offer y x z ls ≡ line l → Follows p ls l
unfolding strict_offer
strict_follows p y x z ls l = by (best Strict x y ls) (best Strict y z ls) refl refl
  where
    by : (a b : Best) → best Strict x y ls ≡ a → best Strict y z ls ≡ b → joined strict_join x z a b ≡ line l → Follows p ls l
    by (made i v) (made j w) ea eb q =
        let a : BestLine Strict x y ls i v (line_at ls i) = best_line Strict x y ls i v ea in
        let b : BestLine Strict y z ls j w (line_at ls j) = best_line Strict y z ls j w eb in
        join (ordinary_best a) (ordinary_best b) (a.to ∙ sym b.from) (rw (a.from, b.to, a.weight, b.weight) (sym (same_line q)))
    by (made i v) none ea eb q = nothing_offered q
    by (made i v) still ea eb q = nothing_offered q
    by none b ea eb q = nothing_offered q
    by still b ea eb q = nothing_offered q

open_follows : (p : Plan) (y x z : ℕ) (ls : List Line) (l : Line) → open_offer y x z ls ≡ line l → Follows p ls l
unfolding open_offer
open_follows p y x z ls l = by (best Open x y ls) (best Open y z ls) refl refl
  where
    by : (a b : Best) → best Open x y ls ≡ a → best Open y z ls ≡ b → joined open_join x z a b ≡ line l → Follows p ls l
    by (made i v) (made j w) ea eb q =
        let a : BestLine Open x y ls i v (line_at ls i) = best_line Open x y ls i v ea in
        let b : BestLine Open y z ls j w (line_at ls j) = best_line Open y z ls j w eb in
        open_join_rule a.earlier b.earlier (a.to ∙ sym b.from) (rw (a.from, b.to, a.weight, b.weight) (sym (same_line q)))
    by (made i v) none ea eb q = nothing_offered q
    by (made i v) still ea eb q = nothing_offered q
    by none b ea eb q = nothing_offered q
    by still b ea eb q = nothing_offered q

module _ (p : Plan) (g : ℕ) (ls : List Line) (k : Placed p g (length p.links) ls) (l : Line) where
  lower_follows : (h s : ℕ) → h < length p.links → s < length p.links
      → lower_offer (lower_case_at g h) (link_of p h) (link_of p s) ls ≡ line l → Follows p ls l
  unfolding lower_offer
  lower_follows h s hh hs = other (eqb (link_of p s).con (link_of p h).con) refl
    where
      below : ((link_of p s).con ≡ (link_of p h).con → ⊥) → (j : ℕ) (w : ℤ) → best Strict (link_of p h).con (link_of p s).con ls ≡ made j w
          → (b : Bool) → lt_z w (spread (link_of p s)) ≡ b
          → cond b
          (line (record { kind = by_lower; from = (link_of p h).act; to = (link_of p s).con; weight = pos (link_of p h).short +ℤ w; first = lower_case_at g h; second = j }))
          nothing
          ≡ line l
          → Follows p ls l
      below ne j w e true t q =
          let b : BestLine Strict (link_of p h).con (link_of p s).con ls j w (line_at ls j) = best_line Strict (link_of p h).con (link_of p s).con ls j w e in
          lower hh hs (k.lower_case_line_at h hh) (ordinary_best b) b.from b.to
          (record { other = ne; below = rw b.weight (lt_z_yes (rw t tt)) })
          (rw b.weight (sym (same_line q)))
      below ne j w e false t q = nothing_offered q

      by : ((link_of p s).con ≡ (link_of p h).con → ⊥) → (a : Best) → best Strict (link_of p h).con (link_of p s).con ls ≡ a
          → lower_from (lower_case_at g h) (link_of p h) (link_of p s) a ≡ line l → Follows p ls l
      by ne (made j w) e q = below ne j w e (lt_z w (spread (link_of p s))) refl q
      by ne none e q = nothing_offered q
      by ne still e q = nothing_offered q

      other : (b : Bool) → eqb (link_of p s).con (link_of p h).con ≡ b
          → cond b nothing (lower_from (lower_case_at g h) (link_of p h) (link_of p s) (best Strict (link_of p h).con (link_of p s).con ls)) ≡ line l
          → Follows p ls l
      other true t q = nothing_offered q
      other false t q = by (eqb-false (link_of p s).con (link_of p h).con t) (best Strict (link_of p h).con (link_of p s).con ls) refl q

  upper_follows : (x h : ℕ) → h < length p.links → upper_offer (longest_at g h) x (link_of p h) ls ≡ line l → Follows p ls l
  unfolding upper_offer
  upper_follows x h hh = by (best Strict x (link_of p h).con ls) refl
    where
      by : (a : Best) → best Strict x (link_of p h).con ls ≡ a → upper_from (longest_at g h) x (link_of p h) a ≡ line l → Follows p ls l
      by (made i v) e q =
          let a : BestLine Strict x (link_of p h).con ls i v (line_at ls i) = best_line Strict x (link_of p h).con ls i v e in
          upper hh (ordinary_best a) (k.longest_line_at h hh) a.to (rw (a.from, a.weight) (sym (same_line q)))
      by none e q = nothing_offered q
      by still e q = nothing_offered q

-- ---- every line

given_followed : (p : Plan) → Followed p (given p)
given_followed p =
    given_kept p (Followed p) (record {
      start = λ x h. try_keeps (Followed p) (start_offer x) (λ ls f e l q. (start_follows p x h ls l q, f));
      limit = λ i h. try_keeps (Followed p) (limit_offer i (limit_of p i)) (λ ls f e l q. (limit_follows p i h ls l q, f));
      link = λ i h c. try_keeps (Followed p) (link_offer i (link_of p i) c) (λ ls f e l q. (link_follows p i h c ls l q, f));
    }) tt

-- the lines follow, and those of the links stand where the rules name them
record Naming (p : Plan) (ls : List Line) : Type 0 where
  followed : Followed p ls
  placed : Placed p (length (before_links p)) (length p.links) ls

named : (p : Plan) {ls : List Line} {l : Line} → Naming p ls → Follows p ls l → Naming p (l ∷ ls)
named p {l} n f = record { followed = (f, n.followed); placed = placed_still l n.placed }

sweeps_followed : (p : Plan) (c : ℕ) → Followed p (sweeps p c)
sweeps_followed p c = by (ended (given p)) refl
  where
    g : ℕ
    g = length (before_links p)

    kept : SweepKeeps p g (Naming p)
    kept = record {
      strict = λ y x z. try_keeps (Naming p) (strict_offer y x z) (λ ls n e l q. named p n (strict_follows p y x z ls l q));
      lower = λ i j hi hj. try_keeps (Naming p) (lower_offer (lower_case_at g i) (link_of p i) (link_of p j))
          (λ ls n e l q. named p n (lower_follows p g ls n.placed l i j hi hj q));
      upper = λ x i hi. try_keeps (Naming p) (upper_offer (longest_at g i) x (link_of p i))
          (λ ls n e l q. named p n (upper_follows p g ls n.placed l x i hi q));
      weak = λ y x z. try_keeps (Naming p) (open_offer y x z) (λ ls n e l q. named p n (open_follows p y x z ls l q));
    }

    by : (b : Bool) → ended (given p) ≡ b → Followed p (sweeps p c)
    by true e = rw (sweeps_stop p e c) (given_followed p)
    by false e = (sweeps_kept p (Naming p) kept (record { followed = given_followed p; placed = given_placed p e }) c).followed

pub reasons_follow : (p : Plan) (ls : List Line) → ReasonList p ls → Followed p ls
reasons_follow p ls r = rw r.swept (sweeps_followed p r.count)
