-- The tests decide what the paper's ranges say, and an answer is Done exactly where no test refuses.
-- Assumes nothing.
use mathlib.Core.Path.{◌≡◌, refl, sym, subst}
use mathlib.Core.Logic.{◌≢◌, ⊎_elim}
use mathlib.Core.Bool.{Bool, true, false, not, ◌&&◌}
use mathlib.Core.List.Memᴰ
use mathlib.Core.List.{List, [], ◌∷◌, Memᴰ}
use Prim.Native.Nat.{ℕ, suc, ◌≤◌}
use lib.Dec.{T, leb, ltb, eqb}
use lib.IntN.{ℤ, pos, neg_ℤ}
use lib.Signed.{le_z, ◌≤ℤ◌}
use borrow.Author.Tests.{ltb-true, leb-true, eqb-false, not-true, lt-ltb, le-leb, ne_eqb}
use Rattle.rules.specs.Plan.{Limit, Link, Ranges, LimitInRange, LinkInRange, Unshared}
use Rattle.rules.specs.Answers.{Done, BadPoints, BadCounts, BadLayout, BadLimit, BadLink, RepeatedLink}
use Rattle.plan.proofs.TestsMade.{both, and}
use Rattle.answers.specs.Order.{◌then◌, unless}
use Rattle.answers.proofs.CodeZero.{then_done, done_then, unless_done, done_unless}
use Rattle.plan.specs.File.{points_fit, counts_fit, counts_answer, weight_fits, contingent_fits, longest_fits, limit_fits, link_fits, fresh, limit_place, link_place, repeat_place}
use Rattle.plan.specs.File.{limit_answer, limits_answer, link_answer, links_answer}
use Rattle.plan.specs.Faults.{WeightRight, ContingentRight, LongestRight}

-- ---- tests

le_z_le : (a b : ℤ) → le_z a b ≡ true → a ≤ℤ b
le_z_le a b e = record { le = subst T (sym e) tt }

le_le_z : (a b : ℤ) → a ≤ℤ b → le_z a b ≡ true
le_le_z a b h = passes (le_z a b) h.le
  where
    passes : (t : Bool) → T t → t ≡ true
    passes true x = refl
    passes false x = absurd x

-- a test for two different numbers
pub differ : (a b : ℕ) → not (eqb a b) ≡ true → a ≢ b
differ a b e = eqb-false a b (not-true (eqb a b) e)

are_different : (a b : ℕ) → a ≢ b → not (eqb a b) ≡ true
are_different a b h = rw (ne_eqb a b h)

-- ---- n, m and k

-- what a Done answer to n, m and k says of them
pub record CountsOk (r : Ranges) (n m k : ℕ) (laid : Bool) : Type 0 where
  pub some_point : 1 ≤ n
  pub points : n ≤ r.points
  pub limits : m ≤ r.limits
  pub links : k ≤ r.links
  pub as_laid : laid ≡ true

pub counts_ok : (r : Ranges) (n m k : ℕ) (laid : Bool) → counts_answer r n m k laid ≡ Done → CountsOk r n m k laid
unfolding counts_answer
counts_ok r n m k laid e =
    let three = points_fit r n in
    let four = counts_fit r m k in
    let p = then_done (unless three BadPoints) (unless four BadCounts then unless laid BadLayout) e in
    let q = then_done (unless four BadCounts) (unless laid BadLayout) p.1 in
    let a = both (leb 1 n) (leb n r.points) (unless_done three BadPoints refl p.0) in
    let b = both (leb m r.limits) (leb k r.links) (unless_done four BadCounts refl q.0) in
    record {
      some_point = leb-true 1 n a.0;
      points = leb-true n r.points a.1;
      limits = leb-true m r.limits b.0;
      links = leb-true k r.links b.1;
      as_laid = unless_done laid BadLayout refl q.1;
    }

pub ok_counts : (r : Ranges) (n m k : ℕ) (laid : Bool) → CountsOk r n m k laid → counts_answer r n m k laid ≡ Done
unfolding counts_answer
ok_counts r n m k laid c =
    let p : points_fit r n ≡ true = and (le-leb 1 n c.some_point) (le-leb n r.points c.points) in
    let q : counts_fit r m k ≡ true = and (le-leb m r.limits c.limits) (le-leb k r.links c.links) in
    simp (p, q, c.as_laid)

-- ---- a weight, a contingent point and a longest duration

pub weight_ok : (r : Ranges) (m : Limit) → weight_fits r m.weight ≡ true → WeightRight r m
weight_ok r m e =
    let least = neg_ℤ (pos r.weight) in
    let most = pos r.weight in
    let p = both (le_z least m.weight) (le_z m.weight most) e in
    (le_z_le least m.weight p.0, le_z_le m.weight most p.1)

pub ok_weight : (r : Ranges) (m : Limit) → WeightRight r m → weight_fits r m.weight ≡ true
ok_weight r m (l, u) = and (le_le_z (neg_ℤ (pos r.weight)) m.weight l) (le_le_z m.weight (pos r.weight) u)

pub contingent_ok : (n : ℕ) (k : Link) → contingent_fits n k ≡ true → ContingentRight n k
contingent_ok n k e =
    let below = ltb k.con n in
    let differs = not (eqb k.act k.con) in
    let p = both (below && differs) (not (eqb k.con 0)) e in
    let q = both below differs p.0 in
    (ltb-true k.con n q.0, differ k.act k.con q.1, differ k.con 0 p.1)

pub ok_contingent : (n : ℕ) (k : Link) → ContingentRight n k → contingent_fits n k ≡ true
ok_contingent n k (l, d, z) = and (and (lt-ltb k.con n l) (are_different k.act k.con d)) (are_different k.con 0 z)

pub longest_ok : (r : Ranges) (k : Link) → longest_fits r k ≡ true → LongestRight r k
longest_ok r k e =
    let p = both (leb k.short k.long) (leb k.long r.weight) e in
    (leb-true k.short k.long p.0, leb-true k.long r.weight p.1)

pub ok_longest : (r : Ranges) (k : Link) → LongestRight r k → longest_fits r k ≡ true
ok_longest r k (o, m) = and (le-leb k.short k.long o) (le-leb k.long r.weight m)

-- ---- limits

pub limit_ok : (r : Ranges) (n : ℕ) (m : Limit) → limit_fits r n m ≡ true → LimitInRange r n m
unfolding limit_fits
limit_ok r n m e =
    let to = ltb m.to n in
    let weight = weight_fits r m.weight in
    let p = both (ltb m.from n) (to && (weight && true)) e in
    let q = both to (weight && true) p.1 in
    let w = weight_ok r m (both weight true q.1).0 in
    record { from = ltb-true m.from n p.0; to = ltb-true m.to n q.0; least = w.0; most = w.1 }

pub ok_limit : (r : Ranges) (n : ℕ) (m : Limit) → LimitInRange r n m → limit_fits r n m ≡ true
unfolding limit_fits
ok_limit r n m h =
    and (lt-ltb m.from n h.from) (and (lt-ltb m.to n h.to) (and (ok_weight r m (h.least, h.most)) refl))

-- the answer to one limit is Done exactly where it is in range
pub limit_taken : (r : Ranges) (n i : ℕ) (m : Limit) → limit_answer r n i m ≡ Done → LimitInRange r n m
limit_taken r n i m e = limit_ok r n m (unless_done (limit_fits r n m) (BadLimit (limit_place r n i m)) refl e)

pub take_limit : (r : Ranges) (n i : ℕ) (m : Limit) → LimitInRange r n m → limit_answer r n i m ≡ Done
take_limit r n i m h = done_unless (limit_fits r n m) (BadLimit (limit_place r n i m)) (ok_limit r n m h)

-- the limits' answer is Done exactly where each is in range
pub limits_ok : (r : Ranges) (n i : ℕ) (ms : List Limit) → limits_answer r n i ms ≡ Done → (m : Limit) → Memᴰ m ms → LimitInRange r n m
limits_ok r n i [] e m h = absurd (Memᴰ.not-nil h)
limits_ok r n i (x ∷ xs) e m h =
    let p = then_done (limit_answer r n i x) (limits_answer r n (suc i) xs) e in
    ⊎_elim
    (λ (q : m ≡ x). rw q (limit_taken r n i x p.0))
    (λ (t : Memᴰ m xs). limits_ok r n (suc i) xs p.1 m t)
    (Memᴰ.cases_cons h)

pub ok_limits : (r : Ranges) (n i : ℕ) (ms : List Limit) → ((m : Limit) → Memᴰ m ms → LimitInRange r n m) → limits_answer r n i ms ≡ Done
ok_limits r n i [] h = refl
ok_limits r n i (x ∷ xs) h =
    done_then (limit_answer r n i x) (limits_answer r n (suc i) xs) (take_limit r n i x (h x (Memᴰ.head refl)))
    (ok_limits r n (suc i) xs (λ m t. h m (Memᴰ.tail t)))

-- ---- links

pub ok_link : (r : Ranges) (n : ℕ) (k : Link) → LinkInRange r n k → link_fits r n k ≡ true
unfolding link_fits
ok_link r n k h =
    let con = ok_contingent n k (h.con, h.differs, h.not_start) in
    let long = ok_longest r k (h.order, h.most) in
    and (lt-ltb k.act n h.act) (and con (and (le-leb 1 k.short h.least) (and long refl)))

pub link_ok : (r : Ranges) (n : ℕ) (k : Link) → link_fits r n k ≡ true → LinkInRange r n k
unfolding link_fits
link_ok r n k e =
    let con = contingent_fits n k in
    let short = leb 1 k.short in
    let long = longest_fits r k in
    let p = both (ltb k.act n) (con && (short && (long && true))) e in
    let q = both con (short && (long && true)) p.1 in
    let s = both short (long && true) q.1 in
    let c = contingent_ok n k q.0 in
    let l = longest_ok r k (both long true s.1).0 in
    record {
      act = ltb-true k.act n p.0;
      con = c.0;
      differs = c.1;
      not_start = c.2;
      least = leb-true 1 k.short s.0;
      order = l.0;
      most = l.1;
    }

-- the answer to one link is Done exactly where it is in range and its contingent point is new
pub link_taken : (r : Ranges) (n m i : ℕ) (new : Bool) (k : Link) → link_answer r n m i new k ≡ Done → LinkInRange r n k × (new ≡ true)
link_taken r n m i new k e =
    let seven = BadLink (link_place r n m i k) in
    let eight = RepeatedLink (repeat_place m i) in
    let p = then_done (unless (link_fits r n k) seven) (unless new eight) e in
    (link_ok r n k (unless_done (link_fits r n k) seven refl p.0), unless_done new eight refl p.1)

pub take_link : (r : Ranges) (n m i : ℕ) (new : Bool) (k : Link) → LinkInRange r n k → new ≡ true → link_answer r n m i new k ≡ Done
take_link r n m i new k h e =
    let seven = BadLink (link_place r n m i k) in
    let eight = RepeatedLink (repeat_place m i) in
    done_then (unless (link_fits r n k) seven) (unless new eight) (done_unless (link_fits r n k) seven (ok_link r n k h)) (done_unless new eight e)

-- a point is fresh exactly where it is no link's contingent point
pub fresh_ok : (c : ℕ) (ks : List Link) → fresh c ks ≡ true → (k : Link) → Memᴰ k ks → k.con ≢ c
fresh_ok c [] e k h = absurd (Memᴰ.not-nil h)
fresh_ok c (x ∷ xs) e k h =
    let p = both (not (eqb x.con c)) (fresh c xs) e in
    ⊎_elim
    (λ (q : k ≡ x). rw q (differ x.con c p.0))
    (λ (t : Memᴰ k xs). fresh_ok c xs p.1 k t)
    (Memᴰ.cases_cons h)

pub ok_fresh : (c : ℕ) (ks : List Link) → ((k : Link) → Memᴰ k ks → k.con ≢ c) → fresh c ks ≡ true
ok_fresh c [] h = refl
ok_fresh c (x ∷ xs) h =
    and (are_different x.con c (h x (Memᴰ.head refl))) (ok_fresh c xs (λ k t. h k (Memᴰ.tail t)))

-- what a Done answer to links says of them, after earlier ones
pub record LinksOk (r : Ranges) (n : ℕ) (earlier ks : List Link) : Type 0 where
  pub each : (k : Link) → Memᴰ k ks → LinkInRange r n k
  pub apart : (k : Link) → Memᴰ k ks → (j : Link) → Memᴰ j earlier → j.con ≢ k.con
  pub unshared : Unshared ks

pub links_ok : (r : Ranges) (n m i : ℕ) (earlier ks : List Link) → links_answer r n m i earlier ks ≡ Done → LinksOk r n earlier ks
links_ok r n m i earlier [] e =
    record {
      each = λ k h. absurd (Memᴰ.not-nil h);
      apart = λ k h j g. absurd (Memᴰ.not-nil h);
      unshared = tt;
    }
links_ok r n m i earlier (x ∷ xs) e =
    let p = then_done (link_answer r n m i (fresh x.con earlier) x) (links_answer r n m (suc i) (x ∷ earlier) xs) e in
    let q = link_taken r n m i (fresh x.con earlier) x p.0 in
    let new = fresh_ok x.con earlier q.1 in
    let rest = links_ok r n m (suc i) (x ∷ earlier) xs p.1 in
    record {
      each =
          λ k h. ⊎_elim
          (λ (g : k ≡ x). rw g q.0)
          (λ (t : Memᴰ k xs). rest.each k t)
          (Memᴰ.cases_cons h);
      apart =
          λ k h j g. ⊎_elim
          (λ (y : k ≡ x). rw y (new j g))
          (λ (t : Memᴰ k xs). rest.apart k t j (Memᴰ.tail g))
          (Memᴰ.cases_cons h);
      unshared = (λ j t s. rest.apart j t x (Memᴰ.head refl) (sym s), rest.unshared);
    }

pub ok_links : (r : Ranges) (n m i : ℕ) (earlier ks : List Link) → LinksOk r n earlier ks → links_answer r n m i earlier ks ≡ Done
ok_links r n m i earlier [] h = refl
ok_links r n m i earlier (x ∷ xs) h =
    let new = ok_fresh x.con earlier (h.apart x (Memᴰ.head refl)) in
    done_then (link_answer r n m i (fresh x.con earlier) x) (links_answer r n m (suc i) (x ∷ earlier) xs)
    (take_link r n m i (fresh x.con earlier) x (h.each x (Memᴰ.head refl)) new)
    (ok_links r n m (suc i) (x ∷ earlier) xs (rest h))
  where
    rest : LinksOk r n earlier (x ∷ xs) → LinksOk r n (x ∷ earlier) xs
    rest g =
        record {
          each = λ k t. g.each k (Memᴰ.tail t);
          apart =
              λ k t j y. ⊎_elim
              (λ (e : j ≡ x). rw e (λ s. g.unshared.0 k t (sym s)))
              (λ (u : Memᴰ j earlier). g.apart k (Memᴰ.tail t) j u)
              (Memᴰ.cases_cons y);
          unshared = g.unshared.1;
        }
