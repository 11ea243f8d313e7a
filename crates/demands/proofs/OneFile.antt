-- One file with all of them exists: the bytes of the plan with the limits added and the file's own, each repeat left out. It exists only
-- where a file has room for those that are left: no limit stands twice among them, and such a file has them all. Assumes nothing.
use mathlib.Core.Path.{◌≡◌, refl, sym, ap, ◌∙◌}
use mathlib.Core.Logic.{⊎_elim}
use mathlib.Core.Bool.{Bool, true, false, cond, ◌&&◌, false≢true, or-true}
use mathlib.Core.List.Memᴰ
use mathlib.Core.List.{List, [], ◌∷◌, ◌++◌, Memᴰ}
use Prim.Native.Nat.{ℕ, ◌≤◌}
use native.Mathlib.Omega.{arith}
use lib.Dec.{eqb}
use lib.ListN.{length}
use lib.IntN.{ℤ, pos, negsuc}
use lib.Signed.{le_z}
use borrow.Author.Tests.{eqb-true, eq-eqb, le-leb}
use Rattle.whole.proofs.Order.{ints}
use Rattle.whole.proofs.Bits.{le_z_true}
use Rattle.rules.specs.Plan.{Limit, Plan, version1, LimitInRange, InRange}
use Rattle.rules.specs.Answers.{Done}
use Rattle.rules.specs.Demands.{AllIn}
use Rattle.rules.proofs.Different.{Different, no_longer}
use Rattle.plan.specs.Layout.{plan_of, plan_bytes}
use Rattle.plan.specs.File.{file_answer}
use Rattle.plan.proofs.TestsMade.{both, and}
use Rattle.plan.proofs.SoundFile.{good}
use Rattle.plan.proofs.BytesOfPlans.{bytes_bytes, version1_narrow, range_fits, bytes_read, bytes_sound}
use Rattle.demands.specs.Demand3.{OneFile, same_limit, stands_in, different, SomeFile}

-- ---- each repeat left out

-- limits that the test takes for one are one
same_limit_lem : (m n : Limit) → same_limit m n ≡ true → m ≡ n
same_limit_lem m n e =
    let from = eqb m.from n.from in
    let to = eqb m.to n.to in
    let least = le_z m.weight n.weight in
    let p = both (from && to && least) (le_z n.weight m.weight) e in
    let q = both (from && to) least p.0 in
    let s = both from to q.0 in
    let a : m.from ≡ n.from = eqb-true m.from n.from s.0 in
    let b : m.to ≡ n.to = eqb-true m.to n.to s.1 in
    let c : m.weight ≡ n.weight = omega (ints, le_z_true m.weight n.weight q.1, le_z_true n.weight m.weight p.1) in
    λ i. record { from = a i; to = b i; weight = c i }

-- and a limit is taken for itself
same_self : (m : Limit) → same_limit m m ≡ true
same_self m = and (and (and (eq-eqb m.from m.from refl) (eq-eqb m.to m.to refl)) (least m.weight)) (least m.weight)
  where
    least : (z : ℤ) → le_z z z ≡ true
    least (pos n) = le-leb n n (omega arith)
    least (negsuc n) = le-leb n n (omega arith)

-- a limit that stands in a list is a member
stands_member : (m : Limit) (ms : List Limit) → stands_in m ms ≡ true → Memᴰ m ms
stands_member m [] e = absurd (false≢true e)
stands_member m (n ∷ ns) e = by (same_limit m n) refl (stands_member m ns)
  where
    by : (t : Bool) → same_limit m n ≡ t → (stands_in m ns ≡ true → Memᴰ m ns) → Memᴰ m (n ∷ ns)
    by true q later = Memᴰ.head (same_limit_lem m n q)
    by false q later = Memᴰ.tail (later (rw q at e))

-- and a member stands in it
member_stands : {m : Limit} {ms : List Limit} → Memᴰ m ms → stands_in m ms ≡ true
member_stands (Memᴰ.head {x} e) = rw (e, same_self x)
member_stands (Memᴰ.tail h) = rw (member_stands h, or-true)

-- no limit is lost
none_lost : (ms : List Limit) → AllIn ms (different ms)
unfolding different
none_lost [] m h = h
none_lost (x ∷ xs) m h = by (stands_in x xs) refl (none_lost xs m)
  where
    by : (t : Bool) → stands_in x xs ≡ t → (Memᴰ m xs → Memᴰ m (different xs)) → Memᴰ m (cond t (different xs) (x ∷ different xs))
    by true q kept = kept (⊎_elim (λ (e : m ≡ x). rw e (stands_member x xs q)) (λ t. t) (Memᴰ.cases_cons h))
    by false q kept = ⊎_elim (λ e. Memᴰ.head e) (λ t. Memᴰ.tail (kept t)) (Memᴰ.cases_cons h)

-- and none is new
none_new : (ms : List Limit) → AllIn (different ms) ms
unfolding different
none_new [] m h = h
none_new (x ∷ xs) m h = by (stands_in x xs) (none_new xs m) h
  where
    by : (t : Bool) → (Memᴰ m (different xs) → Memᴰ m xs) → Memᴰ m (cond t (different xs) (x ∷ different xs)) → Memᴰ m (x ∷ xs)
    by true was k = Memᴰ.tail (was k)
    by false was k = ⊎_elim (λ e. Memᴰ.head e) (λ t. Memᴰ.tail (was t)) (Memᴰ.cases_cons k)

-- ---- none of them twice

different_once : (ms : List Limit) → Different (different ms)
unfolding different
different_once [] = tt
different_once (x ∷ xs) = by (stands_in x xs) refl (different_once xs)
  where
    by : (t : Bool) → stands_in x xs ≡ t → Different (different xs) → Different (cond t (different xs) (x ∷ different xs))
    by true q d = d
    by false q d = (λ m. false≢true (sym q ∙ member_stands (none_new xs x m)), d)

-- ---- the file

-- its plan is in range, so its bytes are sound and are read as that plan
pub some_file : (s : List ℕ) (all : List Limit) → file_answer s ≡ Done
    → ((m : Limit) → Memᴰ m all → LimitInRange version1 (plan_of s).points m)
    → length (different (all ++ (plan_of s).limits)) ≤ version1.limits → SomeFile s all
some_file s all e in_range few =
    let every : List Limit = all ++ (plan_of s).limits in
    let p : Plan = record { points = (plan_of s).points; limits = different every; links = (plan_of s).links } in
    let g : InRange version1 (plan_of s) = (good s e).ranges in
    let ranges : InRange version1 p = record {
      some_point = g.some_point;
      points = g.points;
      limits = few;
      links = g.links;
      limit = λ m h. ⊎_elim (in_range m) (g.limit m) (Memᴰ.append_cases all (none_new every m h));
      link = g.link;
      unshared = g.unshared;
    } in
    let read : plan_of (plan_bytes p) ≡ p = bytes_read p (range_fits version1 version1_narrow p ranges) in
    record {
      file = plan_bytes p;
      bytes = bytes_bytes p;
      one = record {
        sound = bytes_sound p ranges;
        points = ap (λ (x : Plan). x.points) read;
        links = ap (λ (x : Plan). x.links) read;
        none_more = rw read (none_new every);
        none_less = rw read (none_lost every);
      };
    }

-- and only there: a sound file has no more limits
pub only_file : (s : List ℕ) (all : List Limit) (one : List ℕ) → OneFile s all one → length (different (all ++ (plan_of s).limits)) ≤ version1.limits
only_file s all one f =
    let every : List Limit = all ++ (plan_of s).limits in
    omega (arith, (good one f.sound).ranges.limits, no_longer (different every) (plan_of one).limits (different_once every) (λ m h. f.none_less m (none_new every m h)))
