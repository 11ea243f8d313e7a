-- Records in file order, one at a time: what a turn of each loop does to the answer that it is working out.
-- `records f i (m - i)` are the records from index i to the last, `earlier f i` those before it. Assumes nothing.
use mathlib.Core.Path.{◌≡◌, sym, ap, ◌∙◌}
use mathlib.Core.Bool.{Bool}
use mathlib.Core.List.{◌∷◌}
use Prim.Native.Nat.{ℕ, suc, ◌+◌, ◌-◌, ◌<◌}
use native.Mathlib.Numerals.{add-one}
use native.Mathlib.Omega.{arith}
use Rattle.std.specs.Prelude.{Err}
use Rattle.rules.specs.Plan.{Limit, Link, Ranges}
use Rattle.rules.specs.Answers.{Answer, Done}
use Rattle.rules.specs.declared.Refusal.{Refusal}
use Rattle.plan.specs.Layout.{records, earlier}
use Rattle.plan.specs.File.{fresh, limit_answer, limits_answer, link_answer, links_answer}

-- ---- the records that are left

records_next : {A : Type 0} (f : ℕ → A) (i m : ℕ) → i < m → records f i (m - i) ≡ f i ∷ records f (i + 1) (m - (i + 1))
records_next f i m h =
    let e : m - i ≡ suc (m - (i + 1)) = omega arith in
    rw (e, add-one)

-- ---- limits: a is the answer that is worked out, x is limit i as a call read it, b its answer

module _ (r : Ranges) (n : ℕ) (f : ℕ → Limit) (i m : ℕ) {a : Answer} (w : a ≡ limits_answer r n i (records f i (m - i))) where
  module _ (h : i < m) {x : Limit} (e : x ≡ f i) {b : Answer} (q : b ≡ limit_answer r n i x) where
    pub limits_next : b ≡ Done → a ≡ limits_answer r n (i + 1) (records f (i + 1) (m - (i + 1)))
    limits_next u = w ∙ rw (records_next f i m h, ← e, ← q, u, add-one)

    pub limits_stop : {z : Refusal} → b ≡ Err z → Err z ≡ a
    limits_stop u = sym (w ∙ rw (records_next f i m h, ← e, ← q, u))

-- ---- links: a is the answer, x is link i, d whether its contingent point is new, b its answer

module _ (r : Ranges) (n m : ℕ) (f : ℕ → Link) (i k : ℕ) {a : Answer} (z : a ≡ links_answer r n m i (earlier f i) (records f i (k - i))) where
  module _ (h : i < k) {x : Link} (e : x ≡ f i) {d : Bool} (v : d ≡ fresh x.con (earlier f i))
      {b : Answer} (q : b ≡ link_answer r n m i d x) where
    pub links_next : b ≡ Done → a ≡ links_answer r n m (i + 1) (earlier f (i + 1)) (records f (i + 1) (k - (i + 1)))
    links_next u =
        z
        ∙ rw (records_next f i k h, ← e, ← v, ← q, u, add-one)
        (ap (λ (y : Link). links_answer r n m (suc i) (y ∷ earlier f i) (records f (suc i) (k - suc i))) e)

    pub links_stop : {y : Refusal} → b ≡ Err y → Err y ≡ a
    links_stop u = sym (z ∙ rw (records_next f i k h, ← e, ← v, ← q, u))
