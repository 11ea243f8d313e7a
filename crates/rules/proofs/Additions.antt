-- Sequences of additions: the tables are always those of the plan with the limits taken; refusals stay refusals; nothing lies beyond the
-- closed range. Assumes nothing.
use mathlib.Core.Path.{refl, sym, subst}
use mathlib.Core.Logic.{◌≢◌, ◌⊎◌, ◌↔◌, ⊎_elim}
use mathlib.Core.List.Memᴰ
use mathlib.Core.List.{List, [], ◌∷◌, Memᴰ}
use Prim.Native.Nat.{ℕ, ◌*◌, ◌-◌, ◌≤◌}
use native.Mathlib.Nat.{mul-le-mul_left, le_trans}
use native.Mathlib.Omega.{arith}
use Rattle.rules.specs.Plan.{Limit, Plan, Ranges, LimitInRange, InRange}
use Rattle.rules.proofs.Coherence.{Coherent}
use Rattle.rules.specs.Walks.{Uncontrollable}
use Rattle.rules.specs.Cells.{Table}
use Rattle.rules.specs.Tables.{Tables}
use Rattle.rules.specs.Additions.{with_cells, with_limit, with_limits, Additions, opened, taken, refused}
use Rattle.rules.specs.Calls.{Beyond}
use Rattle.rules.specs.Demands.{AllIn}
use Rattle.rules.proofs.Points.{Pointed, Weighted, in_range_weighted}
use Rattle.rules.proofs.Domination.{Dominates, tables_move, uncontrollable_dominated}
use Rattle.rules.proofs.Justified.{tables_controllable}
use Rattle.rules.proofs.TablesClosed.{wider, strict_reach, open_reach}
use Rattle.rules.proofs.CellLimits.{includes, limit_dominates_cells, cells_dominate_limit}

-- ---- limits in range

-- every limit of the list is in range
abbrev pub AllInRange : Ranges → ℕ → List Limit → Type 0
AllInRange r n ms = (m : Limit) → Memᴰ m ms → LimitInRange r n m

pub taken_in_range : {r : Ranges} {p : Plan} {ts rs : List Limit} {strict weak : Table} → Additions r p ts rs strict weak
    → AllInRange r p.points ts
taken_in_range (opened t) m h = absurd (Memᴰ.not-nil h)
taken_in_range {r} {p} (taken {m = l} a h t) m k =
    ⊎_elim (λ e. subst (λ (x : Limit). LimitInRange r p.points x) (sym e) h) (λ i. taken_in_range a m i) (Memᴰ.cases_cons k)
taken_in_range (refused a h u) m k = taken_in_range a m k

pub refused_in_range : {r : Ranges} {p : Plan} {ts rs : List Limit} {strict weak : Table} → Additions r p ts rs strict weak
    → AllInRange r p.points rs
refused_in_range (opened t) m h = absurd (Memᴰ.not-nil h)
refused_in_range (taken a h t) m k = refused_in_range a m k
refused_in_range {r} {p} (refused {m = l} a h u) m k =
    ⊎_elim (λ e. subst (λ (x : Limit). LimitInRange r p.points x) (sym e) h) (λ i. refused_in_range a m i) (Memᴰ.cases_cons k)

-- a plan in range with limits in range more names points below n
pub more_pointed : (r : Ranges) (p : Plan) (ms : List Limit) → InRange r p → AllInRange r p.points ms → Pointed (with_limits p ms)
more_pointed r p ms g a =
    record {
      some_point = g.some_point;
      limit_from = λ m h. ⊎_elim (λ i. (a m i).from) (λ i. (g.limit m i).from) (Memᴰ.append_cases ms h);
      limit_to = λ m h. ⊎_elim (λ i. (a m i).to) (λ i. (g.limit m i).to) (Memᴰ.append_cases ms h);
      link_act = λ k h. (g.link k h).act;
      link_con = λ k h. (g.link k h).con;
    }

-- and its weights are bounded
pub more_weighted : (r : Ranges) (p : Plan) (ms : List Limit) → InRange r p → AllInRange r p.points ms
    → Weighted r.weight (with_limits p ms)
more_weighted r p ms g a =
    record {
      limit_least = λ m h. ⊎_elim (λ i. (a m i).least) (λ i. (g.limit m i).least) (Memᴰ.append_cases ms h);
      limit_most = λ m h. ⊎_elim (λ i. (a m i).most) (λ i. (g.limit m i).most) (Memᴰ.append_cases ms h);
      short_most = (in_range_weighted g).short_most;
      long_most = (in_range_weighted g).long_most;
    }

-- ---- the tables of a sequence

-- a plan with more limits dominates one with fewer
pub more_dominates : (p : Plan) (ms ns : List Limit) → AllIn ns ms → Dominates (with_limits p ms) (with_limits p ns)
more_dominates p ms ns h =
    includes (with_limits p ms) (with_limits p ns) refl
    (λ m k. ⊎_elim (λ i. Memᴰ.append_left p.limits (h m i)) (λ i. Memᴰ.append_right ms i) (Memᴰ.append_cases ns k))
    (λ k i. i)

-- the tables after a sequence are those of the plan with the limits taken
pub sequence_tables : (r : Ranges) (p : Plan) → InRange r p → {ts rs : List Limit} {strict weak : Table}
    → Additions r p ts rs strict weak → Tables (with_limits p ts) strict weak
sequence_tables r p g (opened t) = t
sequence_tables r p g (refused a h u) = sequence_tables r p g a
sequence_tables r p g (taken {ts} {strict} {weak} {strict'} {weak'} {m} a h t) =
    let q : Plan = with_limits p ts in
    let gq : Pointed q = more_pointed r p ts g (taken_in_range a) in
    let tq : Tables q strict weak = sequence_tables r p g a in
    tables_move (with_cells q strict m) (with_limit q m) refl (cells_dominate_limit q gq strict weak tq m)
    (limit_dominates_cells q gq strict weak tq m) strict' weak' t

-- Add's plan is uncontrollable exactly where the plan with the limits taken and the new one is
pub refusal_of_limits : (r : Ranges) (p : Plan) → InRange r p → {ts rs : List Limit} {strict weak : Table}
    → Additions r p ts rs strict weak → (m : Limit) → Uncontrollable (with_cells p strict m) ↔ Uncontrollable (with_limits p (m ∷ ts))
refusal_of_limits r p g {ts} {strict} {weak} a m =
    let q : Plan = with_limits p ts in
    let gq : Pointed q = more_pointed r p ts g (taken_in_range a) in
    let tq : Tables q strict weak = sequence_tables r p g a in (
      uncontrollable_dominated (with_limit q m) (with_cells q strict m) (limit_dominates_cells q gq strict weak tq m),
      uncontrollable_dominated (with_cells q strict m) (with_limit q m) (cells_dominate_limit q gq strict weak tq m),
    )

-- a limit of the list or one of them
with_member : {m : Limit} {ts all : List Limit} → AllIn ts all → Memᴰ m all → AllIn (m ∷ ts) all
with_member {all} h k l i =
    ⊎_elim (λ e. subst (λ (x : Limit). Memᴰ x all) (sym e) k) (λ j. h l j) (Memᴰ.cases_cons i)

-- if the plan with all of them is controllable, none of them is refused
pub none_refused : (r : Ranges) (p : Plan) (ts rs all : List Limit) (strict weak : Table) → InRange r p
    → Additions r p ts rs strict weak → AllIn ts all → (Uncontrollable (with_limits p all) → ⊥) → (m : Limit) → Memᴰ m all
    → Uncontrollable (with_cells p strict m) → ⊥
none_refused r p ts rs all strict weak g a h c m k u =
    c
    (uncontrollable_dominated (with_limits p all) (with_limits p (m ∷ ts)) (more_dominates p all (m ∷ ts) (with_member h k))
    ((refusal_of_limits r p g a m).0 u))

-- if it is not, every order that tries them all meets a refusal
pub some_refused : (r : Ranges) (p : Plan) (ts rs all : List Limit) (strict weak : Table) → InRange r p
    → Additions r p ts rs strict weak → ((m : Limit) → Memᴰ m all → Memᴰ m ts ⊎ Memᴰ m rs)
    → Uncontrollable (with_limits p all) → rs ≢ []
some_refused r p ts rs all strict weak g a tried u e =
    tables_controllable (with_limits p ts) strict weak (more_pointed r p ts g (taken_in_range a)) (sequence_tables r p g a)
    (uncontrollable_dominated (with_limits p ts) (with_limits p all) (more_dominates p ts all all_taken) u)
  where
    all_taken : AllIn all ts
    all_taken m h =
        ⊎_elim (λ i. i) (λ i. absurd (Memᴰ.not-nil (subst (λ (l : List Limit). Memᴰ m l) e i))) (tried m h)

-- a limit that was refused cannot be put beside the limits taken, however many they are by now
refused_for_good : (r : Ranges) (p : Plan) → InRange r p → {ts rs : List Limit} {strict weak : Table}
    → Additions r p ts rs strict weak → (m : Limit) → Memᴰ m rs → Uncontrollable (with_limits p (m ∷ ts))
refused_for_good r p g (opened t) m h = absurd (Memᴰ.not-nil h)
refused_for_good r p g (taken {ts} {m = l} a i t) m h =
    uncontrollable_dominated (with_limits p (m ∷ l ∷ ts)) (with_limits p (m ∷ ts))
    (more_dominates p (m ∷ l ∷ ts) (m ∷ ts)
    (λ k j. ⊎_elim (λ e. Memᴰ.head e) (λ n. Memᴰ.tail (Memᴰ.tail n)) (Memᴰ.cases_cons j)))
    (refused_for_good r p g a m h)
refused_for_good r p g (refused {ts} {m = l} a i u) m h =
    ⊎_elim (λ e. subst (λ (x : Limit). Uncontrollable (with_limits p (x ∷ ts))) (sym e) ((refusal_of_limits r p g a l).0 u))
    (λ k. refused_for_good r p g a m k) (Memᴰ.cases_cons h)

-- a limit that was refused is refused again at any later time
pub refused_again : (r : Ranges) (p : Plan) (ts rs : List Limit) (strict weak : Table) → InRange r p
    → Additions r p ts rs strict weak → (m : Limit) → Memᴰ m rs → Uncontrollable (with_cells p strict m)
refused_again r p ts rs strict weak g a m h = (refusal_of_limits r p g a m).1 (refused_for_good r p g a m h)

-- the tables are those of the plan with the limits taken, in any order and however often each was added
pub end_tables : (r : Ranges) (p : Plan) (ts rs all : List Limit) (strict weak : Table) → InRange r p
    → Additions r p ts rs strict weak → AllIn ts all → AllIn all ts → Tables (with_limits p all) strict weak
end_tables r p ts rs all strict weak g a h k =
    tables_move (with_limits p ts) (with_limits p all) refl (more_dominates p ts all k) (more_dominates p all ts h) strict weak
    (sequence_tables r p g a)

-- the closed range holds what walks of a plan in range can total
pub reach_holds : (r : Ranges) (p : Plan) → Coherent r → InRange r p → r.weight * (p.points - 1) ≤ r.reach
reach_holds r p c g =
    let few : p.points - 1 ≤ r.points - 1 = omega (arith, g.points) in
    le_trans (mul-le-mul_left r.weight few) c.holds_walks

-- no cell of Add's result lies beyond the closed range
pub never_beyond : (r : Ranges) → Coherent r → (p : Plan) (ts rs : List Limit) (strict weak : Table) → InRange r p
    → Additions r p ts rs strict weak → (m : Limit) → LimitInRange r p.points m → (strict' weak' : Table)
    → Tables (with_cells p strict m) strict' weak' → Beyond r p strict' weak' → ⊥
never_beyond r c p ts rs strict weak g a m i strict' weak' t b =
    let all : AllInRange r p.points (m ∷ ts) = taken_in_range (taken a i t) in
    let q : Plan = with_limits p (m ∷ ts) in
    let gq : Pointed q = more_pointed r p (m ∷ ts) g all in
    let wq : Weighted r.weight q = more_weighted r p (m ∷ ts) g all in
    let tq : Tables q strict' weak' = sequence_tables r p g (taken a i t) in
    let h : r.weight * (p.points - 1) ≤ r.reach = reach_holds r p c g in
    ⊎_elim
    (λ n. n (wider (strict' b.row b.column) h
    (strict_reach q strict' weak' gq tq r.weight wq b.row b.column b.row_below b.column_below)))
    (λ n. n (wider (weak' b.row b.column) h
    (open_reach q strict' weak' gq tq r.weight wq b.row b.column b.row_below b.column_below)))
    b.beyond
