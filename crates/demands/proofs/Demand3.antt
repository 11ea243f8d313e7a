-- The third demand holds: a desk's work is a sequence of additions to the plan's tables, of which the theory knows all that is demanded.
-- Assumes nothing.
use mathlib.Core.Path.{◌≡◌, refl, sym, ap, subst}
use mathlib.Core.Logic.{◌≢◌, ⊎_elim}
use mathlib.Core.List.Memᴰ
use mathlib.Core.List.{List, [], ◌∷◌, Memᴰ}
use Prim.Native.Nat.{ℕ, zero, ◌*◌, ◌≤◌, ◌<◌}
use native.Mathlib.Omega.{arith}
use lib.ListN.{length, get_or}
use lib.IntN.{ℤ, pos}
use Rattle.whole.proofs.Place.{Spot, spot}
use Rattle.rules.specs.Answers.{Answer, Done, NotControllable, NotClosed, code_of}
use Rattle.rules.specs.Plan.{Limit, Link, Plan, version1, InRange, LimitInRange}
use Rattle.rules.specs.Edges as edges
use Rattle.rules.specs.Edges.{Given}
use Rattle.rules.specs.Walks.{Uncontrollable}
use Rattle.rules.specs.Cells.{Table, table_of}
use Rattle.rules.specs.Tables.{Tables, Closed}
use Rattle.rules.specs.Additions.{with_cells, with_limits, Additions}
use Rattle.rules.specs.Additions as additions
use Rattle.rules.specs.Calls.{scratch_of, Kept, RoomForTables, Written, Beyond, Added}
use Rattle.rules.specs.Demands.{AllIn, Demand3OfPlans}
use Rattle.rules.proofs.Demands.{version1_coherent, demand3_of_plans}
use Rattle.rules.proofs.Points.{Pointed, in_range_pointed}
use Rattle.rules.proofs.Domination.{tables_move}
use Rattle.rules.proofs.Justified.{SameTables, tables_unique, tables_controllable}
use Rattle.rules.proofs.CellLimits.{includes, cells_pointed}
use Rattle.rules.proofs.Additions.{AllInRange, taken_in_range, refused_in_range, more_pointed, more_weighted, sequence_tables, reach_holds}
use Rattle.rules.proofs.TablesClosed.{tables_closed}
use Rattle.rules.proofs.Lists.{cell_injective}
use Rattle.rules.proofs.OneAnswer.{short-or-room}
use Rattle.plan.specs.Layout.{plan_of}
use Rattle.plan.specs.File.{file_answer, add_answer}
use Rattle.plan.proofs.SoundFile.{good, add_exactly}
use Rattle.demands.specs.Programs.{our_judge, our_add}
use Rattle.demands.specs.Demand3.{Desk, judged, taken, refused, nothing, OneFile, OneFilesTables, WholeOrder, Demand3}
use Rattle.demands.proofs.FileCodes.{FileCode, add_code}
use Rattle.demands.proofs.OneFile.{some_file, only_file}
use Rattle.demands.proofs.Demand2.{judged_done, not_done_refused, not_done_unclosed, not_short_done, demand2}

plans : Demand3OfPlans version1
plans = demand3_of_plans version1 version1_coherent

-- ---- what an answer of Add says

pub record AddedDone (file : Answer) (p : Plan) (m : Limit) (strict weak strict' weak' : List ℤ) : Type 0 where
  pub sound : file ≡ Done
  pub room : RoomForTables p strict weak
  pub written : Written version1 (with_cells p (table_of version1 p.points strict) m) strict weak strict' weak'

pub added_done : {file : Answer} {p : Plan} {m : Limit} {strict weak scratch strict' weak' scratch' : List ℤ} {a : Answer}
    → Added version1 file p m strict weak scratch a strict' weak' scratch' → a ≡ Done → AddedDone file p m strict weak strict' weak'
added_done (Added.bad_file n) k = absurd (n k)
added_done (Added.short_room e r) k = not_short_done k
added_done (Added.not_closed e r l c d) k = not_done_unclosed k
added_done (Added.uncontrollable e r l c u d) k = not_done_refused (sym k)
added_done (Added.beyond e r l c t b d) k = not_done_unclosed k
added_done (Added.added e r l c t b d) k = record { sound = e; room = r; written = t }

pub record AddedRefused (file : Answer) (p : Plan) (m : Limit) (strict weak strict' weak' : List ℤ) : Type 0 where
  pub sound : file ≡ Done
  pub refusal : Uncontrollable (with_cells p (table_of version1 p.points strict) m)
  pub strict_same : strict' ≡ strict
  pub open_same : weak' ≡ weak

-- an answer whose code is 11
code_of_refused : {a : Answer} → a ≡ NotControllable → code_of a ≡ 11
code_of_refused e = ap code_of e

pub added_refused : {file : Answer} {p : Plan} {m : Limit} {strict weak scratch strict' weak' scratch' : List ℤ} {a : Answer} → FileCode file
    → Added version1 file p m strict weak scratch a strict' weak' scratch' → a ≡ NotControllable → AddedRefused file p m strict weak strict' weak'
added_refused f (Added.bad_file n) k = absurd (omega (arith, code_of_refused k))
added_refused f (Added.short_room e r) k = absurd (omega (arith, ap code_of k))
added_refused f (Added.not_closed e r l c d) k = absurd (omega (arith, ap code_of k))
added_refused f (Added.uncontrollable e r l c u d) k = record { sound = e; refusal = u; strict_same = refl; open_same = refl }
added_refused f (Added.beyond e r l c t b d) k = absurd (omega (arith, ap code_of k))
added_refused f (Added.added e r l c t b d) k = not_done_refused k

-- any other answer changes no table
other_keeps : {file : Answer} {p : Plan} {m : Limit} {strict weak scratch strict' weak' scratch' : List ℤ} {a : Answer}
    → Added version1 file p m strict weak scratch a strict' weak' scratch' → a ≢ Done → (strict' ≡ strict) × (weak' ≡ weak)
other_keeps (Added.bad_file n) k = (refl, refl)
other_keeps (Added.short_room e r) k = (refl, refl)
other_keeps (Added.not_closed e r l c d) k = (refl, refl)
other_keeps (Added.uncontrollable e r l c u d) k = (refl, refl)
other_keeps (Added.beyond e r l c t b d) k = (refl, refl)
other_keeps (Added.added e r l c t b d) k = absurd (k refl)

-- ---- a desk's work as additions

-- where a desk stands: the file is sound, the tables have room and are those of the additions so far
pub record Stands (s : List ℕ) (ts rs : List Limit) (strict weak : List ℤ) : Type 0 where
  pub sound : file_answer s ≡ Done
  pub room : RoomForTables (plan_of s) strict weak
  pub work : Additions version1 (plan_of s) ts rs (table_of version1 (plan_of s).points strict) (table_of version1 (plan_of s).points weak)

-- tables that were written have the room that was lent
room_kept : {p : Plan} {strict weak strict' weak' : List ℤ} → RoomForTables p strict weak → Kept (p.points * p.points) strict strict'
    → Kept (p.points * p.points) weak weak' → RoomForTables p strict' weak'
room_kept r a b =
    record { strict_room = omega (arith, r.strict_room, a.length_same); open_room = omega (arith, r.open_room, b.length_same) }

pub stands : {s : List ℕ} {ts rs : List Limit} {strict weak : List ℤ} → Desk our_judge our_add s ts rs strict weak → Stands s ts rs strict weak
stands {s} (judged j) =
    let d = judged_done j refl in
    record {
      sound = d.sound;
      room = room_kept {p = plan_of s} d.room d.written.strict_kept d.written.open_kept;
      work = additions.opened d.written.tables;
    }
stands {s} (taken {m} d a) =
    let h = stands d in
    let k = added_done a refl in
    record {
      sound = h.sound;
      room = room_kept {p = plan_of s} h.room k.written.strict_kept k.written.open_kept;
      work = additions.taken h.work ((add_exactly s m).0 k.sound).1 k.written.tables;
    }
stands {s} (refused {ts} {rs} {m} d a) =
    let h = stands d in
    let k = added_refused (add_code s m) a refl in
    let now : Stands s ts (m ∷ rs) _ _ =
    record { sound = h.sound; room = h.room; work = additions.refused h.work ((add_exactly s m).0 k.sound).1 k.refusal } in
    rw (k.strict_same, k.open_same) now
stands {s} (nothing {ts} {rs} {strict} {weak} d a n q) =
    let k = other_keeps a n in
    rw (k.0, k.1) (stands d)

-- ---- closed tables

-- tables that are closed for a plan with more limits are closed for the plan
fewer_limits : (p : Plan) (ms : List Limit) (strict weak : Table) → Closed version1 (with_limits p ms) strict weak → Closed version1 p strict weak
fewer_limits p ms strict weak c =
    record {
      strict_within = c.strict_within;
      open_within = c.open_within;
      strict_diagonal = c.strict_diagonal;
      open_diagonal = c.open_diagonal;
      strict_join_rule = c.strict_join_rule;
      open_join_rule = c.open_join_rule;
      given = λ x y w e. c.given x y w (more_given e);
      lower = c.lower;
      upper = c.upper;
      open_strict = c.open_strict;
      open_lower_case = c.open_lower_case;
    }
  where
    more_given : {x y : ℕ} {w : ℤ} → Given p x y w → Given (with_limits p ms) x y w
    more_given (edges.limit h) = edges.limit (Memᴰ.append_right ms h)
    more_given (edges.start h) = edges.start h
    more_given (edges.longest h) = edges.longest h
    more_given (edges.shortest h) = edges.shortest h

-- the tables of a desk are closed, so the first sort of 12 does not come either
desk_closed : (s : List ℕ) (ts rs : List Limit) (strict weak : List ℤ) → Stands s ts rs strict weak
    → Closed version1 (plan_of s) (table_of version1 (plan_of s).points strict) (table_of version1 (plan_of s).points weak)
desk_closed s ts rs strict weak h =
    let g : InRange version1 (plan_of s) = (good s h.sound).ranges in
    let S : Table = table_of version1 (plan_of s).points strict in
    let W : Table = table_of version1 (plan_of s).points weak in
    let i : AllInRange version1 (plan_of s).points ts = taken_in_range h.work in
    fewer_limits (plan_of s) ts S W
    (tables_closed version1 (with_limits (plan_of s) ts) S W (more_pointed version1 (plan_of s) ts g i) (more_weighted version1 (plan_of s) ts g i)
    (reach_holds version1 (plan_of s) version1_coherent g) (sequence_tables version1 (plan_of s) g h.work))

-- ---- what Add can answer at a desk

-- what is left of Add's answers once the file with the limit is sound and the room is there
data AtDesk (p : Plan) (strict : Table) (m : Limit) (a : Answer) : Type 0 where
  refusing : a ≡ NotControllable → Uncontrollable (with_cells p strict m) → AtDesk p strict m a
  taking : {strict' weak' : Table} → a ≡ Done → Tables (with_cells p strict m) strict' weak' → AtDesk p strict m a
  outside : {strict' weak' : Table} → a ≡ NotClosed → Tables (with_cells p strict m) strict' weak' → Beyond version1 p strict' weak' → AtDesk p strict m a

at_desk : {file : Answer} {p : Plan} {m : Limit} {strict weak scratch strict' weak' scratch' : List ℤ} {a : Answer} → file ≡ Done
    → RoomForTables p strict weak → scratch_of p ≤ length scratch
    → Closed version1 p (table_of version1 p.points strict) (table_of version1 p.points weak)
    → Added version1 file p m strict weak scratch a strict' weak' scratch' → AtDesk p (table_of version1 p.points strict) m a
at_desk e o h c (Added.bad_file n) = absurd (n e)
at_desk e o h c (Added.short_room k r) = ⊎_elim (λ t. short-or-room t o) (λ t. absurd (omega arith)) r
at_desk e o h c (Added.not_closed k r l n f) = absurd (n c)
at_desk e o h c (Added.uncontrollable k r l q u f) = refusing refl u
at_desk e o h c (Added.beyond k r l q t b f) = outside refl t b
at_desk e o h c (Added.added k r l q t b f) = taking refl t.tables

-- ---- the demand

each_taken : (s : List ℕ) (ts rs all : List Limit) (strict weak scratch : List ℤ) → Desk our_judge our_add s ts rs strict weak → AllIn ts all
    → (Uncontrollable (with_limits (plan_of s) all) → ⊥) → (m : Limit) → Memᴰ m all → LimitInRange version1 (plan_of s).points m
    → scratch_of (plan_of s) ≤ length scratch
    → (a : Answer) (strict' weak' scratch' : List ℤ) → our_add s m strict weak scratch a strict' weak' scratch' → a ≡ Done
each_taken s ts rs all strict weak scratch d h c m k i o a strict' weak' scratch' x =
    by (at_desk ((add_exactly s m).1 (st.sound, i)) st.room o (desk_closed s ts rs strict weak st) x)
  where
    st : Stands s ts rs strict weak
    st = stands d

    g : InRange version1 (plan_of s)
    g = (good s st.sound).ranges

    by : AtDesk (plan_of s) (table_of version1 (plan_of s).points strict) m a → a ≡ Done
    by (refusing e u) =
        absurd
        (plans.none_refused (plan_of s) ts rs all (table_of version1 (plan_of s).points strict) (table_of version1 (plan_of s).points weak) g st.work h c m k u)
    by (taking e t) = e
    by (outside {strict' = u} {weak' = v} e t b) =
        absurd
        (plans.never_beyond (plan_of s) ts rs (table_of version1 (plan_of s).points strict) (table_of version1 (plan_of s).points weak) g st.work m i u v t b)

refused_again : (s : List ℕ) (ts rs : List Limit) (strict weak scratch : List ℤ) → Desk our_judge our_add s ts rs strict weak → (m : Limit) → Memᴰ m rs
    → scratch_of (plan_of s) ≤ length scratch
    → (a : Answer) (strict' weak' scratch' : List ℤ) → our_add s m strict weak scratch a strict' weak' scratch' → a ≡ NotControllable
refused_again s ts rs strict weak scratch d m k o a strict' weak' scratch' x =
    by (at_desk ((add_exactly s m).1 (st.sound, refused_in_range st.work m k)) st.room o (desk_closed s ts rs strict weak st) x)
  where
    st : Stands s ts rs strict weak
    st = stands d

    g : InRange version1 (plan_of s)
    g = (good s st.sound).ranges

    S : Table
    S = table_of version1 (plan_of s).points strict

    u : Uncontrollable (with_cells (plan_of s) S m)
    u = plans.refused_again (plan_of s) ts rs S (table_of version1 (plan_of s).points weak) g st.work m k

    i : LimitInRange version1 (plan_of s).points m
    i = refused_in_range st.work m k

    by : AtDesk (plan_of s) S m a → a ≡ NotControllable
    by (refusing e r) = e
    by (taking {strict' = v} {weak' = w} e t) =
        absurd (tables_controllable (with_cells (plan_of s) S m) v w (cells_pointed (plan_of s) S m (in_range_pointed g) i.from i.to) t u)
    by (outside {strict' = v} {weak' = w} e t b) =
        absurd (tables_controllable (with_cells (plan_of s) S m) v w (cells_pointed (plan_of s) S m (in_range_pointed g) i.from i.to) t u)

never_twelve : (s : List ℕ) (ts rs : List Limit) (strict weak scratch : List ℤ) → Desk our_judge our_add s ts rs strict weak → (m : Limit) (a : Answer)
    (strict' weak' scratch' : List ℤ) → our_add s m strict weak scratch a strict' weak' scratch' → a ≢ NotClosed
never_twelve s ts rs strict weak scratch d m a strict' weak' scratch' x e = by x e
  where
    st : Stands s ts rs strict weak
    st = stands d

    g : InRange version1 (plan_of s)
    g = (good s st.sound).ranges

    by : {a : Answer} {s' w' c' : List ℤ} → Added version1 (add_answer s m) (plan_of s) m strict weak scratch a s' w' c' → a ≡ NotClosed → ⊥
    by (Added.bad_file n) k = omega (arith, add_code s m, ap code_of k)
    by (Added.short_room q r) k = omega (arith, ap code_of k)
    by (Added.not_closed q r l n f) k = n (desk_closed s ts rs strict weak st)
    by (Added.uncontrollable q r l c u f) k = omega (arith, ap code_of k)
    by (Added.beyond {strict' = u} {weak' = v} q r l c t b f) k =
        plans.never_beyond (plan_of s) ts rs (table_of version1 (plan_of s).points strict) (table_of version1 (plan_of s).points weak) g st.work m
        ((add_exactly s m).0 q).1 u v t b
    by (Added.added q r l c t b f) k = omega (arith, ap code_of k)

-- the plan of one file with all of them is the plan with all of them, up to order and repeats
one_file : (s : List ℕ) (all : List Limit) (one : List ℕ) → OneFile s all one → (strict weak : Table) → Tables (with_limits (plan_of s) all) strict weak
    → Tables (plan_of one) strict weak
one_file s all one f strict weak t =
    tables_move (with_limits (plan_of s) all) (plan_of one) (sym f.points)
    (includes (with_limits (plan_of s) all) (plan_of one) (sym f.points) f.none_more (λ k h. subst (λ (ks : List Link). Memᴰ k ks) f.links h))
    (includes (plan_of one) (with_limits (plan_of s) all) f.points f.none_less (λ k h. subst (λ (ks : List Link). Memᴰ k ks) (sym f.links) h))
    strict weak t

end_tables : (s : List ℕ) (ts rs all : List Limit) (strict weak : List ℤ) → Desk our_judge our_add s ts rs strict weak → AllIn ts all → AllIn all ts
    → OneFilesTables our_judge s all strict weak
unfolding table_of
end_tables s ts rs all strict weak d h k one f strict₀ weak₀ strict' weak' a r j = (done, cells)
  where
    st : Stands s ts rs strict weak
    st = stands d

    S : Table
    S = table_of version1 (plan_of s).points strict

    W : Table
    W = table_of version1 (plan_of s).points weak

    tables : Tables (plan_of one) S W
    tables = one_file s all one f S W (plans.end_tables (plan_of s) ts rs all S W (good s st.sound).ranges st.work h k)

    g : Pointed (plan_of one)
    g = in_range_pointed (good one f.sound).ranges

    done : a ≡ Done
    done =
        ⊎_elim (λ e. e)
        (λ e. absurd (tables_controllable (plan_of one) S W g tables ((demand2.judge_refuses_exactly one strict₀ weak₀ a strict' weak' f.sound r j).0 e)))
        (demand2.judge_decides one strict₀ weak₀ a strict' weak' f.sound r j)

    same : SameTables (plan_of one).points S W (table_of version1 (plan_of one).points strict') (table_of version1 (plan_of one).points weak')
    same =
        tables_unique (plan_of one) S W (table_of version1 (plan_of one).points strict') (table_of version1 (plan_of one).points weak') tables
        (judged_done j done).written.tables

    cells : (i : ℕ) → i < (plan_of s).points * (plan_of s).points
        → (get_or strict i (pos zero) ≡ get_or strict' i (pos zero)) × (get_or weak i (pos zero) ≡ get_or weak' i (pos zero))
    cells i l =
        let p : Spot (plan_of s).points i = spot (plan_of s).points i l in
        let e : (plan_of one).points ≡ (plan_of s).points = f.points in
        let x : p.row < (plan_of one).points = rw e p.row_below in
        let y : p.column < (plan_of one).points = rw e p.column_below in
        rw p.is (
          cell_injective version1.mark (rw e at (same.strict_same p.row p.column x y)),
          cell_injective version1.mark (rw e at (same.open_same p.row p.column x y)),
        )

-- where all that was tried is among limits that the plan can take together, nothing was refused
none_refused : {p : Plan} {ts rs all : List Limit} {strict weak : Table} → InRange version1 p → Additions version1 p ts rs strict weak → AllIn ts all
    → AllIn rs all → (Uncontrollable (with_limits p all) → ⊥) → rs ≡ []
none_refused g (additions.opened t) h k c = refl
none_refused g (additions.taken a i t) h k c = none_refused g a (λ m l. h m (Memᴰ.tail l)) k c
none_refused {p} {ts} {all} {strict} {weak} g (additions.refused {rs} {m} a i u) h k c =
    absurd (plans.none_refused p ts rs all strict weak g a h c m (k m (Memᴰ.head refl)) u)

whole_order : (s : List ℕ) (ts rs all : List Limit) (strict weak : List ℤ) → Desk our_judge our_add s ts rs strict weak → AllIn ts all → AllIn rs all
    → (Uncontrollable (with_limits (plan_of s) all) → ⊥) → WholeOrder our_judge s ts rs all strict weak
whole_order s ts rs all strict weak d h k c =
    let st : Stands s ts rs strict weak = stands d in
    let none : rs ≡ [] = none_refused (good s st.sound).ranges st.work h k c in
    record {
      none_refused = none;
      end_tables = λ t. end_tables s ts rs all strict weak d h (λ m l. ⊎_elim (λ i. i) (λ i. absurd (Memᴰ.not-nil (rw none at i))) (t m l));
    }

pub demand3 : Demand3 our_judge our_add
demand3 =
    record {
      whole_order = whole_order;
      each_taken = each_taken;
      end_tables = end_tables;
      one_file = some_file;
      one_file_only = only_file;
      some_refused = λ s ts rs all strict weak d t u.
          let st = stands d in
          plans.some_refused (plan_of s) ts rs all (table_of version1 (plan_of s).points strict) (table_of version1 (plan_of s).points weak)
          (good s st.sound).ranges st.work t u;
      refusal_changes_nothing = λ s m strict weak scratch strict' weak' scratch' x.
          let k = added_refused (add_code s m) x refl in
          (k.strict_same, k.open_same);
      refused_again = refused_again;
      never_twelve = never_twelve;
    }
