-- No program that behaves as one of the paper's wrong ones meets the demands, and there are such programs. Three small files tell them apart from right ones: three
-- points, no links, and no limit, the limit 0>1 10, or that and 0>2 10. Assumes nothing.
use mathlib.Core.Path.{◌≡◌, refl, sym, ap, ◌∙◌, subst}
use mathlib.Core.Logic.{◌≢◌, ⊎_elim}
use mathlib.Core.List.Memᴰ
use mathlib.Core.List.{List, [], ◌∷◌, ◌++◌, Memᴰ}
use Prim.Native.Nat.{ℕ, zero, ◌≤◌, ◌<◌}
use native.Mathlib.Omega.{arith}
use lib.ListN.{length, get_or}
use lib.IntN.{ℤ, pos}
use lib.Signed.{◌≤ℤ◌}
use Rattle.whole.proofs.Order.{ints, plus}
use Rattle.rules.specs.Answers.{Answer, Done, NotControllable, NotClosed}
use Rattle.rules.specs.Plan.{Limit, Plan, version1, LimitInRange}
use Rattle.rules.specs.Edges as edges
use Rattle.rules.specs.Edges.{Derivable}
use Rattle.rules.specs.Walks.{Walk, stay, step, Uncontrollable}
use Rattle.rules.specs.Cells.{Cell, mark, num, cell_of, table_of}
use Rattle.rules.specs.Tables.{Least, Tables}
use Rattle.rules.specs.Additions.{with_limits}
use Rattle.rules.specs.Calls.{scratch_of, RoomForTables}
use Rattle.rules.specs.Demands.{AllIn}
use Rattle.rules.proofs.Times.{no_link_lem, met_controllable}
use Rattle.rules.proofs.Walks.{single}
use Rattle.fields.specs.Bytes.{word_at, signed_at, signed_of}
use Rattle.plan.specs.Layout.{head_of, limit_at, plan_of}
use Rattle.plan.specs.File.{counts_answer, limit_fits, front_answer, plan_answer, file_answer}
use Rattle.demands.specs.Programs.{AJudge, ACheck, AnAdd}
use Rattle.demands.specs.Demand2.{Demand2}
use Rattle.demands.specs.Demand3.{Desk, judged, taken, OneFile, Demand3}
use Rattle.demands.specs.Wrong.{JudgeEnds, CheckEnds, AddEnds, RefusesEverything, RejectsEverything, OneTableForAll, WritesNothing, RefusesAll, OnlyItsFirst, WrongOnesShutOut, add_saying, WrongOnesExist}
use Rattle.demands.proofs.Demand2.{not_done_refused, not_done_unclosed}

-- ---- three files

-- the bytes of a field below 256, before the rest
unfoldable field : ℕ → List ℕ → List ℕ
field n rest = n ∷ 0 ∷ 0 ∷ 0 ∷ rest

unfoldable first : Limit
first = record { from = 0; to = 1; weight = pos 10 }

unfoldable second : Limit
second = record { from = 0; to = 2; weight = pos 10 }

unfoldable none : List ℕ
none = field 1 (field 3 (field 0 (field 0 (field 24 (field 24 [])))))

unfoldable one : List ℕ
one = field 1 (field 3 (field 1 (field 0 (field 24 (field 36 (field 0 (field 1 (field 10 []))))))))

unfoldable both : List ℕ
both = field 1 (field 3 (field 2 (field 0 (field 24 (field 48 (field 0 (field 1 (field 10 (field 0 (field 2 (field 10 [])))))))))))

-- a sound file of three points with these limits and no links
record Small (s : List ℕ) (ms : List Limit) : Type 0 where
  sound : file_answer s ≡ Done
  points : (plan_of s).points ≡ 3
  limits : (plan_of s).limits ≡ ms
  links : (plan_of s).links ≡ []

small_none : Small none []
unfolding none field file_answer plan_answer front_answer counts_answer plan_of head_of word_at version1
small_none = record { sound = refl; points = refl; limits = refl; links = refl }

small_one : Small one (first ∷ [])
unfolding one first field file_answer plan_answer front_answer counts_answer limit_fits plan_of head_of limit_at word_at signed_at signed_of version1
small_one = record { sound = refl; points = refl; limits = refl; links = refl }

small_both : Small both (first ∷ second ∷ [])
unfolding both first second field file_answer plan_answer front_answer counts_answer limit_fits plan_of head_of limit_at word_at signed_at signed_of version1
small_both = record { sound = refl; points = refl; limits = refl; links = refl }

-- the limits that are tried
unfoldable few : List Limit
few = first ∷ second ∷ []

-- room for three points
unfoldable nine : List ℤ
nine = pos 0 ∷ pos 0 ∷ pos 0 ∷ pos 0 ∷ pos 0 ∷ pos 0 ∷ pos 0 ∷ pos 0 ∷ pos 0 ∷ []

unfoldable eighteen : List ℤ
eighteen = nine ++ nine

room : {s : List ℕ} {ms : List Limit} → Small s ms → RoomForTables (plan_of s) nine nine
unfolding nine
room k = rw k.points (record { strict_room = omega arith; open_room = omega arith })

scratch_room : scratch_of (plan_of none) ≤ length eighteen
unfolding eighteen nine
scratch_room = rw small_none.points (omega arith)

-- ---- they are controllable: every point at 0 meets them

-- what holds of both holds of each
each : (P : Limit → Type 0) → P first → P second → (m : Limit) → Memᴰ m few → P m
unfolding few
each P a b m h = ⊎_elim (λ e. subst P (sym e) a) (λ i. subst P (sym (Memᴰ.eq_of_singleton i)) b) (Memᴰ.cases_cons h)

rises : (m : Limit) → Memᴰ m few → pos zero ≤ℤ m.weight
unfolding first second
rises = each (λ m. pos zero ≤ℤ m.weight) (omega ints) (omega ints)

in_range : (m : Limit) → Memᴰ m few → LimitInRange version1 (plan_of none).points m
unfolding first second version1
in_range =
    rw small_none.points
    (each (LimitInRange version1 3) (record { from = omega arith; to = omega arith; least = omega ints; most = omega ints })
    (record { from = omega arith; to = omega arith; least = omega ints; most = omega ints }))

at_zero : (p : Plan) → p.links ≡ [] → AllIn p.limits few → Uncontrollable p → ⊥
at_zero p e h =
    met_controllable p e (λ x. pos zero)
    (record { limit = λ m i. omega (ints, rises m (h m i), plus (pos zero) m.weight); start = refl; none_before = λ x i. omega ints })

-- a small file's plan
controllable : {s : List ℕ} {ms : List Limit} → Small s ms → AllIn ms few → Uncontrollable (plan_of s) → ⊥
controllable {s} k h = at_zero (plan_of s) k.links (λ m i. h m (subst (Memᴰ m) k.limits i))

-- and the plan without limits, with both of them more
with_few : Uncontrollable (with_limits (plan_of none) few) → ⊥
with_few =
    at_zero (with_limits (plan_of none) few) small_none.links
    (λ m i. ⊎_elim (λ j. j) (λ j. absurd (Memᴰ.not-nil (subst (Memᴰ m) small_none.limits j))) (Memᴰ.append_cases few i))

-- ---- a strict cell tells two of them apart

-- where no limit leads to a point, nothing does
module _ (p : Plan) (links : p.links ≡ []) (y : ℕ) (off : y ≢ zero) (away : (m : Limit) → Memᴰ m p.limits → m.to ≢ y) where
  no_edge : {x z : ℕ} {w : ℤ} → Derivable p x z w → z ≢ y
  no_edge (edges.given (edges.limit {m} h)) = away m h
  no_edge (edges.given (edges.start h)) = λ e. off (sym e)
  no_edge (edges.given (edges.longest h)) = no_link_lem p links h
  no_edge (edges.given (edges.shortest h)) = no_link_lem p links h
  no_edge (edges.join a b) = no_edge b
  no_edge (edges.lower h j l d) = no_link_lem p links h
  no_edge (edges.upper h d) = no_link_lem p links h

  no_walk : {x z : ℕ} {t : ℤ} → Walk (Derivable p) x z t → x ≢ y → z ≢ y
  no_walk stay n = n
  no_walk (step e k) n = no_walk k (no_edge e)

-- one cell is not the least of a pair with a walk and of a pair without
told_apart : (p q : Plan) (x y : ℕ) (c : Cell) (t : ℤ) → Walk (Derivable p) x y t → Least (Derivable p) x y c
    → ((t : ℤ) → Walk (Derivable q) x y t → ⊥) → Least (Derivable q) x y c → ⊥
told_apart p q x y mark t w l n k = l t w
told_apart p q x y (num c) t w l n k = n c k.0

first_row : (n y : ℕ) (S : List ℤ) → table_of version1 n S 0 y ≡ cell_of version1.mark (get_or S y (pos zero))
unfolding table_of
first_row n y S = ap (λ (i : ℕ). cell_of version1.mark (get_or S i (pos zero))) (omega arith)

-- tables of a file with the limit 0>y and of one without any limit to y differ at that cell
apart : {s t : List ℕ} {ms ns : List Limit} → Small s ms → Small t ns → (y : ℕ) (w : ℤ) → y < 3 → y ≢ zero
    → Memᴰ (record { from = zero; to = y; weight = w }) ms → ((m : Limit) → Memᴰ m ns → m.to ≢ y) → (S W S' W' : List ℤ)
    → Tables (plan_of s) (table_of version1 (plan_of s).points S) (table_of version1 (plan_of s).points W)
    → Tables (plan_of t) (table_of version1 (plan_of t).points S') (table_of version1 (plan_of t).points W')
    → get_or S y (pos zero) ≡ get_or S' y (pos zero) → ⊥
apart {s} {t} {ns} k j y w l off h away S W S' W' a b e =
    told_apart (plan_of s) (plan_of t) zero y (cell_of version1.mark (get_or S y (pos zero))) w
    (single (edges.given (edges.limit {m = record { from = zero; to = y; weight = w }} (subst (Memᴰ _) (sym k.limits) h))))
    (subst (Least (Derivable (plan_of s)) zero y) (first_row (plan_of s).points y S) (a.strict_least zero y (rw k.points (omega arith)) (rw k.points l)))
    (λ t' v. no_walk (plan_of t) j.links y off (λ m i. away m (subst (Memᴰ m) j.limits i)) v (λ z. off (sym z)) refl)
    (subst (Least (Derivable (plan_of t)) zero y) (first_row (plan_of t).points y S' ∙ ap (cell_of version1.mark) (sym e))
    (b.strict_least zero y (rw j.points (omega arith)) (rw j.points l)))

-- ---- with a Judge that meets the second demand

-- a Judge's run on a file with the room
record Run (Judge : AJudge) (s : List ℕ) : Type 0 where
  strict : List ℤ
  weak : List ℤ
  run : Judge s nine nine Done strict weak

module _ (Judge : AJudge) (Check : ACheck) (ends : JudgeEnds Judge) (d : Demand2 Judge Check) where
  runs : {s : List ℕ} {ms : List Limit} → Small s ms → AllIn ms few → Run Judge s
  runs {s} k h =
      let g = ends s nine nine in
      ⊎_elim
      (λ e. record { strict = g.strict_after; weak = g.open_after; run = subst (λ a. Judge s nine nine a g.strict_after g.open_after) e g.given })
      (λ e. absurd (controllable k h ((d.judge_refuses_exactly s nine nine g.answer g.strict_after g.open_after k.sound (room k) g.given).0 e)))
      (d.judge_decides s nine nine g.answer g.strict_after g.open_after k.sound (room k) g.given)

  on_none : Run Judge none
  on_none = runs small_none (λ m h. absurd (Memᴰ.not-nil h))

  on_one : Run Judge one
  unfolding few
  on_one = runs small_one (λ m h. Memᴰ.head (Memᴰ.eq_of_singleton h))

  on_both : Run Judge both
  unfolding few
  on_both = runs small_both (λ m h. h)

  refusing_judge : RefusesEverything Judge → ⊥
  refusing_judge r = r none nine nine on_none.strict on_none.weak on_none.run

  rejecting_check : CheckEnds Check → RejectsEverything Check → ⊥
  rejecting_check c r =
      let k = c none on_none.strict on_none.weak in
      r none on_none.strict on_none.weak
      (subst (Check none on_none.strict on_none.weak)
      (d.check_accepts_judged none nine nine on_none.strict on_none.weak k.answer on_none.run k.given) k.given)

  -- the least totals with the first limit differ from those without it, and those with the second
  with_first : get_or on_one.strict 1 (pos zero) ≡ get_or on_none.strict 1 (pos zero) → ⊥
  unfolding first
  with_first =
      apart small_one small_none 1 (pos 10) (omega arith) (omega arith) (Memᴰ.head refl) (λ m h. absurd (Memᴰ.not-nil h))
      on_one.strict on_one.weak on_none.strict on_none.weak
      (d.judge_writes_least one nine nine on_one.strict on_one.weak on_one.run)
      (d.judge_writes_least none nine nine on_none.strict on_none.weak on_none.run)

  with_second : get_or on_both.strict 2 (pos zero) ≡ get_or on_one.strict 2 (pos zero) → ⊥
  unfolding first second
  with_second =
      apart small_both small_one 2 (pos 10) (omega arith) (omega arith) (Memᴰ.tail (Memᴰ.head refl))
      (λ m h e. omega (arith, ap (λ (l : Limit). l.to) (Memᴰ.eq_of_singleton h)))
      on_both.strict on_both.weak on_one.strict on_one.weak
      (d.judge_writes_least both nine nine on_both.strict on_both.weak on_both.run)
      (d.judge_writes_least one nine nine on_one.strict on_one.weak on_one.run)

  one_table_judge : OneTableForAll Judge → ⊥
  one_table_judge r =
      with_first
      (ap (λ (t : List ℤ). get_or t 1 (pos zero))
      (r one none nine nine on_one.strict on_one.weak on_none.strict on_none.weak (small_one.points ∙ sym small_none.points) on_one.run on_none.run).0)

-- ---- and with an Add that meets the third

-- an Add that takes a limit on the first file's tables
record Took (Add : AnAdd) (m : Limit) (strict weak : List ℤ) : Type 0 where
  strict_after : List ℤ
  open_after : List ℤ
  scratch_after : List ℤ
  took : Add none m strict weak eighteen Done strict_after open_after scratch_after

-- one of the files has the limits that were taken on the tables of the file without limits
one_file : {s : List ℕ} {ms : List Limit} → Small s ms → (all : List Limit) → AllIn ms all → AllIn all ms → OneFile none all s
one_file k all h j =
    record {
      sound = k.sound;
      points = k.points ∙ sym small_none.points;
      links = k.links ∙ sym small_none.links;
      none_more = λ m i. Memᴰ.append_left (plan_of none).limits (h m (subst (Memᴰ m) k.limits i));
      none_less = λ m i.
          subst (Memᴰ m) (sym k.limits)
          (⊎_elim (λ l. j m l) (λ l. absurd (Memᴰ.not-nil (subst (Memᴰ m) small_none.limits l))) (Memᴰ.append_cases all i));
    }

-- two limits in either order
swapped : {a b : Limit} → AllIn (a ∷ b ∷ []) (b ∷ a ∷ [])
swapped m h = ⊎_elim (λ e. Memᴰ.tail (Memᴰ.head e)) (λ i. Memᴰ.head (Memᴰ.eq_of_singleton i)) (Memᴰ.cases_cons h)

module _ (Judge : AJudge) (Check : ACheck) (Add : AnAdd) (ends : JudgeEnds Judge) (adds : AddEnds Add) (d : Demand2 Judge Check) (e : Demand3 Judge Add) where
  takes : {ts : List Limit} {strict weak : List ℤ} → Desk Judge Add none ts [] strict weak → AllIn ts few → (m : Limit) → Memᴰ m few → Took Add m strict weak
  takes {ts} {strict} {weak} desk h m k =
      let g = adds none m strict weak eighteen in
      record {
        strict_after = g.strict_after;
        open_after = g.open_after;
        scratch_after = g.scratch_after;
        took = subst (λ a. Add none m strict weak eighteen a g.strict_after g.open_after g.scratch_after)
            (e.each_taken none ts [] few strict weak eighteen desk h with_few m k (in_range m k) scratch_room g.answer g.strict_after g.open_after g.scratch_after g.given)
            g.given;
      }

  abbrev start : Run Judge none
  start = on_none Judge Check ends d

  opened : Desk Judge Add none [] [] start.strict start.weak
  opened = judged start.run

  took_first : Took Add first start.strict start.weak
  unfolding few
  took_first = takes opened (λ m h. absurd (Memᴰ.not-nil h)) first (Memᴰ.head refl)

  after_first : Desk Judge Add none (first ∷ []) [] took_first.strict_after took_first.open_after
  after_first = taken opened took_first.took

  took_second : Took Add second took_first.strict_after took_first.open_after
  unfolding few
  took_second = takes after_first (λ m h. Memᴰ.head (Memᴰ.eq_of_singleton h)) second (Memᴰ.tail (Memᴰ.head refl))

  after_both : Desk Judge Add none (second ∷ first ∷ []) [] took_second.strict_after took_second.open_after
  after_both = taken after_first took_second.took

  -- after an addition the strict cell 0 to y is that of one file with the limits taken
  end_cell : {s : List ℕ} {ms : List Limit} → Small s ms → (r : Run Judge s) (all : List Limit) (strict weak : List ℤ) → Desk Judge Add none all [] strict weak
      → AllIn ms all → AllIn all ms → (y : ℕ) → y < 9 → get_or strict y (pos zero) ≡ get_or r.strict y (pos zero)
  end_cell {s} k r all strict weak desk h j y l =
      ((e.end_tables none all [] all strict weak desk (λ m i. i) (λ m i. i) s (one_file k all h j) nine nine r.strict r.weak Done (room k) r.run).1 y
      (rw small_none.points l)).0

  cell_first : (y : ℕ) → y < 9 → get_or took_first.strict_after y (pos zero) ≡ get_or (on_one Judge Check ends d).strict y (pos zero)
  cell_first =
      end_cell small_one (on_one Judge Check ends d) (first ∷ []) took_first.strict_after took_first.open_after after_first (λ m i. i) (λ m i. i)

  cell_both : (y : ℕ) → y < 9 → get_or took_second.strict_after y (pos zero) ≡ get_or (on_both Judge Check ends d).strict y (pos zero)
  cell_both =
      end_cell small_both (on_both Judge Check ends d) (second ∷ first ∷ []) took_second.strict_after took_second.open_after after_both swapped swapped

  silent_add : WritesNothing Add → ⊥
  silent_add w =
      with_first Judge Check ends d
      (sym (cell_first 1 (omega arith))
      ∙ ap (λ (t : List ℤ). get_or t 1 (pos zero))
      (w none first start.strict start.weak eighteen Done took_first.strict_after took_first.open_after took_first.scratch_after took_first.took).0)

  refusing_add : RefusesAll Add → ⊥
  refusing_add r =
      r none first start.strict start.weak eighteen took_first.strict_after took_first.open_after took_first.scratch_after took_first.took

  first_only_add : OnlyItsFirst Judge Add → ⊥
  first_only_add o =
      with_second Judge Check ends d
      (sym (cell_both 2 (omega arith))
      ∙ ap (λ (t : List ℤ). get_or t 2 (pos zero))
      (o none (first ∷ []) [] took_first.strict_after took_first.open_after after_first (λ z. omega (arith, ap length z)) second eighteen Done
      took_second.strict_after took_second.open_after took_second.scratch_after took_second.took).1
      ∙ cell_first 2 (omega arith))

pub wrong_ones_shut_out : WrongOnesShutOut
wrong_ones_shut_out =
    record {
      refusing_judge = λ Judge Check ends r d. refusing_judge Judge Check ends d r;
      rejecting_check = λ Judge Check ends c r d. rejecting_check Judge Check ends d c r;
      one_table_judge = λ Judge Check ends r d. one_table_judge Judge Check ends d r;
      silent_add = λ Judge Check Add ends adds w d e. silent_add Judge Check Add ends adds d e w;
      refusing_add = λ Judge Check Add ends adds r d e. refusing_add Judge Check Add ends adds d e r;
      first_only_add = λ Judge Check Add ends adds o d e. first_only_add Judge Check Add ends adds d e o;
    }

-- ---- each of them is some program

pub wrong_ones_exist : WrongOnesExist
wrong_ones_exist =
    record {
      refusing_judge = (λ s strict weak. record { answer = NotControllable; strict_after = strict; open_after = weak; given = (refl, refl, refl) }, λ s strict weak strict' weak' g. not_done_refused g.0);
      rejecting_check = (λ s strict weak. record { answer = NotClosed; given = refl }, λ s strict weak g. not_done_unclosed (sym g));
      one_table_judge = (λ s strict weak. record { answer = Done; strict_after = strict; open_after = weak; given = (refl, refl, refl) }, λ s t strict weak s₁ w₁ s₂ w₂ p g h. (g.1 ∙ sym h.1, g.2 ∙ sym h.2));
      silent_add = (adds Done, λ s m strict weak scratch a strict' weak' scratch' g. (g.1, g.2));
      refusing_add = (adds NotControllable, λ s m strict weak scratch strict' weak' scratch' g. not_done_refused g.0);
      first_only_add = λ Judge. (adds Done, λ s ts rs strict weak desk n m scratch a strict' weak' scratch' g. (g.0, g.1, g.2));
    }
  where
    adds : (a : Answer) → AddEnds (add_saying a)
    adds a s m strict weak scratch = record { answer = a; strict_after = strict; open_after = weak; scratch_after = scratch; given = (refl, refl, refl) }
