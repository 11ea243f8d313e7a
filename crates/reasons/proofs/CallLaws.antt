-- The answers of the call: from what the passes leave to its statement. Assumes nothing.
use mathlib.Core.Path.{◌≡◌, refl, sym, ap, subst, ◌∙◌}
use mathlib.Core.Logic.{◌≢◌}
use mathlib.Core.Bool.{Bool, true, false, cond}
use mathlib.Core.List.{List, [], ◌∷◌}
use Prim.Native.Nat.{ℕ, zero, ◌*◌, ◌≤◌, ◌<◌}
use native.Mathlib.Omega.{arith}
use lib.Dec.{eqb}
use lib.ListN.{length}
use lib.IntN.{ℤ, pos}
use borrow.Author.Tests.{eqb-false}
use Rattle.rules.specs.Answers.{Answer, Done, ShortRoom, ReasonsListed}
use Rattle.rules.specs.Plan.{Plan, version1, InRange}
use Rattle.rules.specs.Calls.{Kept, Filled}
use Rattle.plan.specs.Layout.{plan_of}
use Rattle.plan.specs.File.{file_answer}
use Rattle.lowering.specs.Table.{Ready}
use Rattle.lowering.proofs.Laws.ReadyFile.{ready_points, ready_in_range}
use Rattle.chain.specs.Lines.{Line, line_at}
use Rattle.chain.specs.Follows.{Follows, start, limit, longest, shortest, lower_case_rule, join, lower, upper, open_join_rule, Followed}
use Rattle.chain.specs.Call.{Lists, room_of, Reasoned}
use Rattle.chain.proofs.EveryLineFollows.{reasons_follow}
use Rattle.chain.proofs.OneList.{one}
use Rattle.rules.specs.declared.Refusal.{Refusal}
use Rattle.std.specs.Prelude.{Err}
use Rattle.answers.proofs.CodeZero.{not_done}
use Rattle.std.specs.declared.ops.ControlFlow.{ControlFlow}
use Rattle.reasons.specs.Notes.{laid}
use Rattle.reasons.specs.Working.{lines_of, ended_of, Worked}
use Rattle.reasons.proofs.ListLaws.{laid_none, laid_listed, room_roomy}
use Rattle.reasons.proofs.WorkLaws.{kept_trans}

-- ---- references fit

-- what a line names is an index in the file or the number of an earlier line
names_fit : (p : Plan) → InRange version1 p → (ls : List Line) (l : Line) → length ls ≤ 4_294_967_295 → Follows p ls l
    → (l.first < 4_294_967_296) × (l.second < 4_294_967_296)
unfolding version1
names_fit p h ls l n (start x e) = rw e (omega arith, omega arith)
names_fit p h ls l n (limit i e) = rw e (omega (arith, i, h.limits), omega arith)
names_fit p h ls l n (longest i e) = rw e (omega (arith, i, h.links), omega arith)
names_fit p h ls l n (shortest i e) = rw e (omega (arith, i, h.links), omega arith)
names_fit p h ls l n (lower_case_rule i e) = rw e (omega (arith, i, h.links), omega arith)
names_fit p h ls l n (join a b t e) = rw e (omega (arith, a.earlier.before), omega (arith, b.earlier.before))
names_fit p h ls l n (lower x y a b f t w e) = rw e (omega (arith, a.before), omega (arith, b.earlier.before))
names_fit p h ls l n (upper x a b t e) = rw e (omega (arith, a.earlier.before), omega (arith, b.before))
names_fit p h ls l n (open_join_rule a b t e) = rw e (omega (arith, a.before), omega (arith, b.before))

all_fit : (p : Plan) → InRange version1 p → (ls : List Line) → length ls ≤ 4_294_967_295 → Followed p ls → (i : ℕ) → i < length ls
    → ((line_at ls i).first < 4_294_967_296) × ((line_at ls i).second < 4_294_967_296)
all_fit p h [] n f i q = absurd (omega arith)
all_fit p h (l ∷ ls) n f i q = by (λ k. all_fit p h ls (omega arith) f.1 i k) (eqb i (length ls)) refl
  where
    by : (i < length ls → ((line_at ls i).first < 4_294_967_296) × ((line_at ls i).second < 4_294_967_296)) → (b : Bool) → eqb i (length ls) ≡ b
        → ((cond b l (line_at ls i)).first < 4_294_967_296) × ((cond b l (line_at ls i)).second < 4_294_967_296)
    by r true e = names_fit p h ls l (omega arith) f.0
    by r false e = r (let k : i ≢ length ls = eqb-false i (length ls) e in omega (arith, k))

-- ---- the answers

cleared : {room : ℕ} {t u v : List ℤ} → Kept room t u → Filled room (pos zero) u v → Filled room (pos zero) t v
cleared k f = record { kept = kept_trans k f.kept; all_same = f.all_same }

module _ {s : List ℕ} {n m k : ℕ} (r : Ready s n m k) where
  -- the work room is as large as the statement asks
  work_is : 4 * (n * n) ≡ 4 * ((plan_of s).points * (plan_of s).points)
  work_is = ap (λ (c : ℕ). 4 * (c * c)) (sym (ready_points s n m k r))

  module _ {first lists : Lists} {work work₁ : List ℤ} {run : ControlFlow ℕ ℕ} (room : 4 * (n * n) ≤ length work) (kept : Kept (4 * (n * n)) work work₁)
      (w : Worked (plan_of s) 0 first run lists work₁) where
    -- the pass that counts writes no line
    pub counted_lists : lists ≡ first
    counted_lists = w.is.are ∙ laid_none w.lines first

    pub answer_done : {work₂ : List ℤ} → ended_of run ≡ false → Filled (4 * (n * n)) (pos zero) work₁ work₂ → Reasoned (file_answer s) (plan_of s) first work Done lists work₂
    answer_done {work₂} e f =
        rw counted_lists
        (Reasoned.controllable r.sound (rw (← work_is) room) w.reasons (sym w.is.ends ∙ e)
        (subst (λ (c : ℕ). Filled c (pos zero) work work₂) work_is (cleared kept f)))

    pub answer_long : {work₂ : List ℤ} → ended_of run ≡ true → room_of first < lines_of run → Filled (4 * (n * n)) (pos zero) work₁ work₂
        → Reasoned (file_answer s) (plan_of s) first work ShortRoom lists work₂
    answer_long {work₂} e l f =
        rw counted_lists
        (Reasoned.too_long r.sound (rw (← work_is) room) w.reasons (sym w.is.ends ∙ e) (subst (λ (c : ℕ). room_of first < c) w.is.counted l)
        (subst (λ (c : ℕ). Filled c (pos zero) work work₂) work_is (cleared kept f)))

    -- the pass that writes writes the same list
    pub answer_listed : {run' : ControlFlow ℕ ℕ} {lists' : Lists} {work₂ work₃ : List ℤ} → ended_of run ≡ true → lines_of run ≤ room_of first → Kept (4 * (n * n)) work₁ work₂
        → Worked (plan_of s) (room_of first) lists run' lists' work₂ → Filled (4 * (n * n)) (pos zero) work₂ work₃
        → Reasoned (file_answer s) (plan_of s) first work (ReasonsListed (lines_of run)) lists' work₃
    answer_listed {run'} {lists'} {work₂} {work₃} e l kept' v f =
        let same : v.lines ≡ w.lines = one (plan_of s) v.lines w.lines v.reasons w.reasons in
        let few : length w.lines ≤ room_of first = subst (λ (c : ℕ). c ≤ room_of first) w.is.counted l in
        let fit = all_fit (plan_of s) (ready_in_range s n m k r) w.lines (omega (arith, few, (room_roomy first).place)) (reasons_follow (plan_of s) w.lines w.reasons) in
        let are : lists' ≡ laid (room_of first) w.lines first = v.is.are ∙ ap (λ (c : List Line). laid (room_of first) c lists) same ∙ ap (laid (room_of first) w.lines) counted_lists in
        rw (w.is.counted, are)
        (Reasoned.listed r.sound (rw (← work_is) room) w.reasons (sym w.is.ends ∙ e) few
        (laid_listed (room_of first) w.lines first few (room_roomy first) fit)
        (subst (λ (c : ℕ). Filled c (pos zero) work work₃) work_is (cleared (kept_trans kept kept') f)))

-- ---- before the list is worked out

-- a file that is refused, and a work room that is too short
pub answer_file : (s : List ℕ) {lists : Lists} {work : List ℤ} {r : Refusal} → file_answer s ≡ Err r
    → Reasoned (file_answer s) (plan_of s) lists work (Err r) lists work
answer_file s {lists} {work} e =
    subst (λ (x : Answer). Reasoned (file_answer s) (plan_of s) lists work x lists work) e (Reasoned.bad_file (λ d. not_done (sym e ∙ d)))

pub answer_short : {s : List ℕ} {n m k : ℕ} → Ready s n m k → {lists : Lists} {work : List ℤ} → length work < 4 * (n * n)
    → Reasoned (file_answer s) (plan_of s) lists work ShortRoom lists work
answer_short r l = Reasoned.short_work r.sound (rw (← work_is r) l)
