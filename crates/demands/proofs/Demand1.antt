-- The first demand holds. Assumes nothing.
use mathlib.Core.Path.{◌≡◌, refl, sym, subst⁻¹, ◌∙◌}
use mathlib.Core.Logic.{◌≢◌, ◌⊎◌, inl, inr, ⊎_elim}
use mathlib.Core.Bool.{Bool, true, false, ◌&&◌}
use mathlib.Core.List.{List, []}
use Prim.Native.Nat.{ℕ, zero, ◌*◌, ◌≤◌}
use native.Mathlib.Omega.{arith}
use lib.Dec.{leb, ltb}
use lib.ListN.{length}
use lib.IntN.{ℤ, pos}
use denote.Ref.{Bor}
use borrow.Author.Tests.{leb-false, ltb-false}
use Rattle.rules.specs.Answers.{Answer, Done, FewBytes, BadVersion, BadPoints, BadCounts, BadLayout, BadLimit, BadLink, RepeatedLink, ShortRoom, HasLinks, NotControllable, ReasonsListed, NotClosed, code_of, place_of}
use Rattle.rules.specs.declared.Side.{Side}
use Rattle.rules.specs.declared.Side.TheVariants.{Strict, Open}
use Rattle.rules.specs.Plan.{Limit, version1, InRange}
use Rattle.rules.specs.Calls.{Kept, Filled, Judged, Checked, Timed, Added}
use Rattle.rules.specs.Rows.{chosen, has_row, OwnCells, RowHanded}
use Rattle.rules.proofs.OneAnswer.{judged_once, checked_once, timed_once, added_once}
use Rattle.rules.proofs.Rows.{fitting, row_empty, row_length, row_cell}
use Rattle.plan.specs.Layout.{plan_of}
use Rattle.plan.specs.File.{file_answer, add_answer}
use Rattle.plan.proofs.SoundFile.{good, add_exactly}
use Rattle.demands.specs.Demand1.{SoundLeaves, JudgeLeaves, CheckLeaves, EarliestLeaves, AddLeaves, RowLeaves, Demand1}
use Rattle.demands.proofs.FileCodes.{place_named, FileCode, file_code, add_code}

-- a list that stays keeps what lies past any room
kept_refl : (room : ℕ) (t : List ℤ) → Kept room t t
kept_refl room t = record { length_same = refl; beyond_same = λ i h. refl }

-- a refusal of the file is none of the later codes
not_later : {X : Type 0} (file : Answer) (n : ℕ) → FileCode file → 9 ≤ n → code_of file ≡ n → X
not_later file n f h e = absurd (omega arith)

-- a refusal has a code of at least 1
refusal : (a : Answer) → a ≢ Done → 1 ≤ code_of a
refusal Done n = absurd (n refl)
refusal FewBytes n = omega arith
refusal BadVersion n = omega arith
refusal BadPoints n = omega arith
refusal BadCounts n = omega arith
refusal BadLayout n = omega arith
refusal (BadLimit i) n = omega arith
refusal (BadLink i) n = omega arith
refusal (RepeatedLink i) n = omega arith
refusal ShortRoom n = omega arith
refusal HasLinks n = omega arith
refusal NotControllable n = omega arith
refusal (ReasonsListed lines) n = omega arith
refusal NotClosed n = omega arith

module _ (s : List ℕ) where
  sound_leaves : {a : Answer} → a ≡ file_answer s → SoundLeaves a
  sound_leaves e =
      subst⁻¹ SoundLeaves e (record { code = file_code s; place = place_named (file_answer s) (omega (arith, file_code s)) })

  judge_leaves : (file : Answer) → FileCode file → (strict weak : List ℤ) (a : Answer) (strict' weak' : List ℤ)
      → Judged version1 file (plan_of s) strict weak a strict' weak' → JudgeLeaves s strict weak a strict' weak'
  judge_leaves file f strict weak a strict' weak' (Judged.bad_file n) =
      record {
        code = inl (omega arith);
        place = place_named file (omega arith);
        refusals = λ h k. (refl, refl);
        marks = not_later file 11 f (omega arith);
        strict_beyond = kept_refl ((plan_of s).points * (plan_of s).points) strict;
        open_beyond = kept_refl ((plan_of s).points * (plan_of s).points) weak;
      }
  judge_leaves file f strict weak a strict' weak' (Judged.short_room e r) =
      record {
        code = inl (omega arith);
        place = inl refl;
        refusals = λ h k. (refl, refl);
        marks = λ e. absurd (omega arith);
        strict_beyond = kept_refl ((plan_of s).points * (plan_of s).points) strict;
        open_beyond = kept_refl ((plan_of s).points * (plan_of s).points) weak;
      }
  judge_leaves file f strict weak a strict' weak' (Judged.uncontrollable e r u m) =
      record {
        code = inr refl;
        place = inl refl;
        refusals = λ h k. absurd (omega arith);
        marks = λ e. m;
        strict_beyond = m.strict_marked.kept;
        open_beyond = m.open_marked.kept;
      }
  judge_leaves file f strict weak a strict' weak' (Judged.judged e r t) =
      record {
        code = inl (omega arith);
        place = inl refl;
        refusals = λ h k. absurd (omega arith);
        marks = λ e. absurd (omega arith);
        strict_beyond = t.strict_kept;
        open_beyond = t.open_kept;
      }

  check_leaves : (file : Answer) → FileCode file → (strict weak : List ℤ) (a : Answer)
      → Checked version1 file (plan_of s) strict weak a → CheckLeaves s strict weak a
  check_leaves file f strict weak a (Checked.bad_file n) = record { code = inl (omega arith); place = place_named file (omega arith) }
  check_leaves file f strict weak a (Checked.short_room e r) = record { code = inl (omega arith); place = inl refl }
  check_leaves file f strict weak a (Checked.not_closed e r c) = record { code = inr refl; place = inl refl }
  check_leaves file f strict weak a (Checked.closed e r c) = record { code = inl (omega arith); place = inl refl }

  earliest_leaves : (file : Answer) → FileCode file → (strict weak times : List ℤ) (a : Answer) (strict' weak' times' : List ℤ)
      → Timed version1 file (plan_of s) strict weak times a strict' weak' times' → EarliestLeaves s strict weak times a strict' weak' times'
  earliest_leaves file f strict weak times a strict' weak' times' (Timed.bad_file n) =
      record {
        code = omega arith;
        place = place_named file (omega arith);
        refusals = λ h k. (refl, refl);
        marks = not_later file 11 f (omega arith);
        no_times = λ h. refl;
        strict_beyond = kept_refl ((plan_of s).points * (plan_of s).points) strict;
        open_beyond = kept_refl ((plan_of s).points * (plan_of s).points) weak;
        times_beyond = kept_refl (plan_of s).points times;
      }
  earliest_leaves file f strict weak times a strict' weak' times' (Timed.short_room e r) =
      record {
        code = omega arith;
        place = inl refl;
        refusals = λ h k. (refl, refl);
        marks = λ e. absurd (omega arith);
        no_times = λ h. refl;
        strict_beyond = kept_refl ((plan_of s).points * (plan_of s).points) strict;
        open_beyond = kept_refl ((plan_of s).points * (plan_of s).points) weak;
        times_beyond = kept_refl (plan_of s).points times;
      }
  earliest_leaves file f strict weak times a strict' weak' times' (Timed.has_links e r l k) =
      record {
        code = omega arith;
        place = inl refl;
        refusals = λ h k. (refl, refl);
        marks = λ e. absurd (omega arith);
        no_times = λ h. refl;
        strict_beyond = kept_refl ((plan_of s).points * (plan_of s).points) strict;
        open_beyond = kept_refl ((plan_of s).points * (plan_of s).points) weak;
        times_beyond = kept_refl (plan_of s).points times;
      }
  earliest_leaves file f strict weak times a strict' weak' times' (Timed.uncontrollable e r l z u m) =
      record {
        code = omega arith;
        place = inl refl;
        refusals = λ h k. absurd (omega arith);
        marks = λ e. m;
        no_times = λ h. refl;
        strict_beyond = m.strict_marked.kept;
        open_beyond = m.open_marked.kept;
        times_beyond = kept_refl (plan_of s).points times;
      }
  earliest_leaves file f strict weak times a strict' weak' times' (Timed.timed e r l z t o) =
      record {
        code = omega arith;
        place = inl refl;
        refusals = λ h k. absurd (omega arith);
        marks = λ e. absurd (omega arith);
        no_times = λ h. absurd (omega arith);
        strict_beyond = t.strict_kept;
        open_beyond = t.open_kept;
        times_beyond = o.times_kept;
      }

  module _ (m : Limit) (strict weak scratch : List ℤ) where
    -- a refusal that clears the scratch and keeps the tables
    cleared : (a : Answer) (scratch' : List ℤ) → place_of a ≡ 0 → (code_of a ≡ 11) ⊎ (code_of a ≡ 12)
        → Filled (2 * ((plan_of s).points * (plan_of s).points)) (pos zero) scratch scratch' → AddLeaves s m strict weak scratch a strict weak scratch'
    cleared a scratch' z k c =
        record {
          code = inr k;
          place = inl z;
          refusals = λ h. (refl, refl);
          scratch_kept = λ h l. absurd (⊎_elim (λ e. omega arith) (λ e. omega arith) k);
          scratch_cleared = λ h. c;
          strict_beyond = kept_refl ((plan_of s).points * (plan_of s).points) strict;
          open_beyond = kept_refl ((plan_of s).points * (plan_of s).points) weak;
          scratch_beyond = c.kept;
        }

    -- a refusal that keeps everything
    kept_all : (a : Answer) → 1 ≤ code_of a → code_of a ≤ 9 → AddLeaves s m strict weak scratch a strict weak scratch
    kept_all a l h =
        record {
          code = inl h;
          place = place_named a h;
          refusals = λ k. (refl, refl);
          scratch_kept = λ k q. refl;
          scratch_cleared = λ k. absurd (⊎_elim (λ e. omega arith) (λ e. omega arith) k);
          strict_beyond = kept_refl ((plan_of s).points * (plan_of s).points) strict;
          open_beyond = kept_refl ((plan_of s).points * (plan_of s).points) weak;
          scratch_beyond = kept_refl (2 * ((plan_of s).points * (plan_of s).points)) scratch;
        }

    add_leaves : (file : Answer) → FileCode file → (a : Answer) (strict' weak' scratch' : List ℤ)
        → Added version1 file (plan_of s) m strict weak scratch a strict' weak' scratch' → AddLeaves s m strict weak scratch a strict' weak' scratch'
    add_leaves file f a strict' weak' scratch' (Added.bad_file n) = kept_all file (refusal file n) (omega arith)
    add_leaves file f a strict' weak' scratch' (Added.short_room e r) = kept_all ShortRoom (omega arith) (omega arith)
    add_leaves file f a strict' weak' scratch' (Added.not_closed e r l c d) = cleared NotClosed scratch' refl (inr refl) d
    add_leaves file f a strict' weak' scratch' (Added.uncontrollable e r l c u d) = cleared NotControllable scratch' refl (inl refl) d
    add_leaves file f a strict' weak' scratch' (Added.beyond e r l c t b d) = cleared NotClosed scratch' refl (inr refl) d
    add_leaves file f a strict' weak' scratch' (Added.added e r l c t b d) =
        record {
          code = inl (omega arith);
          place = inl refl;
          refusals = λ h. absurd (omega arith);
          scratch_kept = λ h k. absurd (omega arith);
          scratch_cleared = λ h. d;
          strict_beyond = t.strict_kept;
          open_beyond = t.open_kept;
          scratch_beyond = d.kept;
        }

-- the plan of a sound file is in range
in_range : (s : List ℕ) → file_answer s ≡ Done → InRange version1 (plan_of s)
in_range s e = (good s e).ranges

-- ---- row access

-- of two tests that do not hold together one fails
one_fails : {X : Type 0} (a b : Bool) → (a && b) ≡ false → (a ≡ false → X) → (b ≡ false → X) → X
one_fails true b e f g = g e
one_fails false b e f g = f refl

-- the chosen table's numbers are the chosen numbers
now_chosen : (strict weak : Bor (List ℤ)) (which : Side) → (chosen strict weak which).now ≡ chosen strict.now weak.now which
now_chosen strict weak Strict = refl
now_chosen strict weak Open = refl

-- two parts that are the same cells lie at the same place
same_place : {table a b : Bor (List ℤ)} {k : ℕ} → OwnCells table k a → OwnCells table k b → a.ref_ptr ≡ b.ref_ptr
same_place p q i = ((p.block ∙ sym q.block) i, (p.offset ∙ sym q.offset) i)

module _ (strict weak : Bor (List ℤ)) (n x : ℕ) (which : Side) (part : Bor (List ℤ)) (h : RowHanded strict weak n x which part) where
  row_left : has_row (length strict.now) (length weak.now) n x ≡ true → RowLeaves strict weak n x which part
  row_left e =
      let f = fitting (length strict.now) (length weak.now) n x e in
      RowLeaves.row f.some f.few f.row f.strict_room f.open_room
      (record {
        cells = rw h.cells (row_length strict.now weak.now n x which e);
        cell = λ y k. rw (h.cells, now_chosen strict weak which) (row_cell strict.now weak.now n x which e y k);
        own = h.own e;
      })

  nothing_left : has_row (length strict.now) (length weak.now) n x ≡ false → RowLeaves strict weak n x which part
  unfolding has_row
  nothing_left e =
      let none : part.now ≡ [] = h.cells ∙ row_empty strict.now weak.now n x which e in
      let s = length strict.now in
      let w = length weak.now in
      one_fails (leb n version1.points) (leb 1 n && ltb x n && leb (n * n) s && leb (n * n) w) e
      (λ k. RowLeaves.nothing (inl (inr (leb-false n version1.points k))) none)
      (λ d. one_fails (leb 1 n && ltb x n && leb (n * n) s) (leb (n * n) w) d
      (λ c. one_fails (leb 1 n && ltb x n) (leb (n * n) s) c
      (λ b. one_fails (leb 1 n) (ltb x n) b
      (λ k. RowLeaves.nothing (inl (inl (leb-false 1 n k))) none)
      (λ k. RowLeaves.nothing (inr (inl (ltb-false x n k))) none))
      (λ k. RowLeaves.nothing (inr (inr (inl (leb-false (n * n) s k)))) none))
      (λ k. RowLeaves.nothing (inr (inr (inr (leb-false (n * n) w k)))) none))

  row_leaves : RowLeaves strict weak n x which part
  row_leaves = by (has_row (length strict.now) (length weak.now) n x) refl
    where
      by : (b : Bool) → has_row (length strict.now) (length weak.now) n x ≡ b → RowLeaves strict weak n x which part
      by true e = row_left e
      by false e = nothing_left e

-- whatever a call is lent, one of the numbered answers, every lent cell as the paper says, and no other answer
pub demand1 : Demand1
demand1 =
    record {
      sound = λ s a e. sound_leaves s e;
      sound_once = λ s a b x y. x ∙ sym y;
      judge = λ s. judge_leaves s (file_answer s) (file_code s);
      judge_once = λ s strict weak a b s₁ s₂ w₁ w₂ x y.
          let e = judged_once version1 (file_answer s) (plan_of s) (in_range s) x y in
          (e.answer, e.strict, e.weak);
      check = λ s. check_leaves s (file_answer s) (file_code s);
      check_once = λ s strict weak a b x y. checked_once version1 (file_answer s) (plan_of s) (in_range s) x y;
      earliest = λ s. earliest_leaves s (file_answer s) (file_code s);
      earliest_once = λ s strict weak times a b s₁ s₂ w₁ w₂ t₁ t₂ x y.
          let e = timed_once version1 (file_answer s) (plan_of s) (in_range s) x y in
          (e.answer, e.strict, e.weak, e.times);
      add = λ s m strict weak scratch. add_leaves s m strict weak scratch (add_answer s m) (add_code s m);
      add_once = λ s m strict weak scratch a b s₁ s₂ w₁ w₂ c₁ c₂ x y.
          let e = added_once version1 (add_answer s m) (plan_of s) m (λ h. in_range s ((add_exactly s m).0 h).0) (λ h. ((add_exactly s m).0 h).1) x y in
          (e.answer, e.strict, e.weak, e.scratch);
      row = row_leaves;
      row_once = λ strict weak n x which a b p q. (p.cells ∙ sym q.cells, λ e. same_place (p.own e) (q.own e));
    }
