-- The second demand holds. Assumes nothing.
use mathlib.Core.Path.{◌≡◌, refl, sym}
use mathlib.Core.Logic.{◌⊎◌, inl, inr, ◌↔◌}
use mathlib.Core.List.{List}
use Prim.Native.Nat.{ℕ}
use native.Mathlib.Omega.{arith}
use lib.IntN.{ℤ}
use Rattle.rules.specs.Answers.{Answer, Done, ShortRoom, NotControllable, NotClosed}
use Rattle.rules.specs.Plan.{Plan, version1, InRange}
use Rattle.rules.specs.Walks.{Uncontrollable}
use Rattle.rules.specs.Cells.{table_of}
use Rattle.rules.specs.Tables.{Closed}
use Rattle.rules.specs.Calls.{RoomForTables, Written, Judged, Checked}
use Rattle.rules.specs.Demands.{Demand2OfPlans}
use Rattle.rules.proofs.Demands.{version1_coherent, demand2_of_plans}
use Rattle.rules.proofs.OneAnswer.{short-or-room}
use Rattle.plan.specs.Layout.{plan_of}
use Rattle.plan.proofs.SoundFile.{good}
use Rattle.demands.specs.Programs.{our_judge, our_check}
use Rattle.demands.specs.Demand2.{Demand2}

-- the same on plans
plans : Demand2OfPlans version1
plans = demand2_of_plans version1 version1_coherent

-- two answers that differ
pub not_done_refused : {X : Type 0} → Done ≡ NotControllable → X
not_done_refused e = let z : ◌≡◌ {A = ℕ} 0 1 = cc in absurd (omega arith)

pub not_done_unclosed : {X : Type 0} → NotClosed ≡ Done → X
not_done_unclosed e = let z : ◌≡◌ {A = ℕ} 0 1 = cc in absurd (omega arith)

pub not_short_done : {X : Type 0} → ShortRoom ≡ Done → X
not_short_done e = let z : ◌≡◌ {A = ℕ} 0 1 = cc in absurd (omega arith)

-- what a Done answer of Judge says
pub record JudgedDone (file : Answer) (p : Plan) (strict weak strict' weak' : List ℤ) : Type 0 where
  pub sound : file ≡ Done
  pub room : RoomForTables p strict weak
  pub written : Written version1 p strict weak strict' weak'

pub judged_done : {file : Answer} {p : Plan} {strict weak strict' weak' : List ℤ} {a : Answer}
    → Judged version1 file p strict weak a strict' weak' → a ≡ Done → JudgedDone file p strict weak strict' weak'
judged_done (Judged.bad_file n) k = absurd (n k)
judged_done (Judged.short_room e s) k = not_short_done k
judged_done (Judged.uncontrollable e r u m) k = not_done_refused (sym k)
judged_done (Judged.judged e r t) k = record { sound = e; room = r; written = t }

-- Judge with room on a sound file: 0 or 11, and 11 exactly when
record Decided (p : Plan) (a : Answer) : Type 0 where
  two : (a ≡ Done) ⊎ (a ≡ NotControllable)
  exactly : (a ≡ NotControllable) ↔ Uncontrollable p

decided : {file : Answer} {p : Plan} {strict weak strict' weak' : List ℤ} {a : Answer} → InRange version1 p → file ≡ Done
    → RoomForTables p strict weak → Judged version1 file p strict weak a strict' weak' → Decided p a
decided g e r (Judged.bad_file n) = absurd (n e)
decided g e r (Judged.short_room k s) = short-or-room s r
decided g e r (Judged.uncontrollable k q u m) = record { two = inr refl; exactly = (λ h. u, λ h. refl) }
decided {p} g e r (Judged.judged {strict'} {weak'} k q t) =
    record {
      two = inl refl;
      exactly = (
        λ h. not_done_refused h,
        λ u.
            absurd
            (plans.tables_exclude_uncontrollable p (table_of version1 p.points strict') (table_of version1 p.points weak') g t.tables u),
      );
    }

-- Check with room on a sound file accepts exactly closed tables
accepts : {file : Answer} {p : Plan} {strict weak : List ℤ} {a : Answer} → file ≡ Done → RoomForTables p strict weak
    → Checked version1 file p strict weak a
    → (a ≡ Done) ↔ Closed version1 p (table_of version1 p.points strict) (table_of version1 p.points weak)
accepts e r (Checked.bad_file n) = absurd (n e)
accepts e r (Checked.short_room k s) = short-or-room s r
accepts e r (Checked.not_closed k q n) = (λ h. not_done_unclosed h, λ c. absurd (n c))
accepts e r (Checked.closed k q c) = (λ h. c, λ h. refl)

-- a Done answer of Check says that the tables are closed
closed_of : {file : Answer} {p : Plan} {strict weak : List ℤ} {a : Answer} → Checked version1 file p strict weak a → a ≡ Done
    → (file ≡ Done) × Closed version1 p (table_of version1 p.points strict) (table_of version1 p.points weak)
closed_of (Checked.bad_file n) k = absurd (n k)
closed_of (Checked.short_room e s) k = not_short_done k
closed_of (Checked.not_closed e r n) k = not_done_unclosed k
closed_of (Checked.closed e r c) k = (e, c)

-- tables that Judge wrote have the room that was lent
written_room : {p : Plan} {strict weak strict' weak' : List ℤ} → RoomForTables p strict weak → Written version1 p strict weak strict' weak'
    → RoomForTables p strict' weak'
written_room r t =
    record {
      strict_room = omega (arith, r.strict_room, t.strict_kept.length_same);
      open_room = omega (arith, r.open_room, t.open_kept.length_same);
    }

pub demand2 : Demand2 our_judge our_check
demand2 =
    record {
      judge_decides = λ s strict weak a strict' weak' e r j. (decided (good s e).ranges e r j).two;
      judge_refuses_exactly = λ s strict weak a strict' weak' e r j. (decided (good s e).ranges e r j).exactly;
      judge_writes_least = λ s strict weak strict' weak' j. (judged_done j refl).written.tables;
      judge_strict_near_zero = λ s strict weak strict' weak' j.
          let d = judged_done j refl in
          plans.strict_near_zero (plan_of s) (table_of version1 (plan_of s).points strict') (table_of version1 (plan_of s).points weak')
          (good s d.sound).ranges d.written.tables;
      judge_open_near_zero = λ s strict weak strict' weak' j.
          let d = judged_done j refl in
          plans.open_near_zero (plan_of s) (table_of version1 (plan_of s).points strict') (table_of version1 (plan_of s).points weak')
          (good s d.sound).ranges d.written.tables;
      check_accepts_exactly = λ s strict weak a e r c. accepts e r c;
      check_accepts_judged = λ s strict weak strict' weak' a j c.
          let d = judged_done j refl in
          (accepts d.sound (written_room d.room d.written) c).1
          (plans.tables_are_closed (plan_of s) (table_of version1 (plan_of s).points strict') (table_of version1 (plan_of s).points weak')
          (good s d.sound).ranges d.written.tables);
      check_rejects_uncontrollable = λ s strict weak a c u k.
          let d = closed_of c k in
          plans.closed_excludes_uncontrollable (plan_of s) (table_of version1 (plan_of s).points strict) (table_of version1 (plan_of s).points weak)
          (good s d.0).ranges d.1 u;
    }
