-- What the codes of the call for the list of reasons say of a plan in range: 0 exactly where it is controllable, else 11 with the number of lines, or 9 where they
-- are more than their room; 11 exactly where Judge answers 11. Assumes nothing.
use mathlib.Core.Path.{◌≡◌, refl, ap}
use mathlib.Core.Logic.{◌⊎◌, inl, inr, ◌↔◌}
use mathlib.Core.List.{List}
use Prim.Native.Nat.{ℕ, ◌≤◌, ◌<◌}
use native.Mathlib.Omega.{arith}
use lib.ListN.{length}
use lib.IntN.{ℤ}
use Rattle.rules.specs.Answers.{Answer, Done, ShortRoom, ReasonsListed, code_of, place_of}
use Rattle.rules.specs.Plan.{Plan, Ranges, InRange}
use Rattle.rules.specs.Walks.{Uncontrollable}
use Rattle.rules.specs.Cells.{table_of}
use Rattle.rules.specs.Calls.{RoomForTables, Judged}
use Rattle.rules.proofs.Points.{in_range_pointed}
use Rattle.rules.proofs.Justified.{tables_controllable}
use Rattle.rules.proofs.OneAnswer.{short-or-room}
use Rattle.chain.specs.Lines.{Line}
use Rattle.chain.specs.Reasons.{ReasonList}
use Rattle.chain.specs.Call.{Lists, room_of, work_of, Reasoned, ReasonAnswers}
use Rattle.chain.proofs.OneList.{one}
use Rattle.chain.proofs.ReasonsProved.{reason_laws}
use Rattle.chain.proofs.ReasonedOnce.{long-or-fits}

-- ---- the three answers to a sound file with work room enough

-- what each says of the plan and of its list, for lists with that room
data Worked (p : Plan) (room : ℕ) : Answer → Type 0 where
  going : (Uncontrollable p → ⊥) → Worked p room Done
  long : {ls : List Line} → Uncontrollable p → ReasonList p ls → room < length ls → Worked p room ShortRoom
  fits : {ls : List Line} → Uncontrollable p → ReasonList p ls → length ls ≤ room → Worked p room (ReasonsListed (length ls))

-- a list ends below zero exactly where the plan is uncontrollable
worked : {r : Ranges} {p : Plan} {lists lists' : Lists} {work work' : List ℤ} {a : Answer} → InRange r p → work_of p ≤ length work
    → Reasoned Done p lists work a lists' work' → Worked p (room_of lists) a
worked g h (Reasoned.bad_file n) = absurd (n refl)
worked g h (Reasoned.short_work e s) = absurd (omega arith)
worked {r} {p} g h (Reasoned.controllable {ls = ls} e k l b c) = going ((reason_laws r).going_controllable p ls g l b)
worked {r} {p} g h (Reasoned.too_long {ls = ls} e k l b f c) = long ((reason_laws r).ended_refused p ls g l b) l f
worked {r} {p} g h (Reasoned.listed {ls = ls} e k l b f t c) = fits ((reason_laws r).ended_refused p ls g l b) l f

-- ---- what their codes say

done : {p : Plan} {room : ℕ} {a : Answer} → Worked p room a → (code_of a ≡ 0) ↔ (Uncontrollable p → ⊥)
done (going n) = (λ e. n, λ m. refl)
done (long u l f) = (λ e. absurd (omega arith), λ n. absurd (n u))
done (fits u l f) = (λ e. absurd (omega arith), λ n. absurd (n u))

refused : {p : Plan} {room : ℕ} {a : Answer} → Worked p room a → Uncontrollable p → (code_of a ≡ 11) ⊎ (code_of a ≡ 9)
refused (going n) u = absurd (n u)
refused (long v l f) u = inr refl
refused (fits v l f) u = inl refl

-- there is one list, so what is said of that of the answer is said of any
nine : {p : Plan} {room : ℕ} {a : Answer} → Worked p room a → (ls : List Line) → ReasonList p ls
    → (code_of a ≡ 9) ↔ (Uncontrollable p × (room < length ls))
nine (going n) ls k = (λ e. absurd (omega arith), λ q. absurd (n q.0))
nine {p} {room} (long {ls = ms} u l f) ls k =
    let same : length ms ≡ length ls = ap length (one p ms ls l k) in
    let more : room < length ls = omega arith in
    (λ e. (u, more), λ q. refl)
nine (fits u l f) ls k = (λ e. absurd (omega arith), λ q. long-or-fits k l q.1 f)

number : {p : Plan} {room : ℕ} {a : Answer} → Worked p room a → code_of a ≡ 11 → (ls : List Line) → ReasonList p ls → place_of a ≡ length ls
number (going n) e ls k = absurd (omega arith)
number (long u l f) e ls k = absurd (omega arith)
number {p} (fits {ls = ms} u l f) e ls k = ap length (one p ms ls l k)

-- ---- Judge

-- with room for its list the call answers 11 exactly where the plan is uncontrollable
eleven_exactly : {p : Plan} {room : ℕ} {a : Answer} → Worked p room a → ((ls : List Line) → ReasonList p ls → length ls ≤ room)
    → (code_of a ≡ 11) ↔ Uncontrollable p
eleven_exactly (going n) h = (λ e. absurd (omega arith), λ u. absurd (n u))
eleven_exactly (long {ls = ms} u l f) h = long-or-fits l l f (h ms l)
eleven_exactly (fits u l f) h = (λ e. u, λ v. refl)

-- and so does Judge with room for its tables, since only a controllable plan has tables
judge_exactly : {r : Ranges} {p : Plan} {strict weak strict' weak' : List ℤ} {b : Answer} → InRange r p → RoomForTables p strict weak
    → Judged r Done p strict weak b strict' weak' → (code_of b ≡ 11) ↔ Uncontrollable p
judge_exactly g q (Judged.bad_file n) = absurd (n refl)
judge_exactly g q (Judged.short_room e s) = short-or-room s q
judge_exactly g q (Judged.uncontrollable e k u m) = (λ h. u, λ h. refl)
judge_exactly {r} {p} g q (Judged.judged {strict' = s} {weak' = w} e k t) =
    (λ h. absurd (omega arith), λ u. absurd (tables_controllable p (table_of r p.points s) (table_of r p.points w) (in_range_pointed g) t.tables u))

both : {A B C : Type 0} → A ↔ C → B ↔ C → A ↔ B
both f g = (λ a. g.1 (f.0 a), λ b. f.1 (g.0 b))

pub reason_answers : (r : Ranges) → ReasonAnswers r
reason_answers r =
    record {
      done_exactly = λ p lists work a lists' work' g h c. done (worked g h c);
      else_refused = λ p lists work a lists' work' g h c. refused (worked g h c);
      nine_exactly = λ p lists work a lists' work' g h c. nine (worked g h c);
      eleven = λ p lists work a lists' work' g h c. number (worked g h c);
      as_judge = λ p lists work a lists' work' g h c room strict weak b strict' weak' q j.
          both (eleven_exactly (worked g h c) room) (judge_exactly g q j);
    }
