-- Judge, answer by answer: from what its calls ensure to its statement. Assumes nothing.
use mathlib.Core.Path.{◌≡◌, refl, sym, ap, subst, subst⁻¹, ◌∙◌}
use Rattle.std.specs.Prelude.{◌⊎◌, Err}
use mathlib.Core.Logic.{◌≢◌, inl, inr}
use mathlib.Core.List.{List}
use Prim.Native.Nat.{ℕ, ◌*◌, ◌≤◌, ◌<◌}
use native.Mathlib.Omega.{arith}
use lib.ListN.{length}
use lib.IntN.{ℤ, pos}
use Rattle.rules.specs.Plan.{version1}
use Rattle.rules.specs.Answers.{Answer, Done, ShortRoom, NotControllable}
use Rattle.rules.specs.declared.Refusal.{Refusal}
use Rattle.answers.proofs.CodeZero.{not_done}
use Rattle.rules.specs.Calls as calls
use Rattle.rules.specs.Calls.{Kept, Filled, RoomForTables, Written, Judged}
use Rattle.plan.specs.Layout.{plan_of}
use Rattle.plan.specs.File.{file_answer}
use Rattle.lowering.specs.Table.{Ready}
use Rattle.lowering.specs.Sweep.{mark_all}
use Rattle.tables.specs.Ends.{Refused}
use Rattle.lowering.proofs.Laws.ReadyFile.{ready_points}
use Rattle.lowering.proofs.Theory.FirstTables.{AllMark, marks}
use Rattle.lowering.proofs.Theory.SweepsEnd.{marks_kept, kept_trans}
use Rattle.post.specs.Lent.{Lent}
use Rattle.post.specs.Lent as before

-- ---- what comes before the work

-- the file's own refusal
pub lent_refused : {s : List ℕ} (strict weak : ℕ) {r : Refusal} → file_answer s ≡ Err r → Lent s strict weak (Err r)
lent_refused {s} strict weak e = subst (Lent s strict weak) e (before.Lent.bad_file (λ d. not_done (sym e ∙ d)))

-- the counts of a sound file say how many cells a table has
pub lent_short : {s : List ℕ} {n m k : ℕ} → Ready s n m k → {strict weak : ℕ} → (strict < n * n) ⊎ (weak < n * n) → Lent s strict weak ShortRoom
lent_short {s} {n} {m} {k} r (inl l) = before.Lent.short r.sound (inl (omega (arith, ap (λ (x : ℕ). x * x) (ready_points s n m k r))))
lent_short {s} {n} {m} {k} r (inr l) = before.Lent.short r.sound (inr (omega (arith, ap (λ (x : ℕ). x * x) (ready_points s n m k r))))

-- a refusal, as Judge answers it
pub lent_judged : {s : List ℕ} {a : Answer} (strict weak : List ℤ) → Lent s (length strict) (length weak) a → a ≢ Done
    → Judged version1 (file_answer s) (plan_of s) strict weak a strict weak
lent_judged strict weak (before.Lent.bad_file n) e = calls.Judged.bad_file n
lent_judged strict weak (before.Lent.short d r) e = calls.Judged.short_room d r
lent_judged strict weak (before.Lent.enough d r w) e = absurd (e refl)

-- ---- the work

module _ (s : List ℕ) (n m k : ℕ) (r : Ready s n m k) (strict weak : List ℤ) (ls : n * n ≤ length strict) (lw : n * n ≤ length weak) where
  cells : (plan_of s).points * (plan_of s).points ≡ n * n
  cells = ap (λ (x : ℕ). x * x) (ready_points s n m k r)

  pub ready_room : RoomForTables (plan_of s) strict weak
  ready_room = record { strict_room = omega (arith, cells); open_room = omega (arith, cells) }

  -- the plan's tables were written
  pub judged_written : (strict' weak' : List ℤ) → Written version1 (plan_of s) strict weak strict' weak'
      → Judged version1 (file_answer s) (plan_of s) strict weak Done strict' weak'
  judged_written strict' weak' w = calls.Judged.judged r.sound ready_room w

  filled : (t u v : List ℤ) → Kept ((plan_of s).points * (plan_of s).points) t u → n * n ≤ length u → v ≡ mark_all version1 (n * n) u
      → Filled ((plan_of s).points * (plan_of s).points) (pos version1.mark) t v
  filled t u v q l e =
      let a : AllMark version1 (n * n) u (mark_all version1 (n * n) u) = marks version1 (n * n) u l in
      subst⁻¹ (λ (x : ℕ). Filled x (pos version1.mark) t v) cells
      (subst⁻¹ (λ (x : List ℤ). Filled (n * n) (pos version1.mark) t x) e
      (record {
        kept = kept_trans (subst (λ (x : ℕ). Kept x t u) cells q) (marks_kept a);
        all_same = a.all;
      }))

  -- the plan was refused, and both tables were marked
  pub judged_refused : (strict' weak' strict'' weak'' : List ℤ) → Refused (plan_of s) strict weak strict' weak'
      → strict'' ≡ mark_all version1 (n * n) strict' → weak'' ≡ mark_all version1 (n * n) weak'
      → Judged version1 (file_answer s) (plan_of s) strict weak NotControllable strict'' weak''
  judged_refused strict' weak' strict'' weak'' f es ew =
      calls.Judged.uncontrollable r.sound ready_room f.uncontrollable
      (record {
        strict_marked = filled strict strict' strict'' f.strict_kept (omega (arith, f.strict_kept.length_same)) es;
        open_marked = filled weak weak' weak'' f.open_kept (omega (arith, f.open_kept.length_same)) ew;
      })
