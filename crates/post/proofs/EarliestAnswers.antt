-- Earliest, answer by answer: from what its calls ensure to its statement. Assumes nothing.
use mathlib.Core.Path.{◌≡◌, refl, sym, ap, subst, ◌∙◌}
use mathlib.Core.Logic.{◌≢◌, inl, inr}
use mathlib.Core.List.{List, [], ◌∷◌}
use Prim.Native.Nat.{ℕ, ◌*◌, ◌≤◌, ◌<◌}
use native.Mathlib.Omega.{arith}
use lib.ListN.{length}
use lib.IntN.{ℤ}
use Rattle.rules.specs.Plan.{Link, Plan, version1}
use Rattle.rules.specs.Cells.{table_of}
use Rattle.rules.specs.Calls as calls
use Rattle.rules.specs.Calls.{RoomForTables, Written, Judged, Timed, TimesOf}
use Rattle.rules.specs.Answers.{Answer, Done, ShortRoom, HasLinks, code_of}
use Rattle.rules.proofs.Demands.{version1_coherent, demand2_of_plans}
use Rattle.plan.specs.Layout.{plan_of}
use Rattle.plan.specs.File.{file_answer}
use Rattle.plan.proofs.SoundFile.{links_length}
use Rattle.cell.proofs.StoredCells.{within_stored}
use Rattle.lowering.specs.Table.{Sound, Ready}
use Rattle.lowering.proofs.Laws.ReadyFile.{ready_points, ready_in_range}
use Rattle.post.specs.Lent.{Lent}
use Rattle.post.specs.Lent as before
use Rattle.post.proofs.JudgeAnswers.{ready_room}

-- ---- before the work

-- a refusal, as Earliest answers it
pub lent_timed : {s : List ℕ} {a : Answer} (strict weak times : List ℤ) → Lent s (length strict) (length weak) a → a ≢ Done
    → Timed version1 (file_answer s) (plan_of s) strict weak times a strict weak times
lent_timed strict weak times (before.Lent.bad_file n) e = calls.Timed.bad_file n
lent_timed strict weak times (before.Lent.short d r) e = calls.Timed.short_room d (inl r)
lent_timed strict weak times (before.Lent.enough d r w) e = absurd (e refl)

empty_links : (ks : List Link) → length ks ≡ 0 → ks ≡ []
empty_links [] e = refl
empty_links (k ∷ ks) e = absurd (omega arith)

module _ {s : List ℕ} {n m k : ℕ} (r : Ready s n m k) {strict weak times : List ℤ} (ls : n * n ≤ length strict) (lw : n * n ≤ length weak) where
  -- too few times
  pub times_short : length times < n → Timed version1 (file_answer s) (plan_of s) strict weak times ShortRoom strict weak times
  times_short l = calls.Timed.short_room r.sound (inr (omega (arith, ready_points s n m k r)))

  -- a plan with links
  pub times_links : n ≤ length times → k ≢ 0 → Timed version1 (file_answer s) (plan_of s) strict weak times HasLinks strict weak times
  times_links l z =
      calls.Timed.has_links r.sound (ready_room s n m k r strict weak ls lw) (omega (arith, ready_points s n m k r))
      (λ e. z (r.links ∙ sym (links_length s) ∙ ap (λ (ks : List Link). length ks) e))

-- ---- the work

-- what a Done answer of Judge wrote
pub written_of : {file a : Answer} {p : Plan} {strict weak strict' weak' : List ℤ} → Judged version1 file p strict weak a strict' weak' → a ≡ Done
    → Written version1 p strict weak strict' weak'
written_of (calls.Judged.bad_file b) d = absurd (b d)
written_of (calls.Judged.short_room e b) d = let z : ◌≡◌ {A = ℕ} 9 0 = ap code_of d in absurd (omega arith)
written_of (calls.Judged.uncontrollable e q u b) d = let z : ◌≡◌ {A = ℕ} 11 0 = ap code_of d in absurd (omega arith)
written_of (calls.Judged.judged e q w) d = w

module _ (s : List ℕ) (n m k : ℕ) (r : Ready s n m k) (z : k ≡ 0) (strict weak times : List ℤ) (ls : n * n ≤ length strict) (lw : n * n ≤ length weak)
    (lt : n ≤ length times) where
  no_links : (plan_of s).links ≡ []
  no_links = empty_links (plan_of s).links (links_length s ∙ sym r.links ∙ z)

  enough_times : (plan_of s).points ≤ length times
  enough_times = omega (arith, ready_points s n m k r)

  -- Judge's refusal is Earliest's
  pub refused_timed : {a : Answer} {strict' weak' : List ℤ} → Judged version1 (file_answer s) (plan_of s) strict weak a strict' weak' → a ≢ Done
      → Timed version1 (file_answer s) (plan_of s) strict weak times a strict' weak' times
  refused_timed (calls.Judged.bad_file b) d = absurd (b r.sound)
  refused_timed (calls.Judged.short_room e b) d = calls.Timed.short_room e (inl b)
  refused_timed (calls.Judged.uncontrollable e q u b) d = calls.Timed.uncontrollable e q enough_times no_links u b
  refused_timed (calls.Judged.judged e q w) d = absurd (d refl)

  -- the plan's tables are such as a sweep stores
  pub written_sound : {strict' weak' : List ℤ} → Written version1 (plan_of s) strict weak strict' weak' → Sound version1 n strict'
  written_sound {strict'} {weak'} w =
      let p : (plan_of s).points ≡ n = ready_points s n m k r in
      subst (λ (x : ℕ). Sound version1 x strict') p
      (record {
        room = omega (arith, p, ap (λ (x : ℕ). x * x) p, w.strict_kept.length_same);
        stored = λ x y hx hy.
            within_stored version1.reach (table_of version1 (plan_of s).points strict' x y)
            (((demand2_of_plans version1 version1_coherent).tables_are_closed (plan_of s) (table_of version1 (plan_of s).points strict')
            (table_of version1 (plan_of s).points weak') (ready_in_range s n m k r) w.tables).strict_within x y hx hy);
      })

  -- with its times, Earliest is done
  pub timed_done : {strict' weak' times' : List ℤ} → Written version1 (plan_of s) strict weak strict' weak'
      → ((p : Plan) → p.points ≡ n → TimesOf version1 p strict' times times')
      → Timed version1 (file_answer s) (plan_of s) strict weak times Done strict' weak' times'
  timed_done w t =
      calls.Timed.timed r.sound (ready_room s n m k r strict weak ls lw) enough_times no_links w (t (plan_of s) (ready_points s n m k r))
