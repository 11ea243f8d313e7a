-- The laws of the pair, Sound and then Judge, hold of the library's. Assumes nothing.
use mathlib.Core.Path.{◌≡◌, refl, sym, subst⁻¹, ◌∙◌}
use mathlib.Core.Logic.{◌≢◌, ◌↔◌}
use mathlib.Core.List.{List}
use Prim.Native.Nat.{ℕ}
use lib.IntN.{ℤ}
use Rattle.rules.specs.Answers.{Answer, Done}
use Rattle.rules.specs.Plan.{version1}
use Rattle.rules.specs.Calls.{Judged}
use Rattle.plan.specs.Layout.{plan_of}
use Rattle.plan.specs.File.{PlanFile}
use Rattle.plan.proofs.SoundFile.{sound_exactly}
use Rattle.demands.specs.Programs.{our_sound, our_judge}
use Rattle.demands.specs.Pair as pair
use Rattle.demands.specs.Pair.{InTurn, PairLaws}
use Rattle.demands.proofs.Demand2.{demand2}

-- an unsound file: its own answer, and both tables as they were
unsound : {file a : Answer} (s : List ℕ) {strict weak strict' weak' : List ℤ} → file ≢ Done → Judged version1 file (plan_of s) strict weak a strict' weak'
    → (a ≡ file) × (strict' ≡ strict) × (weak' ≡ weak)
unsound s n (Judged.bad_file b) = (refl, refl, refl)
unsound s n (Judged.short_room e q) = absurd (n e)
unsound s n (Judged.uncontrollable e q u m) = absurd (n e)
unsound s n (Judged.judged e q w) = absurd (n e)

module _ (s : List ℕ) (strict weak : List ℤ) where
  alone : {a : Answer} {strict' weak' : List ℤ} → InTurn our_sound our_judge s strict weak a strict' weak' → our_judge s strict weak a strict' weak'
  alone (pair.InTurn.refused {a} e n) = subst⁻¹ (λ (x : Answer). our_judge s strict weak x strict weak) e (Judged.bad_file (λ d. n (e ∙ d)))
  alone (pair.InTurn.gone_on e j) = j

  in_turn : {a : Answer} {strict' weak' : List ℤ} → our_judge s strict weak a strict' weak' → InTurn our_sound our_judge s strict weak a strict' weak'
  in_turn (Judged.bad_file n) = pair.InTurn.refused refl n
  in_turn (Judged.short_room e q) = pair.InTurn.gone_on (sym e) (Judged.short_room e q)
  in_turn (Judged.uncontrollable e q u m) = pair.InTurn.gone_on (sym e) (Judged.uncontrollable e q u m)
  in_turn (Judged.judged e q w) = pair.InTurn.gone_on (sym e) (Judged.judged e q w)

-- Sound says whether the file is one; Judge believes nobody, and the two in turn are Judge
pub pair_laws : PairLaws our_sound our_judge
pair_laws =
    record {
      sound_exactly = λ s a e. subst⁻¹ (λ (x : Answer). (x ≡ Done) ↔ PlanFile s) e (sound_exactly s);
      unchanged = λ s strict weak a strict' weak' e q j. demand2.judge_decides s strict weak a strict' weak' (sym e) q j;
      changed = λ t b strict weak a strict' weak' e n j.
          subst⁻¹ (λ (x : Answer). (a ≡ x) × (strict' ≡ strict) × (weak' ≡ weak)) e (unsound t (λ d. n (e ∙ d)) j);
      in_turn_as_alone = λ s strict weak a strict' weak'. (alone s strict weak, in_turn s strict weak);
    }
