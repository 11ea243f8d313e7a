-- What `write`'s statement fixes: two answers are equal, in code, place and every byte of the buffer; and the code is 0 or 3 to 9.
-- Assumes nothing.
use mathlib.Core.Path.{◌≡◌, refl, sym, ap, ◌∙◌}
use mathlib.Core.Logic.{◌≢◌, ◌⊎◌, inl, inr}
use mathlib.Core.Bool.{Bool, true, false, true≢false}
use mathlib.Core.List.{List}
use Prim.Native.Nat.{ℕ, ◌≤◌}
use native.Mathlib.Omega.{arith}
use lib.Dec.{leb, eqb}
use lib.ListN.{length}
use Rattle.rules.specs.Plan.{version1}
use Rattle.rules.specs.Answers.{code_of, Answer, Done, ShortRoom}
use Rattle.answers.specs.Order.{unless}
use Rattle.answers.proofs.CodeZero.{code_zero}
use Rattle.plan.specs.File.{plan_answer}
use Rattle.plan.proofs.PlanCodes.{Refusals, then_holds, unless_holds, plan_holds}
use Rattle.writing.specs.PlanLists.{Lists, listed_plan, even_lists}
use Rattle.writing.specs.Wrote.{file_of, write_answer, Wrote}

pub wrote_once : (l : Lists) (before : List ℕ) (a b : Answer) (after₁ after₂ : List ℕ) → Wrote l before a after₁ → Wrote l before b after₂
    → (a ≡ b) × (after₁ ≡ after₂)
wrote_once l before a b after₁ after₂ x y = (same, by (eqb (code_of a) 0) refl)
  where
    same : a ≡ b
    same = x.answer ∙ sym y.answer

    by : (t : Bool) → eqb (code_of a) 0 ≡ t → after₁ ≡ after₂
    by true q =
        let done : a ≡ Done = code_zero a q in
        x.written done ∙ sym (y.written (sym same ∙ done))
    by false q =
        let refused : a ≢ Done = λ d. true≢false (sym (ap (λ (c : Answer). eqb (code_of c) 0) d) ∙ q) in
        x.refused refused ∙ sym (y.refused (λ d. refused (same ∙ d)))

-- a file's first two codes never come
abbrev pub WriteCode : Answer → Type 0
WriteCode a = (code_of a ≡ 0) ⊎ ((3 ≤ code_of a) × (code_of a ≤ 9))

refusals : Refusals WriteCode
refusals =
    record {
      done = inl refl;
      points = inr (omega arith);
      counts = inr (omega arith);
      layout = inr (omega arith);
      limit = λ i. inr (omega arith);
      link = λ i. inr (omega arith);
      repeated = λ i. inr (omega arith);
    }

pub wrote_code : (l : Lists) (before : List ℕ) (a : Answer) (after : List ℕ) → Wrote l before a after → WriteCode a
unfolding write_answer
wrote_code l before a after w =
    let fits = leb (length (file_of l)) (length before) in
    rw w.answer
    (then_holds WriteCode (plan_answer version1 (even_lists l) (listed_plan l)) (unless fits ShortRoom)
    (plan_holds WriteCode refusals version1 (even_lists l) (listed_plan l))
    (unless_holds WriteCode fits ShortRoom (inl refl) (inr (omega arith))))
