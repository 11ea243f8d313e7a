-- What was written is the verdict of what `answer` gave, and what it was given is the front of the input.
use Rattle.std.proofs.Common.{List, ℕ, take, length, ◌≡◌, ◌∙◌, ap, subst, rules}
use Rattle.std.specs.Prelude.{⊤, None, Some, Ok, Err, IfSome, OnOk}
use Rattle.std.specs.declared.option.Option.{Option}
use Rattle.std.specs.Io.KnownBytes.{Appends}
use Rattle.std.specs.declared.result.Result.{Result}
use Rattle.rules.specs.Answers.{Answer}
use Rattle.console.specs.Verdict.{verdict_of}
use Rattle.verdict.specs.Program.{IsJudged}
use Rattle.verdict.proofs.run.Goals as goal

told : {E : Type 0} (result : Result ⊤ E) (old new input : Option (List ℕ)) (room most : ℕ) (file : List ℕ) (a : Answer) → room ≡ most
    → IfSome input (λ given. file ≡ take room given) → IsJudged file a → OnOk result (Appends old new (verdict_of a))
    → OnOk result (IfSome input (λ given. (x : Answer) × IsJudged (take most given) x × Appends old new (verdict_of x)))
told (Err e) old new input room most file a fits same judged wrote = tt
told (Ok u) old new None room most file a fits same judged wrote = tt
told (Ok u) old new (Some given) room most file a fits same judged wrote =
    (a, subst (λ (f : List ℕ). IsJudged f a) (same ∙ ap (λ m. take m given) fits) judged, wrote)

pub returns : goal.returns
returns g c =
    told c.write_verdict.result (g.W.Write.contents c.args.output.now) (g.W.Write.contents c.write_verdict.new.out) (g.R.Read.remaining c.args.input.now)
    (length c.read_full.new.bytes) 12825 (take c.in_ok-got.got c.read_full.new.bytes) c.answer-a.result (search rules)
    c.in_ok-got.ensures.front (record { strict = c.answer-a.new.strict; weak = c.answer-a.new.open; judged = c.answer-a.ensures })
    c.write_verdict.ensures
