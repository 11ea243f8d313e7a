-- What Sound refuses Judge would refuse with the same answer.
use Rattle.std.proofs.Common.{sym, ◌∙◌}
use Rattle.std.proofs.lemmas.Result.{err_from_is_err_and}
use Rattle.rules.specs.Calls.{Judged}
use Rattle.verdict.proofs.answer.Goals as goal

pub returns-in_err-sound : goal.returns-in_err-sound
returns-in_err-sound c =
    let refused = err_from_is_err_and c.from_residual.result c.from_residual.ensures.1 in
    rw (refused.1, refused.2, sym c.sound.ensures ∙ c.in_err-sound.was) (Judged.bad_file (λ e. cc))
