-- What comes before the work, or the work. Assumes nothing.
use Rattle.std.proofs.lemmas.Result.{err_from_is_err_and}
use Rattle.answers.proofs.CodeZero.{not_done}
use Rattle.post.proofs.JudgeAnswers.{lent_judged}
use Rattle.post.proofs.judging.judge.Goals as goal

pub returns-in_err-plan : goal.returns-in_err-plan
returns-in_err-plan c =
    let p = err_from_is_err_and c.from_residual.result c.from_residual.ensures.1 in
    rw (p.1, p.2) (lent_judged _ _ c.in_err-plan.ensures not_done)

pub judge_sound-requires : goal.judge_sound-requires
judge_sound-requires c = (c.in_ok-plan.ensures.1, c.in_ok-plan.ensures.2)

pub returns : goal.returns
returns c = rw c.in_ok-plan.ensures.0 at c.judge_sound.ensures
