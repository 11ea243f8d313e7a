-- The tables settle, or both are marked. Assumes nothing.
use Rattle.post.proofs.JudgeAnswers.{judged_written, judged_refused}
use Rattle.post.proofs.judging.judge_sound.Goals as goal

pub returns-then-settle : goal.returns-then-settle
returns-then-settle c =
    judged_written _ _ _ _ c.args.plan.ready _ _ c.requires.0 c.requires.1 _ _ (c.settle.ensures.holds c.if-settle.true)

pub returns : goal.returns
returns c =
    judged_refused _ _ _ _ c.args.plan.ready _ _ c.requires.0 c.requires.1 _ _ _ _ (c.settle.ensures.fails c.if-settle.false) c.mark_all.ensures c.mark_all-2.ensures
