-- Judge's refusal, or the times of the tables that it wrote. Assumes nothing.
use Rattle.std.proofs.lemmas.Result.{err_from_is_err_and}
use Rattle.answers.proofs.CodeZero.{not_done}
use mathlib.Core.Path.{refl}
use Rattle.lowering.proofs.Common.{few}
use Rattle.post.proofs.EarliestAnswers.{refused_timed, written_of, written_sound, timed_done}
use Rattle.post.proofs.timing.timed.Goals as goal

pub returns-in_err-judge : goal.returns-in_err-judge
returns-in_err-judge c =
    let p = err_from_is_err_and c.from_residual.result c.from_residual.ensures.1 in
    rw (p.1, p.2) (refused_timed _ _ _ _ c.args.plan.ready c.requires.0 _ _ _ c.requires.1 c.requires.2 c.requires.3 c.in_err-judge.ensures not_done)

pub times_all-requires : goal.times_all-requires
times_all-requires c = (
  few c.args.plan.ready,
  written_sound _ _ _ _ c.args.plan.ready c.requires.0 _ _ c.args.times.now c.requires.1 c.requires.2 c.requires.3 (written_of c.in_ok-judge.ensures refl),
  c.requires.3,
)

pub returns : goal.returns
returns c =
    timed_done _ _ _ _ c.args.plan.ready c.requires.0 _ _ _ c.requires.1 c.requires.2 c.requires.3 (written_of c.in_ok-judge.ensures refl) c.times_all.ensures
