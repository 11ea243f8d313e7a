-- What a line rests on as a join line and as a rule line, up to the million.
use Rattle.std.proofs.Common.{arith}
use Rattle.rests.proofs.GoingBack.{both}
use Rattle.rests.proofs.rests.Goals as goal

pub returns : goal.returns
returns c = omega (arith, both c.args.kinds.now c.args.firsts.now c.args.seconds.now c.args.line)
