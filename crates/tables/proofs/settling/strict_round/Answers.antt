-- Lower and then Upper. Assumes nothing.
use Rattle.lowering.proofs.Common.{link_at, upper_round, version1}
use Rattle.lowering.specs.Spread.{strict_round}
use Rattle.joining.proofs.Taking.{takes_then}
use Rattle.tables.proofs.settling.strict_round.Goals as goal

pub returns : goal.returns
unfolding strict_round
returns c =
    let p = c.args.plan in
    takes_then (λ n. upper_round version1 n (link_at p.file.now p.m) p.k) c.lower_round.ensures c.upper_round.ensures
