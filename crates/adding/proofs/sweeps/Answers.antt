-- Refused, out of reach, or taken. Assumes nothing.
use Rattle.lowering.proofs.Common.{arith, few, rules}
use Rattle.adding.proofs.AddAnswers.{start_within, started, refused, out, taken}
use Rattle.adding.proofs.sweeps.Goals as goal

pub begin-requires : goal.begin-requires
begin-requires c = search (few, start_within, c.args.plan.ready, rules)

pub settle-requires : goal.settle-requires
settle-requires c = search (started, c.args.plan.ready, rules)

pub returns-then-not-settle : goal.returns-then-not-settle
returns-then-not-settle c =
    refused c.args.plan.ready c.requires.0 c.requires.1 (search) (search) _ _ c.settle.ensures (search) c.if-not-settle.true c.clear.ensures

pub returns-then-not-all_in_reach : goal.returns-then-not-all_in_reach
returns-then-not-all_in_reach c =
    out c.args.plan.ready c.requires.0 c.requires.1 (search) (search) _ _ c.settle.ensures (search) c.if-not-settle.false
    (c.all_in_reach.ensures.fails c.if-not-all_in_reach.true) c.clear-then-not-all_in_reach.ensures

pub finish-requires : goal.finish-requires
finish-requires c = search (few, arith, c.all_in_reach.ensures.holds, c.args.plan.ready)

pub returns : goal.returns
returns c =
    taken c.args.plan.ready c.requires.0 c.requires.1 (search) (search) _ _ c.settle.ensures (search) c.if-not-settle.false
    (c.all_in_reach.ensures.holds c.if-not-all_in_reach.false) c.finish.ensures.0 c.finish.ensures.1 c.finish.ensures.2
