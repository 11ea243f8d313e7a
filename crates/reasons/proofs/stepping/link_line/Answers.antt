-- Line by line. Assumes nothing.
use Rattle.std.proofs.Common.{◌≡◌, arith}
use Rattle.reasons.proofs.stepping.link_line.Goals as goal

pub returns-in-0 : goal.returns-in-0
returns-in-0 c = rw c.in-0.is c.longest_draft.ensures

pub returns-in-1 : goal.returns-in-1
returns-in-1 c = rw c.in-1.is c.shortest_draft.ensures

pub returns-in_default : goal.returns-in_default
returns-in_default c =
    let two : c.args.c ≡ 2 = omega (arith, c.requires.1) in
    rw two c.lower_case_draft.ensures
