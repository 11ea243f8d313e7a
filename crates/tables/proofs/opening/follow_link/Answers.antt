-- Lower and then Upper. Assumes nothing.
use Rattle.lowering.proofs.Common.{link_of, version1}
use Rattle.lowering.specs.Spread.{follow_link, follow_uppers}
use Rattle.joining.proofs.Taking.{takes_then}
use Rattle.tables.proofs.opening.follow_link.Goals as goal

pub returns : goal.returns
unfolding follow_link
returns c =
    takes_then (λ n. follow_uppers version1 n c.args.strict.cells.now (link_of c.args.a)) c.follow_lowers.ensures c.follow_uppers.ensures
