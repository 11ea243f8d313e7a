-- Header, limits and links one after the other. Assumes nothing.
use Rattle.writing.specs.Puts.{lent}
use Rattle.writing.proofs.WriteAnswers.{laid_down}
use Rattle.writing.proofs.lay_down.Goals as goal

pub returns : goal.returns
returns c =
    laid_down (lent c.args.even.lists) c.args.buffer.now c.requires c.put_head.ensures c.put_limits.ensures c.put_links.ensures
