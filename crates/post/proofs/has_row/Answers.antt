-- The test for more points than a plan may have comes first, then the other tests. Assumes nothing.
use borrow.Author.Tests.{le-leb, lt-leb}
use Rattle.rules.specs.Plan.{version1}
use Rattle.rules.specs.Rows.{has_row}
use Rattle.post.proofs.has_row.Goals as goal

pub returns-then-n-gt64 : goal.returns-then-n-gt64
unfolding has_row version1
returns-then-n-gt64 c = rw (lt-leb c.args.n 64 c.if-n-gt64.true)

pub returns : goal.returns
unfolding has_row version1
returns c = rw (le-leb c.args.n 64 c.if-n-gt64.false)
