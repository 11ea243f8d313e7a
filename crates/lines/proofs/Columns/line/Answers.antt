-- Within all six lists each field is read at its place.
use Rattle.std.proofs.Common.{arith}
use borrow.Author.Rules.{rules}
use Rattle.lines.proofs.LinesRead.{listed_within}
use Rattle.lines.proofs.Columns.line.Goals as goal

pub returns : goal.returns
returns c =
    let of = c.args.self.now in
    let h = listed_within of.kinds.now of.froms.now of.tos.now of.weights.now of.firsts.now of.seconds.now c.args.at (grind arith) in
    search (rules, h)
