-- The test of a column is that of the cells as they were read. Assumes nothing.
use Rattle.offers.proofs.Common.{rules, ◌∙◌, part_of, mark-read, lowers_read, none_more, none_all, none_by_mark}
use Rattle.offers.proofs.joins.next_join.Goals as goal

pub returns-then-is_mark : goal.returns-then-is_mark
returns-then-is_mark c = none_by_mark _ c.weight-a.ensures (search (mark-read, rules))

pub returns-then-below : goal.returns-then-below
returns-then-below c =
    let a = c.args in
    record {
      from = c.loop-at.auto.at;
      to = c.loop-at-test.true;
      none_before = c.loop-at.invariant;
      lowers = lowers_read a.work.n a.work.cells.now (part_of a.side) a.y a.x c.loop-at.at c.weight-a.result c.weight-b.result c.weight.result c.add.result c.weight-a.ensures c.weight-b.ensures c.weight.ensures
          (search rules) (search rules)
          ∙ c.if-below.true;
    }

pub loop-at-preserved : goal.loop-at-preserved
loop-at-preserved c =
    let a = c.args in
    none_more c.loop-at.invariant
    (lowers_read a.work.n a.work.cells.now (part_of a.side) a.y a.x c.loop-at.at c.weight-a.result c.weight-b.result c.weight.result c.add.result c.weight-a.ensures c.weight-b.ensures c.weight.ensures (search rules) (search rules)
    ∙ c.if-below.false)

pub returns : goal.returns
returns c = none_all c.loop-at.invariant c.loop-at-test.false
