-- Where the sum lowers the cell both bests are lines. Assumes nothing.
use Rattle.offers.proofs.Common.{rules, ◌≡◌, w64, to_z, of_z, part_of, near_read, join_made, sum_number}
use Rattle.offers.specs.Kinds.{join_number}
use Rattle.offers.proofs.joins.join_draft.Goals as goal

pub add-w-requires : goal.add-w-requires
add-w-requires c =
    let first : to_z w64 (of_z w64 c.weight.result) ≡ c.weight.result = search rules in
    let second : to_z w64 (of_z w64 c.weight-2.result) ≡ c.weight-2.result = search rules in
    rw (first, second)
    (near_read c.args.side c.requires.3 c.requires.0 c.requires.1 c.weight.ensures, near_read c.args.side c.requires.3 c.requires.1 c.requires.2 c.weight-2.ensures)

pub returns : goal.returns
returns c =
    let a = c.args in
    let p = c.requires in
    let first : to_z w64 (of_z w64 c.weight.result) ≡ c.weight.result = search rules in
    let second : to_z w64 (of_z w64 c.weight-2.result) ≡ c.weight-2.result = search rules in
    let same : to_z w64 (of_z w64 c.add-w.result) ≡ c.add-w.result = search rules in
    let sum = rw (first, second) at c.add-w.ensures in
    rw (same, c.join_of.ensures) (
      join_made a.work.n a.work.cells.now a.side (join_number a.side) a.x a.y a.z p.0 p.1 p.2 p.4 _ _ c.add-w.result c.weight.ensures c.weight-2.ensures sum _ _
          c.line.ensures c.line-2.ensures,
      record {
        from = p.0;
        to = p.2;
        number = sum_number a.work.n a.work.cells.now (part_of a.side) a.x a.y a.z p.4 _ _ _ c.weight.ensures c.weight-2.ensures sum;
      },
    )
