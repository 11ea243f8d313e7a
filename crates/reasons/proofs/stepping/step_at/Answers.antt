-- On from a loop that is through, or a try. Assumes nothing.
use Rattle.std.proofs.Common.{arith}
use Rattle.plan.specs.Layout.{plan_of}
use Rattle.reasons.specs.Stands.{part_number, place_of}
use Rattle.reasons.proofs.PlaceLaws.{part_few, outer_is, middle_is, inner_is, placed_most, try_before}
use Rattle.reasons.proofs.StepLaws.{part_through, middle_through, inner_through}
use Rattle.reasons.proofs.stepping.step_at.Goals as goal

pub returns-then-at-outer : goal.returns-then-at-outer
returns-then-at-outer c =
    let a = c.args in
    let p = a.plan in
    let most = placed_most p.ready c.requires.1 in
    let is = outer_is p.file.now p.n p.m p.k p.ready (part_number a.part) in
    part_through (plan_of p.file.now) a.g a.work.cells.now (place_of (part_number a.part) a.at) c.requires.1 (part_few a.part)
    most.0 most.1 most.2 (omega (arith, is, c.outer.ensures, c.if-at-outer.true))

pub returns-then-at-middle : goal.returns-then-at-middle
returns-then-at-middle c =
    let a = c.args in
    let p = a.plan in
    let most = placed_most p.ready c.requires.1 in
    let turns = outer_is p.file.now p.n p.m p.k p.ready (part_number a.part) in
    let rows = middle_is p.file.now p.n p.m p.k p.ready (part_number a.part) in
    middle_through (plan_of p.file.now) a.g a.work.cells.now (place_of (part_number a.part) a.at) c.requires.1
    most.0 most.1 most.2 (omega (arith, turns, c.outer.ensures, c.if-at-outer.false)) (omega (arith, rows, c.middle.ensures, c.if-at-middle.true))

pub returns-then-at-inner : goal.returns-then-at-inner
returns-then-at-inner c =
    let a = c.args in
    let p = a.plan in
    let most = placed_most p.ready c.requires.1 in
    let turns = outer_is p.file.now p.n p.m p.k p.ready (part_number a.part) in
    let rows = middle_is p.file.now p.n p.m p.k p.ready (part_number a.part) in
    let columns = inner_is p.file.now p.n p.m p.k p.ready (part_number a.part) in
    inner_through (plan_of p.file.now) a.g a.work.cells.now (place_of (part_number a.part) a.at) c.requires.1
    most.1 most.2 (omega (arith, turns, c.outer.ensures, c.if-at-outer.false)) (omega (arith, rows, c.middle.ensures, c.if-at-middle.false))
    (omega (arith, columns, c.inner.ensures, c.if-at-inner.true))

pub try_at-requires : goal.try_at-requires
try_at-requires c =
    let left = try_before c.args.plan.ready (place_of (part_number c.args.part) c.args.at) c.outer.ensures c.if-at-outer.false c.middle.ensures c.if-at-middle.false c.inner.ensures c.if-at-inner.false in (
      c.requires.0,
      rw c.outer.ensures at c.if-at-outer.false,
      rw c.middle.ensures at c.if-at-middle.false,
      rw c.inner.ensures at c.if-at-inner.false,
      c.requires.2,
      c.requires.3 left,
    )
