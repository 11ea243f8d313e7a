-- Nothing for a link's own contingent point or where Lower yields none, else its line. Assumes nothing.
use Rattle.offers.proofs.Common.{rules, arith, ◌≡◌, w64, to_z, of_z, refl, Strict, link_of, link_among, spans_fit, spread_is, near_read, mark-read, no_mark, adding, lower_own, lower_none, lower_some}
use Rattle.offers.proofs.rules_of.lower_draft.Goals as goal

pub returns-then-b-a : goal.returns-then-b-a
returns-then-b-a c = (rw (← c.link-a.ensures, ← c.link-b.ensures) (lower_own _ _ _ (link_of c.link-a.result) (link_of c.link-b.result) c.if-b-a.true), tt)

pub weight-requires : goal.weight-requires
weight-requires c = (
  (link_among c.requires.0 c.args.plan.ready c.args.i c.requires.1 c.link-a.ensures).con,
  (link_among c.requires.0 c.args.plan.ready c.args.j c.requires.2 c.link-b.ensures).con,
)

pub overflow_sub-b : goal.overflow_sub-b
overflow_sub-b c = (link_among c.requires.0 c.args.plan.ready c.args.j c.requires.2 c.link-b.ensures).order

pub lower-w-requires : goal.lower-w-requires
lower-w-requires c =
    let a = link_among c.requires.0 c.args.plan.ready c.args.i c.requires.1 c.link-a.ensures in
    let b = link_among c.requires.0 c.args.plan.ready c.args.j c.requires.2 c.link-b.ensures in
    let read : to_z w64 (of_z w64 c.weight.result) ≡ c.weight.result = search rules in
    rw read (near_read Strict c.requires.4 a.con b.con c.weight.ensures, (spans_fit a).short, omega (arith, (spans_fit b).long))

pub returns-then-is_mark : goal.returns-then-is_mark
returns-then-is_mark c =
    let a = link_among c.requires.0 c.args.plan.ready c.args.i c.requires.1 c.link-a.ensures in
    let b = link_among c.requires.0 c.args.plan.ready c.args.j c.requires.2 c.link-b.ensures in
    let read : to_z w64 (of_z w64 c.weight.result) ≡ c.weight.result = search rules in
    let same : to_z w64 (of_z w64 c.lower-w.result) ≡ c.lower-w.result = search rules in
    let yielded = rw read at (c.lower-w.ensures (link_of c.link-a.result) (link_of c.link-b.result) refl (spread_is (link_of c.link-b.result) b.order)) in (
      rw (← c.link-a.ensures, ← c.link-b.ensures)
          (lower_none _ _ _ (link_of c.link-a.result) (link_of c.link-b.result) c.if-b-a.false a.con b.con _ _ c.weight.ensures yielded
          (mark-read (rw same at c.is_mark.ensures) c.if-is_mark.true)),
      tt,
    )

pub line-requires : goal.line-requires
line-requires c = (
  (link_among c.requires.0 c.args.plan.ready c.args.i c.requires.1 c.link-a.ensures).con,
  (link_among c.requires.0 c.args.plan.ready c.args.j c.requires.2 c.link-b.ensures).con,
  c.requires.4,
)

pub returns : goal.returns
returns c =
    let read : to_z w64 (of_z w64 c.weight.result) ≡ c.weight.result = search rules in
    let same : to_z w64 (of_z w64 c.lower-w.result) ≡ c.lower-w.result = search rules in
    let a = link_among c.requires.0 c.args.plan.ready c.args.i c.requires.1 c.link-a.ensures in
    let b = link_among c.requires.0 c.args.plan.ready c.args.j c.requires.2 c.link-b.ensures in
    let yielded = rw read at (c.lower-w.ensures (link_of c.link-a.result) (link_of c.link-b.result) refl (spread_is (link_of c.link-b.result) b.order)) in
    let number = no_mark adding.mark c.lower-w.result (rw same at c.is_mark.ensures) c.if-is_mark.false in
    rw same (
      rw (← c.link-a.ensures, ← c.link-b.ensures)
          (lower_some _ _ _ (link_of c.link-a.result) (link_of c.link-b.result) c.if-b-a.false a.con b.con _ _ c.weight.ensures yielded
          _ number refl refl refl refl refl c.line.ensures),
      record { notable = record { from = a.act; to = b.con; number = number }; ordinary = refl; strict = refl },
    )
