-- Nothing for a link's own contingent point or where there is no line to it, else its line. Assumes nothing.
use Rattle.offers.proofs.Common.{rules, ◌≡◌, w64, to_z, of_z, refl, Strict, link_of, link_among, spans_fit, near_read, mark-read, no_mark, adding, upper_own, upper_none, upper_some}
use Rattle.offers.proofs.rules_of.upper_draft.Goals as goal

pub returns-then-x-a : goal.returns-then-x-a
returns-then-x-a c = (rw (← c.link-a.ensures) (upper_own _ _ _ c.args.x (link_of c.link-a.result) c.if-x-a.true), tt)

pub weight-requires : goal.weight-requires
weight-requires c = (c.requires.1, (link_among c.requires.0 c.args.plan.ready c.args.i c.requires.2 c.link-a.ensures).con)

pub upper-w-requires : goal.upper-w-requires
upper-w-requires c =
    let a = link_among c.requires.0 c.args.plan.ready c.args.i c.requires.2 c.link-a.ensures in
    let read : to_z w64 (of_z w64 c.weight.result) ≡ c.weight.result = search rules in
    rw read (near_read Strict c.requires.4 c.requires.1 a.con c.weight.ensures, (spans_fit a).short, (spans_fit a).long)

pub returns-then-is_mark : goal.returns-then-is_mark
returns-then-is_mark c =
    let a = link_among c.requires.0 c.args.plan.ready c.args.i c.requires.2 c.link-a.ensures in
    let read : to_z w64 (of_z w64 c.weight.result) ≡ c.weight.result = search rules in
    let same : to_z w64 (of_z w64 c.upper-w.result) ≡ c.upper-w.result = search rules in (
      rw (← c.link-a.ensures)
          (upper_none _ _ _ c.args.x (link_of c.link-a.result) c.if-x-a.false c.requires.1 a.con _ _ c.weight.ensures
          (rw read at (c.upper-w.ensures (link_of c.link-a.result) refl refl)) (mark-read (rw same at c.is_mark.ensures) c.if-is_mark.true)),
      tt,
    )

pub line-requires : goal.line-requires
line-requires c = (c.requires.1, (link_among c.requires.0 c.args.plan.ready c.args.i c.requires.2 c.link-a.ensures).con, c.requires.4)

pub returns : goal.returns
returns c =
    let read : to_z w64 (of_z w64 c.weight.result) ≡ c.weight.result = search rules in
    let same : to_z w64 (of_z w64 c.upper-w.result) ≡ c.upper-w.result = search rules in
    let a = link_among c.requires.0 c.args.plan.ready c.args.i c.requires.2 c.link-a.ensures in
    let number = no_mark adding.mark c.upper-w.result (rw same at c.is_mark.ensures) c.if-is_mark.false in
    rw same (
      rw (← c.link-a.ensures)
          (upper_some _ _ _ c.args.x (link_of c.link-a.result) c.if-x-a.false c.requires.1 a.con _ _ c.weight.ensures (rw read at (c.upper-w.ensures (link_of c.link-a.result) refl refl))
          _ number refl refl refl refl refl c.line.ensures),
      record { notable = record { from = c.requires.1; to = a.act; number = number }; ordinary = refl; strict = refl },
    )
