-- A link in range keeps its spans in cells. Assumes nothing.
use Rattle.offers.proofs.Common.{rules, refl, ◌≡◌, w64, to_z, of_z, link_of, link_read, spans_fit, span_number, longest_made}
use Rattle.offers.proofs.given.longest_draft.Goals as goal

pub of-requires : goal.of-requires
of-requires c = (spans_fit (link_read c.args.plan.ready c.args.i c.requires c.link-a.ensures)).long

pub returns : goal.returns
returns c =
    let a = link_read c.args.plan.ready c.args.i c.requires c.link-a.ensures in
    let same : to_z w64 (of_z w64 c.of.result) ≡ c.of.result = search rules in
    rw same (
      longest_made c.args.i (link_of c.link-a.result) _ c.of.result c.link-a.ensures c.of.ensures,
      record { from = a.act; to = a.con; number = span_number (spans_fit a).long c.of.ensures },
      refl,
    )
