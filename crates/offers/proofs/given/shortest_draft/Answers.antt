-- A link in range keeps its spans in cells. Assumes nothing.
use lib.IntN.{neg_ℤ}
use Rattle.offers.proofs.Common.{rules, refl, ap, ◌≡◌, ◌∙◌, w64, to_z, of_z, link_of, link_read, spans_fit, negated_number, negation_fits, shortest_made}
use Rattle.offers.proofs.given.shortest_draft.Goals as goal

pub of-requires : goal.of-requires
of-requires c = (spans_fit (link_read c.args.plan.ready c.args.i c.requires c.link-a.ensures)).short

pub negated-requires : goal.negated-requires
negated-requires c =
    let same : to_z w64 (of_z w64 c.of.result) ≡ c.of.result = search rules in
    rw same (negation_fits (spans_fit (link_read c.args.plan.ready c.args.i c.requires c.link-a.ensures)).short c.of.ensures)

pub returns : goal.returns
returns c =
    let a = link_read c.args.plan.ready c.args.i c.requires c.link-a.ensures in
    let of_same : to_z w64 (of_z w64 c.of.result) ≡ c.of.result = search rules in
    let same : to_z w64 (of_z w64 c.negated.result) ≡ c.negated.result = search rules in
    let v = (rw of_same at c.negated.ensures) ∙ ap neg_ℤ c.of.ensures in
    rw same (
      shortest_made c.args.i (link_of c.link-a.result) _ c.negated.result c.link-a.ensures v,
      record { from = a.con; to = a.act; number = negated_number c.link-a.result.short v },
      refl,
    )
