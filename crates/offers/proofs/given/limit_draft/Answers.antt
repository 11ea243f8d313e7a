-- A limit in range keeps its weight in a cell. Assumes nothing.
use Rattle.offers.proofs.Common.{rules, ◌≡◌, w64, to_z, of_z, limit_of, limit_weight, limit_made}
use Rattle.offers.proofs.given.limit_draft.Goals as goal

pub returns : goal.returns
returns c =
    let same : to_z w64 (of_z w64 c.widened.result) ≡ c.widened.result = search rules in
    rw same
    (limit_made c.args.i (limit_of c.limit-l.result) _ c.widened.result c.limit-l.ensures
    (limit_weight c.args.plan.ready c.args.i c.requires c.limit-l.ensures _ c.widened.ensures))
