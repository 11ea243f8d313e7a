-- No link is written yet, and then one more. Assumes nothing.
use Rattle.writing.proofs.Common.{◌≡◌, refl, length, arith, listed_plan}
use mathlib.Core.List.{flat_map}
use Rattle.writing.proofs.FieldsPut.{link_next}
use Rattle.writing.proofs.puts.put_links.Goals as goal

pub loop-i-init : goal.loop-i-init
unfolding flat_map
loop-i-init c = refl

pub loop-i-preserved : goal.loop-i-preserved
loop-i-preserved c =
    let put = rw c.m.ensures at c.put_link.ensures in
    search (link_next, put)

pub returns : goal.returns
unfolding listed_plan
returns c =
    let e : c.loop-i.i ≡ length c.args.even.lists.act.now = omega arith in
    rw (← e) c.loop-i.invariant
