-- No limit is written yet, and then one more. Assumes nothing.
use Rattle.writing.proofs.Common.{◌≡◌, refl, length, arith, listed_plan}
use mathlib.Core.List.{flat_map}
use Rattle.writing.proofs.FieldsPut.{limit_next}
use Rattle.writing.proofs.puts.put_limits.Goals as goal

pub loop-i-init : goal.loop-i-init
unfolding flat_map
loop-i-init c = refl

pub loop-i-preserved : goal.loop-i-preserved
loop-i-preserved c = search limit_next

pub returns : goal.returns
unfolding listed_plan
returns c =
    let e : c.loop-i.i ≡ length c.args.even.lists.from.now = omega arith in
    rw (← e) c.loop-i.invariant
