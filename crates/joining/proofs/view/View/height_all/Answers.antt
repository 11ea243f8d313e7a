-- The sum is that of the cells passed, and stays small. Assumes nothing.
use Prim.Native.Nat.{◌+◌}
use native.Mathlib.Nat.{mul-le-mul_left}
use Rattle.lowering.proofs.Common.{rules, arith, square_le, sound_held, held_read, summing_none, summing_more, summing_most, summing_all, ◌*◌, ◌≤◌}
use Rattle.joining.proofs.view.View.height_all.Goals as goal

pub loop-i-init : goal.loop-i-init
loop-i-init g c = summing_none

pub height-sum-requires : goal.height-sum-requires
height-sum-requires g c = held_read {r = g.W.Word.ranges} (sound_held c.args.self.sound) c.loop-i.i c.loop-i-test.true c.cell_at.ensures

pub overflow_add-sum : goal.overflow_add-sum
overflow_add-sum g c =
    let s = c.args.self in
    let r = g.W.Word.ranges in
    let most = summing_most c.loop-i.invariant c.loop-i-test.true c.cell_at.ensures c.height-sum.ensures (sound_held s.sound) in
    let wide : (r.reach + r.reach + 2) * (c.loop-i.i + 1) ≤ (r.reach + r.reach + 2) * 4096 = mul-le-mul_left _ (omega (arith, c.loop-i-test.true, square_le s.few)) in
    omega (arith, g.met.W.Word.summable.few)

pub loop-i-preserved : goal.loop-i-preserved
loop-i-preserved g c = search (summing_more, rules)

pub returns : goal.returns
returns g c = search (summing_all, rules)
