-- Three fields, then three more; m is small. Assumes nothing.
use Rattle.writing.proofs.Common.{arith, version1}
use Rattle.writing.proofs.FieldsPut.{three_more}
use Rattle.writing.proofs.puts.put_head.Goals as goal

pub overflow_mul-m : goal.overflow_mul-m
unfolding version1
overflow_mul-m c = omega (arith, c.args.even.even.limits)

pub overflow_add-m : goal.overflow_add-m
unfolding version1
overflow_add-m c = omega (arith, c.args.even.even.limits)

pub returns : goal.returns
returns c = rw (← c.m-m.ensures, ← c.k.ensures) (search three_more)
