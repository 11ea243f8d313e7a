-- The first i limits are written. Assumes nothing.
use Rattle.writing.proofs.Common.{◌≡◌, records, limit_in}
use mathlib.Core.List.{flat_map}
use Rattle.plan.specs.Layout.{limit_offset, limit_fields}
use Rattle.writing.specs.Puts.{put_fields}
use Rattle.writing.proofs.puts.put_limits.Given as goal

abbrev pub invariant-loop-i : goal.invariant-loop-i
invariant-loop-i l =
    let e = l.even.lists in
    l.buffer ≡ put_fields l.initial.buffer (limit_offset 0) (flat_map limit_fields (records (limit_in e.from.now e.to.now e.weight.now) 0 l.i))
