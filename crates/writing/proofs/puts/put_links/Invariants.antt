-- The first i links are written. Assumes nothing.
use Rattle.writing.proofs.Common.{◌≡◌, length, records, link_in}
use mathlib.Core.List.{flat_map}
use Rattle.plan.specs.Layout.{limit_offset, link_fields}
use Rattle.writing.specs.Puts.{put_fields}
use Rattle.writing.proofs.puts.put_links.Given as goal

abbrev pub invariant-loop-i : goal.invariant-loop-i
invariant-loop-i l =
    let e = l.even.lists in
    l.buffer ≡ put_fields l.initial.buffer (limit_offset (length e.from.now)) (flat_map link_fields (records (link_in e.act.now e.con.now e.short.now e.long.now) 0 l.i))
