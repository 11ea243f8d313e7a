-- Each one's measure is its line number: a reference is followed only to an earlier line. Each loop's invariant: the line that it has come back to is no later
-- than the line asked for, and what is counted and what that line rests on, up to the room, is what the line asked for rests on.
use Rattle.std.proofs.Common.{◌≤◌}
use Rattle.rests.specs.Rests.{joins_in, rules_in}
use Rattle.rests.proofs.GoingBack.{Left}
use Rattle.rests.proofs.Lines.+joins_rules.Given as goal

abbrev pub decreases-joins : goal.decreases-joins
decreases-joins l = l.line

abbrev pub decreases-rules : goal.decreases-rules
decreases-rules l = l.line

abbrev pub invariant-joins-loop-line : goal.invariant-joins-loop-line
invariant-joins-loop-line l =
    (l.at ≤ l.line)
    × Left (joins_in l.self l.line) l.room l.count (joins_in l.self l.at)

abbrev pub decreases-joins-loop-line : goal.decreases-joins-loop-line
decreases-joins-loop-line l = l.at

abbrev pub invariant-rules-loop-line : goal.invariant-rules-loop-line
invariant-rules-loop-line l =
    (l.at ≤ l.line)
    × Left (rules_in l.self l.line) l.room l.count (rules_in l.self l.at)

abbrev pub decreases-rules-loop-line : goal.decreases-rules-loop-line
decreases-rules-loop-line l = l.at
