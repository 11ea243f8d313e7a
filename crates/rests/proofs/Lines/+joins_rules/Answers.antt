-- What is left where the ways round a line's first reference meet is what its second reference adds; the lemmas say what each turn then does to the count.
use Rattle.std.proofs.Common.{◌∙◌, sym, refl, arith, get_or}
use Rattle.rests.specs.Rests.{joins_in, rules_in}
use Rattle.rests.proofs.GoingBack.{Left, part, joins_parts, rules_parts, joins_none, rules_none, left_full, left_none, first_taken, first_left, second_none, second_join, second_rule}
use Rattle.rests.proofs.Lines.+joins_rules.Goals as goal
use Rattle.rests.proofs.Lines.+joins_rules.Goals.{joins-then-first-at, joins-else-first-at, rules-then-one-at, rules-else-one-at}

pub joins-returns-then-at-second : goal.joins-returns-then-at-second
joins-returns-then-at-second t c =
    let of = c.args.self.now in
    let at = c.loop-line.at in
    let parts = joins_parts of.kinds.now of.firsts.now of.seconds.now at (sym c.is_join.ensures ∙ c.loop-line-test.true) in
    let left : Left (joins_in of c.args.line) c.args.room c.if-first-at.count (part of.kinds.now of.firsts.now of.seconds.now at (get_or of.seconds.now at 0)) =
    elim c.if-first-at.branch [
      | joins-then-first-at w ↦
          rw w.count-is (first_taken _ _ _ c.loop-line.invariant.1 _ _ parts c.reference-first.ensures w.if-first-at.true c.if-count-room.false _ _ w.joins-count.ensures w.rules-count.ensures)
      | joins-else-first-at w ↦
          rw w.count-is (first_left _ _ _ c.loop-line.invariant.1 _ _ parts c.reference-first.ensures w.if-first-at.false)
    ] in
    second_none _ _ _ left _ _ refl c.reference-second.ensures c.if-at-second.true

pub joins-returns-then-count-room-2 : goal.joins-returns-then-count-room-2
joins-returns-then-count-room-2 t c =
    let of = c.args.self.now in
    let at = c.loop-line.at in
    let parts = joins_parts of.kinds.now of.firsts.now of.seconds.now at (sym c.is_join.ensures ∙ c.loop-line-test.true) in
    let left : Left (joins_in of c.args.line) c.args.room c.if-first-at.count (part of.kinds.now of.firsts.now of.seconds.now at (get_or of.seconds.now at 0)) =
    elim c.if-first-at.branch [
      | joins-then-first-at w ↦
          rw w.count-is (first_taken _ _ _ c.loop-line.invariant.1 _ _ parts c.reference-first.ensures w.if-first-at.true c.if-count-room.false _ _ w.joins-count.ensures w.rules-count.ensures)
      | joins-else-first-at w ↦
          rw w.count-is (first_left _ _ _ c.loop-line.invariant.1 _ _ parts c.reference-first.ensures w.if-first-at.false)
    ] in
    left_full left c.if-count-room-2.true

pub joins-loop-line-preserved : goal.joins-loop-line-preserved
joins-loop-line-preserved t c =
    let of = c.args.self.now in
    let at = c.loop-line.at in
    let parts = joins_parts of.kinds.now of.firsts.now of.seconds.now at (sym c.is_join.ensures ∙ c.loop-line-test.true) in
    let left : Left (joins_in of c.args.line) c.args.room c.if-first-at.count (part of.kinds.now of.firsts.now of.seconds.now at (get_or of.seconds.now at 0)) =
    elim c.if-first-at.branch [
      | joins-then-first-at w ↦
          rw w.count-is (first_taken _ _ _ c.loop-line.invariant.1 _ _ parts c.reference-first.ensures w.if-first-at.true c.if-count-room.false _ _ w.joins-count.ensures w.rules-count.ensures)
      | joins-else-first-at w ↦
          rw w.count-is (first_left _ _ _ c.loop-line.invariant.1 _ _ parts c.reference-first.ensures w.if-first-at.false)
    ] in (
      omega arith,
      second_join _ _ _ left _ _ refl c.reference-second.ensures c.if-at-second.false c.if-count-room-2.false _ c.rules-count-in-loop-line.ensures,
    )

pub joins-returns : goal.joins-returns
joins-returns t c = left_none c.loop-line.invariant.1 (joins_none _ _ _ _ (sym c.is_join.ensures ∙ c.loop-line-test.false))

pub rules-returns-then-at-other : goal.rules-returns-then-at-other
rules-returns-then-at-other t c =
    let of = c.args.self.now in
    let at = c.loop-line.at in
    let parts = rules_parts of.kinds.now of.firsts.now of.seconds.now at (sym c.is_rule.ensures ∙ c.loop-line-test.true) in
    let left : Left (rules_in of c.args.line) c.args.room c.if-one-at.count (part of.kinds.now of.firsts.now of.seconds.now at (get_or of.seconds.now at 0)) =
    elim c.if-one-at.branch [
      | rules-then-one-at w ↦
          rw w.count-is (first_taken _ _ _ c.loop-line.invariant.1 _ _ parts c.reference-one.ensures w.if-one-at.true c.if-count-room.false _ _ w.joins-count.ensures w.rules-count.ensures)
      | rules-else-one-at w ↦
          rw w.count-is (first_left _ _ _ c.loop-line.invariant.1 _ _ parts c.reference-one.ensures w.if-one-at.false)
    ] in
    second_none _ _ _ left _ _ refl c.reference-other.ensures c.if-at-other.true

pub rules-returns-then-count-room-2 : goal.rules-returns-then-count-room-2
rules-returns-then-count-room-2 t c =
    let of = c.args.self.now in
    let at = c.loop-line.at in
    let parts = rules_parts of.kinds.now of.firsts.now of.seconds.now at (sym c.is_rule.ensures ∙ c.loop-line-test.true) in
    let left : Left (rules_in of c.args.line) c.args.room c.if-one-at.count (part of.kinds.now of.firsts.now of.seconds.now at (get_or of.seconds.now at 0)) =
    elim c.if-one-at.branch [
      | rules-then-one-at w ↦
          rw w.count-is (first_taken _ _ _ c.loop-line.invariant.1 _ _ parts c.reference-one.ensures w.if-one-at.true c.if-count-room.false _ _ w.joins-count.ensures w.rules-count.ensures)
      | rules-else-one-at w ↦
          rw w.count-is (first_left _ _ _ c.loop-line.invariant.1 _ _ parts c.reference-one.ensures w.if-one-at.false)
    ] in
    left_full left c.if-count-room-2.true

pub rules-loop-line-preserved : goal.rules-loop-line-preserved
rules-loop-line-preserved t c =
    let of = c.args.self.now in
    let at = c.loop-line.at in
    let parts = rules_parts of.kinds.now of.firsts.now of.seconds.now at (sym c.is_rule.ensures ∙ c.loop-line-test.true) in
    let left : Left (rules_in of c.args.line) c.args.room c.if-one-at.count (part of.kinds.now of.firsts.now of.seconds.now at (get_or of.seconds.now at 0)) =
    elim c.if-one-at.branch [
      | rules-then-one-at w ↦
          rw w.count-is (first_taken _ _ _ c.loop-line.invariant.1 _ _ parts c.reference-one.ensures w.if-one-at.true c.if-count-room.false _ _ w.joins-count.ensures w.rules-count.ensures)
      | rules-else-one-at w ↦
          rw w.count-is (first_left _ _ _ c.loop-line.invariant.1 _ _ parts c.reference-one.ensures w.if-one-at.false)
    ] in (
      omega arith,
      second_rule _ _ _ left _ _ refl c.reference-other.ensures c.if-at-other.false c.if-count-room-2.false _ c.joins-count-in-loop-line.ensures,
    )

pub rules-returns : goal.rules-returns
rules-returns t c = left_none c.loop-line.invariant.1 (rules_none _ _ _ _ (sym c.is_rule.ensures ∙ c.loop-line-test.false))
