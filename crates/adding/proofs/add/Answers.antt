-- The file's answer with the limit, room, and the rest. Assumes nothing.
use Rattle.std.proofs.lemmas.Result.{err_from_is_err_and}
use mathlib.Core.Path.{sym, ◌∙◌}
use mathlib.Core.Logic.{inl, inr}
use Rattle.lowering.proofs.Common.{arith, back, few}
use Rattle.whole.proofs.Place.{square_le}
use Rattle.plan.proofs.SoundFile.{add_exactly}
use Rattle.reader.proofs.Plans.{ready_of}
use Rattle.adding.proofs.AddAnswers.{file_refused, short, lent}
use Rattle.adding.proofs.add.Goals as goal
use Rattle.adding.proofs.add.Goals.{then-strict-room-via-then-strict-room, then-strict-room-via-else-strict-room+then-open-room, then-strict-room-via-else-strict-room+else-open-room+then-cells-room}

pub returns-in_err-sound_with : goal.returns-in_err-sound_with
returns-in_err-sound_with c =
    let said = rw (back c.ranges.w) at c.sound_with.ensures in
    let p = err_from_is_err_and c.from_residual.result c.from_residual.ensures.1 in
    rw (p.1, p.2) (file_refused _ _ _ _ _ said c.in_err-sound_with.was)

pub known-plan-requires : goal.known-plan-requires
known-plan-requires c = ((add_exactly _ _).0 (sym c.sound_with.ensures ∙ c.in_ok-sound_with.was)).0

pub overflow_mul-room : goal.overflow_mul-room
overflow_mul-room c = omega (arith, square_le (few c.known-plan.result.ready))

pub returns-then-strict-room : goal.returns-then-strict-room
returns-then-strict-room c =
    let said = rw (back c.ranges.w) at c.sound_with.ensures in
    let none = short _ _ _ _ _ (sym said ∙ c.in_ok-sound_with.was) (ready_of c.known-plan.result c.known-plan.ensures) in
    elim c.then-strict-room.branch [
      | then-strict-room-via-then-strict-room w ↦ none (inl w.if-strict-room.true)
      | then-strict-room-via-else-strict-room+then-open-room w ↦ none (inr (inl w.if-open-room.true))
      | then-strict-room-via-else-strict-room+else-open-room+then-cells-room w ↦ none (inr (inr w.if-cells-room.true))
    ]

pub add_to-requires : goal.add_to-requires
add_to-requires c =
    let said = rw (back c.ranges.w) at c.sound_with.ensures in
    rw (back c.ranges.w, c.known-plan.ensures) (lent _ _ _ _ _ (sym said ∙ c.in_ok-sound_with.was) (ready_of c.known-plan.result c.known-plan.ensures) c.if-strict-room.false c.if-open-room.false c.if-cells-room.false)
