-- Two tables of at most 4,096 cells each stand far below the largest u64. Assumes nothing.
use Rattle.lowering.proofs.Common.{◌*◌, arith, square_le, adding, sound_held, heights_most}
use Rattle.scratch.proofs.settling.both_heights.Goals as goal

pub overflow_add-result : goal.overflow_add-result
unfolding adding
overflow_add-result c =
    let s = c.args.strict in
    let w = c.args.open in
    omega (
      arith,
      square_le s.few,
      square_le w.few,
      c.height_all.ensures,
      c.height_all-2.ensures,
      heights_most adding (s.n * s.n) s.cells.now (sound_held s.sound) (s.n * s.n) (omega arith),
      heights_most adding (w.n * w.n) w.cells.now (sound_held w.sound) (w.n * w.n) (omega arith),
    )
