-- A sound table has the room, and stays one. Assumes nothing.
use Rattle.joining.proofs.Taking.{lower_sound}
use Rattle.joining.proofs.table.Table.lower_cell.Goals as goal

pub invariant_of-self-clause-sound : goal.invariant_of-self-clause-sound
invariant_of-self-clause-sound g c = lower_sound g.met.W.Word.coherent _ c.args.self.now.sound c.requires.0 c.requires.1 c.lower_cell.ensures
