-- A copy of a table that a sweep stores is one. Assumes nothing.
use Rattle.lowering.proofs.Common.{version1}
use Rattle.lowering.proofs.Theory.RoundsBegin.{copied_sound}
use Rattle.tables.proofs.settling.opened.Goals as goal

pub invariant_of-t-clause-sound : goal.invariant_of-t-clause-sound
invariant_of-t-clause-sound c =
    let p = c.args.plan in
    copied_sound version1 p.n c.copy_all.ensures c.requires.1 (rw c.requires.0 at c.args.strict.sound)
