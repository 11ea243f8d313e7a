-- Four fields, one after the other. Assumes nothing.
use Rattle.writing.proofs.FieldsPut.{four}
use Rattle.writing.proofs.puts.put_link.Goals as goal

pub returns : goal.returns
returns c = search four
