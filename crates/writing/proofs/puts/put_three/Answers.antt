-- Three fields, one after the other. Assumes nothing.
use Rattle.writing.proofs.FieldsPut.{three}
use Rattle.writing.proofs.puts.put_three.Goals as goal

pub returns : goal.returns
returns c = search three
