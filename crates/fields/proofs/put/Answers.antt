-- `put` meets its contract: a range of the buffer written at once is its bytes stored one after the other.
-- Assumes nothing.
use Rattle.std.proofs.Common.{◌≡◌, arith, rules}
use Rattle.std.proofs.lemmas.Grind.{common_steps}
use Rattle.std.proofs.lemmas.List.Edits.{sets-eq}
use Rattle.fields.specs.Bytes.{word_bytes}
use Rattle.fields.proofs.put.Goals as goal

pub returns : goal.returns
unfolding word_bytes
returns c =
    let bytes : c.copy_from_slice.new.self ≡ word_bytes c.args.w = search rules in
    grind (arith, common_steps, sets-eq (word_bytes c.args.w) c.args.buffer.now c.args.at (omega arith))
