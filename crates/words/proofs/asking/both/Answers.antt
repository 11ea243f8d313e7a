-- The bits that both words have. Assumes nothing.
use Rattle.std.proofs.Common.{◌∙◌, sym}
use Rattle.words.specs.Sets.{word_bits}
use Rattle.words.proofs.BitsOfWords.{and_word}
use Rattle.words.proofs.asking.both.Goals as goal

pub returns : goal.returns
returns c =
    (sym c.asked.ensures.answer ∙ c.in_ok-asked.was, and_word word_bits _ _ (c.type_inv.words c.args.x).fits (c.type_inv.words c.args.y).fits)
