-- The laws of the calls on reach words, under one name. Assumes nothing.
use Rattle.words.specs.Laws.{ReachLaws}
use Rattle.words.proofs.WordsOnce.{word_of_zero}
use Rattle.words.proofs.BuiltWords.{bits_of_built, bounded_of_built, both_of_built, bits_of_judged}
use Rattle.words.proofs.UpdatedWords.{updated_twice, updated_in_any_order}
use Rattle.words.proofs.WordsAfterAdd.{updated_as_afresh}

pub reach_laws : ReachLaws
reach_laws = record {
  zero_word = word_of_zero;
  built_bits = bits_of_built;
  built_numbers = bounded_of_built;
  built_both = both_of_built;
  judged_bits = bits_of_judged;
  afresh = updated_as_afresh;
  twice = updated_twice;
  any_order = updated_in_any_order;
}
