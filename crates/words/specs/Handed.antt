-- Document 02, item 6, as C asks for it: the numbers of a point, and the points that two points both bound, into a lent slice. "short slices get 9; neither
-- writes anything": the slice is written with 0 only. Assumes nothing.
use Rattle.std.specs.Prelude.{◌≡◌, ◌&&◌, List, ℕ, leb, length, get_or, drop, OnOk, OnErr}
use Rattle.rules.specs.Answers.{Answer, ShortRoom}
use Rattle.answers.specs.Order.{◌then◌, unless}
use Rattle.words.specs.Sets.{Set, word_bits, Numbers, bit, word_of}
use Rattle.words.specs.Calls.{asked_answer, point_word, FirstWords}

-- the answer of a call about points that needs so many cells to write to
abbrev pub into_answer : ℕ → ℕ → ℕ → ℕ → ℕ → ℕ → Answer
into_answer n x y words cells out = asked_answer n x y words then unless (leb cells out) ShortRoom

-- the first three cells are the numbers of a set, and no other changed
pub record FirstNumbers (s : Set) (out out' : List ℕ) : Type 0 where
  pub length_same : length out' ≡ length out
  pub numbers : Numbers word_bits s (get_or out' 0 0) (get_or out' 1 0) (get_or out' 2 0)
  pub beyond_same : drop 3 out' ≡ drop 3 out

-- Bounded: the number, the lowest and the highest in the first three cells
pub record BoundedInto (n : ℕ) (words : List ℕ) (x : ℕ) (out : List ℕ) (a : Answer) (out' : List ℕ) : Type 0 where
  pub answer_is : a ≡ into_answer n x x (length words) 3 (length out)
  pub numbers : OnOk a (FirstNumbers (bit (point_word words x)) out out')
  pub refused : OnErr a (out' ≡ out)

-- Both: the word in the first cell
pub record BothInto (n : ℕ) (words : List ℕ) (x y : ℕ) (out : List ℕ) (a : Answer) (out' : List ℕ) : Type 0 where
  pub answer_is : a ≡ into_answer n x y (length words) 1 (length out)
  pub word : OnOk a (FirstWords 1 (λ i. word_of word_bits (λ z. bit (point_word words x) z && bit (point_word words y) z)) out out')
  pub refused : OnErr a (out' ≡ out)
