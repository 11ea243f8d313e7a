-- Document 02, item 6: what the four calls on reach words answer and what they leave in each lent word, for all inputs. The lists are the lent slices before
-- and after. Assumes nothing.
use Rattle.std.specs.Prelude.{◌≡◌, Bool, cond, not, ◌&&◌, ◌||◌, List, ℕ, ◌*◌, ◌≤◌, ◌<◌, leb, ltb, length, get_or, ℤ, Result, Err, MatchResult, OnOk, OnErr}
use Rattle.rules.specs.Answers.{Answer, Done, BadPoints, ShortRoom}
use Rattle.rules.specs.declared.Refusal.{Refusal}
use Rattle.rules.specs.Plan.{version1}
use Rattle.rules.specs.Cells.{table_of}
use Rattle.answers.specs.Order.{◌then◌, unless}
use Rattle.cell.specs.Steps.{is_mark}
use Rattle.words.specs.declared.Extent.{Extent}
use Rattle.words.specs.Sets.{Set, word_bits, Numbers, bit, word_of}

-- ---- refusals: "n out of range, or a point at or above n, gets 3; then short slices get 9"

-- "n 1 to 64"
abbrev pub in_range : ℕ → Bool
in_range n = leb 1 n && leb n version1.points

-- building: n, then n x n cells and n words
unfoldable pub room_answer : ℕ → ℕ → ℕ → Answer
room_answer n cells words = unless (in_range n) BadPoints then unless (leb (n * n) cells && leb n words) ShortRoom

-- a call about the points x and y: n and the points, then n words, also where the words of x and y are there
unfoldable pub asked_answer : ℕ → ℕ → ℕ → ℕ → Answer
asked_answer n x y words = unless (in_range n && ltb x n && ltb y n) BadPoints then unless (leb n words) ShortRoom

-- building is worked out exactly where n is in range and there are n x n cells and n words
pub record Room (n cells words : ℕ) : Type 0 where
  pub some : 1 ≤ n
  pub few : n ≤ 64
  pub table : n * n ≤ cells
  pub room : n ≤ words

-- a call about two points exactly where n is in range, the points are below n and there are n words
pub record Asked (n x y words : ℕ) : Type 0 where
  pub some : 1 ≤ n
  pub few : n ≤ 64
  pub first : x < n
  pub second : y < n
  pub room : n ≤ words

-- ---- the words

-- the points that x bounds: "the cell from X to Y isn't the no-path mark"
abbrev pub bounds : ℕ → List ℤ → ℕ → Set
bounds n strict x y = not (is_mark (table_of version1 n strict x y))

-- the word of a point
abbrev pub point_word : List ℕ → ℕ → ℕ
point_word words x = get_or words x 0

-- the first n words are these, and no other changed
pub record FirstWords (n : ℕ) (new : ℕ → ℕ) (words words' : List ℕ) : Type 0 where
  pub length_same : length words' ≡ length words
  pub first : (x : ℕ) → x < n → point_word words' x ≡ new x
  pub beyond_same : (x : ℕ) → n ≤ x → point_word words' x ≡ point_word words x

-- Reach: "bit Y of word X is set exactly when the cell from X to Y isn't the no-path mark"; with a refusal no word changes.
pub record Reached (n : ℕ) (strict : List ℤ) (words : List ℕ) (a : Answer) (words' : List ℕ) : Type 0 where
  pub answer_is : a ≡ room_answer n (length strict) (length words)
  pub built : OnOk a (FirstWords n (λ x. word_of n (bounds n strict x)) words words')
  pub refused : OnErr a (words' ≡ words)

-- Bounded: "the number of bounded points, the lowest and the highest bounded point", of the word as it is lent; or why it refuses
abbrev pub BoundedIs : ℕ → List ℕ → ℕ → Result Extent Refusal → Type 0
BoundedIs n words x r =
    MatchResult r
    (λ e. (asked_answer n x x (length words) ≡ Done) × Numbers word_bits (bit (point_word words x)) e.number e.lowest e.highest)
    (λ refusal. asked_answer n x x (length words) ≡ Err refusal)

-- Both: "the points that two points both bound"; or why it refuses
abbrev pub BothIs : ℕ → List ℕ → ℕ → ℕ → Result ℕ Refusal → Type 0
BothIs n words x y r =
    MatchResult r
    (λ w. (asked_answer n x y (length words) ≡ Done) × (w ≡ word_of word_bits (λ z. bit (point_word words x) z && bit (point_word words y) z)))
    (λ refusal. asked_answer n x y (length words) ≡ Err refusal)

-- "updated from the one new limit", from x to y: a word that has bit x takes the bits of word y, which is `to` here, and any other stays
abbrev pub taking : ℕ → ℕ → ℕ → ℕ
taking x to w = cond (bit w x) (word_of word_bits (λ z. bit w z || bit to z)) w

-- Reach after Add: "After a taken Add they are updated from the one new limit"; with a refusal no word changes.
pub record ReachAdded (n x y : ℕ) (words : List ℕ) (a : Answer) (words' : List ℕ) : Type 0 where
  pub answer_is : a ≡ asked_answer n x y (length words)
  pub updated : OnOk a (FirstWords n (λ i. taking x (point_word words y) (point_word words i)) words words')
  pub refused : OnErr a (words' ≡ words)
