-- An answer as C gets it: one 64-bit number, the code in the low 32 bits and the place in the high 32.
-- Assumes nothing.
use Rattle.std.specs.Prelude.{◌≡◌, List, ℕ, ◌+◌, ◌*◌, ◌^◌, ℤ}
use Rattle.rules.specs.Answers.{Answer, code_of, place_of}

-- the number of an answer
abbrev pub packed_of : Answer → ℕ
packed_of a = code_of a + 2 ^ 32 * place_of a

-- the number of an answer that meets a statement
pub record Packed (Meets : Answer → Type 0) (w : ℕ) : Type 0 where
  pub answer : Answer
  pub meets : Meets answer
  pub is : w ≡ packed_of answer

-- the same of a statement that says, too, what is left in three lent slices
pub record PackedAdd (Meets : Answer → List ℤ → List ℤ → List ℤ → Type 0) (w : ℕ) (a b c : List ℤ) : Type 0 where
  pub answer : Answer
  pub meets : Meets answer a b c
  pub is : w ≡ packed_of answer
