-- Document 01, "Numbers returned": what a call answers, and the code and the place of each answer.
-- Assumes nothing.
use Rattle.std.specs.Prelude.{ℕ, Result, Ok, Err}
use Rattle.rules.specs.declared.Refusal as refusal

-- "Numbers returned": 0, done or accepted, or why a call refuses
abbrev pub Answer : Type 0
Answer = Result (Unit {0}) refusal.Refusal

-- each answer of the table
pattern abbrev pub Done : Answer
Done = Ok tt

pattern abbrev pub FewBytes : Answer
FewBytes = Err refusal.TheVariants.FewBytes

pattern abbrev pub BadVersion : Answer
BadVersion = Err refusal.TheVariants.BadVersion

pattern abbrev pub BadPoints : Answer
BadPoints = Err refusal.TheVariants.BadPoints

pattern abbrev pub BadCounts : Answer
BadCounts = Err refusal.TheVariants.BadCounts

pattern abbrev pub BadLayout : Answer
BadLayout = Err refusal.TheVariants.BadLayout

pattern abbrev pub BadLimit : ℕ → Answer
BadLimit at = Err (refusal.TheVariants.BadLimit at)

pattern abbrev pub BadLink : ℕ → Answer
BadLink at = Err (refusal.TheVariants.BadLink at)

pattern abbrev pub RepeatedLink : ℕ → Answer
RepeatedLink at = Err (refusal.TheVariants.RepeatedLink at)

pattern abbrev pub ShortRoom : Answer
ShortRoom = Err refusal.TheVariants.ShortRoom

pattern abbrev pub HasLinks : Answer
HasLinks = Err refusal.TheVariants.HasLinks

pattern abbrev pub NotControllable : Answer
NotControllable = Err refusal.TheVariants.NotControllable

pattern abbrev pub ReasonsListed : ℕ → Answer
ReasonsListed lines = Err (refusal.TheVariants.ReasonsListed lines)

pattern abbrev pub NotClosed : Answer
NotClosed = Err refusal.TheVariants.NotClosed

-- the table's first column
abbrev pub code_of : Answer → ℕ
code_of Done = 0
code_of FewBytes = 1
code_of BadVersion = 2
code_of BadPoints = 3
code_of BadCounts = 4
code_of BadLayout = 5
code_of (BadLimit at) = 6
code_of (BadLink at) = 7
code_of (RepeatedLink at) = 8
code_of ShortRoom = 9
code_of HasLinks = 10
code_of NotControllable = 11
code_of (ReasonsListed lines) = 11
code_of NotClosed = 12

-- "Place is 0 unless named." Document 02, item 4: "A refused night answers 11, with the number of lines as place."; item 5: "The place with codes 6, 7
-- and 8 becomes the offset in the file of the field at fault".
abbrev pub place_of : Answer → ℕ
place_of Done = 0
place_of FewBytes = 0
place_of BadVersion = 0
place_of BadPoints = 0
place_of BadCounts = 0
place_of BadLayout = 0
place_of (BadLimit at) = at
place_of (BadLink at) = at
place_of (RepeatedLink at) = at
place_of ShortRoom = 0
place_of HasLinks = 0
place_of NotControllable = 0
place_of (ReasonsListed lines) = lines
place_of NotClosed = 0
