-- Document 02, item 4: what the call answers and what it leaves in each lent cell, for all inputs. `file` is what the file's bytes answer, p the plan they hold, the
-- lists are the lent slices before and after. Assumes nothing.
use Rattle.std.specs.Prelude.{◌≡◌, ◌≢◌, ◌⊎◌, ◌↔◌, true, false, List, ℕ, zero, ◌*◌, ◌≤◌, ◌<◌, min, length, get_or, ℤ, pos}
use Rattle.rules.specs.Answers.{Answer, Done, ShortRoom, ReasonsListed, code_of, place_of}
use Rattle.rules.specs.Plan.{Plan, Ranges, InRange}
use Rattle.rules.specs.Walks.{Uncontrollable}
use Rattle.rules.specs.Calls.{cells_of, Filled, RoomForTables, Judged}
use Rattle.chain.specs.Lines.{Line, line_at}
use Rattle.chain.specs.Reasons.{ended, ReasonList}

-- the list as it is lent: a slice for each part of a line
pub record Lists : Type 0 where
  pub kinds : List ℕ
  pub froms : List ℕ
  pub tos : List ℕ
  pub weights : List ℤ
  pub firsts : List ℕ
  pub seconds : List ℕ

-- its room: the shortest of the six, and no more lines than a place can say
unfoldable pub room_of : Lists → ℕ
room_of l =
    min 4_294_967_295
    (min (length l.kinds)
    (min (length l.froms) (min (length l.tos) (min (length l.weights) (min (length l.firsts) (length l.seconds))))))

-- "The work room is 4 x n x n 64-bit cells"
abbrev pub work_of : Plan → ℕ
work_of p = 4 * cells_of p

-- one slice with its part of every line: "Lines past the list stay."
pub record Column {A : Type 0} (d : A) (part : Line → A) (ls : List Line) (before after : List A) : Type 0 where
  pub length_same : length after ≡ length before
  pub listed : (i : ℕ) → i < length ls → get_or after i d ≡ part (line_at ls i)
  pub beyond_same : (i : ℕ) → length ls ≤ i → get_or after i d ≡ get_or before i d

-- the six of them
pub record Listed (ls : List Line) (before after : Lists) : Type 0 where
  pub kinds : Column 0 (λ l. l.kind) ls before.kinds after.kinds
  pub froms : Column 0 (λ l. l.from) ls before.froms after.froms
  pub tos : Column 0 (λ l. l.to) ls before.tos after.tos
  pub weights : Column (pos zero) (λ l. l.weight) ls before.weights after.weights
  pub firsts : Column 0 (λ l. l.first) ls before.firsts after.firsts
  pub seconds : Column 0 (λ l. l.second) ls before.seconds after.seconds

-- the work room's cells "are 0 after any answer worked out from a sound file"
abbrev pub Cleared : Plan → List ℤ → List ℤ → Type 0
Cleared p work work' = Filled (work_of p) (pos zero) work work'

-- "Refusals: the file's codes, then 9 for a short work room, change nothing; then 9 for a list longer than its room, with no line written." "A refused night
-- answers 11, with the number of lines as place. A controllable plan: 0 and no lines."
pub data Reasoned (file : Answer) (p : Plan) (lists : Lists) (work : List ℤ) : Answer → Lists → List ℤ → Type 0 where
  bad_file : file ≢ Done → Reasoned file p lists work file lists work
  short_work : file ≡ Done → length work < work_of p → Reasoned file p lists work ShortRoom lists work
  controllable : {ls : List Line} {work' : List ℤ} → file ≡ Done → work_of p ≤ length work → ReasonList p ls → ended ls ≡ false
      → Cleared p work work' → Reasoned file p lists work Done lists work'
  too_long : {ls : List Line} {work' : List ℤ} → file ≡ Done → work_of p ≤ length work → ReasonList p ls → ended ls ≡ true
      → room_of lists < length ls → Cleared p work work' → Reasoned file p lists work ShortRoom lists work'
  listed : {ls : List Line} {lists' : Lists} {work' : List ℤ} → file ≡ Done → work_of p ≤ length work → ReasonList p ls → ended ls ≡ true
      → length ls ≤ room_of lists → Listed ls lists lists' → Cleared p work work'
      → Reasoned file p lists work (ReasonsListed (length ls)) lists' work'

-- What the codes say of the plan, in the paper's numbers: of every plan in range whose file is sound, with work room enough. The call answers 0 exactly for
-- controllable plans and else 11 or, for a list longer than its room, 9; with room enough it refuses exactly where Judge does.
pub record ReasonAnswers (r : Ranges) : Type 0 where
  -- "A controllable plan: 0 and no lines.", and 0 for no other plan; a controllable plan asks for no room, however many lines were worked out
  pub done_exactly : (p : Plan) (lists : Lists) (work : List ℤ) (a : Answer) (lists' : Lists) (work' : List ℤ) → InRange r p
      → work_of p ≤ length work → Reasoned Done p lists work a lists' work'
      → (code_of a ≡ 0) ↔ (Uncontrollable p → ⊥)
  -- "A refused night answers 11", or "9 for a list longer than its room"
  pub else_refused : (p : Plan) (lists : Lists) (work : List ℤ) (a : Answer) (lists' : Lists) (work' : List ℤ) → InRange r p
      → work_of p ≤ length work → Reasoned Done p lists work a lists' work'
      → Uncontrollable p → (code_of a ≡ 11) ⊎ (code_of a ≡ 9)
  -- "9 for a list longer than its room": exactly for a refused night with such a list
  pub nine_exactly : (p : Plan) (lists : Lists) (work : List ℤ) (a : Answer) (lists' : Lists) (work' : List ℤ) → InRange r p
      → work_of p ≤ length work → Reasoned Done p lists work a lists' work'
      → (ls : List Line) → ReasonList p ls → (code_of a ≡ 9) ↔ (Uncontrollable p × (room_of lists < length ls))
  -- "11, with the number of lines as place"
  pub eleven : (p : Plan) (lists : Lists) (work : List ℤ) (a : Answer) (lists' : Lists) (work' : List ℤ) → InRange r p
      → work_of p ≤ length work → Reasoned Done p lists work a lists' work'
      → code_of a ≡ 11 → (ls : List Line) → ReasonList p ls → place_of a ≡ length ls
  -- "A refused night" is one that Judge refuses: where the list has room and Judge has room for its tables, the one answers 11 exactly when the other does
  pub as_judge : (p : Plan) (lists : Lists) (work : List ℤ) (a : Answer) (lists' : Lists) (work' : List ℤ) → InRange r p
      → work_of p ≤ length work → Reasoned Done p lists work a lists' work'
      → ((ls : List Line) → ReasonList p ls → length ls ≤ room_of lists)
      → (strict weak : List ℤ) (b : Answer) (strict' weak' : List ℤ) → RoomForTables p strict weak → Judged r Done p strict weak b strict' weak'
      → (code_of a ≡ 11) ↔ (code_of b ≡ 11)
