-- Document 02, item 4: "how many lines one line rests on, itself not counted, repeats counted, found by going back from join lines to rule lines and from
-- those to join lines; above 1,000,000 it reads 1,000,000; a line past the list or of no kind gives 0, and a reference to no earlier line adds 0".
-- It is said of any three lists of numbers, the kinds, first and second references of the lines from line 0. Assumes nothing: these are definitions.
use Rattle.std.specs.Prelude.{Bool, cond, ◌||◌, List, ℕ, zero, suc, ◌+◌, min, eqb, ltb, length, get_or}
use Rattle.chain.specs.Lines.{strict_join, by_lower, by_upper, open_join}
use Rattle.rests.specs.declared.Lines.{Lines}

-- The reason list ends with the shortest of the three.
abbrev pub line_count : List ℕ → List ℕ → List ℕ → ℕ
line_count kinds firsts seconds = min (length kinds) (min (length firsts) (length seconds))

-- "a line past the list" reads as a line "of no kind"
unfoldable pub kind_at : List ℕ → List ℕ → List ℕ → ℕ → ℕ
kind_at kinds firsts seconds i = cond (ltb i (line_count kinds firsts seconds)) (get_or kinds i 0) 0

-- "join lines" are strict and open joins, "rule lines" Lower and Upper; no other line refers to lines
unfoldable pub is_join : ℕ → Bool
is_join kind = eqb kind strict_join || eqb kind open_join

unfoldable pub is_rule : ℕ → Bool
is_rule kind = eqb kind by_lower || eqb kind by_upper

-- What one reference of line i adds, where `on r` is what line r rests on: the line that it names and all that this one rests on;
-- "a reference to no earlier line adds 0".
abbrev pub adds : (ℕ → ℕ) → ℕ → ℕ → ℕ
adds on i r = cond (ltb r i) (suc (on r)) 0

-- What line i rests on, going back at most so many times.
unfoldable pub within : List ℕ → List ℕ → List ℕ → ℕ → ℕ → ℕ
within kinds firsts seconds zero i = 0
within kinds firsts seconds (suc times) i =
    cond (is_join (kind_at kinds firsts seconds i) || is_rule (kind_at kinds firsts seconds i))
    (adds (within kinds firsts seconds times) i (get_or firsts i 0)
    + adds (within kinds firsts seconds times) i (get_or seconds i 0))
    0

-- "how many lines one line rests on": each step back goes to an earlier line, so from line i there are at most i of them.
unfoldable pub rests_on : List ℕ → List ℕ → List ℕ → ℕ → ℕ
rests_on kinds firsts seconds i = within kinds firsts seconds i i

-- "above 1,000,000 it reads 1,000,000"
abbrev pub largest : ℕ
largest = 1000000

-- The same of a line only if it is a join line, and only if it is a rule line, else 0: what the two functions that call each other count.
unfoldable pub joins_on : List ℕ → List ℕ → List ℕ → ℕ → ℕ
joins_on kinds firsts seconds i = cond (is_join (kind_at kinds firsts seconds i)) (rests_on kinds firsts seconds i) 0

unfoldable pub rules_on : List ℕ → List ℕ → List ℕ → ℕ → ℕ
rules_on kinds firsts seconds i = cond (is_rule (kind_at kinds firsts seconds i)) (rests_on kinds firsts seconds i) 0

-- The same of the three lists that the struct of them holds.
abbrev pub kind_in : Lines → ℕ → ℕ
kind_in l = kind_at l.kinds.now l.firsts.now l.seconds.now

abbrev pub joins_in : Lines → ℕ → ℕ
joins_in l = joins_on l.kinds.now l.firsts.now l.seconds.now

abbrev pub rules_in : Lines → ℕ → ℕ
rules_in l = rules_on l.kinds.now l.firsts.now l.seconds.now
