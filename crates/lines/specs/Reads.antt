-- Document 02, item 4: "A reason list is a sequence of lines, each with a kind, from, to, weight and two references", here as a list of line structs, line 0
-- first. Assumes nothing: these are definitions.
use Rattle.std.specs.Prelude.{cond, ◌≡◌, List, ℕ, zero, suc, min, ltb, length, get_or, set, ℤ, pos}
use Rattle.chain.specs.Lines as chain
use Rattle.lines.specs.declared.Line.{Line}
use Rattle.lines.specs.declared.Columns.{Columns}

-- a line struct as a line of the definitions
abbrev pub line_of : Line → chain.Line
line_of l = record { kind = l.kind; from = l.from; to = l.to; weight = l.weight; first = l.first; second = l.second }

-- a line of no kind, all of whose fields are 0
abbrev pub no_line : Line
no_line = record { kind = 0; from = 0; to = 0; weight = pos zero; first = 0; second = 0 }

-- line i, and past the end a line of no kind
abbrev pub line_at : List Line → ℕ → Line
line_at lines i = get_or lines i no_line

-- how many lines six lists of fields hold together: the shortest ends the list
abbrev pub line_count : List ℕ → List ℕ → List ℕ → List ℤ → List ℕ → List ℕ → ℕ
line_count kinds froms tos weights firsts seconds =
    min (length kinds) (min (length froms) (min (length tos) (min (length weights) (min (length firsts) (length seconds)))))

-- line i of the six, and past the end a line of no kind
unfoldable pub listed : List ℕ → List ℕ → List ℕ → List ℤ → List ℕ → List ℕ → ℕ → Line
listed kinds froms tos weights firsts seconds i =
    cond (ltb i (line_count kinds froms tos weights firsts seconds))
    (record { kind = get_or kinds i 0; from = get_or froms i 0; to = get_or tos i 0; weight = get_or weights i (pos zero); first = get_or firsts i 0; second = get_or seconds i 0 })
    no_line

-- the same of the six lists that the struct of them holds
abbrev pub count_of : Columns → ℕ
count_of c = line_count c.kinds.now c.froms.now c.tos.now c.weights.now c.firsts.now c.seconds.now

abbrev pub line_in : Columns → ℕ → Line
line_in c = listed c.kinds.now c.froms.now c.tos.now c.weights.now c.firsts.now c.seconds.now

-- a list of lines with so many new ones from line 0 on, where `line i` is the new line i; "Lines past the list stay"
abbrev pub filled : (ℕ → Line) → ℕ → List Line → List Line
filled line zero lines = lines
filled line (suc n) lines = set (filled line n lines) n (line n)

-- what is put into a lent slice of line structs, which held `before` and then holds `after`: as many lines as the shortest of the seven has
pub record Gathered (kinds froms tos : List ℕ) (weights : List ℤ) (firsts seconds : List ℕ) (before after : List Line) (n : ℕ) : Type 0 where
  pub count : n ≡ min (line_count kinds froms tos weights firsts seconds) (length before)
  pub lines : after ≡ filled (listed kinds froms tos weights firsts seconds) n before
