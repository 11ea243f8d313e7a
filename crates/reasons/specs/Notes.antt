-- A line noted in the work room and in the lent lists, as functions of lists. Assumes nothing.
use Rattle.std.specs.Prelude.{Bool, false, cond, ◌&&◌, Option, Some, None, List, [], ◌∷◌, ℕ, suc, ◌+◌, ◌%◌, eqb, ltb, length, set, ℤ, pos}
use Rattle.rules.specs.declared.Side.TheVariants.{Strict}
use Rattle.cell.specs.Steps.{cell64, belowᶜ}
use Rattle.chain.specs.Lines.{Line, counts}
use Rattle.chain.specs.Call.{Lists}
use Rattle.std.specs.Int.Signed.{lt_z}
use Rattle.offers.specs.declared.Draft.{Draft}
use Rattle.offers.specs.Work.{spot_of, weight_in}
use Rattle.offers.specs.Drafts.{made_of}

-- a pair's best in one table, and the number of its line, where the weight is below it
unfoldable pub note_pair : ℕ → ℕ → Line → ℕ → List ℤ → List ℤ
note_pair n part l i work =
    cond (belowᶜ (cell64 l.weight) (weight_in n work part l.from l.to))
    (set (set work (spot_of n part l.from l.to) l.weight) (spot_of n (suc part) l.from l.to) (pos i))
    work

-- in the strict table, unless the line is for open pairs alone
unfoldable pub note_strict : ℕ → Line → ℕ → List ℤ → List ℤ
note_strict n l i work = cond (counts Strict l.kind) (note_pair n 0 l i work) work

-- in both tables
unfoldable pub note_line : ℕ → Line → ℕ → List ℤ → List ℤ
note_line n l i work = note_pair n 2 l i (note_strict n l i work)

-- line i of a slice, if there is room for it
abbrev pub set_at : {A : Type 0} → ℕ → ℕ → A → List A → List A
set_at room i v t = cond (ltb i room) (set t i v) t

-- a reference fits 32 bits where there is room for the line
abbrev pub word : ℕ → ℕ
word v = v % 4_294_967_296

-- line i of the six
unfoldable pub set_line : ℕ → ℕ → Line → Lists → Lists
set_line room i l t =
    record {
      kinds = set_at room i l.kind t.kinds;
      froms = set_at room i l.from t.froms;
      tos = set_at room i l.to t.tos;
      weights = set_at room i l.weight t.weights;
      firsts = set_at room i (word l.first) t.firsts;
      seconds = set_at room i (word l.second) t.seconds;
    }

-- a draft taken: noted as line i, if there is one
abbrev pub taken_count : Option Draft → ℕ → ℕ
taken_count None i = i
taken_count (Some d) i = i + 1

abbrev pub taken_work : ℕ → Option Draft → ℕ → List ℤ → List ℤ
taken_work n None i work = work
taken_work n (Some d) i work = note_line n (made_of d) i work

abbrev pub taken_lists : ℕ → Option Draft → ℕ → Lists → Lists
taken_lists room None i t = t
taken_lists room (Some d) i t = set_line room i (made_of d) t

-- whether it closes below zero
abbrev pub closes_of : Option Draft → Bool
closes_of None = false
closes_of (Some d) = eqb d.from d.to && lt_z d.weight (pos 0)

-- the six lists as one
abbrev pub columns : List ℕ → List ℕ → List ℕ → List ℤ → List ℕ → List ℕ → Lists
columns kinds froms tos weights firsts seconds =
    record { kinds = kinds; froms = froms; tos = tos; weights = weights; firsts = firsts; seconds = seconds }

-- every line of a list so far
unfoldable pub laid : ℕ → List Line → Lists → Lists
laid room [] t = t
laid room (l ∷ ls) t = set_line room (length ls) l (laid room ls t)
