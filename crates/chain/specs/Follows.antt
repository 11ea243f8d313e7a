-- Document 02, item 4: "Every line follows from the plan and what it names". Said of any list of lines, wherever it came from. Assumes nothing.
use Rattle.std.specs.Prelude.{◌≡◌, true, List, [], ◌∷◌, ℕ, ◌<◌, length, pos, ◌+ℤ◌}
use Rattle.rules.specs.declared.Side.TheVariants.{Strict}
use Rattle.rules.specs.Plan.{Plan}
use Rattle.rules.specs.Edges.{Lowers, upper_weight}
use Rattle.chain.specs.Lines.{Line, strict_join, by_lower, by_upper, open_join, start_line, limit_line, longest_line, shortest_line, lower_case_line, line_at, counts}
use Rattle.chain.specs.Reasons.{limit_of, link_of}

-- line i, one of the earlier lines
pub record Earlier (ls : List Line) (i : ℕ) (l : Line) : Type 0 where
  pub before : i < length ls
  pub is : line_at ls i ≡ l

-- an earlier line of an ordinary edge: "only an open join may refer to open joins"
pub record Ordinary (ls : List Line) (i : ℕ) (l : Line) : Type 0 where
  pub earlier : Earlier ls i l
  pub strict : counts Strict l.kind ≡ true

-- how a line follows, kind by kind
pub data Follows (p : Plan) (ls : List Line) (l : Line) : Type 0 where
  start : {x : ℕ} → x < p.points → l ≡ start_line x → Follows p ls l
  limit : {i : ℕ} → i < length p.limits → l ≡ limit_line i (limit_of p i) → Follows p ls l
  longest : {i : ℕ} → i < length p.links → l ≡ longest_line i (link_of p i) → Follows p ls l
  shortest : {i : ℕ} → i < length p.links → l ≡ shortest_line i (link_of p i) → Follows p ls l
  lower_case_rule : {i : ℕ} → i < length p.links → l ≡ lower_case_line i (link_of p i) → Follows p ls l
  -- "a join its two lines in path order"
  join : {i j : ℕ} {a b : Line} → Ordinary ls i a → Ordinary ls j b → a.to ≡ b.from
      → l ≡ record { kind = strict_join; from = a.from; to = b.to; weight = a.weight +ℤ b.weight; first = i; second = j } → Follows p ls l
  -- "Lower its lower-case line, then its edge": of the link h and the second link s
  lower : {i j h s : ℕ} {b : Line} → h < length p.links → s < length p.links → Earlier ls i (lower_case_line h (link_of p h)) → Ordinary ls j b
      → b.from ≡ (link_of p h).con → b.to ≡ (link_of p s).con → Lowers (link_of p h) (link_of p s) b.weight
      → l ≡ record { kind = by_lower; from = (link_of p h).act; to = (link_of p s).con; weight = pos (link_of p h).short +ℤ b.weight; first = i; second = j }
      → Follows p ls l
  -- "Upper its edge, then its link's longest line": of the link h
  upper : {i j h : ℕ} {a : Line} → h < length p.links → Ordinary ls i a → Earlier ls j (longest_line h (link_of p h)) → a.to ≡ (link_of p h).con
      → l ≡ record { kind = by_upper; from = a.from; to = (link_of p h).act; weight = upper_weight (link_of p h) a.weight; first = i; second = j }
      → Follows p ls l
  -- an open join, of any two lines
  open_join_rule : {i j : ℕ} {a b : Line} → Earlier ls i a → Earlier ls j b → a.to ≡ b.from
      → l ≡ record { kind = open_join; from = a.from; to = b.to; weight = a.weight +ℤ b.weight; first = i; second = j } → Follows p ls l

-- every line of a list follows from those before it
abbrev pub Followed : Plan → List Line → Type 0
Followed p [] = Unit {0}
Followed p (l ∷ ls) = Follows p ls l × Followed p ls
