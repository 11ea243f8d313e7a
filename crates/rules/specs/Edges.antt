-- Document 01, "Edges and rules": given edges, the three rules, lower-case edges.
-- An edge is a from, a to and a weight; a family of edges says which there are. Assumes nothing.
use Rattle.std.specs.Prelude.{◌≢◌, ℕ, zero, ◌<◌, ℤ, pos, neg_ℤ, ◌+ℤ◌, ◌-ℤ◌, ◌<ℤ◌}
use mathlib.Core.List.{Memᴰ}
use Rattle.whole.specs.Signed.{larger}
use Rattle.rules.specs.Plan.{Limit, Link, Plan}

-- "Given ordinary edges are: every limit; from every point to point 0, weight 0; for each link, from A to C, weight u, and from C
-- to A, weight -l (source document 000, section 1.2)."
pub data Given (p : Plan) : ℕ → ℕ → ℤ → Type 0 where
  limit : {m : Limit} → Memᴰ m p.limits → Given p m.from m.to m.weight
  start : {x : ℕ} → x < p.points → Given p x zero (pos zero)
  longest : {k : Link} → Memᴰ k p.links → Given p k.act k.con (pos k.long)
  shortest : {k : Link} → Memᴰ k p.links → Given p k.con k.act (neg_ℤ (pos k.short))

-- "Write D(C) for u - l of C's link."
abbrev pub spread : Link → ℤ
spread k = pos k.long -ℤ pos k.short

-- "the larger of v - u and -l": what Upper yields for a link from an edge of weight v
abbrev pub upper_weight : Link → ℤ → ℤ
upper_weight k v = larger (v -ℤ pos k.long) (neg_ℤ (pos k.short))

-- where Lower applies: "for a link A, l, u, C and a contingent point R other than C, an ordinary edge C to R of w with w < D(R)"; k is C's
-- link and r R's
pub record Lowers (k r : Link) (w : ℤ) : Type 0 where
  pub other : r.con ≢ k.con
  pub below : w <ℤ spread r

-- "An ordinary edge is derivable if it is given or comes from derivable ones by a rule." Join; Lower; Upper, "for
-- a link A, l, u, C and any P, A and C included" (source document 001, the RUL- rules).
pub data Derivable (p : Plan) : ℕ → ℕ → ℤ → Type 0 where
  given : {x y : ℕ} {w : ℤ} → Given p x y w → Derivable p x y w
  join : {x y z : ℕ} {v w : ℤ} → Derivable p x y v → Derivable p y z w → Derivable p x z (v +ℤ w)
  lower : {k r : Link} {w : ℤ} → Memᴰ k p.links → Memᴰ r p.links → Lowers k r w
      → Derivable p k.con r.con w → Derivable p k.act r.con (pos k.short +ℤ w)
  upper : {k : Link} {x : ℕ} {v : ℤ} → Memᴰ k p.links
      → Derivable p x k.con v → Derivable p x k.act (upper_weight k v)

-- "derivable edges and lower-case edges": "For each link there is also a lower-case edge from A to C of weight l."
pub data Open (p : Plan) : ℕ → ℕ → ℤ → Type 0 where
  ordinary : {x y : ℕ} {w : ℤ} → Derivable p x y w → Open p x y w
  lower_case_rule : {k : Link} → Memᴰ k p.links → Open p k.act k.con (pos k.short)
