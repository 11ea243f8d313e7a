-- Expansion: every derivable edge is a walk of basic edges with the same total, and a basic edge weighs at least -B where B bounds the
-- plan's weights, since Upper never yields less than -l. Assumes nothing.
use mathlib.Core.List.{Memᴰ}
use Prim.Native.Nat.{ℕ}
use lib.IntN.{ℤ, pos, neg_ℤ, ◌-ℤ◌}
use lib.Signed.{◌≤ℤ◌}
use Rattle.whole.proofs.Order.{ints, neg}
use Rattle.whole.proofs.Larger.{larger_right}
use Rattle.rules.specs.Plan.{Link, Plan}
use Rattle.rules.specs.Edges as edges
use Rattle.rules.specs.Edges.{Given, limit, start, longest, shortest, Derivable, Open, upper_weight}
use Rattle.rules.specs.Walks.{Walk, step}
use Rattle.rules.proofs.Walks.{single, append}
use Rattle.rules.proofs.Points.{Weighted}

-- a basic edge: given, yielded by Upper, or lower-case
pub data Basic (p : Plan) : ℕ → ℕ → ℤ → Type 0 where
  basic_given : {x y : ℕ} {w : ℤ} → Given p x y w → Basic p x y w
  basic_upper : {k : Link} {x : ℕ} {v : ℤ} → Memᴰ k p.links → Derivable p x k.con v → Basic p x k.act (upper_weight k v)
  basic_lower_case : {k : Link} → Memᴰ k p.links → Basic p k.act k.con (pos k.short)

-- a derivable edge as a walk of basic edges: Lower is its lower-case edge and then its premise
pub expand : {p : Plan} {x y : ℕ} {w : ℤ} → Derivable p x y w → Walk (Basic p) x y w
expand (edges.given e) = single (basic_given e)
expand (edges.join a b) = append (expand a) (expand b)
expand (edges.lower h j l d) = step (basic_lower_case h) (expand d)
expand (edges.upper h d) = single (basic_upper h d)

pub open_expand : {p : Plan} {x y : ℕ} {w : ℤ} → Open p x y w → Walk (Basic p) x y w
open_expand (edges.ordinary d) = expand d
open_expand (edges.lower_case_rule h) = single (basic_lower_case h)

-- a basic edge is an open edge
pub basic_open : {p : Plan} {x y : ℕ} {w : ℤ} → Basic p x y w → Open p x y w
basic_open (basic_given e) = edges.ordinary (edges.given e)
basic_open (basic_upper h d) = edges.ordinary (edges.upper h d)
basic_open (basic_lower_case h) = edges.lower_case_rule h

-- a basic edge weighs at least -B
pub basic_least : {B : ℕ} {p : Plan} → Weighted B p → {x y : ℕ} {w : ℤ} → Basic p x y w → neg_ℤ (pos B) ≤ℤ w
basic_least g (basic_given (limit {m} h)) = g.limit_least m h
basic_least {B} g (basic_given (start h)) = omega (ints, neg (pos B))
basic_least {B} g (basic_given (longest {k} h)) = omega (ints, neg (pos B))
basic_least {B} g (basic_given (shortest {k} h)) = omega (ints, neg (pos B), neg (pos k.short), g.short_most k h)
basic_least {B} g (basic_upper {k} {v} h d) =
    omega (ints, neg (pos B), neg (pos k.short), g.short_most k h, larger_right (v -ℤ pos k.long) (neg_ℤ (pos k.short)))
basic_least {B} g (basic_lower_case h) = omega (ints, neg (pos B))
