-- A plan whose limits and links name points below n: then so does every edge. And that a plan in range is one, with weights bounded.
-- Assumes nothing.
use mathlib.Core.List.{Memᴰ}
use Prim.Native.Nat.{ℕ, zero, ◌≤◌, ◌<◌}
use native.Mathlib.Omega.{arith}
use lib.IntN.{ℤ, pos, neg_ℤ}
use lib.Signed.{◌≤ℤ◌}
use Rattle.rules.specs.Plan.{Limit, Link, Plan, Ranges, InRange}
use Rattle.rules.specs.Edges.{Given, limit, start, longest, shortest, Derivable, given, join, lower, upper, Open, ordinary, lower_case_rule}

-- "every point named is below n", and there is a point
pub record Pointed (p : Plan) : Type 0 where
  pub some_point : zero < p.points
  pub limit_from : (m : Limit) → Memᴰ m p.limits → m.from < p.points
  pub limit_to : (m : Limit) → Memᴰ m p.limits → m.to < p.points
  pub link_act : (k : Link) → Memᴰ k p.links → k.act < p.points
  pub link_con : (k : Link) → Memᴰ k p.links → k.con < p.points

-- no limit weighs more than B either way, and no span is longer
pub record Weighted (B : ℕ) (p : Plan) : Type 0 where
  pub limit_least : (m : Limit) → Memᴰ m p.limits → neg_ℤ (pos B) ≤ℤ m.weight
  pub limit_most : (m : Limit) → Memᴰ m p.limits → m.weight ≤ℤ pos B
  pub short_most : (k : Link) → Memᴰ k p.links → k.short ≤ B
  pub long_most : (k : Link) → Memᴰ k p.links → k.long ≤ B

pub in_range_pointed : {r : Ranges} {p : Plan} → InRange r p → Pointed p
in_range_pointed {p} g = record {
  some_point = g.some_point;
  limit_from = λ m h. (g.limit m h).from;
  limit_to = λ m h. (g.limit m h).to;
  link_act = λ k h. (g.link k h).act;
  link_con = λ k h. (g.link k h).con;
}

pub in_range_weighted : {r : Ranges} {p : Plan} → InRange r p → Weighted r.weight p
in_range_weighted {r} {p} g = record {
  limit_least = λ m h. (g.limit m h).least;
  limit_most = λ m h. (g.limit m h).most;
  short_most = λ k h. omega (arith, (g.link k h).order, (g.link k h).most);
  long_most = λ k h. (g.link k h).most;
}

-- both ends of an edge are points of the plan
pub record Ends (p : Plan) (x y : ℕ) : Type 0 where
  pub from : x < p.points
  pub to : y < p.points

module _ (p : Plan) (g : Pointed p) where
  pub given_ends : {x y : ℕ} {w : ℤ} → Given p x y w → Ends p x y
  given_ends (limit {m} h) = record { from = g.limit_from m h; to = g.limit_to m h }
  given_ends (start h) = record { from = h; to = g.some_point }
  given_ends (longest {k} h) = record { from = g.link_act k h; to = g.link_con k h }
  given_ends (shortest {k} h) = record { from = g.link_con k h; to = g.link_act k h }

  pub derivable_ends : {x y : ℕ} {w : ℤ} → Derivable p x y w → Ends p x y
  derivable_ends (given e) = given_ends e
  derivable_ends (join a b) = record { from = (derivable_ends a).from; to = (derivable_ends b).to }
  derivable_ends (lower {k} {r} h j l d) = record { from = g.link_act k h; to = g.link_con r j }
  derivable_ends (upper {k} h d) = record { from = (derivable_ends d).from; to = g.link_act k h }

  pub open_ends : {x y : ℕ} {w : ℤ} → Open p x y w → Ends p x y
  open_ends (ordinary d) = derivable_ends d
  open_ends (lower_case_rule {k} h) = record { from = g.link_act k h; to = g.link_con k h }
