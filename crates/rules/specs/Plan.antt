-- Document 01, "Plan file": what a plan is, and the ranges it keeps to.
-- Assumes nothing.
use Rattle.std.specs.Prelude.{◌≢◌, ℕ, ◌≤◌, ◌<◌, length, ℤ, pos, neg_ℤ, ◌≤ℤ◌}
use mathlib.Core.List.{List, [], ◌∷◌, Memᴰ}

-- "from X, to Y, signed weight w"
pub record Limit : Type 0 where
  pub from : ℕ
  pub to : ℕ
  pub weight : ℤ

-- "activation A, contingent point C, shortest l, longest u"
pub record Link : Type 0 where
  pub act : ℕ
  pub con : ℕ
  pub short : ℕ
  pub long : ℕ

-- "A plan has points 0 to n-1", limits and links.
pub record Plan : Type 0 where
  pub points : ℕ
  pub limits : List Limit
  pub links : List Link

-- The paper's numbers: the most points, limits and links; the largest weight and span; the number that stands for "no path" in
-- a table; how far from zero a cell of closed tables may lie.
pub record Ranges : Type 0 where
  pub points : ℕ
  pub limits : ℕ
  pub links : ℕ
  pub weight : ℕ
  pub mark : ℕ
  pub reach : ℕ

-- "n 1 to 64; m 0 to 1,024; k 0 to 32; w from -1,000,000 to 1,000,000", "2,147,483,647, the no-path mark", "from -63,000,000 to 63,000,000"
unfoldable pub version1 : Ranges
version1 =
    record { points = 64; limits = 1_024; links = 32; weight = 1_000_000; mark = 2_147_483_647; reach = 63_000_000 }

-- "every point named is below n", "w from -1,000,000 to 1,000,000". "A limit may have X = Y".
pub record LimitInRange (r : Ranges) (n : ℕ) (m : Limit) : Type 0 where
  pub from : m.from < n
  pub to : m.to < n
  pub least : neg_ℤ (pos r.weight) ≤ℤ m.weight
  pub most : m.weight ≤ℤ pos r.weight

-- "For a link, .. u <= 1,000,000, A differs from C, C is not 0"; document 02, item 2: "From now on 1 <= l <= u."
pub record LinkInRange (r : Ranges) (n : ℕ) (k : Link) : Type 0 where
  pub act : k.act < n
  pub con : k.con < n
  pub differs : k.act ≢ k.con
  pub not_start : k.con ≢ 0
  pub least : 1 ≤ k.short
  pub order : k.short ≤ k.long
  pub most : k.long ≤ r.weight

-- "no two links share a contingent point"
abbrev pub Unshared : List Link → Type 0
Unshared [] = Unit {0}
Unshared (k ∷ ks) = ((j : Link) → Memᴰ j ks → j.con ≢ k.con) × Unshared ks

-- Every range of the paper at once. "limits may repeat"
pub record InRange (r : Ranges) (p : Plan) : Type 0 where
  pub some_point : 1 ≤ p.points
  pub points : p.points ≤ r.points
  pub limits : length p.limits ≤ r.limits
  pub links : length p.links ≤ r.links
  pub limit : (m : Limit) → Memᴰ m p.limits → LimitInRange r p.points m
  pub link : (k : Link) → Memᴰ k p.links → LinkInRange r p.points k
  pub unshared : Unshared p.links
