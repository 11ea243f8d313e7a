-- The steps of each part of the working-out are the item's; and how far weights reach and how many lines there may be. Assumes nothing.
use mathlib.Core.Path.{◌≡◌, refl}
use mathlib.Core.List.{List}
use Prim.Native.Nat.{ℕ, ◌+◌, ◌*◌, ◌≤◌, ◌<◌}
use lib.ListN.{length}
use lib.IntN.{ℤ, pos, neg_ℤ}
use Rattle.rules.specs.declared.Side.{Side}
use Rattle.rules.specs.Plan.{Plan}
use Rattle.rules.specs.Cells.{num, ◌≤ᶜ◌}
use lib.Signed.{◌≤ℤ◌}
use Rattle.chain.specs.Lines.{Line, cells}
use Rattle.chain.specs.Reasons.{starts, limits, links, strict_joins, lowers, uppers, open_joins}
pub use Rattle.chain.specs.Places.{Steps, pass, part, start_steps, limit_steps, link_steps, strict_steps, lower_steps, upper_steps, open_steps}

-- they are the item's
pub starts_pass : (p : Plan) (ls : List Line) → starts p ls ≡ pass start_steps p.points 1 1 ls
unfolding starts
starts_pass p ls = refl

pub limits_pass : (p : Plan) (ls : List Line) → limits p ls ≡ pass (limit_steps p) (length p.limits) 1 1 ls
unfolding limits
limits_pass p ls = refl

pub links_pass : (p : Plan) (ls : List Line) → links p ls ≡ pass (link_steps p) (length p.links) 1 3 ls
unfolding links
links_pass p ls = refl

pub strict_pass : (n : ℕ) (ls : List Line) → strict_joins n ls ≡ pass strict_steps n n n ls
unfolding strict_joins
strict_pass n ls = refl

pub lowers_pass : (p : Plan) (g : ℕ) (ls : List Line) → lowers p g ls ≡ pass (lower_steps p g) (length p.links) (length p.links) 1 ls
unfolding lowers
lowers_pass p g ls = refl

pub uppers_pass : (p : Plan) (g : ℕ) (ls : List Line) → uppers p g ls ≡ pass (upper_steps p g) p.points (length p.links) 1 ls
unfolding uppers
uppers_pass p g ls = refl

pub open_pass : (n : ℕ) (ls : List Line) → open_joins n ls ≡ pass open_steps n n n ls
unfolding open_joins
open_pass n ls = refl

-- ---- how far weights reach and how many lines there are, of n points and k links, with weights of at most B

-- the lowest and the highest weight of a pair that a sum is made of
abbrev pub lowest : ℕ → ℕ → ℕ
lowest B n = 4 * B * n * n * n

abbrev pub highest : ℕ → ℕ → ℕ
highest B n = 2 * B * n

abbrev pub most_lines : ℕ → ℕ → ℕ → ℕ
most_lines B n k = 3 * k + 2 * (n * n * (lowest B n + highest B n + 1))

-- a list so far whose weights and lines are not too many
pub record Small (B n k : ℕ) (ls : List Line) : Type 0 where
  pub least : (s : Side) (x y : ℕ) → x < n → y < n → num (neg_ℤ (pos (lowest B n))) ≤ᶜ cells s ls x y
  pub most : (s : Side) (x y : ℕ) → x < n → y < n → (w : ℤ) → cells s ls x y ≡ num w → w ≤ℤ pos (highest B n)
  pub few : length ls ≤ most_lines B n k
