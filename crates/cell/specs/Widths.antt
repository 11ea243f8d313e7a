-- What is asked of a width and its ranges, and that the two widths of the tables have it. Assumes nothing.
use mathlib.Core.Path.{◌≡◌, refl}
use Prim.Native.Nat.{ℕ, suc, ◌+◌, ◌*◌, ◌^◌, ◌≤◌}
use native.Mathlib.Omega.{arith}
use lib.IntN.{ℤ, pos, negsuc, neg_ℤ}
use mir.Syntax.{Width, w32, w64}
use mir.Val.{hbits}
use Rattle.rules.specs.Plan.{Ranges, version1}
use Rattle.rules.proofs.Coherence.{Coherent}
use Rattle.cell.specs.Steps.{adding, roomy}

-- the mark is the largest number of the type, and three cells of the reach and their floors add up below it
pub record Room (w : Width) (r : Ranges) : Type 0 where
  pub top : suc r.mark ≡ 2 ^ hbits w
  pub wide : r.reach + r.reach + r.reach + 3 ≤ r.mark
  pub weight : r.weight ≤ r.reach

-- the two widths and their ranges have that room
pub room32 : Room w32 version1
unfolding version1
room32 = record { top = refl; wide = omega arith; weight = omega arith }

pub room64 : Room w64 adding
unfolding adding
room64 = record { top = refl; wide = omega arith; weight = omega arith }

-- and of the cells that may be added to
pub room_roomy : Room w64 roomy
unfolding adding
room_roomy = record { top = refl; wide = omega arith; weight = omega arith }

-- the same ranges with another reach
abbrev pub farther : Ranges → ℕ → Ranges
farther r n =
    record { points = r.points; limits = r.limits; links = r.links; weight = r.weight; mark = r.mark; reach = n }

-- a cell that a sweep holds may be added to
pub version1_far : version1.reach ≤ version1.reach
version1_far = omega arith

pub adding_far : adding.reach ≤ roomy.reach
unfolding adding
adding_far = omega arith

-- the weights of a plan file are among those of the ranges
pub version1_weights : version1.weight ≤ version1.weight
version1_weights = omega arith

pub adding_weights : version1.weight ≤ adding.weight
unfolding version1 adding
adding_weights = omega arith

-- "its weights may exceed a file's range": a weight up to the closed range, 63 such weights and the mark go together
pub adding_coherent : Coherent adding
unfolding adding
adding_coherent = record { holds_weight = omega arith; holds_walks = omega arith; mark_above = omega arith }

-- the heights of the cells of a table add up to a number of 64 bits
pub record Summable (r : Ranges) : Type 0 where
  pub few : (r.reach + r.reach + 2) * 4_096 ≤ 18_446_744_073_709_551_615

pub version1_summable : Summable version1
unfolding version1
version1_summable = record { few = omega arith }

pub adding_summable : Summable adding
unfolding adding
adding_summable = record { few = omega arith }

-- the numbers that the code has for the mark, its height, the ends of the reach, and the floor
pub record Numbers (r : Ranges) (mark most least floor : ℤ) (peak : ℕ) : Type 0 where
  pub mark_is : mark ≡ pos r.mark
  pub peak_is : peak ≡ r.reach + r.reach + 2
  pub most_is : most ≡ pos r.reach
  pub least_is : least ≡ neg_ℤ (pos r.reach)
  pub floor_is : floor ≡ negsuc r.reach

pub numbers32 : Numbers version1 (pos 2_147_483_647) (pos 63_000_000) (negsuc 62_999_999) (negsuc 63_000_000) 126_000_002
unfolding version1
numbers32 = record { mark_is = refl; peak_is = refl; most_is = refl; least_is = refl; floor_is = refl }

pub numbers64 : Numbers adding (pos 9_223_372_036_854_775_807) (pos 3_969_000_000) (negsuc 3_968_999_999) (negsuc 3_969_000_000) 7_938_000_002
unfolding adding
numbers64 = record { mark_is = refl; peak_is = refl; most_is = refl; least_is = refl; floor_is = refl }
