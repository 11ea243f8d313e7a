-- Laws that the walks through the first tables and the open table cite: a table of marks, and the numbers of given edges as cells.
-- At version 1's ranges, since they speak of what the code's 32-bit cells are. Assumes nothing.
use mathlib.Core.Path.{◌≡◌}
use mathlib.Core.List.{List}
use Prim.Native.Nat.{ℕ, zero, ◌+◌, ◌*◌, ◌≤◌, ◌<◌}
use native.Mathlib.Omega.{arith}
use lib.ListN.{length, get_or}
use lib.IntN.{ℤ, pos, negsuc, neg_ℤ}
use lib.Signed.{◌≤ℤ◌}
use mir.Syntax.{w32}
use mir.Val.{SFits, to_z, of_z}
use Rattle.whole.proofs.Order.{ints, neg}
use Rattle.whole.proofs.Bits.{signed, back}
use Rattle.rules.specs.Plan.{Limit, Link, Ranges, version1, LimitInRange, LinkInRange}
use Rattle.rules.specs.Cells.{mark, num, cell_of, table_of}
use Rattle.plan.specs.Layout.{limit_at}
use Rattle.cell.specs.Steps.{cell32}
use Rattle.cell.proofs.CellMethods.{room32, in_range, weight_number, negation_fits}
use Rattle.lowering.specs.Table.{Sound, Ready}
use Rattle.lowering.specs.Sweep.{lower_cell, mark_all, open_cell, link_edges}
use Rattle.lowering.proofs.Theory.FirstTables.{marks_walked}
use Rattle.lowering.proofs.Laws.ReadyFile.{limit_range}

-- a table of marks is one that a sweep stores
pub marks_sound : (r : Ranges) (n : ℕ) (t : List ℤ) → n * n ≤ length t → Sound r n (mark_all r (n * n) t)
marks_sound r n t h = (marks_walked (λ x y w. Unit {0}) r n t h).sound

-- ---- the numbers of edges

-- a span as a cell
pub span_cell : {v : ℤ} {n : ℕ} → n ≤ version1.weight → v ≡ pos n → cell32 v ≡ num (pos n)
span_cell h e = rw e (weight_number room32 h).is

-- the shortest span of a link, negated
module _ {n : ℕ} {k : Link} (h : LinkInRange version1 n k) {v : ℤ} (e : v ≡ pos k.short) where
  pub minus_fits : SFits w32 (neg_ℤ v)
  minus_fits = rw e (negation_fits room32 {l = k.short} (omega (arith, h.order, h.most)))

  pub minus_cell : {u : ℤ} → u ≡ neg_ℤ v → cell32 u ≡ num (neg_ℤ (pos k.short))
  minus_cell f =
      rw (f, e)
      (in_range room32 {a = neg_ℤ (pos k.short)} (omega (ints, neg (pos k.short), room32.weight, h.order, h.most))
      (omega (ints, neg (pos k.short)))).is

-- a limit's weight, as it stands in a field
pub weight_cell : {n : ℕ} {l : Limit} → LimitInRange version1 n l → cell32 (to_z w32 (of_z w32 l.weight)) ≡ num l.weight
unfolding version1
weight_cell {n} {l} h =
    let low : negsuc version1.reach ≤ℤ l.weight = omega (ints, neg (pos version1.weight), h.least) in
    let high : l.weight ≤ℤ pos version1.reach = omega (ints, h.most) in
    let fits : SFits w32 l.weight = omega signed in
    rw (back fits) (in_range room32 low high).is

-- ---- one step of each loop

-- the open cell under the strict one that was read
pub open_cell_is : (r : Ranges) (n : ℕ) (strict : List ℤ) (x y : ℕ) (t u : List ℤ) (c : ℤ) → c ≡ get_or strict (x * n + y) (pos zero)
    → u ≡ lower_cell r n x y (cell_of r.mark c) t → u ≡ open_cell r n strict x y t
unfolding open_cell table_of
open_cell_is r n strict x y t u c ec eu = rw (← ec) eu

-- a limit that was read is in range
pub limit_read : {s : List ℕ} {n m k : ℕ} → Ready s n m k → (i : ℕ) → i < m → {l : Limit} → l ≡ limit_at s i → LimitInRange version1 n l
limit_read {s} {n} {m} {k} r i h e = rw e (limit_range s n m k r i h)

-- both ordinary edges of a link, one after the other
pub edges_are : (r : Ranges) (n : ℕ) (a : Link) (t u v : List ℤ) (long short : ℤ) → cell_of r.mark long ≡ num (pos a.long)
    → cell_of r.mark short ≡ num (neg_ℤ (pos a.short)) → u ≡ lower_cell r n a.act a.con (cell_of r.mark long) t
    → v ≡ lower_cell r n a.con a.act (cell_of r.mark short) u → v ≡ link_edges r n a t
unfolding link_edges
edges_are r n a t u v long short el es eu ev = rw (← es, ← el, ← eu) ev
