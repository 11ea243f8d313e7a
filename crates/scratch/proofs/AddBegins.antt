-- Laws of what Add's sweeps start from. Assumes nothing.
use mathlib.Core.Path.{◌≡◌, sym, ap, subst, ◌∙◌}
use mathlib.Core.List.{List, ◌++◌}
use Prim.Native.Nat.{ℕ, ◌+◌, ◌*◌, ◌<◌}
use native.Mathlib.Omega.{arith}
use lib.ListN.{length, take, drop, length-set}
use lib.Seq.{take_at, drop_at}
use lib.IntN.{ℤ}
use Rattle.whole.proofs.Place.{inside}
use Rattle.rules.specs.Plan.{Limit, version1}
use Rattle.rules.specs.Cells.{table_of}
use Rattle.cell.specs.Steps.{adding, Stored}
use Rattle.lowering.specs.Table.{Sound}
use Rattle.lowering.specs.Sweep.{lower_cell, limit_cell, first_open}
use Rattle.lowering.specs.Fair.{AllWithin}
use Rattle.wide.proofs.AddStart.{within_wide}
use Rattle.scratch.specs.Copies.{SameCells}
use Rattle.scratch.specs.Begun.{Begun}

-- cells that are the same by their index are the same by row and column
pub same_table : (n : ℕ) (wide narrow : List ℤ) → SameCells (n * n) wide narrow → (x y : ℕ) → x < n → y < n
    → table_of adding n wide x y ≡ table_of version1 n narrow x y
unfolding table_of
same_table n wide narrow h x y hx hy = h (x * n + y) (inside hx hy)

-- the strict table's part holds the table
pub widened_sound : {n : ℕ} (table : List ℤ) {u : List ℤ} → length u ≡ n * n → SameCells (length u) u table → AllWithin version1 n table → Sound adding n u
widened_sound {n} table {u} l e a =
    record {
      room = omega (arith, l);
      stored = λ x y hx hy.
          subst (Stored adding.reach) (sym (same_table n u table (rw l at e) x y hx hy)) (within_wide (table_of version1 n table x y) (a x y hx hy));
    }

-- and with the limit and the first open table that is the start
pub begun_of : {n : ℕ} {m : Limit} {table t after : List ℤ} (u strict weak : List ℤ) → length u ≡ n * n → SameCells (length u) u table
    → strict ≡ limit_cell adding n m u → weak ≡ first_open adding n (drop (n * n) t) → after ≡ strict ++ weak → Begun n m table t after
unfolding limit_cell lower_cell
begun_of {n} {table = table} u strict weak l e es ew h =
    let k : length strict ≡ n * n = rw es (length-set _ _ _ ∙ l) in
    record {
      cells = u;
      room = omega (arith, l);
      same = same_table n u table (rw l at e);
      strict_is = ap (take (n * n)) h ∙ take_at strict weak (n * n) k ∙ es;
      open_is = ap (drop (n * n)) h ∙ drop_at strict weak (n * n) k ∙ ew;
    }
