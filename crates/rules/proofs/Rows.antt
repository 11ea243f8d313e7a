-- Row access: what the test for a row says, and what the numbers of a row are. Assumes nothing.
use mathlib.Core.Path.{◌≡◌}
use mathlib.Core.Bool.{true, false, ◌&&◌, and-eq-true_iff}
use mathlib.Core.List.{List, []}
use Prim.Native.Nat.{ℕ, zero, ◌+◌, ◌*◌, ◌≤◌, ◌<◌}
use native.Mathlib.Omega.{arith}
use lib.Dec.{leb, ltb}
use lib.ListN.{length, get_or, take, drop, length-drop}
use lib.Seq.{length-take-le, get_or-take, get_or-drop}
use lib.IntN.{ℤ, pos}
use borrow.Author.Tests.{leb-true, ltb-true}
use Rattle.whole.proofs.Place.{row_inside}
use Rattle.rules.specs.declared.Side.{Side}
use Rattle.rules.specs.declared.Side.TheVariants.{Strict, Open}
use Rattle.rules.specs.Plan.{version1}
use Rattle.rules.specs.Rows.{chosen, has_row, row_of}

-- ---- the test: there is a row

pub record Fitting (strict weak n x : ℕ) : Type 0 where
  pub some : 1 ≤ n
  pub few : n ≤ version1.points
  pub row : x < n
  pub strict_room : n * n ≤ strict
  pub open_room : n * n ≤ weak

pub fitting : (strict weak n x : ℕ) → has_row strict weak n x ≡ true → Fitting strict weak n x
unfolding has_row
fitting strict weak n x e =
    let p = (and-eq-true_iff (leb n version1.points) (leb 1 n && ltb x n && leb (n * n) strict && leb (n * n) weak)).0 e in
    let q = (and-eq-true_iff (leb 1 n && ltb x n && leb (n * n) strict) (leb (n * n) weak)).0 p.1 in
    let o = (and-eq-true_iff (leb 1 n && ltb x n) (leb (n * n) strict)).0 q.0 in
    let i = (and-eq-true_iff (leb 1 n) (ltb x n)).0 o.0 in
    record {
      some = leb-true 1 n i.0;
      few = leb-true n version1.points p.0;
      row = ltb-true x n i.1;
      strict_room = leb-true (n * n) strict o.1;
      open_room = leb-true (n * n) weak q.1;
    }

-- the row ends within a table
pub row_end : {strict weak n x : ℕ} → Fitting strict weak n x → x * n + n ≤ n * n
row_end f = row_inside f.row

-- ---- the numbers of a row

-- none where there is no row
pub row_empty : (strict weak : List ℤ) (n x : ℕ) (which : Side) → has_row (length strict) (length weak) n x ≡ false
    → row_of strict weak n x which ≡ []
unfolding row_of
row_empty strict weak n x which e = rw e

-- else n of them, those of the chosen table from x to each point
module _ (strict weak : List ℤ) (n x : ℕ) (which : Side) (e : has_row (length strict) (length weak) n x ≡ true) where
  pub row_there : row_of strict weak n x which ≡ take n (drop (x * n) (chosen strict weak which))
  unfolding row_of
  row_there = rw e

  long : (w : Side) → x * n + n ≤ length (chosen strict weak w)
  long Strict = omega (arith, row_end (fitting (length strict) (length weak) n x e), (fitting (length strict) (length weak) n x e).strict_room)
  long Open = omega (arith, row_end (fitting (length strict) (length weak) n x e), (fitting (length strict) (length weak) n x e).open_room)

  pub row_length : length (row_of strict weak n x which) ≡ n
  row_length = rw row_there (length-take-le n (drop (x * n) (chosen strict weak which)) (simp length-drop (omega (arith, long which))))

  pub row_cell : (y : ℕ) → y < n → get_or (row_of strict weak n x which) y (pos zero) ≡ get_or (chosen strict weak which) (x * n + y) (pos zero)
  row_cell y h = rw (row_there, get_or-take, get_or-drop)
