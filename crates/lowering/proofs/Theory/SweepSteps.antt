-- Each part of a sweep lowers a table of stored cells. Over any coherent ranges. Assumes nothing.
use mathlib.Core.List.{List}
use Prim.Native.Nat.{ℕ, zero, ◌<◌}
use native.Mathlib.Omega.{arith}
use lib.Dec.{eqb}
use lib.IntN.{ℤ, pos, neg_ℤ}
use Rattle.rules.specs.Plan.{Limit, Link, Ranges}
use Rattle.rules.proofs.Coherence.{Coherent}
use Rattle.rules.specs.Cells.{Cell, num, ◌+ᶜ◌, lowered, uppered, table_of}
use Rattle.lowering.specs.Sweep.{lower_cell, join_cell, join_row, join_middle, join_all, lower_pair, lower_link, lower_all, upper_cell, upper_point, upper_all, open_cell, open_row, open_all, case_link, case_all, sweep_strict, sweep_open, limit_cell, link_edges}
use Rattle.lowering.specs.Table.{Sound}
use Rattle.lowering.proofs.Theory.LoweredTables.{Lowered, Lowers, lowered_refl, lowered_then, by_test, cell_lowered, iter_lowered}

-- the links name points of the table
pub record LinkPoints (n : ℕ) (link : ℕ → Link) (count : ℕ) : Type 0 where
  pub act_below : (i : ℕ) → i < count → (link i).act < n
  pub con_below : (i : ℕ) → i < count → (link i).con < n

module _ (r : Ranges) (h : Coherent r) (n : ℕ) where
  -- ---- Join

  pub cell_lowers : (y x : ℕ) (a : Cell) → x < n → Lowers r n n (join_cell r n y x a)
  unfolding join_cell
  cell_lowers y x a hx z hz t s = cell_lowered r h n x z (a +ᶜ table_of r n t y z) t hx hz s

  pub row_lowers : (y : ℕ) → Lowers r n n (join_row r n y)
  unfolding join_row
  row_lowers y x hx t s = iter_lowered r n n (join_cell r n y x (table_of r n t x y)) (cell_lowers y x (table_of r n t x y) hx) t s

  pub middle_lowers : Lowers r n n (join_middle r n)
  unfolding join_middle
  middle_lowers y hy t s = iter_lowered r n n (join_row r n y) (row_lowers y) t s

  pub joins_lower : (t : List ℤ) → Sound r n t → Lowered r n t (join_all r n t)
  unfolding join_all
  joins_lower t s = iter_lowered r n n (join_middle r n) middle_lowers t s

  -- ---- Lower

  module _ (link : ℕ → Link) (count : ℕ) (p : LinkPoints n link count) where
    pub pair_lowers : (i : ℕ) → i < count → Lowers r n count (λ j. lower_pair r n (link i) (link j))
    unfolding lower_pair
    pair_lowers i hi j hj t s =
        by_test (Lowered r n t) (eqb (link j).con (link i).con) (λ e. lowered_refl r n t s)
        (λ e. cell_lowered r h n (link i).act (link j).con (lowered (link i) (link j) (table_of r n t (link i).con (link j).con)) t (p.act_below i hi)
        (p.con_below j hj) s)

    pub link_lowers : Lowers r n count (λ i. lower_link r n link count (link i))
    unfolding lower_link
    link_lowers i hi t s = iter_lowered r n count (λ j. lower_pair r n (link i) (link j)) (pair_lowers i hi) t s

    pub lower_lowers : (t : List ℤ) → Sound r n t → Lowered r n t (lower_all r n link count t)
    unfolding lower_all
    lower_lowers t s = iter_lowered r n count (λ i. lower_link r n link count (link i)) link_lowers t s

    -- ---- Upper

    pub upper_cell_lowers : (x : ℕ) → x < n → Lowers r n count (λ i. upper_cell r n x (link i))
    unfolding upper_cell
    upper_cell_lowers x hx i hi t s =
        cell_lowered r h n x (link i).act (uppered (link i) (table_of r n t x (link i).con)) t hx (p.act_below i hi) s

    pub upper_point_lowers : Lowers r n n (upper_point r n link count)
    unfolding upper_point
    upper_point_lowers x hx t s = iter_lowered r n count (λ i. upper_cell r n x (link i)) (upper_cell_lowers x hx) t s

    pub upper_lowers : (t : List ℤ) → Sound r n t → Lowered r n t (upper_all r n link count t)
    unfolding upper_all
    upper_lowers t s = iter_lowered r n n (upper_point r n link count) upper_point_lowers t s

    -- ---- lower-case edges

    pub case_link_lowers : Lowers r n count (λ i. case_link r n (link i))
    unfolding case_link
    case_link_lowers i hi t s =
        cell_lowered r h n (link i).act (link i).con (num (pos (link i).short)) t (p.act_below i hi) (p.con_below i hi) s

    pub case_lowers : (t : List ℤ) → Sound r n t → Lowered r n t (case_all r n link count t)
    unfolding case_all
    case_lowers t s = iter_lowered r n count (λ i. case_link r n (link i)) case_link_lowers t s

  -- ---- the open table under the strict one

  pub open_cell_lowers : (strict : List ℤ) (x : ℕ) → x < n → Lowers r n n (open_cell r n strict x)
  unfolding open_cell
  open_cell_lowers strict x hx y hy t s = cell_lowered r h n x y (table_of r n strict x y) t hx hy s

  pub open_row_lowers : (strict : List ℤ) → Lowers r n n (open_row r n strict)
  unfolding open_row
  open_row_lowers strict x hx t s = iter_lowered r n n (open_cell r n strict x) (open_cell_lowers strict x hx) t s

  pub open_lowers : (strict t : List ℤ) → Sound r n t → Lowered r n t (open_all r n strict t)
  unfolding open_all
  open_lowers strict t s = iter_lowered r n n (open_row r n strict) (open_row_lowers strict) t s

  -- ---- first tables

  pub diagonal_lowers : Lowers r n n (λ x. lower_cell r n x x (num (pos zero)))
  diagonal_lowers x hx t s = cell_lowered r h n x x (num (pos zero)) t hx hx s

  pub start_lowers : Lowers r n n (λ x. lower_cell r n x zero (num (pos zero)))
  start_lowers x hx t s = cell_lowered r h n x zero (num (pos zero)) t hx (omega arith) s

  pub limit_lowers : (limit : ℕ → Limit) (count : ℕ) → ((i : ℕ) → i < count → (limit i).from < n) → ((i : ℕ) → i < count → (limit i).to < n)
      → Lowers r n count (λ i. limit_cell r n (limit i))
  unfolding limit_cell
  limit_lowers limit count from to i hi t s =
      cell_lowered r h n (limit i).from (limit i).to (num (limit i).weight) t (from i hi) (to i hi) s

  pub edges_lowers : (link : ℕ → Link) (count : ℕ) → LinkPoints n link count → Lowers r n count (λ i. link_edges r n (link i))
  unfolding link_edges
  edges_lowers link count p i hi t s =
      let k : Link = link i in
      lowered_then (cell_lowered r h n k.act k.con (num (pos k.long)) t (p.act_below i hi) (p.con_below i hi) s)
      (cell_lowered r h n k.con k.act (num (neg_ℤ (pos k.short))) (lower_cell r n k.act k.con (num (pos k.long)) t) (p.con_below i hi)
      (p.act_below i hi))

  -- ---- a whole sweep

  module _ (link : ℕ → Link) (count : ℕ) (p : LinkPoints n link count) where
    pub strict_lowers : (t : List ℤ) → Sound r n t → Lowered r n t (sweep_strict r n link count t)
    unfolding sweep_strict
    strict_lowers t s =
        let u : List ℤ = join_all r n t in
        lowered_then (lowered_then (joins_lower t s) (lower_lowers link count p u)) (upper_lowers link count p (lower_all r n link count u))

    pub open_sweep_lowers : (strict t : List ℤ) → Sound r n t → Lowered r n t (sweep_open r n link count strict t)
    unfolding sweep_open
    open_sweep_lowers strict t s =
        let u : List ℤ = open_all r n strict t in
        lowered_then (lowered_then (open_lowers strict t s) (case_lowers link count p u)) (joins_lower (case_all r n link count u))
