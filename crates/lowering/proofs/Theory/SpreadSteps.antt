-- Each step of spreading lowers, and an edge that has its walk keeps that every cell has one. Over any coherent ranges. Assumes nothing.
use mathlib.Core.List.{List}
use Prim.Native.Nat.{ℕ, zero, ◌<◌}
use lib.Dec.{eqb}
use lib.IntN.{ℤ, pos}
use Rattle.rules.specs.Plan.{Link, Ranges}
use Rattle.rules.proofs.Coherence.{Coherent}
use Rattle.rules.specs.Cells.{Cell, num, ◌+ᶜ◌, lowered, uppered, table_of}
use Rattle.cell.specs.Steps.{belowᶜ, clamped}
use Rattle.lowering.specs.Table.{Sound}
use Rattle.lowering.specs.Sweep.{join_cell}
use Rattle.lowering.specs.Spread.{row_by, spread_row, spread_all, take_edge, new_edge, lower_edge, lower_edges, lower_round, upper_edge, upper_edges, upper_round, strict_round, case_edge, follow_lower, follow_lowers, follow_upper, follow_uppers, follow_link, open_round}
use Rattle.lowering.proofs.Theory.LoweredTables.{Lowered, Lowers, lowered_refl, lowered_then, by_test, cell_lowered, iter_lowered}
use Rattle.lowering.proofs.Theory.SweepSteps.{LinkPoints, cell_lowers}
use Rattle.lowering.proofs.Theory.WalksKept.{Has, has_sum, has_stored, Walked}
use Rattle.lowering.proofs.Theory.StepsTaken.{Taken, Keeps, one, each, keeps, taken_none, rule_keeps}
use Rattle.lowering.proofs.Theory.CellRules.{read_rule}
use Rattle.lowering.proofs.Theory.SweepsTaken.{cells, row_by_keeps}

-- ---- lowering

module _ (r : Ranges) (h : Coherent r) (n : ℕ) where
  pub row_by_lowered : (y x : ℕ) (a : Cell) → x < n → (t : List ℤ) → Sound r n t → Lowered r n t (row_by r n y x a t)
  unfolding row_by
  row_by_lowered y x a hx t s = iter_lowered r n n (join_cell r n y x a) (cell_lowers r h n y x a hx) t s

  pub spread_row_lowers : (a b : ℕ) (w : Cell) → Lowers r n n (spread_row r n a b w)
  unfolding spread_row
  spread_row_lowers a b w x hx t s =
      by_test (Lowered r n t) (belowᶜ (table_of r n t x a +ᶜ w) (table_of r n t x b))
      (λ e. row_by_lowered b x (table_of r n t x a +ᶜ w) hx t s) (λ e. lowered_refl r n t s)

  pub spread_lowered : (a b : ℕ) (w : Cell) (t : List ℤ) → Sound r n t → Lowered r n t (spread_all r n a b w t)
  unfolding spread_all
  spread_lowered a b w t s = iter_lowered r n n (spread_row r n a b w) (spread_row_lowers a b w) t s

  pub take_lowered : (a b : ℕ) (w : Cell) → a < n → (t : List ℤ) → Sound r n t → Lowered r n t (take_edge r n a b w t)
  unfolding take_edge
  take_lowered a b w ha t s =
      by_test (Lowered r n t) (belowᶜ (w +ᶜ table_of r n t b a) (num (pos zero)))
      (λ e. cell_lowered r h n a a (w +ᶜ table_of r n t b a) t ha ha s) (λ e. spread_lowered a b w t s)

  pub edge_lowered : (a b : ℕ) (c : Cell) → a < n → (t : List ℤ) → Sound r n t → Lowered r n t (new_edge r n a b c t)
  unfolding new_edge
  edge_lowered a b c ha t s =
      by_test (Lowered r n t) (belowᶜ (clamped r.reach c) (table_of r n t a b))
      (λ e. take_lowered a b (clamped r.reach c) ha t s) (λ e. lowered_refl r n t s)

  pub upper_edge_lowers : (k : Link) → Lowers r n n (upper_edge r n k)
  unfolding upper_edge
  upper_edge_lowers k x hx t s = edge_lowered x k.act (uppered k (table_of r n t x k.con)) hx t s

  pub follow_upper_lowers : (strict : List ℤ) (k : Link) → Lowers r n n (follow_upper r n strict k)
  unfolding follow_upper
  follow_upper_lowers strict k x hx t s = edge_lowered x k.act (table_of r n strict x k.act) hx t s

  pub follow_uppers_lowered : (strict : List ℤ) (k : Link) (t : List ℤ) → Sound r n t → Lowered r n t (follow_uppers r n strict k t)
  unfolding follow_uppers
  follow_uppers_lowered strict k t s = iter_lowered r n n (follow_upper r n strict k) (follow_upper_lowers strict k) t s

  module _ (link : ℕ → Link) (count : ℕ) (p : LinkPoints n link count) where
    pub lower_edge_lowers : (i : ℕ) → i < count → Lowers r n count (λ j. lower_edge r n (link i) (link j))
    unfolding lower_edge
    lower_edge_lowers i hi j hj t s =
        by_test (Lowered r n t) (eqb (link j).con (link i).con) (λ e. lowered_refl r n t s)
        (λ e. edge_lowered (link i).act (link j).con (lowered (link i) (link j) (table_of r n t (link i).con (link j).con)) (p.act_below i hi) t s)

    pub lower_edges_lowers : Lowers r n count (λ i. lower_edges r n link count (link i))
    unfolding lower_edges
    lower_edges_lowers i hi t s = iter_lowered r n count (λ j. lower_edge r n (link i) (link j)) (lower_edge_lowers i hi) t s

    pub lower_round_lowered : (t : List ℤ) → Sound r n t → Lowered r n t (lower_round r n link count t)
    unfolding lower_round
    lower_round_lowered t s = iter_lowered r n count (λ i. lower_edges r n link count (link i)) lower_edges_lowers t s

    pub upper_edges_lowers : Lowers r n count (λ i. upper_edges r n (link i))
    unfolding upper_edges
    upper_edges_lowers i hi t s = iter_lowered r n n (upper_edge r n (link i)) (upper_edge_lowers (link i)) t s

    pub upper_round_lowered : (t : List ℤ) → Sound r n t → Lowered r n t (upper_round r n link count t)
    unfolding upper_round
    upper_round_lowered t s = iter_lowered r n count (λ i. upper_edges r n (link i)) upper_edges_lowers t s

    pub strict_round_lowered : (t : List ℤ) → Sound r n t → Lowered r n t (strict_round r n link count t)
    unfolding strict_round
    strict_round_lowered t s = lowered_then (lower_round_lowered t s) (upper_round_lowered (lower_round r n link count t))

    pub case_edge_lowers : Lowers r n count (λ i. case_edge r n (link i))
    unfolding case_edge
    case_edge_lowers i hi t s =
        edge_lowered (link i).act (link i).con (num (pos (link i).short)) (p.act_below i hi) t s

    pub follow_lower_lowers : (strict : List ℤ) (i : ℕ) → i < count → Lowers r n count (λ j. follow_lower r n strict (link i) (link j))
    unfolding follow_lower
    follow_lower_lowers strict i hi j hj t s =
        edge_lowered (link i).act (link j).con (table_of r n strict (link i).act (link j).con) (p.act_below i hi) t s

    pub follow_lowers_lowers : (strict : List ℤ) → Lowers r n count (λ i. follow_lowers r n strict link count (link i))
    unfolding follow_lowers
    follow_lowers_lowers strict i hi t s =
        iter_lowered r n count (λ j. follow_lower r n strict (link i) (link j)) (follow_lower_lowers strict i hi) t s

    pub follow_link_lowers : (strict : List ℤ) → Lowers r n count (λ i. follow_link r n strict link count (link i))
    unfolding follow_link
    follow_link_lowers strict i hi t s =
        lowered_then (follow_lowers_lowers strict i hi t s) (follow_uppers_lowered strict (link i) (follow_lowers r n strict link count (link i) t))

    pub open_round_lowered : (strict t : List ℤ) → Sound r n t → Lowered r n t (open_round r n strict link count t)
    unfolding open_round
    open_round_lowered strict t s = iter_lowered r n count (λ i. follow_link r n strict link count (link i)) (follow_link_lowers strict) t s

-- ---- walks

-- an edge that has its walk keeps that every cell has one
pub edge_keeps : (E : ℕ → ℕ → ℤ → Type 0) (r : Ranges) (h : Coherent r) (n a b : ℕ) (c : Cell) → a < n → b < n → Has E a b c
    → Keeps (Walked E r n) r n (new_edge r n a b c)
unfolding new_edge take_edge spread_all spread_row
edge_keeps E r h n a b c ha hb k t m =
    let at : List ℤ → ℕ → ℕ → Cell = table_of r n in
    let w : Cell = clamped r.reach c in
    let kw : Has E a b w = has_stored E a b r.reach c k in
    by_test (Taken (Walked E r n) r n t) (belowᶜ w (at t a b))
    (λ e.
    by_test (Taken (Walked E r n) r n t) (belowᶜ (w +ᶜ at t b a) (num (pos zero)))
    (λ e. rule_keeps (cells E r h n) (read_rule E r n a b a w ha hb ha kw) t m)
    (λ e.
    keeps (cells E r h n)
    (each n (λ x hx.
    one (λ u v.
    by_test (Taken (Walked E r n) r n u) (belowᶜ (at u x a +ᶜ w) (at u x b))
    (λ e. row_by_keeps E r h n b x (at u x a +ᶜ w) hb hx (has_sum E x a b (at u x a) w (v.has x a hx ha) kw) u v)
    (λ e. taken_none (cells E r h n) u v)))) t m))
    (λ e. taken_none (cells E r h n) t m)
