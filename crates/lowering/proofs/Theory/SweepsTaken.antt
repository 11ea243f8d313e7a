-- Sweeps as steps, each of which lowers one cell of a table whose cells have their walks: joins, Lower and Upper for the strict table, the strict
-- cells, the lower-case edges and joins for the open one. Over any coherent ranges. Assumes nothing.
use mathlib.Core.List.{List}
use Prim.Native.Nat.{ℕ, ◌<◌}
use lib.IntN.{ℤ}
use Rattle.rules.specs.Plan.{Link, Plan, Ranges}
use Rattle.rules.proofs.Coherence.{Coherent}
use Rattle.rules.specs.Edges.{Derivable, Open}
use Rattle.rules.specs.Cells.{Cell, ◌+ᶜ◌, ◌≤ᶜ◌, table_of}
use Rattle.cell.specs.Steps.{clamped}
use Rattle.cell.proofs.StoredCells.{≤ᶜ_refl, ≤ᶜ_trans, +ᶜ-mono}
use Rattle.lowering.specs.Sweep.{iter, lower_cell, join_cell, join_row, join_middle, join_all, lower_pair, lower_link, lower_all, upper_cell, upper_point, upper_all, open_cell, open_row, open_all, case_link, case_all, sweep_strict, sweep_open}
use Rattle.lowering.specs.Spread.{row_by}
use Rattle.lowering.proofs.Theory.StoredNumbers.{clamped_mono}
use Rattle.lowering.proofs.Theory.LoweredTables.{cell_lowered, cell_down}
use Rattle.lowering.proofs.Theory.WalksKept.{Has, Walked, cell_walked, PlanLinks}
use Rattle.lowering.proofs.Theory.StepsTaken.{Keeps, Reaches, Steps, one, both, each, Among, Rule, Puts, keeps, reaches, reached, rule_keeps, rule_reaches}
use Rattle.lowering.proofs.Theory.CellRules.{join_rule, read_rule, lower_steps_lem, upper_rule, case_rule, strict_rule}

-- what a sweep brings a cell down to, it does whatever the table after is
abbrev pub Any : List ℤ → Type 0
Any t = Unit {0}

module _ (E : ℕ → ℕ → ℤ → Type 0) (r : Ranges) (h : Coherent r) (n : ℕ) where
  -- lowering one cell
  pub cells : Puts E r n (Walked E r n) Any (lower_cell r n)
  cells =
      record {
        walks = λ t w. w;
        before = λ t u w d a. a;
        puts = λ x y c hx hy k t w. record { low = cell_lowered r h n x y c t hx hy w.sound; holds = cell_walked E r h n x y c t hx hy k w };
        down = λ x y c hx hy k t w a. cell_down r h n x y c t hx hy w.sound;
      }

  -- ---- joins

  -- a row by the cells from y, with what leads to y as it was read
  abbrev row_steps : (y x : ℕ) (a : Cell) → y < n → x < n → Has E x y a
      → Steps (Walked E r n) r n (iter (λ z t. lower_cell r n x z (a +ᶜ table_of r n t y z) t) n)
  row_steps y x a hy hx k = each n (λ z hz. one (rule_keeps cells (read_rule E r n x y z a hx hy hz k)))

  pub row_by_keeps : (y x : ℕ) (a : Cell) → y < n → x < n → Has E x y a → Keeps (Walked E r n) r n (row_by r n y x a)
  unfolding row_by join_cell
  row_by_keeps y x a hy hx k = keeps cells (row_steps y x a hy hx k)

  pub row_keeps : (y x : ℕ) → y < n → x < n → Keeps (Walked E r n) r n (join_row r n y x)
  unfolding join_row join_cell
  row_keeps y x hy hx t w = keeps cells (row_steps y x (table_of r n t x y) hy hx (w.has x y hx hy)) t w

  -- the row reads its cell to y before its joins
  row_reaches : (y x z : ℕ) → y < n → x < n → z < n
      → Reaches (Walked E r n) Any r n x z (λ t. table_of r n t x y +ᶜ table_of r n t y z) (join_row r n y x)
  unfolding join_row join_cell
  row_reaches y x z hy hx hz s t k a =
      let at : List ℤ → ℕ → ℕ → Cell = table_of r n in
      let has : Has E x y (at t x y) = k.holds.has x y hx hy in
      let rule : Rule E r n x z (λ u. at t x y +ᶜ at u y z) = read_rule E r n x y z (at t x y) hx hy hz has in
      ≤ᶜ_trans (at (join_row r n y x t) x z) (clamped r.reach (at t x y +ᶜ at s y z)) (clamped r.reach (at s x y +ᶜ at s y z))
      (reaches cells rule (row_steps y x (at t x y) hy hx has) (z, hz, rule_reaches cells rule) s t k a)
      (clamped_mono r.reach (at t x y +ᶜ at s y z) (at s x y +ᶜ at s y z)
      (+ᶜ-mono (at t x y) (at s x y) (at s y z) (at s y z) (k.low.down x y hx hy) (≤ᶜ_refl (at s y z))))

  abbrev pub middle_steps : (y : ℕ) → y < n → Steps (Walked E r n) r n (iter (join_row r n y) n)
  middle_steps y hy = each n (λ x hx. one (row_keeps y x hy hx))

  abbrev pub join_steps : Steps (Walked E r n) r n (iter (λ y. iter (join_row r n y) n) n)
  join_steps = each n middle_steps

  pub middle_keeps : (y : ℕ) → y < n → Keeps (Walked E r n) r n (join_middle r n y)
  unfolding join_middle
  middle_keeps y hy = keeps cells (middle_steps y hy)

  pub joins_keep : Keeps (Walked E r n) r n (join_all r n)
  unfolding join_all join_middle
  joins_keep = keeps cells join_steps

  -- a middle brings each cell down to the sum of two along it
  pub middle_reached : (x y z : ℕ) → x < n → y < n → z < n → (t : List ℤ) → Walked E r n t
      → table_of r n (join_middle r n y t) x z ≤ᶜ clamped r.reach (table_of r n t x y +ᶜ table_of r n t y z)
  unfolding join_middle
  middle_reached x y z hx hy hz t w =
      reached cells (join_rule E r n x y z hx hy hz) (middle_steps y hy) (x, hx, row_reaches y x z hy hx hz) t w tt

  pub join_among : (x y z : ℕ) → x < n → y < n → z < n
      → Among (Walked E r n) Any r n x z (λ t. table_of r n t x y +ᶜ table_of r n t y z) join_steps
  join_among x y z hx hy hz = (y, hy, (x, hx, row_reaches y x z hy hx hz))

-- ---- sweeps

module _ (p : Plan) (r : Ranges) (h : Coherent r) where
  pub strict_cells : Puts (Derivable p) r p.points (Walked (Derivable p) r p.points) Any (lower_cell r p.points)
  strict_cells = cells (Derivable p) r h p.points

  pub open_cells : Puts (Open p) r p.points (Walked (Open p) r p.points) Any (lower_cell r p.points)
  open_cells = cells (Open p) r h p.points

module _ (p : Plan) (r : Ranges) (h : Coherent r) (link : ℕ → Link) (count : ℕ) (l : PlanLinks p link count) where
  -- the strict table: joins, Lower, Upper
  unfoldable pub strict_steps_lem : Steps (Walked (Derivable p) r p.points) r p.points (sweep_strict r p.points link count)
  unfolding sweep_strict join_all join_middle lower_all lower_link lower_pair upper_all upper_point upper_cell
  strict_steps_lem =
      both (both (join_steps (Derivable p) r h p.points) (lower_steps_lem p r link count l (strict_cells p r h)))
      (each p.points (λ x hx. each count (λ i hi. one (rule_keeps (strict_cells p r h) (upper_rule p r link count l x i hx hi)))))

  -- the open one: under the strict cells, under the lower-case edges, joins
  unfoldable pub open_steps_lem : (strict : List ℤ) → Walked (Derivable p) r p.points strict
      → Steps (Walked (Open p) r p.points) r p.points (sweep_open r p.points link count strict)
  unfolding sweep_open open_all open_row open_cell case_all case_link join_all join_middle
  open_steps_lem strict w =
      both
      (both (each p.points (λ x hx. each p.points (λ y hy. one (rule_keeps (open_cells p r h) (strict_rule p r link count l strict w x y hx hy)))))
      (each count (λ i hi. one (rule_keeps (open_cells p r h) (case_rule p r link count l i hi)))))
      (join_steps (Open p) r h p.points)
