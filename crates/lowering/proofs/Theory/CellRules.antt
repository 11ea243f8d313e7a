-- The rules by which rounds and sweeps bring a cell down, each with its walk: a constant cell, Join, Lower, Upper, a lower-case edge, and the strict
-- cell of an open one. Assumes nothing.
use mathlib.Core.Path.{◌≡◌, refl}
use mathlib.Core.Bool.{Bool, true, false, cond}
use mathlib.Core.Logic.{◌≢◌}
use mathlib.Core.List.{List}
use Prim.Native.Nat.{ℕ, ◌<◌}
use lib.Dec.{eqb}
use lib.IntN.{ℤ, pos, ◌+ℤ◌}
use lib.Signed.{lt_z, lt_z_yes}
use borrow.Author.Tests.{eqb-false, ne_eqb}
use Rattle.rules.specs.Plan.{Link, Plan, Ranges}
use Rattle.rules.specs.Edges as edges
use Rattle.rules.specs.Edges.{Derivable, Open, spread}
use Rattle.rules.specs.Cells.{Cell, mark, num, ◌≤ᶜ◌, ◌+ᶜ◌, lowered, uppered, table_of}
use Rattle.rules.proofs.Cells.{at_most, by_at_most, lowered_at_most, upper_mono}
use Rattle.rules.proofs.Walks.{single, exactly}
use Rattle.cell.proofs.StoredCells.{≤ᶜ_refl, ≤ᶜ_mark, +ᶜ-mono}
use Rattle.lowering.specs.Sweep.{iter}
use Rattle.lowering.proofs.Theory.WalksKept.{Has, has_sum, has_lowered, has_uppered, has_open, Walked, PlanLinks}
use Rattle.lowering.proofs.Theory.StepsTaken.{Steps, one, each, unless, Among, Rule, Puts, rule_keeps, rule_reaches}

-- Lower and Upper are monotone
lowered_mono : (k j : Link) (c d : Cell) → c ≤ᶜ d → lowered k j c ≤ᶜ lowered k j d
lowered_mono k j c mark h = ≤ᶜ_mark (lowered k j c)
lowered_mono k j mark (num d) h = absurd h
lowered_mono k j (num c) (num d) h = by (lt_z d (spread j)) refl
  where
    by : (b : Bool) → lt_z d (spread j) ≡ b → lowered k j (num c) ≤ᶜ cond b (num (pos k.short +ℤ d)) mark
    by true e = by_at_most (lowered_at_most k j (lt_z_yes (rw e tt)) (at_most {c = num c} h))
    by false e = ≤ᶜ_mark (lowered k j (num c))

uppered_mono : (k : Link) (c d : Cell) → c ≤ᶜ d → uppered k c ≤ᶜ uppered k d
uppered_mono k c mark h = ≤ᶜ_mark (uppered k c)
uppered_mono k mark (num d) h = absurd h
uppered_mono k (num c) (num d) h = upper_mono k h

module _ (E : ℕ → ℕ → ℤ → Type 0) (r : Ranges) (n : ℕ) where
  -- a cell that does not depend on the table
  pub constant_rule : {x y : ℕ} (c : Cell) → x < n → y < n → Has E x y c → Rule E r n x y (λ t. c)
  constant_rule c hx hy k = record { from_below = hx; to_below = hy; has = λ t w. k; falls = λ t u d. ≤ᶜ_refl c }

  -- the way from x to y and on to z
  pub join_rule : (x y z : ℕ) → x < n → y < n → z < n → Rule E r n x z (λ t. table_of r n t x y +ᶜ table_of r n t y z)
  join_rule x y z hx hy hz =
      let at : List ℤ → ℕ → ℕ → Cell = table_of r n in
      record {
        from_below = hx;
        to_below = hz;
        has = λ t w. has_sum E x y z (at t x y) (at t y z) (w.has x y hx hy) (w.has y z hy hz);
        falls = λ t u d. +ᶜ-mono (at u x y) (at t x y) (at u y z) (at t y z) (d.down x y hx hy) (d.down y z hy hz);
      }

  -- what the cell u to v yields
  pub cell_rule : (u v x y : ℕ) → u < n → v < n → x < n → y < n → (f : Cell → Cell) → ((c : Cell) → Has E u v c → Has E x y (f c))
      → ((c d : Cell) → c ≤ᶜ d → f c ≤ᶜ f d) → Rule E r n x y (λ t. f (table_of r n t u v))
  cell_rule u v x y hu hv hx hy f has mono =
      record {
        from_below = hx;
        to_below = hy;
        has = λ t w. has (table_of r n t u v) (w.has u v hu hv);
        falls = λ t u' d. mono (table_of r n u' u v) (table_of r n t u v) (d.down u v hu hv);
      }

  -- the way from x to y, as it was read, and on to z
  pub read_rule : (x y z : ℕ) (a : Cell) → x < n → y < n → z < n → Has E x y a → Rule E r n x z (λ t. a +ᶜ table_of r n t y z)
  read_rule x y z a hx hy hz k =
      cell_rule y z x z hy hz hx hz (λ c. a +ᶜ c) (λ c has. has_sum E x y z a c k has) (λ c d le. +ᶜ-mono a a c d (≤ᶜ_refl a) le)

module _ (p : Plan) (r : Ranges) (link : ℕ → Link) (count : ℕ) (l : PlanLinks p link count) where
  abbrev at : List ℤ → ℕ → ℕ → Cell
  at t x y = table_of r p.points t x y

  -- what Lower yields for the links i and j
  pub lower_rule : (i j : ℕ) → i < count → j < count → (link j).con ≢ (link i).con
      → Rule (Derivable p) r p.points (link i).act (link j).con (λ t. lowered (link i) (link j) (at t (link i).con (link j).con))
  lower_rule i j hi hj ne =
      cell_rule (Derivable p) r p.points (link i).con (link j).con (link i).act (link j).con (l.points.con_below i hi) (l.points.con_below j hj)
      (l.points.act_below i hi) (l.points.con_below j hj) (lowered (link i) (link j))
      (λ c has. has_lowered p (link i) (link j) c (l.member i hi) (l.member j hj) ne has) (lowered_mono (link i) (link j))

  -- what Upper yields from x for the link i
  pub upper_rule : (x i : ℕ) → x < p.points → i < count
      → Rule (Derivable p) r p.points x (link i).act (λ t. uppered (link i) (at t x (link i).con))
  upper_rule x i hx hi =
      cell_rule (Derivable p) r p.points x (link i).con x (link i).act hx (l.points.con_below i hi) hx (l.points.act_below i hi) (uppered (link i))
      (λ c has. has_uppered p (link i) x c (l.member i hi) has) (uppered_mono (link i))

  -- the lower-case edge of the link i
  pub case_rule : (i : ℕ) → i < count → Rule (Open p) r p.points (link i).act (link i).con (λ t. num (pos (link i).short))
  case_rule i hi =
      constant_rule (Open p) r p.points (num (pos (link i).short)) (l.points.act_below i hi) (l.points.con_below i hi)
      (exactly (single (edges.lower_case_rule (l.member i hi))))

  -- the strict cell of an open one
  pub strict_rule : (strict : List ℤ) → Walked (Derivable p) r p.points strict → (x y : ℕ) → x < p.points → y < p.points
      → Rule (Open p) r p.points x y (λ t. at strict x y)
  strict_rule strict w x y hx hy = constant_rule (Open p) r p.points (at strict x y) hx hy (has_open p x y (at strict x y) (w.has x y hx hy))

  -- where Lower leads for the links i and j, and where Upper leads from x for the link i
  module _ (strict : List ℤ) (w : Walked (Derivable p) r p.points strict) where
    pub lower_cell_lem : (i j : ℕ) → i < count → j < count
        → Rule (Open p) r p.points (link i).act (link j).con (λ t. at strict (link i).act (link j).con)
    lower_cell_lem i j hi hj = strict_rule strict w (link i).act (link j).con (l.points.act_below i hi) (l.points.con_below j hj)

    pub upper_cell_lem : (x i : ℕ) → x < p.points → i < count → Rule (Open p) r p.points x (link i).act (λ t. at strict x (link i).act)
    upper_cell_lem x i hx hi = strict_rule strict w x (link i).act hx (l.points.act_below i hi)

  -- Lower for each two links
  module _ {P Q : List ℤ → Type 0} {put : ℕ → ℕ → Cell → List ℤ → List ℤ} (w : Puts (Derivable p) r p.points P Q put) where
    abbrev lower_step : ℕ → ℕ → List ℤ → List ℤ
    lower_step i j t =
        cond (eqb (link j).con (link i).con) t
        (put (link i).act (link j).con (lowered (link i) (link j) (at t (link i).con (link j).con)) t)

    abbrev pub lower_steps_lem : Steps P r p.points (iter (λ i. iter (lower_step i) count) count)
    lower_steps_lem =
        each count (λ i hi.
        each count (λ j hj.
        unless (eqb (link j).con (link i).con) (λ e. one (rule_keeps w (lower_rule i j hi hj (eqb-false (link j).con (link i).con e))))))

    pub lower_among : (i j : ℕ) (hi : i < count) (hj : j < count) → (link j).con ≢ (link i).con
        → Among P Q r p.points (link i).act (link j).con (λ t. lowered (link i) (link j) (at t (link i).con (link j).con)) lower_steps_lem
    lower_among i j hi hj ne = (i, hi, (j, hj, (ne_eqb (link j).con (link i).con ne, rule_reaches w (lower_rule i j hi hj ne))))
