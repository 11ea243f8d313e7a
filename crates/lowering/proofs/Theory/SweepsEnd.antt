-- Where the sweeps stand from the first tables on, and how they end: with the plan's tables where a sweep changes nothing and both tables are fair, and with
-- the plan uncontrollable where one is not. Assumes nothing.
use mathlib.Core.Path.{◌≡◌, subst, ◌∙◌}
use mathlib.Core.List.{List}
use Prim.Native.Nat.{ℕ, zero, ◌*◌, ◌≤◌, ◌<◌}
use lib.ListN.{length}
use lib.IntN.{ℤ, pos}
use Rattle.rules.specs.Plan.{Limit, Link, Plan, Ranges}
use Rattle.rules.proofs.Coherence.{Coherent}
use Rattle.rules.specs.Edges as edges
use Rattle.rules.specs.Edges.{Given, Derivable, Open}
use Rattle.rules.specs.Walks.{Uncontrollable}
use Rattle.rules.specs.Cells.{num, ◌≤ᶜ◌, table_of}
use Rattle.rules.specs.Tables.{Tables}
use Rattle.rules.specs.Calls.{Kept}
use Rattle.rules.proofs.Points.{Pointed, Weighted}
use Rattle.rules.proofs.Justified.{negative_diagonal}
use Rattle.lowering.specs.Sweep.{mark_all, first_strict, first_open, sweep_strict, sweep_open}
use Rattle.lowering.specs.Fair.{Fair, Unfair, low, negative}
use Rattle.cell.proofs.StoredCells.{≤ᶜ_antisym}
use Rattle.lowering.proofs.Theory.LoweredTables.{Lowered, lowered_below}
use Rattle.lowering.proofs.Theory.SweepSteps.{open_sweep_lowers}
use Rattle.lowering.proofs.Theory.WalksKept.{Has, has_open, Walked}
use Rattle.lowering.proofs.Theory.StepsTaken.{Taken, keeps}
use Rattle.lowering.proofs.Theory.SweepsTaken.{strict_cells, open_cells, strict_steps_lem, open_steps_lem}
use Rattle.lowering.proofs.Theory.StillSweep.{given_stays, AllLinks, low_uncontrollable, still_tables}
use Rattle.lowering.proofs.Theory.FirstTables.{AllMark, marks, marks_walked, AllLimits, diagonal_steps, diagonal_below, first_taken, first_below, first_diagonal}

-- both tables have their walks, the strict one is under every given edge, and neither diagonal is above 0
pub record Going (p : Plan) (r : Ranges) (strict weak : List ℤ) : Type 0 where
  pub strict_walks : Walked (Derivable p) r p.points strict
  pub open_walks : Walked (Open p) r p.points weak
  pub given_below : (x y : ℕ) (w : ℤ) → Given p x y w → table_of r p.points strict x y ≤ᶜ num w
  pub strict_diagonal : (x : ℕ) → x < p.points → table_of r p.points strict x x ≤ᶜ num (pos zero)
  pub open_diagonal : (x : ℕ) → x < p.points → table_of r p.points weak x x ≤ᶜ num (pos zero)

-- what lowering leaves past the room
pub lowered_kept : {r : Ranges} {n : ℕ} {t u : List ℤ} → Lowered r n t u → Kept (n * n) t u
lowered_kept l = record { length_same = l.same_length; beyond_same = l.beyond }

pub marks_kept : {r : Ranges} {m : ℕ} {t u : List ℤ} → AllMark r m t u → Kept m t u
marks_kept a = record { length_same = a.same_length; beyond_same = a.beyond }

pub kept_trans : {m : ℕ} {t u v : List ℤ} → Kept m t u → Kept m u v → Kept m t v
kept_trans a b =
    record { length_same = b.length_same ∙ a.length_same; beyond_same = λ i h. b.beyond_same i h ∙ a.beyond_same i h }

module _ (p : Plan) (r : Ranges) (h : Coherent r) (g : Pointed p) (b : Weighted r.weight p) (limit : ℕ → Limit) (limits : ℕ)
    (al : AllLimits p limit limits) (link : ℕ → Link) (links : ℕ) (ak : AllLinks p link links) where
  -- ---- the first tables

  -- the first strict table has walks of given edges, and leaves what lies past the room
  pub first_given : (t : List ℤ) → p.points * p.points ≤ length t
      → Taken (Walked (Given p) r p.points) r p.points (mark_all r (p.points * p.points) t) (first_strict r p.points limit limits link links t)
  first_given t room = first_taken p r h g b limit limits al link links ak (Given p) (λ x y w e. e) t room

  pub first_strict_kept : (t : List ℤ) → p.points * p.points ≤ length t
      → Kept (p.points * p.points) t (first_strict r p.points limit limits link links t)
  first_strict_kept t room = kept_trans (marks_kept (marks r (p.points * p.points) t room)) (lowered_kept (first_given t room).low)

  -- the sweeps start
  pub first_going : (strict weak : List ℤ) → p.points * p.points ≤ length strict → p.points * p.points ≤ length weak
      → Going p r (first_strict r p.points limit limits link links strict) (first_open r p.points weak)
  unfolding first_open
  first_going strict weak sr wr =
      let inc : (x y : ℕ) (w : ℤ) → Given p x y w → Derivable p x y w = λ x y w e. edges.given e in
      let open_marks : Walked (Open p) r p.points (mark_all r (p.points * p.points) weak) =
      marks_walked (Open p) r p.points weak wr in
      record {
        strict_walks = (first_taken p r h g b limit limits al link links ak (Derivable p) inc strict sr).holds;
        open_walks = (keeps (open_cells p r h) (diagonal_steps (Open p) r h p.points) (mark_all r (p.points * p.points) weak) open_marks).holds;
        given_below = first_below p r h g b limit limits al link links ak (Derivable p) inc strict sr;
        strict_diagonal = first_diagonal p r h g b limit limits al link links ak (Derivable p) inc strict sr;
        open_diagonal = diagonal_below (Open p) r h p.points (mark_all r (p.points * p.points) weak) open_marks;
      }

-- ---- a sweep

module _ (p : Plan) (r : Ranges) (h : Coherent r) (g : Pointed p) (link : ℕ → Link) (links : ℕ) (ak : AllLinks p link links)
    (strict weak : List ℤ) (s : Going p r strict weak) where
  -- a sweep of the open one, after any strict one, lowers it
  pub going_open_lowered : (other : List ℤ) → Lowered r p.points weak (sweep_open r p.points link links other weak)
  going_open_lowered other = open_sweep_lowers r h p.points link links ak.links.points other weak s.open_walks.sound

  -- after a sweep they stand as before it
  pub going_on : Going p r (sweep_strict r p.points link links strict)
      (sweep_open r p.points link links (sweep_strict r p.points link links strict) weak)
  going_on =
      let u : List ℤ = sweep_strict r p.points link links strict in
      let v : List ℤ = sweep_open r p.points link links u weak in
      let tu : Taken (Walked (Derivable p) r p.points) r p.points strict u =
      keeps (strict_cells p r h) (strict_steps_lem p r h link links ak.links) strict s.strict_walks in
      let tv : Taken (Walked (Open p) r p.points) r p.points weak v =
      keeps (open_cells p r h) (open_steps_lem p r h link links ak.links u tu.holds) weak s.open_walks in
      record {
        strict_walks = tu.holds;
        open_walks = tv.holds;
        given_below = given_stays g tu.low s.given_below;
        strict_diagonal = λ x hx. lowered_below tu.low x x hx hx (num (pos zero)) (s.strict_diagonal x hx);
        open_diagonal = λ x hx. lowered_below tv.low x x hx hx (num (pos zero)) (s.open_diagonal x hx);
      }

-- ---- how they end

module _ (p : Plan) (r : Ranges) (h : Coherent r) (g : Pointed p) (b : Weighted r.weight p) (few : p.points ≤ r.points)
    (link : ℕ → Link) (links : ℕ) (ak : AllLinks p link links) where
  -- an unfair table, each cell of which has its open walk: the plan is uncontrollable
  pub unfair_walk : (t : List ℤ) → ((x y : ℕ) → x < p.points → y < p.points → Has (Open p) x y (table_of r p.points t x y))
      → Unfair r p.points t → Uncontrollable p
  unfair_walk t has (low {x} {y} {c} hx hy e lo) =
      low_uncontrollable p r h g b few link links ak x y c hx (subst (Has (Open p) x y) e (has x y hx hy)) lo
  unfair_walk t has (negative {x} {c} hx e lo) = negative_diagonal p (subst (Has (Open p) x x) e (has x x hx hx)) lo

module _ (p : Plan) (r : Ranges) (h : Coherent r) (g : Pointed p) (b : Weighted r.weight p) (few : p.points ≤ r.points)
    (link : ℕ → Link) (links : ℕ) (ak : AllLinks p link links) (strict weak : List ℤ) (s : Going p r strict weak) where
  -- a sweep that changed nothing, and two fair tables: these are the plan's tables
  pub going_ends : sweep_strict r p.points link links strict ≡ strict → sweep_open r p.points link links strict weak ≡ weak
      → Fair r p.points strict → Fair r p.points weak → Tables p (table_of r p.points strict) (table_of r p.points weak)
  going_ends se we sf wf =
      still_tables p r h g b few link links ak strict weak
      (record {
        strict_walks = s.strict_walks;
        open_walks = s.open_walks;
        strict_same = se;
        open_same = we;
        strict_within = sf.within;
        open_within = wf.within;
        strict_zero = λ x hx.
            ≤ᶜ_antisym (table_of r p.points strict x x) (num (pos zero)) (s.strict_diagonal x hx) (sf.diagonal x hx);
        open_zero = λ x hx.
            ≤ᶜ_antisym (table_of r p.points weak x x) (num (pos zero)) (s.open_diagonal x hx) (wf.diagonal x hx);
        given_below = s.given_below;
      })

  -- an unfair strict table, or an unfair open one
  pub unfair_strict : Unfair r p.points strict → Uncontrollable p
  unfair_strict u =
      unfair_walk p r h g b few link links ak strict (λ x y hx hy. has_open p x y (table_of r p.points strict x y) (s.strict_walks.has x y hx hy)) u

  pub unfair_open : Unfair r p.points weak → Uncontrollable p
  unfair_open u = unfair_walk p r h g b few link links ak weak s.open_walks.has u
