-- How Add's sweeps end, of the paper: the plan of the strict cells and the new limit is uncontrollable, or both parts are its tables. Assumes nothing.
use mathlib.Core.Path.{◌≡◌, refl, sym, ap, subst, ◌∙◌}
use mathlib.Core.Bool.{Bool, true, false}
use mathlib.Core.Logic.{inl, inr, ⊎_elim}
use mathlib.Core.List.{List}
use Prim.Native.Nat.{ℕ, zero, ◌+◌, ◌*◌, ◌-◌, ◌≤◌, ◌<◌}
use native.Mathlib.Omega.{arith}
use lib.ListN.{length, drop, get_or, length-drop}
use lib.Seq.{get_or-take, get_or-drop}
use lib.IntN.{ℤ, pos}
use lib.Signed.{◌≤ℤ◌, ◌<ℤ◌}
use Rattle.whole.proofs.Order.{ints, split}
use Rattle.whole.proofs.Place.{inside, Spot, spot}
use Rattle.rules.specs.Plan.{Limit, Link, Plan, Ranges, version1, InRange, LimitInRange}
use Rattle.rules.proofs.Coherence.{Coherent}
use Rattle.rules.specs.Walks.{Uncontrollable}
use Rattle.rules.specs.Edges.{Derivable, Open}
use Rattle.rules.specs.Cells.{num, Within, Table, table_of}
use Rattle.rules.specs.Tables.{Least, Tables, Closed}
use Rattle.rules.specs.Additions.{with_cells}
use Rattle.rules.proofs.Points.{Pointed, Weighted}
use Rattle.rules.specs.Calls.{Kept, Beyond}
use Rattle.cell.specs.Steps.{adding, cell64}
use Rattle.lowering.specs.Sweep.{lower_cell, mark_all, diagonal_all, first_open, sweep_strict, sweep_open}
use Rattle.lowering.proofs.Theory.LoweredTables.{iter_lowered}
use Rattle.lowering.proofs.Theory.FirstTables.{marks}
use Rattle.lowering.proofs.Laws.FirstAsRead.{marks_sound}
use Rattle.lowering.proofs.Theory.StillSweep.{AllLinks}
use Rattle.lowering.proofs.Theory.SweepSteps.{diagonal_lowers}
use Rattle.lowering.proofs.Theory.SweepsEnd.{Going, kept_trans, lowered_kept, marks_kept, going_on, going_open_lowered, going_ends, unfair_strict, unfair_open}
use Rattle.cell.specs.Widths.{adding_coherent}
use Rattle.wide.proofs.AddStart.{few_points, added_pointed, added_weighted, start_going}
use Rattle.scratch.specs.Swept.{strict_part, open_part, Both, Swept, none, more, Quiet, Ended}
use Rattle.scratch.specs.Begun.{Begun}
use Rattle.scratch.specs.Copies.{Narrowed, InReach, OutOfReach}
use Rattle.scratch.proofs.AddBegins.{same_table}

-- Add's plan has the links of the plan
pub added_links : (p : Plan) (strict : Table) (m : Limit) (link : ℕ → Link) (links : ℕ) → AllLinks p link links → AllLinks (with_cells p strict m) link links
added_links p strict m link links a =
    record {
      links = record { member = a.links.member; points = a.links.points };
      index = a.index;
      index_below = a.index_below;
      index_is = a.index_is;
    }

-- sweeps keep what is true of both tables
swept_going : (q : Plan) (link : ℕ → Link) (links : ℕ) → AllLinks q link links → Pointed q → {t w u v : List ℤ} → Going q adding t w
    → Swept adding q.points link links t w u v → Going q adding u v
swept_going q link links a p g none = g
swept_going q link links a p g (more {u} {v} {u'} {v'} s eu ev) =
    let on : Going q adding (sweep_strict adding q.points link links u)
    (sweep_open adding q.points link links (sweep_strict adding q.points link links u) v) =
    going_on q adding adding_coherent p link links a u v (swept_going q link links a p g s) in
    rw (ev, eu) on

-- and leave what lies past the open one's room
swept_kept : (q : Plan) (link : ℕ → Link) (links : ℕ) → AllLinks q link links → Pointed q → {t w u v : List ℤ} → Going q adding t w
    → Swept adding q.points link links t w u v → Kept (q.points * q.points) w v
swept_kept q link links a p g none = record { length_same = refl; beyond_same = λ i h. refl }
swept_kept q link links a p g (more {u} {v} {u'} {v'} s eu ev) =
    kept_trans (swept_kept q link links a p g s)
    (rw ev (lowered_kept (going_open_lowered q adding adding_coherent p link links a u v (swept_going q link links a p g s) u')))

-- the first open table leaves what lies past its room
open_kept : (r : Ranges) → Coherent r → (n : ℕ) (t : List ℤ) → n * n ≤ length t → Kept (n * n) t (first_open r n t)
unfolding first_open diagonal_all
open_kept r h n t room =
    kept_trans (marks_kept (marks r (n * n) t room))
    (lowered_kept
    (iter_lowered r n n (λ x. lower_cell r n x x (num (pos zero))) (diagonal_lowers r h n) (mark_all r (n * n) t) (marks_sound r n t room)))

-- what is kept of the second part is kept of the whole
pub kept_whole : (a : ℕ) {t u : List ℤ} → length u ≡ length t → Kept a (drop a t) (drop a u) → Kept (a + a) t u
kept_whole a {t} {u} e k =
    record {
      length_same = e;
      beyond_same = λ i h.
          let at : a + (i - a) ≡ i = omega arith in
          subst (λ (j : ℕ). get_or u j (pos zero) ≡ get_or t j (pos zero)) at
          (sym (get_or-drop a u (i - a) (pos zero)) ∙ (k.beyond_same (i - a) (omega arith) ∙ get_or-drop a t (i - a) (pos zero)));
    }

module _ (p : Plan) (g : InRange version1 p) (link : ℕ → Link) (links : ℕ) (al : AllLinks p link links) (m : Limit)
    (i : LimitInRange version1 p.points m) (strict weak : List ℤ)
    (c : Closed version1 p (table_of version1 p.points strict) (table_of version1 p.points weak)) (t t₁ : List ℤ)
    (room : p.points * p.points + p.points * p.points ≤ length t) (b : Begun p.points m strict t t₁) where
  q : Plan
  q = with_cells p (table_of version1 p.points strict) m

  open_room : p.points * p.points ≤ length (open_part p.points t)
  open_room = omega (arith, length-drop (p.points * p.points) t)

  q_links : AllLinks q link links
  unfolding q
  q_links = added_links p (table_of version1 p.points strict) m link links al

  q_pointed : Pointed q
  unfolding q
  q_pointed = added_pointed p g (table_of version1 p.points strict) (table_of version1 p.points weak) c m i

  q_weighted : Weighted adding.weight q
  unfolding q
  q_weighted = added_weighted p g (table_of version1 p.points strict) (table_of version1 p.points weak) c m i

  few : p.points ≤ adding.points
  few = omega (arith, g.points, few_points)

  -- the sweeps start from Add's plan
  first : Going q adding (strict_part p.points t₁) (open_part p.points t₁)
  unfolding q
  first =
      rw (b.strict_is, b.open_is)
      (start_going p g (table_of version1 p.points strict) (table_of version1 p.points weak) c m i b.cells b.room b.same
      (open_part p.points t) open_room)

  -- so there are both tables
  pub start_both : length t₁ ≡ length t → Both adding p.points t₁
  unfolding q
  start_both e = record { room = omega (arith, room, e); strict = first.strict_walks.sound; weak = first.open_walks.sound }

  -- the first open table leaves what lies past it
  first_kept : Kept (p.points * p.points) (open_part p.points t) (open_part p.points t₁)
  unfolding first_open
  first_kept = rw b.open_is (open_kept adding adding_coherent p.points (open_part p.points t) open_room)

  module _ (t₂ : List ℤ) {r : Bool} (d : Ended adding p.points link links t₁ t₂ r) where
    last : Going q adding (strict_part p.points t₂) (open_part p.points t₂)
    unfolding q
    last = swept_going q link links q_links q_pointed first d.swept

    -- false: Add's plan is uncontrollable
    pub ends_against : r ≡ false → Uncontrollable (with_cells p (table_of version1 p.points strict) m)
    unfolding q
    ends_against e =
        ⊎_elim
        (unfair_strict q adding adding_coherent q_pointed q_weighted few link links q_links (strict_part p.points t₂) (open_part p.points t₂) last)
        (unfair_open q adding adding_coherent q_pointed q_weighted few link links q_links (strict_part p.points t₂) (open_part p.points t₂) last)
        (d.against e)

    -- true: both parts are its tables
    pub ends_tables : r ≡ true
        → Tables (with_cells p (table_of version1 p.points strict) m) (table_of adding p.points (strict_part p.points t₂))
        (table_of adding p.points (open_part p.points t₂))
    unfolding q
    ends_tables e =
        let z : Quiet adding p.points link links (strict_part p.points t₂) (open_part p.points t₂) = d.quiet e in
        going_ends q adding adding_coherent q_pointed q_weighted few link links q_links (strict_part p.points t₂) (open_part p.points t₂) last
        z.strict_same z.open_same z.strict_fair z.open_fair

    -- past both parts nothing changed
    pub ends_kept : length t₂ ≡ length t → Kept (p.points * p.points + p.points * p.points) t t₂
    unfolding q
    ends_kept e = kept_whole (p.points * p.points) e (kept_trans first_kept (swept_kept q link links q_links q_pointed first d.swept))

-- ---- the result, in the paper's tables

module _ (p : Plan) (t : List ℤ) where
  -- a cell of a part is a cell of the whole
  strict_cell : (x y : ℕ) → x < p.points → y < p.points
      → table_of adding p.points (strict_part p.points t) x y ≡ cell64 (get_or t (x * p.points + y) (pos zero))
  unfolding table_of
  strict_cell x y hx hy = ap cell64 (get_or-take (p.points * p.points) t (x * p.points + y) (pos zero) (inside hx hy))

  open_cell_lem : (x y : ℕ)
      → table_of adding p.points (open_part p.points t) x y ≡ cell64 (get_or t (p.points * p.points + (x * p.points + y)) (pos zero))
  unfolding table_of
  open_cell_lem x y = ap cell64 (get_or-drop (p.points * p.points) t (x * p.points + y) (pos zero))

  -- a cell out of reach is one of a table's
  pub out_beyond : OutOfReach (p.points * p.points + p.points * p.points) t
      → Beyond version1 p (table_of adding p.points (strict_part p.points t)) (table_of adding p.points (open_part p.points t))
  out_beyond o = ⊎_elim after before (split (pos (p.points * p.points)) (pos o.index))
    where
      after : pos (p.points * p.points) ≤ℤ pos o.index
          → Beyond version1 p (table_of adding p.points (strict_part p.points t)) (table_of adding p.points (open_part p.points t))
      after h =
          let at : Spot p.points (o.index - p.points * p.points) =
          spot p.points (o.index - p.points * p.points) (omega (ints, h, o.below)) in
          let place : p.points * p.points + (at.row * p.points + at.column) ≡ o.index = omega (ints, h, at.is) in
          record {
            row = at.row;
            column = at.column;
            row_below = at.row_below;
            column_below = at.column_below;
            beyond = inr (λ w.
                o.out
                (subst (λ (j : ℕ). Within version1.reach (cell64 (get_or t j (pos zero)))) place
                (subst (Within version1.reach) (open_cell_lem at.row at.column) w)));
          }

      before : pos o.index <ℤ pos (p.points * p.points)
          → Beyond version1 p (table_of adding p.points (strict_part p.points t)) (table_of adding p.points (open_part p.points t))
      before h =
          let at : Spot p.points o.index = spot p.points o.index (omega (ints, h)) in
          record {
            row = at.row;
            column = at.column;
            row_below = at.row_below;
            column_below = at.column_below;
            beyond = inl (λ w.
                o.out
                (subst (λ (j : ℕ). Within version1.reach (cell64 (get_or t j (pos zero)))) (sym at.is)
                (subst (Within version1.reach) (strict_cell at.row at.column at.row_below at.column_below) w)));
          }

  module _ {strict weak strict' weak' : List ℤ} (a : Narrowed (p.points * p.points) t strict strict')
      (b : Narrowed (p.points * p.points) (open_part p.points t) weak weak') where
    -- both tables hold what the parts hold
    strict_same : (x y : ℕ) → x < p.points → y < p.points
        → table_of adding p.points (strict_part p.points t) x y ≡ table_of version1 p.points strict' x y
    strict_same x y hx hy =
        same_table p.points (strict_part p.points t) strict'
        (λ i h. ap cell64 (get_or-take (p.points * p.points) t i (pos zero) h) ∙ a.same i h) x y hx hy

    open_same : (x y : ℕ) → x < p.points → y < p.points
        → table_of adding p.points (open_part p.points t) x y ≡ table_of version1 p.points weak' x y
    open_same = same_table p.points (open_part p.points t) weak' b.same

    -- so they are the tables
    pub tables_written : (q : Plan) → q.points ≡ p.points
        → Tables q (table_of adding p.points (strict_part p.points t)) (table_of adding p.points (open_part p.points t))
        → Tables q (table_of version1 p.points strict') (table_of version1 p.points weak')
    tables_written q e h =
        record {
          strict_least = λ x y hx hy. subst (Least (Derivable q) x y) (strict_same x y (rw e at hx) (rw e at hy)) (h.strict_least x y hx hy);
          open_least = λ x y hx hy. subst (Least (Open q) x y) (open_same x y (rw e at hx) (rw e at hy)) (h.open_least x y hx hy);
        }

    -- and none of their cells is beyond the reach
    pub none_beyond : InReach (p.points * p.points + p.points * p.points) t
        → Beyond version1 p (table_of version1 p.points strict') (table_of version1 p.points weak') → ⊥
    none_beyond r o =
        let i : o.row * p.points + o.column < p.points * p.points = inside o.row_below o.column_below in
        ⊎_elim
        (λ f.
        f
        (subst (Within version1.reach)
        (sym (strict_cell o.row o.column o.row_below o.column_below) ∙ strict_same o.row o.column o.row_below o.column_below)
        (r (o.row * p.points + o.column) (omega arith))))
        (λ f.
        f
        (subst (Within version1.reach) (sym (open_cell_lem o.row o.column) ∙ open_same o.row o.column o.row_below o.column_below)
        (r (p.points * p.points + (o.row * p.points + o.column)) (omega arith))))
        o.beyond
