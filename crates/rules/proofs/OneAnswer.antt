-- One answer: two answers that meet a call's statement are equal, in code, place and every lent cell. The plan is in range where the file is sound.
-- Assumes nothing.
use mathlib.Core.Path.{◌≡◌, refl, sym, subst, ◌∙◌}
use mathlib.Core.Logic.{◌⊎◌, inl, inr, ⊎_elim}
use mathlib.Core.List.{List}
use Prim.Native.Nat.{ℕ, zero, ◌≤◌, ◌<◌}
use native.Mathlib.Omega.{arith}
use lib.ListN.{length}
use lib.IntN.{ℤ, pos}
use Rattle.rules.specs.Answers.{Answer, Done}
use Rattle.rules.specs.Plan.{Limit, Plan, Ranges, LimitInRange, InRange}
use Rattle.rules.specs.Edges as edges
use Rattle.rules.specs.Edges.{Derivable}
use Rattle.rules.specs.Cells.{Cell, mark, num, Within, Table, table_of}
use Rattle.rules.specs.Walks.{Uncontrollable}
use Rattle.rules.specs.Tables.{Least, Tables}
use Rattle.rules.specs.Additions.{with_cells}
use Rattle.rules.specs.Calls.{ShortTables, RoomForTables, Written, Judged, Checked, Timed, TimesOf, scratch_of, Beyond, Added}
use Rattle.rules.proofs.Walks.{single}
use Rattle.rules.proofs.Points.{Pointed, in_range_pointed}
use Rattle.rules.proofs.Justified.{SameTables, tables_unique, tables_controllable}
use Rattle.rules.proofs.CellLimits.{cells_pointed}
use Rattle.rules.proofs.Lists.{same_parts, filled_once, kept_once}

-- ---- what excludes what

pub short-or-room {ℓ} : {X : Type ℓ} {p : Plan} {strict weak : List ℤ} → ShortTables p strict weak → RoomForTables p strict weak → X
short-or-room {strict} {weak} s r = ⊎_elim (λ h. absurd (omega (arith, r.strict_room))) (λ h. absurd (omega (arith, r.open_room))) s

-- the plan's tables are written in one way
written_strict_once : {r : Ranges} {p : Plan} {strict weak s₁ w₁ s₂ w₂ : List ℤ} → Written r p strict weak s₁ w₁ → Written r p strict weak s₂ w₂
    → s₁ ≡ s₂
written_strict_once {r} {p} {s₁} {w₁} {s₂} {w₂} a b =
    kept_once r p.points a.strict_kept b.strict_kept
    (tables_unique p (table_of r p.points s₁) (table_of r p.points w₁) (table_of r p.points s₂) (table_of r p.points w₂) a.tables
    b.tables).strict_same

written_open_once : {r : Ranges} {p : Plan} {strict weak s₁ w₁ s₂ w₂ : List ℤ} → Written r p strict weak s₁ w₁ → Written r p strict weak s₂ w₂
    → w₁ ≡ w₂
written_open_once {r} {p} {s₁} {w₁} {s₂} {w₂} a b =
    kept_once r p.points a.open_kept b.open_kept
    (tables_unique p (table_of r p.points s₁) (table_of r p.points w₁) (table_of r p.points s₂) (table_of r p.points w₂) a.tables
    b.tables).open_same

-- ---- two answers that are equal

pub record SameJudged (a b : Answer) (s₁ s₂ w₁ w₂ : List ℤ) : Type 0 where
  pub answer : a ≡ b
  pub strict : s₁ ≡ s₂
  pub weak : w₁ ≡ w₂

pub record SameTimed (a b : Answer) (s₁ s₂ w₁ w₂ t₁ t₂ : List ℤ) : Type 0 where
  pub answer : a ≡ b
  pub strict : s₁ ≡ s₂
  pub weak : w₁ ≡ w₂
  pub times : t₁ ≡ t₂

pub record SameAdded (a b : Answer) (s₁ s₂ w₁ w₂ c₁ c₂ : List ℤ) : Type 0 where
  pub answer : a ≡ b
  pub strict : s₁ ≡ s₂
  pub weak : w₁ ≡ w₂
  pub scratch : c₁ ≡ c₂

module _ (r : Ranges) (file : Answer) (p : Plan) (g : file ≡ Done → InRange r p) where
  pointed : file ≡ Done → Pointed p
  pointed e = in_range_pointed (g e)

  written-or-uncontrollable {ℓ} : {X : Type ℓ} {strict weak s w : List ℤ} → file ≡ Done → Written r p strict weak s w → Uncontrollable p → X
  written-or-uncontrollable {s} {w} e t u =
      absurd (tables_controllable p (table_of r p.points s) (table_of r p.points w) (pointed e) t.tables u)

  -- Judge has one answer
  pub judged_once : {strict weak : List ℤ} {a b : Answer} {s₁ s₂ w₁ w₂ : List ℤ} → Judged r file p strict weak a s₁ w₁
      → Judged r file p strict weak b s₂ w₂ → SameJudged a b s₁ s₂ w₁ w₂
  judged_once (Judged.bad_file n₁) (Judged.bad_file n₂) = record { answer = refl; strict = refl; weak = refl }
  judged_once (Judged.bad_file n₁) (Judged.short_room e₂ s₂) = absurd (n₁ e₂)
  judged_once (Judged.bad_file n₁) (Judged.uncontrollable e₂ q₂ u₂ m₂) = absurd (n₁ e₂)
  judged_once (Judged.bad_file n₁) (Judged.judged e₂ q₂ t₂) = absurd (n₁ e₂)
  judged_once (Judged.short_room e₁ s₁) (Judged.bad_file n₂) = absurd (n₂ e₁)
  judged_once (Judged.short_room e₁ s₁) (Judged.short_room e₂ s₂) = record { answer = refl; strict = refl; weak = refl }
  judged_once (Judged.short_room e₁ s₁) (Judged.uncontrollable e₂ q₂ u₂ m₂) = short-or-room s₁ q₂
  judged_once (Judged.short_room e₁ s₁) (Judged.judged e₂ q₂ t₂) = short-or-room s₁ q₂
  judged_once (Judged.uncontrollable e₁ q₁ u₁ m₁) (Judged.bad_file n₂) = absurd (n₂ e₁)
  judged_once (Judged.uncontrollable e₁ q₁ u₁ m₁) (Judged.short_room e₂ s₂) = short-or-room s₂ q₁
  judged_once (Judged.uncontrollable e₁ q₁ u₁ m₁) (Judged.uncontrollable e₂ q₂ u₂ m₂) = record {
    answer = refl;
    strict = filled_once m₁.strict_marked m₂.strict_marked;
    weak = filled_once m₁.open_marked m₂.open_marked;
  }
  judged_once (Judged.uncontrollable e₁ q₁ u₁ m₁) (Judged.judged e₂ q₂ t₂) = written-or-uncontrollable e₁ t₂ u₁
  judged_once (Judged.judged e₁ q₁ t₁) (Judged.bad_file n₂) = absurd (n₂ e₁)
  judged_once (Judged.judged e₁ q₁ t₁) (Judged.short_room e₂ s₂) = short-or-room s₂ q₁
  judged_once (Judged.judged e₁ q₁ t₁) (Judged.uncontrollable e₂ q₂ u₂ m₂) = written-or-uncontrollable e₁ t₁ u₂
  judged_once (Judged.judged e₁ q₁ t₁) (Judged.judged e₂ q₂ t₂) = record { answer = refl; strict = written_strict_once t₁ t₂; weak = written_open_once t₁ t₂ }

  -- Check has one answer
  pub checked_once : {strict weak : List ℤ} {a b : Answer} → Checked r file p strict weak a → Checked r file p strict weak b → a ≡ b
  checked_once (Checked.bad_file n₁) (Checked.bad_file n₂) = refl
  checked_once (Checked.bad_file n₁) (Checked.short_room e₂ s₂) = absurd (n₁ e₂)
  checked_once (Checked.bad_file n₁) (Checked.not_closed e₂ q₂ x₂) = absurd (n₁ e₂)
  checked_once (Checked.bad_file n₁) (Checked.closed e₂ q₂ c₂) = absurd (n₁ e₂)
  checked_once (Checked.short_room e₁ s₁) (Checked.bad_file n₂) = absurd (n₂ e₁)
  checked_once (Checked.short_room e₁ s₁) (Checked.short_room e₂ s₂) = refl
  checked_once (Checked.short_room e₁ s₁) (Checked.not_closed e₂ q₂ x₂) = short-or-room s₁ q₂
  checked_once (Checked.short_room e₁ s₁) (Checked.closed e₂ q₂ c₂) = short-or-room s₁ q₂
  checked_once (Checked.not_closed e₁ q₁ x₁) (Checked.bad_file n₂) = absurd (n₂ e₁)
  checked_once (Checked.not_closed e₁ q₁ x₁) (Checked.short_room e₂ s₂) = short-or-room s₂ q₁
  checked_once (Checked.not_closed e₁ q₁ x₁) (Checked.not_closed e₂ q₂ x₂) = refl
  checked_once (Checked.not_closed e₁ q₁ x₁) (Checked.closed e₂ q₂ c₂) = absurd (x₁ c₂)
  checked_once (Checked.closed e₁ q₁ c₁) (Checked.bad_file n₂) = absurd (n₂ e₁)
  checked_once (Checked.closed e₁ q₁ c₁) (Checked.short_room e₂ s₂) = short-or-room s₂ q₁
  checked_once (Checked.closed e₁ q₁ c₁) (Checked.not_closed e₂ q₂ x₂) = absurd (x₂ c₁)
  checked_once (Checked.closed e₁ q₁ c₁) (Checked.closed e₂ q₂ c₂) = refl

  -- ---- Earliest

  short-or-times {ℓ} : {X : Type ℓ} {strict weak : List ℤ} (times : List ℤ) → ShortTables p strict weak ⊎ (length times < p.points)
      → RoomForTables p strict weak → p.points ≤ length times → X
  short-or-times times (inl s) q l = short-or-room s q
  short-or-times times (inr s) q l = absurd (omega arith)

  -- the strict cell from a point to the start is a number, since there is a start edge
  pub start_number : {strict weak : Table} → Tables p strict weak → Pointed p → (x : ℕ) → x < p.points → (c : ℤ) × (strict x zero ≡ num c)
  start_number {strict} {weak} t h x hx = by (strict x zero) refl (t.strict_least x zero hx h.some_point)
    where
      by : (c : Cell) → strict x zero ≡ c → Least (Derivable p) x zero c → (c : ℤ) × (strict x zero ≡ num c)
      by mark e l = absurd (l (pos zero) (single (edges.given (edges.start hx))))
      by (num c) e l = (c, e)

  -- times are written in one way
  times_once : {strict weak s w times t₁ t₂ : List ℤ} → file ≡ Done → Written r p strict weak s w → TimesOf r p s times t₁
      → TimesOf r p s times t₂ → t₁ ≡ t₂
  times_once {s} {t₁} {t₂} e t a b =
      same_parts (pos zero) p.points t₁ t₂ (a.times_kept.length_same ∙ sym b.times_kept.length_same)
      (λ i h. a.times_kept.beyond_same i h ∙ sym (b.times_kept.beyond_same i h))
      (λ i h.
      let c : (c : ℤ) × (table_of r p.points s i zero ≡ num c) = start_number t.tables (pointed e) i h in
      a.minus_cell i h c.0 c.1 ∙ sym (b.minus_cell i h c.0 c.1))

  -- Earliest has one answer
  pub timed_once : {strict weak times : List ℤ} {a b : Answer} {s₁ s₂ w₁ w₂ t₁ t₂ : List ℤ} → Timed r file p strict weak times a s₁ w₁ t₁
      → Timed r file p strict weak times b s₂ w₂ t₂ → SameTimed a b s₁ s₂ w₁ w₂ t₁ t₂
  timed_once {times} (Timed.bad_file n₁) (Timed.bad_file n₂) = record { answer = refl; strict = refl; weak = refl; times = refl }
  timed_once {times} (Timed.bad_file n₁) (Timed.short_room e₂ s₂) = absurd (n₁ e₂)
  timed_once {times} (Timed.bad_file n₁) (Timed.has_links e₂ q₂ l₂ k₂) = absurd (n₁ e₂)
  timed_once {times} (Timed.bad_file n₁) (Timed.uncontrollable e₂ q₂ l₂ z₂ u₂ m₂) = absurd (n₁ e₂)
  timed_once {times} (Timed.bad_file n₁) (Timed.timed e₂ q₂ l₂ z₂ t₂ o₂) = absurd (n₁ e₂)
  timed_once {times} (Timed.short_room e₁ s₁) (Timed.bad_file n₂) = absurd (n₂ e₁)
  timed_once {times} (Timed.short_room e₁ s₁) (Timed.short_room e₂ s₂) = record { answer = refl; strict = refl; weak = refl; times = refl }
  timed_once {times} (Timed.short_room e₁ s₁) (Timed.has_links e₂ q₂ l₂ k₂) = short-or-times times s₁ q₂ l₂
  timed_once {times} (Timed.short_room e₁ s₁) (Timed.uncontrollable e₂ q₂ l₂ z₂ u₂ m₂) = short-or-times times s₁ q₂ l₂
  timed_once {times} (Timed.short_room e₁ s₁) (Timed.timed e₂ q₂ l₂ z₂ t₂ o₂) = short-or-times times s₁ q₂ l₂
  timed_once {times} (Timed.has_links e₁ q₁ l₁ k₁) (Timed.bad_file n₂) = absurd (n₂ e₁)
  timed_once {times} (Timed.has_links e₁ q₁ l₁ k₁) (Timed.short_room e₂ s₂) = short-or-times times s₂ q₁ l₁
  timed_once {times} (Timed.has_links e₁ q₁ l₁ k₁) (Timed.has_links e₂ q₂ l₂ k₂) = record { answer = refl; strict = refl; weak = refl; times = refl }
  timed_once {times} (Timed.has_links e₁ q₁ l₁ k₁) (Timed.uncontrollable e₂ q₂ l₂ z₂ u₂ m₂) = absurd (k₁ z₂)
  timed_once {times} (Timed.has_links e₁ q₁ l₁ k₁) (Timed.timed e₂ q₂ l₂ z₂ t₂ o₂) = absurd (k₁ z₂)
  timed_once {times} (Timed.uncontrollable e₁ q₁ l₁ z₁ u₁ m₁) (Timed.bad_file n₂) = absurd (n₂ e₁)
  timed_once {times} (Timed.uncontrollable e₁ q₁ l₁ z₁ u₁ m₁) (Timed.short_room e₂ s₂) = short-or-times times s₂ q₁ l₁
  timed_once {times} (Timed.uncontrollable e₁ q₁ l₁ z₁ u₁ m₁) (Timed.has_links e₂ q₂ l₂ k₂) = absurd (k₂ z₁)
  timed_once {times} (Timed.uncontrollable e₁ q₁ l₁ z₁ u₁ m₁) (Timed.uncontrollable e₂ q₂ l₂ z₂ u₂ m₂) = record {
    answer = refl;
    strict = filled_once m₁.strict_marked m₂.strict_marked;
    weak = filled_once m₁.open_marked m₂.open_marked;
    times = refl;
  }
  timed_once {times} (Timed.uncontrollable e₁ q₁ l₁ z₁ u₁ m₁) (Timed.timed e₂ q₂ l₂ z₂ t₂ o₂) = written-or-uncontrollable e₁ t₂ u₁
  timed_once {times} (Timed.timed e₁ q₁ l₁ z₁ t₁ o₁) (Timed.bad_file n₂) = absurd (n₂ e₁)
  timed_once {times} (Timed.timed e₁ q₁ l₁ z₁ t₁ o₁) (Timed.short_room e₂ s₂) = short-or-times times s₂ q₁ l₁
  timed_once {times} (Timed.timed e₁ q₁ l₁ z₁ t₁ o₁) (Timed.has_links e₂ q₂ l₂ k₂) = absurd (k₂ z₁)
  timed_once {times} (Timed.timed e₁ q₁ l₁ z₁ t₁ o₁) (Timed.uncontrollable e₂ q₂ l₂ z₂ u₂ m₂) = written-or-uncontrollable e₁ t₁ u₂
  timed_once {times} (Timed.timed e₁ q₁ l₁ z₁ t₁ o₁) (Timed.timed {times' = v} e₂ q₂ l₂ z₂ t₂ o₂) = record {
    answer = refl;
    strict = written_strict_once t₁ t₂;
    weak = written_open_once t₁ t₂;
    times = times_once e₁ t₁ o₁ (subst (λ (s : List ℤ). TimesOf r p s times v) (sym (written_strict_once t₁ t₂)) o₂);
  }

-- ---- Add

short-or-scratch {ℓ} : {X : Type ℓ} {p : Plan} {strict weak : List ℤ} (scratch : List ℤ) → ShortTables p strict weak ⊎ (length scratch < scratch_of p)
    → RoomForTables p strict weak → scratch_of p ≤ length scratch → X
short-or-scratch scratch (inl s) q l = short-or-room s q
short-or-scratch scratch (inr s) q l = absurd (omega arith)

module _ (r : Ranges) (file : Answer) (p : Plan) (m : Limit) (g : file ≡ Done → InRange r p) (i : file ≡ Done → LimitInRange r p.points m) where
  cells-or-uncontrollable {ℓ} : {X : Type ℓ} (strict : List ℤ) (s w : Table) → file ≡ Done
      → Tables (with_cells p (table_of r p.points strict) m) s w → Uncontrollable (with_cells p (table_of r p.points strict) m) → X
  cells-or-uncontrollable strict s w e t u =
      absurd
      (tables_controllable (with_cells p (table_of r p.points strict) m) s w
      (cells_pointed p (table_of r p.points strict) m (in_range_pointed (g e)) (i e).from (i e).to) t u)

  -- what is beyond in one pair of Add's tables is beyond in the other
  beyond-once {ℓ} : {X : Type ℓ} (strict : List ℤ) (s w s' w' : Table) → Tables (with_cells p (table_of r p.points strict) m) s w
      → Tables (with_cells p (table_of r p.points strict) m) s' w' → Beyond r p s w → (Beyond r p s' w' → ⊥) → X
  beyond-once strict s w s' w' t u b n =
      let same : SameTables p.points s w s' w' = tables_unique (with_cells p (table_of r p.points strict) m) s w s' w' t u in
      absurd
      (n
      (record {
        row = b.row;
        column = b.column;
        row_below = b.row_below;
        column_below = b.column_below;
        beyond =
            ⊎_elim
            (λ h. inl (λ k. h (subst (Within r.reach) (sym (same.strict_same b.row b.column b.row_below b.column_below)) k)))
            (λ h. inr (λ k. h (subst (Within r.reach) (sym (same.open_same b.row b.column b.row_below b.column_below)) k)))
            b.beyond;
      }))

  -- Add has one answer
  pub added_once : {strict weak scratch : List ℤ} {a b : Answer} {s₁ s₂ w₁ w₂ c₁ c₂ : List ℤ}
      → Added r file p m strict weak scratch a s₁ w₁ c₁ → Added r file p m strict weak scratch b s₂ w₂ c₂ → SameAdded a b s₁ s₂ w₁ w₂ c₁ c₂
  added_once {strict} {scratch} (Added.bad_file n₁) (Added.bad_file n₂) = record { answer = refl; strict = refl; weak = refl; scratch = refl }
  added_once {strict} {scratch} (Added.bad_file n₁) (Added.short_room e₂ s₂) = absurd (n₁ e₂)
  added_once {strict} {scratch} (Added.bad_file n₁) (Added.not_closed e₂ q₂ l₂ x₂ f₂) = absurd (n₁ e₂)
  added_once {strict} {scratch} (Added.bad_file n₁) (Added.uncontrollable e₂ q₂ l₂ c₂ u₂ f₂) = absurd (n₁ e₂)
  added_once {strict} {scratch} (Added.bad_file n₁) (Added.beyond e₂ q₂ l₂ c₂ t₂ b₂ f₂) = absurd (n₁ e₂)
  added_once {strict} {scratch} (Added.bad_file n₁) (Added.added e₂ q₂ l₂ c₂ t₂ b₂ f₂) = absurd (n₁ e₂)
  added_once {strict} {scratch} (Added.short_room e₁ s₁) (Added.bad_file n₂) = absurd (n₂ e₁)
  added_once {strict} {scratch} (Added.short_room e₁ s₁) (Added.short_room e₂ s₂) = record { answer = refl; strict = refl; weak = refl; scratch = refl }
  added_once {strict} {scratch} (Added.short_room e₁ s₁) (Added.not_closed e₂ q₂ l₂ x₂ f₂) = short-or-scratch scratch s₁ q₂ l₂
  added_once {strict} {scratch} (Added.short_room e₁ s₁) (Added.uncontrollable e₂ q₂ l₂ c₂ u₂ f₂) = short-or-scratch scratch s₁ q₂ l₂
  added_once {strict} {scratch} (Added.short_room e₁ s₁) (Added.beyond e₂ q₂ l₂ c₂ t₂ b₂ f₂) = short-or-scratch scratch s₁ q₂ l₂
  added_once {strict} {scratch} (Added.short_room e₁ s₁) (Added.added e₂ q₂ l₂ c₂ t₂ b₂ f₂) = short-or-scratch scratch s₁ q₂ l₂
  added_once {strict} {scratch} (Added.not_closed e₁ q₁ l₁ x₁ f₁) (Added.bad_file n₂) = absurd (n₂ e₁)
  added_once {strict} {scratch} (Added.not_closed e₁ q₁ l₁ x₁ f₁) (Added.short_room e₂ s₂) = short-or-scratch scratch s₂ q₁ l₁
  added_once {strict} {scratch} (Added.not_closed e₁ q₁ l₁ x₁ f₁) (Added.not_closed e₂ q₂ l₂ x₂ f₂) = record { answer = refl; strict = refl; weak = refl; scratch = filled_once f₁ f₂ }
  added_once {strict} {scratch} (Added.not_closed e₁ q₁ l₁ x₁ f₁) (Added.uncontrollable e₂ q₂ l₂ c₂ u₂ f₂) = absurd (x₁ c₂)
  added_once {strict} {scratch} (Added.not_closed e₁ q₁ l₁ x₁ f₁) (Added.beyond e₂ q₂ l₂ c₂ t₂ b₂ f₂) = absurd (x₁ c₂)
  added_once {strict} {scratch} (Added.not_closed e₁ q₁ l₁ x₁ f₁) (Added.added e₂ q₂ l₂ c₂ t₂ b₂ f₂) = absurd (x₁ c₂)
  added_once {strict} {scratch} (Added.uncontrollable e₁ q₁ l₁ c₁ u₁ f₁) (Added.bad_file n₂) = absurd (n₂ e₁)
  added_once {strict} {scratch} (Added.uncontrollable e₁ q₁ l₁ c₁ u₁ f₁) (Added.short_room e₂ s₂) = short-or-scratch scratch s₂ q₁ l₁
  added_once {strict} {scratch} (Added.uncontrollable e₁ q₁ l₁ c₁ u₁ f₁) (Added.not_closed e₂ q₂ l₂ x₂ f₂) = absurd (x₂ c₁)
  added_once {strict} {scratch} (Added.uncontrollable e₁ q₁ l₁ c₁ u₁ f₁) (Added.uncontrollable e₂ q₂ l₂ c₂ u₂ f₂) = record { answer = refl; strict = refl; weak = refl; scratch = filled_once f₁ f₂ }
  added_once {strict} {scratch} (Added.uncontrollable e₁ q₁ l₁ c₁ u₁ f₁) (Added.beyond {strict' = v} {weak' = w} e₂ q₂ l₂ c₂ t₂ b₂ f₂) = cells-or-uncontrollable strict v w e₁ t₂ u₁
  added_once {strict} {scratch} (Added.uncontrollable e₁ q₁ l₁ c₁ u₁ f₁) (Added.added {strict' = v} {weak' = w} e₂ q₂ l₂ c₂ t₂ b₂ f₂) = cells-or-uncontrollable strict (table_of r p.points v) (table_of r p.points w) e₁ t₂.tables u₁
  added_once {strict} {scratch} (Added.beyond e₁ q₁ l₁ c₁ t₁ b₁ f₁) (Added.bad_file n₂) = absurd (n₂ e₁)
  added_once {strict} {scratch} (Added.beyond e₁ q₁ l₁ c₁ t₁ b₁ f₁) (Added.short_room e₂ s₂) = short-or-scratch scratch s₂ q₁ l₁
  added_once {strict} {scratch} (Added.beyond e₁ q₁ l₁ c₁ t₁ b₁ f₁) (Added.not_closed e₂ q₂ l₂ x₂ f₂) = absurd (x₂ c₁)
  added_once {strict} {scratch} (Added.beyond {strict' = v} {weak' = w} e₁ q₁ l₁ c₁ t₁ b₁ f₁) (Added.uncontrollable e₂ q₂ l₂ c₂ u₂ f₂) = cells-or-uncontrollable strict v w e₁ t₁ u₂
  added_once {strict} {scratch} (Added.beyond e₁ q₁ l₁ c₁ t₁ b₁ f₁) (Added.beyond e₂ q₂ l₂ c₂ t₂ b₂ f₂) = record { answer = refl; strict = refl; weak = refl; scratch = filled_once f₁ f₂ }
  added_once {strict} {scratch} (Added.beyond {strict' = v₁} {weak' = w₁} e₁ q₁ l₁ c₁ t₁ b₁ f₁) (Added.added {strict' = v₂} {weak' = w₂} e₂ q₂ l₂ c₂ t₂ b₂ f₂) = beyond-once strict v₁ w₁ (table_of r p.points v₂) (table_of r p.points w₂) t₁ t₂.tables b₁ b₂
  added_once {strict} {scratch} (Added.added e₁ q₁ l₁ c₁ t₁ b₁ f₁) (Added.bad_file n₂) = absurd (n₂ e₁)
  added_once {strict} {scratch} (Added.added e₁ q₁ l₁ c₁ t₁ b₁ f₁) (Added.short_room e₂ s₂) = short-or-scratch scratch s₂ q₁ l₁
  added_once {strict} {scratch} (Added.added e₁ q₁ l₁ c₁ t₁ b₁ f₁) (Added.not_closed e₂ q₂ l₂ x₂ f₂) = absurd (x₂ c₁)
  added_once {strict} {scratch} (Added.added {strict' = v} {weak' = w} e₁ q₁ l₁ c₁ t₁ b₁ f₁) (Added.uncontrollable e₂ q₂ l₂ c₂ u₂ f₂) = cells-or-uncontrollable strict (table_of r p.points v) (table_of r p.points w) e₁ t₁.tables u₂
  added_once {strict} {scratch} (Added.added {strict' = v₁} {weak' = w₁} e₁ q₁ l₁ c₁ t₁ b₁ f₁) (Added.beyond {strict' = v₂} {weak' = w₂} e₂ q₂ l₂ c₂ t₂ b₂ f₂) = beyond-once strict v₂ w₂ (table_of r p.points v₁) (table_of r p.points w₁) t₂ t₁.tables b₂ b₁
  added_once {strict} {scratch} (Added.added e₁ q₁ l₁ c₁ t₁ b₁ f₁) (Added.added e₂ q₂ l₂ c₂ t₂ b₂ f₂) = record {
    answer = refl;
    strict = written_strict_once t₁ t₂;
    weak = written_open_once t₁ t₂;
    scratch = filled_once f₁ f₂;
  }
