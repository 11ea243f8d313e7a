-- The second and the third demand as far as they speak of plans, tables and limits, with no code. The calls' statements (Calls) bring them
-- to the calls. Assumes nothing.
use Rattle.std.specs.Prelude.{◌≡◌, ◌≢◌, ◌⊎◌, ℕ, ◌*◌, ◌-◌, ◌<◌}
use mathlib.Core.List.{List, [], Memᴰ}
use Rattle.rules.specs.Plan.{Limit, Plan, Ranges, LimitInRange, InRange}
use Rattle.rules.specs.Walks.{Uncontrollable}
use Rattle.rules.specs.Cells.{Within, Table}
use Rattle.rules.specs.Tables.{Tables, Closed}
use Rattle.rules.specs.Additions.{with_cells, with_limits, Additions}
use Rattle.rules.specs.Calls.{Beyond}

-- Demand 2: a plan's tables are closed, closed tables exist only for a plan that is not uncontrollable, a plan has at most one pair
-- of tables, and none where it is uncontrollable; "every other cell lies within 1,000,000 x (n - 1) of zero".
pub record Demand2OfPlans (r : Ranges) : Type 0 where
  pub tables_are_closed : (p : Plan) (strict weak : Table) → InRange r p → Tables p strict weak → Closed r p strict weak
  pub closed_excludes_uncontrollable : (p : Plan) (strict weak : Table) → InRange r p → Closed r p strict weak → Uncontrollable p → ⊥
  pub tables_exclude_uncontrollable : (p : Plan) (strict weak : Table) → InRange r p → Tables p strict weak → Uncontrollable p → ⊥
  pub one_strict_table : (p : Plan) (strict weak strict' weak' : Table) → Tables p strict weak → Tables p strict' weak'
      → (x y : ℕ) → x < p.points → y < p.points → strict x y ≡ strict' x y
  pub one_open_table : (p : Plan) (strict weak strict' weak' : Table) → Tables p strict weak → Tables p strict' weak'
      → (x y : ℕ) → x < p.points → y < p.points → weak x y ≡ weak' x y
  pub strict_near_zero : (p : Plan) (strict weak : Table) → InRange r p → Tables p strict weak
      → (x y : ℕ) → x < p.points → y < p.points → Within (r.weight * (p.points - 1)) (strict x y)
  pub open_near_zero : (p : Plan) (strict weak : Table) → InRange r p → Tables p strict weak
      → (x y : ℕ) → x < p.points → y < p.points → Within (r.weight * (p.points - 1)) (weak x y)

-- every limit of one list is in the other
abbrev pub AllIn : List Limit → List Limit → Type 0
AllIn ms ns = (m : Limit) → Memᴰ m ms → Memᴰ m ns

-- Demand 3, for additions to the tables of a plan in any order, repeats allowed.
pub record Demand3OfPlans (r : Ranges) : Type 0 where
  -- the tables are those of the plan with the limits taken, whatever their order and however often each was added
  pub end_tables : (p : Plan) (ts rs all : List Limit) (strict weak : Table) → InRange r p → Additions r p ts rs strict weak
      → AllIn ts all → AllIn all ts → Tables (with_limits p all) strict weak
  -- if the plan with all of them is controllable, none of them is refused
  pub none_refused : (p : Plan) (ts rs all : List Limit) (strict weak : Table) → InRange r p → Additions r p ts rs strict weak
      → AllIn ts all → (Uncontrollable (with_limits p all) → ⊥) → (m : Limit) → Memᴰ m all → Uncontrollable (with_cells p strict m) → ⊥
  -- if it is not, every order that tries them all meets a refusal
  pub some_refused : (p : Plan) (ts rs all : List Limit) (strict weak : Table) → InRange r p → Additions r p ts rs strict weak
      → ((m : Limit) → Memᴰ m all → Memᴰ m ts ⊎ Memᴰ m rs) → Uncontrollable (with_limits p all) → rs ≢ []
  -- a limit that was refused is refused again at any later time
  pub refused_again : (p : Plan) (ts rs : List Limit) (strict weak : Table) → InRange r p → Additions r p ts rs strict weak
      → (m : Limit) → Memᴰ m rs → Uncontrollable (with_cells p strict m)
  -- "The second sort of 12 never happens on tables that came from Judge and Add with the same file."
  pub never_beyond : (p : Plan) (ts rs : List Limit) (strict weak : Table) → InRange r p → Additions r p ts rs strict weak
      → (m : Limit) → LimitInRange r p.points m → (strict' weak' : Table) → Tables (with_cells p strict m) strict' weak'
      → Beyond r p strict' weak' → ⊥
