-- What Add answers on a plan's own tables, from those and what Add's plan comes to: its tables, or a refusal. Assumes nothing.
use mathlib.Core.Path.{◌≡◌, refl, sym, ◌∙◌}
use mathlib.Core.Logic.{⊎_elim}
use mathlib.Core.List.{List, []}
use Prim.Native.Nat.{ℕ, zero, ◌-◌, ◌≤◌}
use native.Mathlib.Nat.{mul-le-mul_left, le_trans}
use native.Mathlib.Omega.{arith}
use lib.ListN.{length, get_or-eq_default}
use lib.IntN.{ℤ, pos}
use Rattle.rules.specs.Answers.{Done, NotControllable}
use Rattle.rules.specs.Plan.{Limit, Plan, version1}
use Rattle.rules.specs.Walks.{Uncontrollable}
use Rattle.rules.specs.Cells.{Table, table_of}
use Rattle.rules.specs.Tables.{Tables, Closed}
use Rattle.rules.specs.Additions.{with_cells}
use Rattle.rules.specs.Calls.{cells_of, Kept, RoomForTables, Added}
use Rattle.rules.proofs.Demands.{version1_coherent}
use Rattle.rules.proofs.TablesClosed.{tables_closed}
use Rattle.cases.specs.Case.{Settled, Adds}
use Rattle.cases.proofs.ComputedTests.{Fit}

-- two lists as long as a plan's tables
pub record Full (p : Plan) (strict weak : List ℤ) : Type 0 where
  pub strict_full : length strict ≡ cells_of p
  pub open_full : length weak ≡ cells_of p

room : (p : Plan) (strict weak : List ℤ) → Full p strict weak → RoomForTables p strict weak
room p strict weak f = record { strict_room = omega (arith, f.strict_full); open_room = omega (arith, f.open_full) }

-- where there is nothing beyond the cells, nothing beyond them changes
kept : (cells : ℕ) (t u : List ℤ) → length t ≡ cells → length u ≡ cells → Kept cells t u
kept cells t u a b =
    record {
      length_same = b ∙ sym a;
      beyond_same = λ i h. get_or-eq_default u (pos zero) {n = i} (omega arith) ∙ sym (get_or-eq_default t (pos zero) {n = i} (omega arith));
    }

closed : (p : Plan) (strict weak : Table) → Fit version1 p → Tables p strict weak → Closed version1 p strict weak
closed p strict weak f t =
    let few : p.points - 1 ≤ version1.points - 1 = omega (arith, f.few) in
    tables_closed version1 p strict weak f.pointed f.weighted
    (le_trans (mul-le-mul_left version1.weight few) version1_coherent.holds_walks) t

module _ (p : Plan) (m : Limit) (strict weak : List ℤ) (g : Fit version1 p) (f : Full p strict weak) (e : Settled p strict weak []) where
  -- Add's plan has tables in reach: they are the answer
  pub takes_says : (strict' weak' : List ℤ) → Fit version1 (with_cells p (table_of version1 p.points strict) m) → Full p strict' weak'
      → Settled (with_cells p (table_of version1 p.points strict) m) strict' weak' [] → Adds p m strict weak Done strict' weak'
  takes_says strict' weak' g' f' e' =
      let S = table_of version1 p.points strict in
      let S' = table_of version1 p.points strict' in
      let W' = table_of version1 p.points weak' in
      let k : Closed version1 (with_cells p S m) S' W' = closed (with_cells p S m) S' W' g' e'.tables in
      record {
        tables = e;
        answer = λ scratch scratch' h z.
            Added.added refl (room p strict weak f) h (closed p S (table_of version1 p.points weak) g e.tables)
            (record {
              strict_kept = kept (cells_of p) strict strict' f.strict_full f'.strict_full;
              open_kept = kept (cells_of p) weak weak' f.open_full f'.open_full;
              tables = e'.tables;
            })
            (λ b.
            ⊎_elim (λ n. n (k.strict_within b.row b.column b.row_below b.column_below))
            (λ n. n (k.open_within b.row b.column b.row_below b.column_below)) b.beyond)
            z;
      }

  -- Add's plan is uncontrollable: the tables stay
  pub declines_says : Uncontrollable (with_cells p (table_of version1 p.points strict) m) → Adds p m strict weak NotControllable strict weak
  declines_says u =
      record {
        tables = e;
        answer = λ scratch scratch' h z.
            Added.uncontrollable refl (room p strict weak f) h
            (closed p (table_of version1 p.points strict) (table_of version1 p.points weak) g e.tables) u z;
      }
