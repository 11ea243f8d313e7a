-- Cases a to k of the paper, and those of document 02, hold of the definitions: one test that the checker computes over the whole table, and one lemma
-- that turns it into each case. Assumes nothing.
use mathlib.Core.Path.{◌≡◌, refl, sym, subst₂}
use mathlib.Core.Bool.{Bool, true, false, ◌&&◌, true≢false}
use mathlib.Core.List.{List, [], ◌∷◌}
use Prim.Native.Nat.{zero}
use lib.Dec.{eqb, eqb→eq}
use lib.ListN.{length, get_or}
use lib.IntN.{ℤ, pos, neg_ℤ}
use Rattle.rules.specs.Plan.{Limit, Plan, version1}
use Rattle.rules.specs.Walks.{Uncontrollable}
use Rattle.rules.specs.Cells.{num, table_of}
use Rattle.rules.specs.Tables.{Tables}
use Rattle.rules.specs.Additions.{row_limits, table_limits, with_cells}
use Rattle.rules.specs.Calls.{cells_of}
use Rattle.rules.proofs.Demands.{version1_coherent}
use Rattle.plan.specs.File.{limit_fits, link_fits}
use Rattle.lowering.specs.Sweep.{lower_cell, join_cell, join_row, join_middle, join_all, lower_pair, lower_link, lower_all, upper_cell, upper_point, upper_all, open_cell, open_row, open_all, case_link, case_all, sweep_strict, sweep_open, mark_all, diagonal_all, limit_cell, limit_all, start_all, link_edges, link_all, first_strict, first_open}
use Rattle.whole.specs.Signed.{larger}
use Rattle.cases.specs.Case.{Verdict, refused, controllable, settled, takes, declines, Case, HasTables, Settled, Says, AllHold}
use Rattle.cases.specs.Paper.{paper}
use Rattle.cases.proofs.ComputedTests.{is_true, both, every, every_true, eq_list, eq_list_is, eq_cell, eq_cell_is, range_test, Fit, range_fit}
use Rattle.cases.proofs.SweepRun.{Outcome, unknown, unfair, still, run, Right, run_right}
use Rattle.cases.proofs.AddRun.{Full, takes_says, declines_says}

-- the times are minus the cells to the start
abbrev early : Plan → List ℤ → List ℤ → Bool
early p strict times =
    every (λ x. eq_cell (table_of version1 p.points strict x zero) (num (neg_ℤ (get_or times x (pos zero))))) (length times)

-- an outcome is these tables and times; or a refusal
abbrev finds : Plan → List ℤ → List ℤ → List ℤ → Outcome → Bool
finds p strict weak times unknown = false
finds p strict weak times unfair = false
finds p strict weak times (still s w) = eq_list s strict && eq_list w weak && early p strict times

abbrev refuses : Outcome → Bool
refuses unknown = false
refuses unfair = true
refuses (still s w) = false

abbrev stands : Outcome → Bool
stands unknown = false
stands unfair = false
stands (still s w) = true

-- two lists of as many cells as a plan's tables have
abbrev fills : Plan → List ℤ → List ℤ → Bool
fills p strict weak = eqb (length strict) (cells_of p) && eqb (length weak) (cells_of p)

-- Add's plan for lists of cells
abbrev after : Plan → List ℤ → Limit → Plan
after p strict m = with_cells p (table_of version1 p.points strict) m

-- an outcome is what was said; of Add, that of its plan is too
abbrev agrees : Plan → Verdict → Outcome → Bool
agrees p refused o = refuses o
agrees p controllable o = stands o
agrees p (settled strict weak times) o = finds p strict weak times o
agrees p (takes m strict weak strict' weak') o =
    finds p strict weak [] o && fills p strict weak
    && (range_test version1 (after p strict m) && fills p strict' weak' && finds (after p strict m) strict' weak' [] (run version1 (after p strict m)))
agrees p (declines m strict weak) o =
    finds p strict weak [] o && fills p strict weak && (range_test version1 (after p strict m) && refuses (run version1 (after p strict m)))

finds_says : (p : Plan) (strict weak times : List ℤ) (o : Outcome) → finds p strict weak times o ≡ true → Right version1 p o
    → Settled p strict weak times
finds_says p strict weak times unknown e r = absurd (true≢false (sym e))
finds_says p strict weak times unfair e r = absurd (true≢false (sym e))
finds_says p strict weak times (still s w) e r =
    let a = both (eq_list s strict && eq_list w weak) (early p strict times) e in
    let b = both (eq_list s strict) (eq_list w weak) a.0 in
    record {
      tables =
          subst₂ (λ (t u : List ℤ). Tables p (table_of version1 p.points t) (table_of version1 p.points u)) (eq_list_is s strict b.0)
          (eq_list_is w weak b.1) r;
      early = λ x h.
          eq_cell_is (table_of version1 p.points strict x zero) (num (neg_ℤ (get_or times x (pos zero))))
          (every_true (λ x. eq_cell (table_of version1 p.points strict x zero) (num (neg_ℤ (get_or times x (pos zero))))) (length times) a.1 x h);
    }

refuses_says : (p : Plan) (o : Outcome) → refuses o ≡ true → Right version1 p o → Uncontrollable p
refuses_says p unknown e r = absurd (true≢false (sym e))
refuses_says p unfair e r = r
refuses_says p (still s w) e r = absurd (true≢false (sym e))

stands_says : (p : Plan) (o : Outcome) → stands o ≡ true → Right version1 p o → HasTables p
stands_says p unknown e r = absurd (true≢false (sym e))
stands_says p unfair e r = absurd (true≢false (sym e))
stands_says p (still s w) e r = record { strict = table_of version1 p.points s; weak = table_of version1 p.points w; tables = r }

-- as long as the tables
fills_full : (p : Plan) (strict weak : List ℤ) → fills p strict weak ≡ true → Full p strict weak
fills_full p strict weak e =
    let a = both (eqb (length strict) (cells_of p)) (eqb (length weak) (cells_of p)) e in
    record {
      strict_full = eqb→eq (length strict) (cells_of p) (is_true a.0);
      open_full = eqb→eq (length weak) (cells_of p) (is_true a.1);
    }

agrees_says : (p : Plan) (v : Verdict) (o : Outcome) → Fit version1 p → agrees p v o ≡ true → Right version1 p o → Says p v
agrees_says p refused o g e r = refuses_says p o e r
agrees_says p controllable o g e r = stands_says p o e r
agrees_says p (settled strict weak times) o g e r = finds_says p strict weak times o e r
agrees_says p (takes m strict weak strict' weak') o g e r =
    let q = after p strict m in
    let a =
    both (finds p strict weak [] o && fills p strict weak) (range_test version1 q && fills p strict' weak' && finds q strict' weak' [] (run version1 q)) e in
    let b = both (finds p strict weak [] o) (fills p strict weak) a.0 in
    let c = both (range_test version1 q && fills p strict' weak') (finds q strict' weak' [] (run version1 q)) a.1 in
    let d = both (range_test version1 q) (fills p strict' weak') c.0 in
    let g' = range_fit version1 q d.0 in
    takes_says p m strict weak g (fills_full p strict weak b.1) (finds_says p strict weak [] o b.0 r) strict' weak' g'
    (fills_full p strict' weak' d.1) (finds_says q strict' weak' [] (run version1 q) c.1 (run_right version1 version1_coherent q g'))
agrees_says p (declines m strict weak) o g e r =
    let q = after p strict m in
    let a = both (finds p strict weak [] o && fills p strict weak) (range_test version1 q && refuses (run version1 q)) e in
    let b = both (finds p strict weak [] o) (fills p strict weak) a.0 in
    let c = both (range_test version1 q) (refuses (run version1 q)) a.1 in
    declines_says p m strict weak g (fills_full p strict weak b.1) (finds_says p strict weak [] o b.0 r)
    (refuses_says q (run version1 q) c.1 (run_right version1 version1_coherent q (range_fit version1 q c.0)))

-- the test of one case, and of a table
abbrev passes : Case → Bool
passes c = range_test version1 c.plan && agrees c.plan c.verdict (run version1 c.plan)

abbrev all_pass : List Case → Bool
all_pass [] = true
all_pass (c ∷ cs) = passes c && all_pass cs

-- a case that passes holds
pass_says : (c : Case) → passes c ≡ true → Says c.plan c.verdict
pass_says c e =
    let p = both (range_test version1 c.plan) (agrees c.plan c.verdict (run version1 c.plan)) e in
    let g = range_fit version1 c.plan p.0 in
    agrees_says c.plan c.verdict (run version1 c.plan) g p.1 (run_right version1 version1_coherent c.plan g)

pub all_hold : (cs : List Case) → all_pass cs ≡ true → AllHold cs
all_hold [] e = tt
all_hold (c ∷ cs) e =
    let p = both (passes c) (all_pass cs) e in
    (pass_says c p.0, all_hold cs p.1)

-- the test of the paper's table
paper_passes : all_pass paper ≡ true
unfolding version1 table_of limit_fits link_fits larger row_limits table_limits lower_cell join_cell join_row join_middle join_all lower_pair lower_link lower_all upper_cell upper_point upper_all open_cell open_row open_all case_link case_all sweep_strict sweep_open mark_all diagonal_all limit_cell limit_all start_all link_edges link_all first_strict first_open
paper_passes = refl

-- a to k, and document 02's
pub paper_holds : AllHold paper
paper_holds = all_hold paper paper_passes
