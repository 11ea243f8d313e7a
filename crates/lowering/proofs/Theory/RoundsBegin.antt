-- Where the rounds begin: the strict table of the given edges after one pass of joins, and the open one, a copy of it with every lower-case edge taken.
-- Over any coherent ranges. Assumes nothing.
use mathlib.Core.Path.{◌≡◌, ap, ◌∙◌}
use mathlib.Core.List.{List}
use Prim.Native.Nat.{ℕ, zero, ◌+◌, ◌*◌, ◌≤◌, ◌<◌}
use native.Mathlib.Omega.{arith}
use lib.ListN.{length}
use lib.IntN.{ℤ, pos}
use Rattle.whole.proofs.Place.{inside}
use Rattle.rules.specs.Plan.{Limit, Link, Plan, Ranges}
use Rattle.rules.proofs.Coherence.{Coherent}
use Rattle.rules.specs.Edges as edges
use Rattle.rules.specs.Edges.{Given, Derivable, Open}
use Rattle.rules.specs.Cells.{mark, num, ◌≤ᶜ◌, cell_of, table_of}
use Rattle.rules.specs.Calls.{Kept}
use Rattle.rules.proofs.Points.{Pointed, Weighted, Ends, given_ends}
use Rattle.cell.specs.Steps.{clamped}
use Rattle.cell.proofs.StoredCells.{≤ᶜ_antisym, clamped_le}
use Rattle.lowering.specs.Table.{Sound}
use Rattle.lowering.specs.Fair.{Fair}
use Rattle.lowering.specs.Sweep.{join_all, first_strict, first_open}
use Rattle.lowering.specs.Spread.{Copied, case_edges}
use Rattle.lowering.proofs.Theory.LoweredTables.{lowered_below}
use Rattle.lowering.proofs.Theory.WalksKept.{has_in, has_open, Walked}
use Rattle.lowering.proofs.Theory.StepsTaken.{Taken, keeps, reached, rule_reaches}
use Rattle.lowering.proofs.Theory.CellRules.{case_rule}
use Rattle.lowering.proofs.Theory.SweepsTaken.{joins_keep}
use Rattle.lowering.proofs.Theory.StillSweep.{given_stays, AllLinks}
use Rattle.lowering.proofs.Theory.FirstTables.{AllLimits}
use Rattle.lowering.proofs.Theory.SweepsEnd.{Going, first_given, first_going, first_strict_kept, lowered_kept, kept_trans}
use Rattle.lowering.proofs.Theory.OneJoinPass.{warshall_full, warshall_joined}
use Rattle.lowering.proofs.Theory.SpreadKeepsJoined.{Shut}
use Rattle.lowering.proofs.Theory.RoundsEnd.{Carried, Rounds, open_edges, case_steps}

-- a copy past the room is as it was
pub copied_kept : {m : ℕ} {t u v : List ℤ} → Copied m t u v → Kept m u v
copied_kept c = record { length_same = c.length_same; beyond_same = c.beyond_same }

-- the cells of a copy
pub copied_cell : (r : Ranges) (n : ℕ) {t u v : List ℤ} → Copied (n * n) t u v → (x y : ℕ) → x < n → y < n → table_of r n v x y ≡ table_of r n t x y
unfolding table_of
copied_cell r n c x y hx hy = ap (cell_of r.mark) (c.same (x * n + y) (inside hx hy))

-- a copy of a table that a sweep stores is one
pub copied_sound : (r : Ranges) (n : ℕ) {t u v : List ℤ} → Copied (n * n) t u v → n * n ≤ length u → Sound r n t → Sound r n v
copied_sound r n c room s =
    record {
      room = omega (arith, room, c.length_same);
      stored = λ x y hx hy. rw (copied_cell r n c x y hx hy) (s.stored x y hx hy);
    }

-- ---- the strict table

module _ (p : Plan) (r : Ranges) (h : Coherent r) (g : Pointed p) (b : Weighted r.weight p) (few : p.points ≤ r.points) (limit : ℕ → Limit)
    (limits : ℕ) (al : AllLimits p limit limits) (link : ℕ → Link) (links : ℕ) (ak : AllLinks p link links) (t : List ℤ)
    (room : p.points * p.points ≤ length t) where
  abbrev first : List ℤ
  first = first_strict r p.points limit limits link links t

  abbrev joined : List ℤ
  joined = join_all r p.points first

  walked : Walked (Given p) r p.points first
  walked = (first_given p r h g b limit limits al link links ak t room).holds

  going : Going p r first (first_open r p.points t)
  going = first_going p r h g b limit limits al link links ak t t room room

  pass : Taken (Walked (Given p) r p.points) r p.points first joined
  pass = joins_keep (Given p) r h p.points first walked

  -- past the room it is as it was
  pub joined_kept : Kept (p.points * p.points) t (join_all r p.points (first_strict r p.points limit limits link links t))
  joined_kept = kept_trans (first_strict_kept p r h g b limit limits al link links ak t room) (lowered_kept pass.low)

  -- under every given edge
  pub joined_given : (x y : ℕ) (w : ℤ) → Given p x y w
      → table_of r p.points (join_all r p.points (first_strict r p.points limit limits link links t)) x y ≤ᶜ num w
  joined_given = given_stays g pass.low going.given_below

  -- and as rounds carry it
  pub joined_carried : Carried (Derivable p) p r (join_all r p.points (first_strict r p.points limit limits link links t))
  joined_carried =
      record {
        walks = record {
          sound = pass.low.sound;
          has = λ x y hx hy. has_in (λ x y w e. edges.given e) x y (table_of r p.points joined x y) (pass.holds.has x y hx hy);
        };
        full = λ x z s hx hz k. warshall_full p r h g b few first walked going.given_below going.strict_diagonal hx hz k;
        shut = λ f.
            record {
              zeros = λ x hx.
                  ≤ᶜ_antisym (table_of r p.points joined x x) (num (pos zero))
                  (lowered_below pass.low x x hx hx (num (pos zero)) (going.strict_diagonal x hx)) (f.diagonal x hx);
              join = warshall_joined p r h g b few first walked going.given_below going.strict_diagonal f;
            };
      }

-- ---- the open one

module _ (p : Plan) (r : Ranges) (h : Coherent r) (g : Pointed p) (link : ℕ → Link) (count : ℕ) (l : AllLinks p link count) {strict u v : List ℤ}
    (s : Carried (Derivable p) p r strict) (given : (x y : ℕ) (w : ℤ) → Given p x y w → table_of r p.points strict x y ≤ᶜ num w)
    (c : Copied (p.points * p.points) strict u v) (room : p.points * p.points ≤ length u) where
  cell : (x y : ℕ) → x < p.points → y < p.points → table_of r p.points v x y ≡ table_of r p.points strict x y
  cell = copied_cell r p.points c

  fair_copied : Fair r p.points v → Fair r p.points strict
  fair_copied f =
      record {
        within = λ x y hx hy. rw (← cell x y hx hy) (f.within x y hx hy);
        diagonal = λ x hx. rw (← cell x x hx hx) (f.diagonal x hx);
      }

  copied_carried : Carried (Open p) p r v
  copied_carried =
      record {
        walks = record {
          sound = copied_sound r p.points c room s.walks.sound;
          has = λ x y hx hy. rw (cell x y hx hy) (has_open p x y (table_of r p.points strict x y) (s.walks.has x y hx hy));
        };
        full = λ x z w hx hz k. rw (cell x z hx hz) (s.full x z w hx hz k);
        shut = λ f.
            let j : Shut r p.points strict = s.shut (fair_copied f) in
            record {
              zeros = λ x hx. cell x x hx hx ∙ j.zeros x hx;
              join = λ x y z hx hy hz. rw (cell x z hx hz, cell x y hx hy, cell y z hy hz) (j.join x y z hx hy hz);
            };
      }

  -- with every lower-case edge taken
  pub cases_taken : Taken (Carried (Open p) p r) r p.points v (case_edges r p.points link count v)
  cases_taken = keeps (open_edges p r h) (case_steps p r link count l.links (open_edges p r h)) v copied_carried

  -- it is under what is stored of the strict table
  cases_stored : (x y : ℕ) → x < p.points → y < p.points
      → table_of r p.points (case_edges r p.points link count v) x y ≤ᶜ clamped r.reach (table_of r p.points strict x y)
  cases_stored x y hx hy =
      lowered_below cases_taken.low x y hx hy (clamped r.reach (table_of r p.points strict x y))
      (rw (cell x y hx hy) (clamped_le r.reach (table_of r p.points strict x y)))

  -- both stand as before a round
  pub rounds_first : Rounds p r link count strict (case_edges r p.points link count v)
  unfolding case_steps
  rounds_first =
      record {
        strict_carried = s;
        open_carried = cases_taken.holds;
        strict_given = given;
        open_given =
            given_stays g cases_taken.low (λ x y w e. let q : Ends p x y = given_ends p g e in rw (cell x y q.from q.to) (given x y w e));
        open_cases = λ f i hi.
            let o = case_rule p r link count l.links i hi in
            reached (open_edges p r h) o (case_steps p r link count l.links (open_edges p r h)) (i, hi, rule_reaches (open_edges p r h) o) v copied_carried f;
        open_lower = λ f i j hi hj. cases_stored (link i).act (link j).con (l.links.points.act_below i hi) (l.links.points.con_below j hj);
        open_upper = λ f x i hx hi. cases_stored x (link i).act hx (l.links.points.act_below i hi);
      }
