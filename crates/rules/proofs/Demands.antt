-- The second and the third demand on plans hold for any coherent ranges, and the paper's numbers are coherent. Assumes nothing.
use native.Mathlib.Omega.{arith}
use Rattle.rules.specs.Plan.{Ranges, version1}
use Rattle.rules.proofs.Coherence.{Coherent}
use Rattle.rules.specs.Demands.{Demand2OfPlans, Demand3OfPlans}
use Rattle.rules.proofs.Points.{in_range_pointed, in_range_weighted}
use Rattle.rules.proofs.Bound.{closed_controllable}
use Rattle.rules.proofs.Justified.{tables_unique, tables_controllable}
use Rattle.rules.proofs.TablesClosed.{tables_closed, strict_reach, open_reach}
use Rattle.rules.proofs.Additions.{end_tables, none_refused, some_refused, refused_again, never_beyond, reach_holds}

-- "1,000,000 x (n - 1)" is in the closed range, and the mark is above it twice
pub version1_coherent : Coherent version1
unfolding version1
version1_coherent = record { holds_weight = omega arith; holds_walks = omega arith; mark_above = omega arith }

pub demand2_of_plans : (r : Ranges) → Coherent r → Demand2OfPlans r
demand2_of_plans r c =
    record {
      tables_are_closed = λ p strict weak g t.
          tables_closed r p strict weak (in_range_pointed g) (in_range_weighted g) (reach_holds r p c g) t;
      closed_excludes_uncontrollable = λ p strict weak g t u. closed_controllable r p strict weak t (in_range_pointed g) u;
      tables_exclude_uncontrollable = λ p strict weak g t u. tables_controllable p strict weak (in_range_pointed g) t u;
      one_strict_table = λ p strict weak strict' weak' t u. (tables_unique p strict weak strict' weak' t u).strict_same;
      one_open_table = λ p strict weak strict' weak' t u. (tables_unique p strict weak strict' weak' t u).open_same;
      strict_near_zero = λ p strict weak g t. strict_reach p strict weak (in_range_pointed g) t r.weight (in_range_weighted g);
      open_near_zero = λ p strict weak g t. open_reach p strict weak (in_range_pointed g) t r.weight (in_range_weighted g);
    }

pub demand3_of_plans : (r : Ranges) → Coherent r → Demand3OfPlans r
demand3_of_plans r c =
    record {
      end_tables = end_tables r;
      none_refused = none_refused r;
      some_refused = some_refused r;
      refused_again = refused_again r;
      never_beyond = never_beyond r c;
    }
