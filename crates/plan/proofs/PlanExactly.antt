-- Codes 3 to 8 of a plan are none exactly where it is in range and laid out. Assumes nothing.
use mathlib.Core.Path.{◌≡◌}
use mathlib.Core.Logic.{◌↔◌}
use mathlib.Core.Bool.{Bool, true}
use mathlib.Core.List.Memᴰ
use mathlib.Core.List.{[]}
use Prim.Native.Nat.{ℕ}
use lib.ListN.{length}
use Rattle.rules.specs.Plan.{Plan, Ranges, InRange}
use Rattle.rules.specs.Answers.{Answer, Done}
use Rattle.answers.specs.Order.{◌then◌}
use Rattle.answers.proofs.CodeZero.{then_done, done_then}
use Rattle.plan.specs.File.{counts_answer, limits_answer, front_answer, back_answer, plan_answer}
use Rattle.plan.proofs.TestsDecide.{counts_ok, ok_counts, limits_ok, ok_limits, links_ok, ok_links}

pub plan_exactly : (r : Ranges) (laid : Bool) (p : Plan) → (plan_answer r laid p ≡ Done) ↔ ((laid ≡ true) × InRange r p)
unfolding front_answer plan_answer
plan_exactly r laid p = (there, back)
  where
    n : ℕ
    n = p.points

    m : ℕ
    m = length p.limits

    k : ℕ
    k = length p.links

    counts : Answer
    counts = counts_answer r n m k laid

    limits : Answer
    limits = limits_answer r n 0 p.limits

    there : plan_answer r laid p ≡ Done → (laid ≡ true) × InRange r p
    there e =
        let ends = then_done (counts then limits) (back_answer r p) e in
        let front = then_done counts limits ends.0 in
        let c = counts_ok r n m k laid front.0 in
        let links = links_ok r n m 0 [] p.links ends.1 in (
          c.as_laid,
          record {
            some_point = c.some_point;
            points = c.points;
            limits = c.limits;
            links = c.links;
            limit = limits_ok r n 0 p.limits front.1;
            link = links.each;
            unshared = links.unshared;
          },
        )

    back : (laid ≡ true) × InRange r p → plan_answer r laid p ≡ Done
    back (l, g) =
        let c =
        ok_counts r n m k laid (record { some_point = g.some_point; points = g.points; limits = g.limits; links = g.links; as_laid = l }) in
        done_then (counts then limits) (back_answer r p) (done_then counts limits c (ok_limits r n 0 p.limits g.limit))
        (ok_links r n m 0 [] p.links (record { each = g.link; apart = λ j h i n. absurd (Memᴰ.not-nil n); unshared = g.unshared }))
