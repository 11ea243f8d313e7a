-- What holds of Done and of every refusal that a plan can get holds of its answer. Assumes nothing.
use mathlib.Core.Bool.{Bool, true, false}
use mathlib.Core.List.{List, [], ◌∷◌}
use Prim.Native.Nat.{ℕ, suc}
use Rattle.std.specs.Prelude.{Err}
use lib.ListN.{length}
use Rattle.rules.specs.Plan.{Limit, Link, Plan, Ranges}
use Rattle.rules.specs.Answers.{Answer, Done, BadPoints, BadCounts, BadLayout, BadLimit, BadLink, RepeatedLink}
use Rattle.answers.specs.Order.{◌then◌, unless}
use Rattle.plan.specs.File.{points_fit, counts_fit, counts_answer, limit_fits, link_fits, fresh, limit_place, link_place, repeat_place}
use Rattle.plan.specs.File.{limit_answer, limits_answer, link_answer, links_answer, front_answer, back_answer, plan_answer}

pub record Refusals (P : Answer → Type 0) : Type 0 where
  pub done : P Done
  pub points : P BadPoints
  pub counts : P BadCounts
  pub layout : P BadLayout
  pub limit : (i : ℕ) → P (BadLimit i)
  pub link : (i : ℕ) → P (BadLink i)
  pub repeated : (i : ℕ) → P (RepeatedLink i)

pub then_holds : (P : Answer → Type 0) (a b : Answer) → P a → P b → P (a then b)
then_holds P Done b h k = k
then_holds P (Err r) b h k = h

pub unless_holds : (P : Answer → Type 0) (t : Bool) (a : Answer) → P Done → P a → P (unless t a)
unless_holds P true a d h = d
unless_holds P false a d h = h

pub counts_hold : (P : Answer → Type 0) → P Done → P BadPoints → P BadCounts → P BadLayout
    → (r : Ranges) (n m k : ℕ) (laid : Bool) → P (counts_answer r n m k laid)
unfolding counts_answer
counts_hold P done three four five r n m k laid =
    let counts = unless (counts_fit r m k) BadCounts in
    let layout = unless laid BadLayout in
    then_holds P (unless (points_fit r n) BadPoints) (counts then layout) (unless_holds P (points_fit r n) BadPoints done three)
    (then_holds P counts layout (unless_holds P (counts_fit r m k) BadCounts done four) (unless_holds P laid BadLayout done five))

module _ (P : Answer → Type 0) (each : Refusals P) (r : Ranges) where
  pub limit_holds : (n i : ℕ) (m : Limit) → P (limit_answer r n i m)
  limit_holds n i m =
      let at = limit_place r n i m in
      unless_holds P (limit_fits r n m) (BadLimit at) each.done (each.limit at)

  limits_hold : (n i : ℕ) (ms : List Limit) → P (limits_answer r n i ms)
  limits_hold n i [] = each.done
  limits_hold n i (m ∷ ms) = then_holds P (limit_answer r n i m) (limits_answer r n (suc i) ms) (limit_holds n i m) (limits_hold n (suc i) ms)

  link_holds : (n m i : ℕ) (new : Bool) (k : Link) → P (link_answer r n m i new k)
  link_holds n m i new k =
      let at = link_place r n m i k in
      let again = repeat_place m i in
      then_holds P (unless (link_fits r n k) (BadLink at)) (unless new (RepeatedLink again))
      (unless_holds P (link_fits r n k) (BadLink at) each.done (each.link at))
      (unless_holds P new (RepeatedLink again) each.done (each.repeated again))

  links_hold : (n m i : ℕ) (before ks : List Link) → P (links_answer r n m i before ks)
  links_hold n m i before [] = each.done
  links_hold n m i before (k ∷ ks) =
      let new = fresh k.con before in
      then_holds P (link_answer r n m i new k) (links_answer r n m (suc i) (k ∷ before) ks) (link_holds n m i new k)
      (links_hold n m (suc i) (k ∷ before) ks)

  pub front_holds : (laid : Bool) (p : Plan) → P (front_answer r laid p)
  unfolding front_answer
  front_holds laid p =
      let m = length p.limits in
      let k = length p.links in
      then_holds P (counts_answer r p.points m k laid) (limits_answer r p.points 0 p.limits)
      (counts_hold P each.done each.points each.counts each.layout r p.points m k laid)
      (limits_hold p.points 0 p.limits)

  pub back_holds : (p : Plan) → P (back_answer r p)
  back_holds p = links_hold p.points (length p.limits) 0 [] p.links

  pub plan_holds : (laid : Bool) (p : Plan) → P (plan_answer r laid p)
  unfolding plan_answer
  plan_holds laid p = then_holds P (front_answer r laid p) (back_answer r p) (front_holds laid p) (back_holds p)
