-- Where a sweep adds nothing and the list has not ended, the weights of its best lines are closed tables, so the plan is not uncontrollable. Assumes nothing.
use mathlib.Core.Path.{◌≡◌, refl, sym, ap, ◌∙◌}
use mathlib.Core.Bool.{Bool, true, false, cond}
use mathlib.Core.List.{List, Memᴰ}
use mathlib.Core.Logic.{◌≢◌}
use Prim.Native.Nat.{ℕ, zero, ◌+◌, ◌<◌}
use native.Mathlib.Omega.{arith}
use lib.ListN.{length}
use lib.IntN.{ℤ, pos, neg_ℤ, ◌+ℤ◌, ◌-ℤ◌, +ℤ_idl, +ℤ_idr}
use lib.Signed.{lt_z, ◌≤ℤ◌}
use borrow.Author.Tests.{ne_eqb}
use Rattle.whole.proofs.Order.{ints, neg}
use Rattle.whole.proofs.Larger.{larger_right}
use Rattle.rules.specs.declared.Side.{Side}
use Rattle.rules.specs.declared.Side.TheVariants.{Strict, Open}
use Rattle.rules.specs.Plan.{Plan, Link, Ranges, InRange}
use Rattle.rules.specs.Edges as edges
use Rattle.rules.specs.Edges.{spread, upper_weight}
use Rattle.rules.specs.Walks.{Uncontrollable}
use Rattle.rules.specs.Cells.{Cell, mark, num, ◌+ᶜ◌, ◌≤ᶜ◌, lowered, uppered, Within}
use Rattle.rules.specs.Tables.{Closed}
use Rattle.rules.proofs.Cells.{AtMost, itself, by_at_most, raised}
use Rattle.rules.proofs.TablesClosed.{top}
use Rattle.rules.proofs.Points.{in_range_pointed}
use Rattle.rules.proofs.Bound.{closed_controllable}
use Rattle.chain.specs.Lines.{Line, strict_join, by_lower, by_upper, open_join, Best, none, still, made, best, weight_of, cells}
use Rattle.chain.specs.Reasons.{Offer, nothing, line, side_of, ended, link_of, joined, lower_from, upper_from, strict_offer, open_offer, lower_offer, upper_offer, longest_at, lower_case_at, sweeps, before_links, ReasonList}
use Rattle.chain.proofs.Places.{lowest, highest, Small}
use Rattle.chain.proofs.Safe.{Safe}
use Rattle.chain.proofs.Members.{Place, link_place_lem}
use Rattle.chain.proofs.BestLines.{still_same}
use Rattle.chain.proofs.BestWeights.{open_includes, diagonal}
use Rattle.chain.proofs.GivenBest.{given_best, lower_case_best}
use Rattle.chain.proofs.OneList.{First, reasons_first}
use Rattle.chain.proofs.StillTries.{StillTries, still_tries, still_best}

-- ---- a try that adds nothing, as a law of cells

-- the line that a try offers, if it offers one, does not beat its pair's best
abbrev Unbeaten : List Line → Offer → Type 0
Unbeaten ls o = (l : Line) → o ≡ line l → AtMost (cells (side_of l.kind) ls l.from l.to) l.weight

-- a cell at most all that another is at most does not exceed it
below : (c d : Cell) → ((w : ℤ) → AtMost d w → AtMost c w) → c ≤ᶜ d
below c mark h = top c
below c (num w) h = by_at_most (h w (itself w))

same_below : (c d : Cell) → c ≡ d → c ≤ᶜ d
same_below c d q = below c d (λ w a. rw q a)

-- the 0 of a point to itself adds nothing
zero_left : (c : Cell) → c ≡ num (pos zero) +ᶜ c
zero_left mark = refl
zero_left (num w) = ap num (sym (+ℤ_idl w))

zero_right : (c : Cell) → c ≡ c +ᶜ num (pos zero)
zero_right mark = refl
zero_right (num w) = ap num (sym (+ℤ_idr w))

-- "no cell exceeds the sum of two cells along a middle point": of either side, whose join is of that kind
joined_below : (s : Side) (kind : ℕ) (x y z : ℕ) (ls : List Line) → side_of kind ≡ s
    → Unbeaten ls (joined kind x z (best s x y ls) (best s y z ls)) → cells s ls x z ≤ᶜ (cells s ls x y +ᶜ cells s ls y z)
joined_below s kind x y z ls side k = by (best s x y ls) (best s y z ls) refl refl k
  where
    by : (a b : Best) → best s x y ls ≡ a → best s y z ls ≡ b → Unbeaten ls (joined kind x z a b)
        → cells s ls x z ≤ᶜ (weight_of a +ᶜ weight_of b)
    by (made i v) (made j w) ea eb k =
        by_at_most
        (rw side at (k (record { kind = kind; from = x; to = z; weight = v +ℤ w; first = i; second = j }) refl))
    by none b ea eb k = top (cells s ls x z)
    by (made i v) none ea eb k = top (cells s ls x z)
    by still b ea eb k =
        same_below (cells s ls x z) (num (pos zero) +ᶜ weight_of b)
        (ap (λ (a : ℕ). cells s ls a z) (still_same s x y ls ea) ∙ ap weight_of eb ∙ zero_left (weight_of b))
    by (made i v) still ea eb k =
        same_below (cells s ls x z) (num v +ᶜ num (pos zero))
        (ap (λ (a : ℕ). cells s ls x a) (sym (still_same s y z ls eb)) ∙ ap weight_of ea ∙ zero_right (num v))

-- "or what Lower .. yields from strict cells"; that the other's contingent point is another one keeps away the 0 of a point to itself
lower_below : (c : ℕ) (k j : Link) (ls : List Line) → j.con ≢ k.con → Unbeaten ls (lower_offer c k j ls)
    → cells Strict ls k.act j.con ≤ᶜ lowered k j (cells Strict ls k.con j.con)
unfolding lower_offer
lower_below c k j ls ne u = by (best Strict k.con j.con ls) refl (simp (ne_eqb j.con k.con ne) at u)
  where
    tested : (i : ℕ) (w : ℤ) (b : Bool)
        → Unbeaten ls
        (cond b (line (record { kind = by_lower; from = k.act; to = j.con; weight = pos k.short +ℤ w; first = c; second = i })) nothing)
        → cells Strict ls k.act j.con ≤ᶜ cond b (num (pos k.short +ℤ w)) mark
    tested i w true u =
        by_at_most (u (record { kind = by_lower; from = k.act; to = j.con; weight = pos k.short +ℤ w; first = c; second = i }) refl)
    tested i w false u = top (cells Strict ls k.act j.con)

    by : (b : Best) → best Strict k.con j.con ls ≡ b → Unbeaten ls (lower_from c k j b)
        → cells Strict ls k.act j.con ≤ᶜ lowered k j (weight_of b)
    by (made i w) e u = tested i w (lt_z w (spread j)) u
    by none e u = top (cells Strict ls k.act j.con)
    by still e u = absurd (ne (sym (still_same Strict k.con j.con ls e)))

-- "or Upper": at the contingent point itself, of which there is no line, the link's shortest edge is as low
upper_below : (c x : ℕ) (k : Link) (ls : List Line) → AtMost (cells Strict ls k.con k.act) (neg_ℤ (pos k.short)) → Unbeaten ls (upper_offer c x k ls)
    → cells Strict ls x k.act ≤ᶜ uppered k (cells Strict ls x k.con)
unfolding upper_offer
upper_below c x k ls a u = by (best Strict x k.con ls) refl u
  where
    by : (b : Best) → best Strict x k.con ls ≡ b → Unbeaten ls (upper_from c x k b) → cells Strict ls x k.act ≤ᶜ uppered k (weight_of b)
    by (made i v) e u =
        by_at_most (u (record { kind = by_upper; from = x; to = k.act; weight = upper_weight k v; first = i; second = c }) refl)
    by none e u = top (cells Strict ls x k.act)
    by still e u =
        by_at_most
        (raised (rw (sym (still_same Strict x k.con ls e)) at a) (larger_right (pos zero -ℤ pos k.long) (neg_ℤ (pos k.short))))

-- ---- the tables

-- a number from -a to b lies within a + b of zero
within : (a b : ℕ) (c : Cell) → num (neg_ℤ (pos a)) ≤ᶜ c → ((w : ℤ) → c ≡ num w → w ≤ℤ pos b) → Within (a + b) c
within a b mark l h = tt
within a b (num w) l h =
    let u : w ≤ℤ pos b = h w refl in
    (omega (ints, neg (pos a), neg (pos (a + b))), omega ints)

module _ (r : Ranges) (p : Plan) (g : InRange r p) (c : ℕ) (f : First (sweeps p c)) (e : ended (sweeps p c) ≡ false)
    (t : StillTries p (length (before_links p)) (sweeps p c)) (m : Small r.weight p.points (length p.links) (sweeps p c)) where
  -- how far the weights reach
  reached : Ranges
  reached = record {
    points = r.points;
    limits = r.limits;
    links = r.links;
    weight = r.weight;
    mark = r.mark;
    reach = lowest r.weight p.points + highest r.weight p.points;
  }

  within_reach : (s : Side) (x y : ℕ) → x < p.points → y < p.points
      → Within (lowest r.weight p.points + highest r.weight p.points) (cells s (sweeps p c) x y)
  within_reach s x y hx hy =
      within (lowest r.weight p.points) (highest r.weight p.points) (cells s (sweeps p c) x y) (m.least s x y hx hy) (m.most s x y hx hy)

  strict_joined : (x y z : ℕ) → x < p.points → y < p.points → z < p.points
      → cells Strict (sweeps p c) x z ≤ᶜ (cells Strict (sweeps p c) x y +ᶜ cells Strict (sweeps p c) y z)
  unfolding strict_offer
  strict_joined x y z hx hy hz =
      joined_below Strict strict_join x y z (sweeps p c) refl (still_best (strict_offer y x z) (sweeps p c) e (t.strict y x z hy hx hz))

  open_joined : (x y z : ℕ) → x < p.points → y < p.points → z < p.points
      → cells Open (sweeps p c) x z ≤ᶜ (cells Open (sweeps p c) x y +ᶜ cells Open (sweeps p c) y z)
  unfolding open_offer
  open_joined x y z hx hy hz =
      joined_below Open open_join x y z (sweeps p c) refl (still_best (open_offer y x z) (sweeps p c) e (t.weak y x z hy hx hz))

  lower_satisfied : (k j : Link) → Memᴰ k p.links → Memᴰ j p.links → j.con ≢ k.con
      → cells Strict (sweeps p c) k.act j.con ≤ᶜ lowered k j (cells Strict (sweeps p c) k.con j.con)
  lower_satisfied k j hk hj ne =
      let a : Place (link_of p) (length p.links) k = link_place_lem p hk in
      let b : Place (link_of p) (length p.links) j = link_place_lem p hj in
      let at : ℕ = lower_case_at (length (before_links p)) a.number in
      lower_below at k j (sweeps p c) ne
      (rw (a.is, b.is) at (still_best (lower_offer at (link_of p a.number) (link_of p b.number)) (sweeps p c) e
      (t.lower a.number b.number a.within b.within)))

  upper_satisfied : (k : Link) → Memᴰ k p.links → (x : ℕ) → x < p.points
      → cells Strict (sweeps p c) x k.act ≤ᶜ uppered k (cells Strict (sweeps p c) x k.con)
  upper_satisfied k hk x hx =
      let a : Place (link_of p) (length p.links) k = link_place_lem p hk in
      let at : ℕ = longest_at (length (before_links p)) a.number in
      upper_below at x k (sweeps p c) (given_best p c e (edges.shortest hk))
      (rw a.is at (still_best (upper_offer at x (link_of p a.number)) (sweeps p c) e (t.upper x a.number hx a.within)))

  tables_closed : Closed reached p (cells Strict (sweeps p c)) (cells Open (sweeps p c))
  unfolding reached
  tables_closed = record {
    strict_within = within_reach Strict;
    open_within = within_reach Open;
    strict_diagonal = λ x hx. ap weight_of (diagonal Strict x (sweeps p c) f e);
    open_diagonal = λ x hx. ap weight_of (diagonal Open x (sweeps p c) f e);
    strict_join_rule = strict_joined;
    open_join_rule = open_joined;
    given = λ x y w h. by_at_most (given_best p c e h);
    lower = lower_satisfied;
    upper = upper_satisfied;
    open_strict = λ x y hx hy. below (cells Open (sweeps p c) x y) (cells Strict (sweeps p c) x y) (λ w a. open_includes x y (sweeps p c) a);
    open_lower_case = λ k hk. by_at_most (lower_case_best p c e k hk);
  }

-- a list of reasons that has not ended is one of a plan that is not uncontrollable
pub going : (r : Ranges) (p : Plan) → InRange r p → Safe r.weight p → (ls : List Line) → ReasonList p ls → ended ls ≡ false → Uncontrollable p → ⊥
going r p g s ls l e =
    let n : ended (sweeps p l.count) ≡ false = rw l.swept at e in
    let f : First (sweeps p l.count) = rw l.swept at (reasons_first p ls l) in
    let t : StillTries p (length (before_links p)) (sweeps p l.count) =
    still_tries p (length (before_links p)) (sweeps p l.count) (rw l.swept at l.stays) in
    let m : Small r.weight p.points (length p.links) (sweeps p l.count) =
    s.in_strict l.count 0 0 0 g.some_point g.some_point (omega arith) n in
    closed_controllable (reached r p g l.count f n t m) p (cells Strict (sweeps p l.count)) (cells Open (sweeps p l.count))
    (tables_closed r p g l.count f n t m) (in_range_pointed g)
