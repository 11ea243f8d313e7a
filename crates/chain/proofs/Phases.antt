-- The parts of a sweep, line by line: which strict pairs have a number does not change once the first strict joins are done, so that no later number lies above
-- those; and each line of a join, of Lower or of Upper has a walk behind it and stays above the part's floor. Assumes nothing.
use mathlib.Core.Path.{◌≡◌, refl, sym, ap, ◌∙◌}
use mathlib.Core.Logic.{⊎_elim}
use mathlib.Core.Bool.{Bool, true, false, true≢false, cond}
use mathlib.Core.List.{List, ◌∷◌}
use Prim.Native.Nat.{ℕ, ◌*◌, ◌≤◌, ◌<◌}
use native.Mathlib.Omega.{arith}
use lib.Dec.{eqb}
use lib.ListN.{length}
use lib.IntN.{ℤ, pos, neg_ℤ, ◌+ℤ◌, ◌-ℤ◌}
use lib.Signed.{lt_z, ◌≤ℤ◌}
use Rattle.whole.proofs.Order.{ints, plus, neg}
use Rattle.whole.proofs.Larger.{larger_right}
use Rattle.rules.specs.declared.Side.{Side}
use Rattle.rules.specs.declared.Side.TheVariants.{Strict, Open}
use Rattle.rules.specs.Plan.{Link, Plan, Ranges, LinkInRange, InRange}
use Rattle.rules.specs.Edges.{spread, upper_weight}
use Rattle.rules.specs.Cells.{Cell, num, ◌≤ᶜ◌}
use Rattle.rules.proofs.Cells.{AtMost, at_most}
use Rattle.rules.proofs.Walks.{Dominated, weaker, after}
use Rattle.chain.specs.Lines.{Line, by_lower, by_upper, Best, none, still, made, best, cells}
use Rattle.chain.specs.Reasons.{nothing, line, side_of, ended, link_of, lower_from, lower_offer, upper_from, upper_offer}
use Rattle.chain.proofs.CellOrder.{≤ᶜ_trans}
use Rattle.chain.proofs.BestsMove.{moved, put_under, open_under, beats_le, Written, JoinLine, join_side, join_counts, join_not_always, no_offer, same_line}
use Rattle.chain.proofs.Backing.{Drawn, drawn_alone, drawn_falls}
use Rattle.chain.proofs.Places.{lowest, highest}
use Rattle.chain.proofs.Sane.{Sane, Contends, sane_more, sane_least}
use Rattle.chain.proofs.GivenLines.{Linked, linked_more, link_there}

-- two strict numbers, one after the other: their pair has one too, up to `highest`
abbrev pub Filled : ℕ → ℕ → List Line → Type 0
Filled B n ls =
    (x y z : ℕ) (v w : ℤ) → x < n → y < n → z < n → cells Strict ls x y ≡ num v → cells Strict ls y z ≡ num w
    → cells Strict ls x z ≤ᶜ num (pos (highest B n))

-- a cell that is a number
record Number (c : Cell) : Type 0 where
  value : ℤ
  is : c ≡ num value

-- one line more, whose pair had a number
filled_more : (B n : ℕ) (ls : List Line) (l : Line) → cells Strict ls l.from l.to ≤ᶜ num (pos (highest B n)) → Filled B n ls → Filled B n (l ∷ ls)
filled_more B n ls l there filled x y z v w hx hy hz e f =
    let a : Number (cells Strict ls x y) = had x y v e in
    let b : Number (cells Strict ls y z) = had y z w f in
    ≤ᶜ_trans (cells Strict (l ∷ ls) x z) (cells Strict ls x z) (num (pos (highest B n))) ((moved Strict l ls).falls x z)
    (filled x y z a.value b.value hx hy hz a.is b.is)
  where
    pair : Number (cells Strict ls l.from l.to)
    pair = let a : AtMost (cells Strict ls l.from l.to) (pos (highest B n)) = at_most there in record { value = a.value; is = a.is }

    had : (x y : ℕ) (v : ℤ) → cells Strict (l ∷ ls) x y ≡ num v → Number (cells Strict ls x y)
    had x y v e = ⊎_elim (λ q. record { value = v; is = sym q ∙ e }) (λ h. rw (h.0.0, h.0.1) pair) ((moved Strict l ls).kept x y)

-- ---- what a part of a sweep keeps, with its floor -f

pub record Phase (B : ℕ) (p : Plan) (f : ℕ) (ls : List Line) : Type 0 where
  pub sane : Sane B p.points (3 * length p.links) f ls
  pub linked : Linked p (3 * length p.links) ls
  pub filled : Filled B p.points ls

-- what beats a pair's best is at most what bounds its strict cell
beaten_most : (l : Line) (ls : List Line) (c : ℤ) → Contends l → Written l ls → cells Strict ls l.from l.to ≤ᶜ num c → l.weight ≤ℤ c
beaten_most l ls c d w h =
    ⊎_elim (λ q. absurd (true≢false (sym q ∙ d.not_always)))
    (λ b. by (side_of l.kind) (beats_le l.weight (best (side_of l.kind) l.from l.to ls) b)) w
  where
    by : (s : Side) → num l.weight ≤ᶜ cells s ls l.from l.to → l.weight ≤ℤ c
    by Strict b = ≤ᶜ_trans (num l.weight) (cells Strict ls l.from l.to) (num c) b h
    by Open b =
        ≤ᶜ_trans (num l.weight) (cells Open ls l.from l.to) (num c) b
        (≤ᶜ_trans (cells Open ls l.from l.to) (cells Strict ls l.from l.to) (num c) (open_under ls l.from l.to) h)

-- a line whose pair had a strict number
pub phase_more : {B : ℕ} {p : Plan} {f : ℕ} {ls : List Line} (l : Line) → l.from < p.points → l.to < p.points → neg_ℤ (pos f) ≤ℤ l.weight
    → cells Strict ls l.from l.to ≤ᶜ num (pos (highest B p.points))
    → Dominated (Drawn p.points B (cells Open (l ∷ ls))) l.from l.to l.weight → Contends l → Written l ls → ended (l ∷ ls) ≡ false
    → f ≤ lowest B p.points → Phase B p f ls → Phase B p f (l ∷ ls)
phase_more {B} {p} {f} {ls} l hx hz low there back c w e hf h = record {
  sane =
      sane_more h.sane l
      (record {
        from = hx;
        to = hz;
        low = low;
        high = beaten_most l ls (pos (highest B p.points)) c w there;
        strict_there =
            ≤ᶜ_trans (cells Strict (l ∷ ls) l.from l.to) (cells Strict ls l.from l.to) (num (pos (highest B p.points)))
            ((moved Strict l ls).falls l.from l.to) there;
        backing = back;
      })
      c w e hf;
  linked = linked_more l h.linked;
  filled = filled_more B p.points ls l there h.filled;
}

-- ---- joins

-- a number of either side has a walk behind it
number_backed : {B n k f : ℕ} {ls : List Line} → Sane B n k f ls → (s : Side) (x y : ℕ) (w : ℤ) → x < n → y < n → cells s ls x y ≡ num w
    → Dominated (Drawn n B (cells Open ls)) x y w
number_backed {ls} s Strict x y w hx hy e =
    let a : AtMost (cells Open ls x y) w = at_most (rw e at (open_under ls x y)) in
    weaker (s.backed x y a.value hx hy a.is) a.le
number_backed s Open x y w hx hy e = s.backed x y w hx hy e

pub join_contends : {s : Side} {y x z : ℕ} {ls : List Line} {l : Line} → JoinLine s y x z ls l → Contends l
join_contends {s} j = record { not_always = rw j.kind_is (join_not_always s); counted = rw (j.kind_is, join_side s) (join_counts s) }

-- the same walk, its ends and its total said otherwise
ends_so : {E : ℕ → ℕ → ℤ → Type 0} {x a y b : ℕ} {v w : ℤ} → a ≡ x → b ≡ y → w ≡ v → Dominated E x y v → Dominated E a b w
ends_so e f g d = rw (e, f, g) d

-- and so has a join
pub join_backing : {B n k f : ℕ} {s : Side} {y x z : ℕ} {ls : List Line} {l : Line} → Sane B n k f ls → x < n → y < n → z < n → JoinLine s y x z ls l
    → Dominated (Drawn n B (cells Open (l ∷ ls))) l.from l.to l.weight
join_backing {B} {n} {s} {y} {x} {z} {ls} {l} h hx hy hz j =
    ends_so j.from_is j.to_is j.sum
    (drawn_falls (moved Open l ls).falls
    (after (number_backed h s x y j.left hx hy j.left_is) (number_backed h s y z j.right hy hz j.right_is)))

-- a number of either side is at a pair that has a strict one
strict_number : {B n k f : ℕ} {ls : List Line} → Sane B n k f ls → (s : Side) (x y : ℕ) (w : ℤ) → x < n → y < n → cells s ls x y ≡ num w
    → Number (cells Strict ls x y)
strict_number h Strict x y w hx hy e = record { value = w; is = e }
strict_number {B} {n} {ls} h Open x y w hx hy e =
    let a : AtMost (cells Strict ls x y) (pos (highest B n)) = at_most (h.paired x y w hx hy e) in
    record { value = a.value; is = a.is }

-- the pair of a line, said otherwise
there_so : (s : Side) (ls : List Line) {x a y b : ℕ} (c : Cell) → a ≡ x → b ≡ y → cells s ls x y ≤ᶜ c → cells s ls a b ≤ᶜ c
there_so s ls c e f h = rw (e, f) h

-- a join keeps what the part keeps
pub phase_join : {B : ℕ} {p : Plan} {f : ℕ} {s : Side} {y x z : ℕ} {ls : List Line} {l : Line} → x < p.points → y < p.points → z < p.points
    → (j : JoinLine s y x z ls l) → neg_ℤ (pos f) ≤ℤ (j.left +ℤ j.right) → Written l ls → ended (l ∷ ls) ≡ false → f ≤ lowest B p.points → Phase B p f ls
    → Phase B p f (l ∷ ls)
phase_join {B} {p} {f} {s} {y} {x} {z} {ls} {l} hx hy hz j low w e hf h =
    let a : Number (cells Strict ls x y) = strict_number h.sane s x y j.left hx hy j.left_is in
    let b : Number (cells Strict ls y z) = strict_number h.sane s y z j.right hy hz j.right_is in
    phase_more l (rw j.from_is hx) (rw j.to_is hz) (rw j.sum low)
    (there_so Strict ls (num (pos (highest B p.points))) j.from_is j.to_is (h.filled x y z a.value b.value hx hy hz a.is b.is))
    (join_backing h.sane hx hy hz j) (join_contends j) w e hf h

-- ---- Lower

-- the line that Lower offers, of the links k and r
record LowerLine (k r : Link) (ls : List Line) (l : Line) : Type 0 where
  kind_is : l.kind ≡ by_lower
  from_is : l.from ≡ k.act
  to_is : l.to ≡ r.con
  value : ℤ
  is : cells Strict ls k.con r.con ≡ num value
  sum : l.weight ≡ pos k.short +ℤ value

lower_line : (c : ℕ) (k r : Link) (ls : List Line) (l : Line) → lower_offer c k r ls ≡ line l → LowerLine k r ls l
unfolding lower_offer
lower_line c k r ls l e = other (eqb r.con k.con) e
  where
    below : (i : ℕ) (w : ℤ) → best Strict k.con r.con ls ≡ made i w → (t : Bool)
        → cond t (line (record { kind = by_lower; from = k.act; to = r.con; weight = pos k.short +ℤ w; first = c; second = i })) nothing ≡ line l
        → LowerLine k r ls l
    below i w q false e = absurd (no_offer e)
    below i w q true e =
        let f : record { kind = by_lower; from = k.act; to = r.con; weight = pos k.short +ℤ w; first = c; second = i } ≡ l = same_line e in
        record {
          kind_is = sym (ap (λ (m : Line). m.kind) f);
          from_is = sym (ap (λ (m : Line). m.from) f);
          to_is = sym (ap (λ (m : Line). m.to) f);
          value = w;
          is = rw q;
          sum = sym (ap (λ (m : Line). m.weight) f);
        }

    by : (b : Best) → best Strict k.con r.con ls ≡ b → lower_from c k r b ≡ line l → LowerLine k r ls l
    by none q e = absurd (no_offer e)
    by still q e = absurd (no_offer e)
    by (made i w) q e = below i w q (lt_z w (spread r)) e

    other : (t : Bool) → cond t nothing (lower_from c k r (best Strict k.con r.con ls)) ≡ line l → LowerLine k r ls l
    other true e = absurd (no_offer e)
    other false e = by (best Strict k.con r.con ls) refl e

-- ---- Upper

-- the line that Upper offers, from x and of the link k
record UpperLine (x : ℕ) (k : Link) (ls : List Line) (l : Line) : Type 0 where
  kind_is : l.kind ≡ by_upper
  from_is : l.from ≡ x
  to_is : l.to ≡ k.act
  value : ℤ
  is : cells Strict ls x k.con ≡ num value
  sum : l.weight ≡ upper_weight k value

upper_line : (c x : ℕ) (k : Link) (ls : List Line) (l : Line) → upper_offer c x k ls ≡ line l → UpperLine x k ls l
unfolding upper_offer
upper_line c x k ls l e = by (best Strict x k.con ls) refl e
  where
    by : (b : Best) → best Strict x k.con ls ≡ b → upper_from c x k b ≡ line l → UpperLine x k ls l
    by none q e = absurd (no_offer e)
    by still q e = absurd (no_offer e)
    by (made i v) q e =
        let f : record { kind = by_upper; from = x; to = k.act; weight = upper_weight k v; first = i; second = c } ≡ l = same_line e in
        record {
          kind_is = sym (ap (λ (m : Line). m.kind) f);
          from_is = sym (ap (λ (m : Line). m.from) f);
          to_is = sym (ap (λ (m : Line). m.to) f);
          value = v;
          is = rw q;
          sum = sym (ap (λ (m : Line). m.weight) f);
        }

-- ---- they keep what the part keeps

module _ (r : Ranges) (p : Plan) (g : InRange r p) (f : ℕ) (hf : f ≤ lowest r.weight p.points) (ls : List Line) (h : Phase r.weight p f ls) where
  pub phase_lower : (c i j : ℕ) (l : Line) → i < length p.links → j < length p.links → lower_offer c (link_of p i) (link_of p j) ls ≡ line l → Written l ls
      → ended (l ∷ ls) ≡ false → Phase r.weight p f (l ∷ ls)
  phase_lower c i j l hi hj o w e =
      let k : LinkInRange r p.points (link_of p i) = link_there g i hi in
      let m : LinkInRange r p.points (link_of p j) = link_there g j hj in
      let u : LowerLine (link_of p i) (link_of p j) ls l = lower_line c (link_of p i) (link_of p j) ls l o in
      let there : AtMost (cells Strict ls (link_of p i).act (link_of p i).con) (pos (link_of p i).long) = at_most (h.linked.longest i hi (omega arith)) in
      let floor : neg_ℤ (pos f) ≤ℤ u.value = sane_least h.sane Strict (link_of p i).con (link_of p j).con u.value k.con m.con u.is in
      let low : neg_ℤ (pos f) ≤ℤ (pos (link_of p i).short +ℤ u.value) = omega (ints, floor, plus (pos (link_of p i).short) u.value) in
      let edge : Drawn p.points r.weight (cells Open ls) (link_of p i).act (link_of p i).con (pos (link_of p i).short) =
      record {
        from = k.act;
        to = k.con;
        least = omega (ints, neg (pos r.weight));
        over = at_most (h.linked.lower_case_rule i hi (omega arith));
      } in
      phase_more l (rw u.from_is k.act) (rw u.to_is m.con) (rw u.sum low)
      (there_so Strict ls (num (pos (highest r.weight p.points))) u.from_is u.to_is
      (h.filled (link_of p i).act (link_of p i).con (link_of p j).con there.value u.value k.act k.con m.con there.is u.is))
      (ends_so u.from_is u.to_is u.sum
      (drawn_falls (moved Open l ls).falls
      (after (drawn_alone edge) (number_backed h.sane Strict (link_of p i).con (link_of p j).con u.value k.con m.con u.is))))
      (record { not_always = rw u.kind_is; counted = rw u.kind_is }) w e hf h

  pub phase_upper : (c x i : ℕ) (l : Line) → x < p.points → i < length p.links → r.weight ≤ f → upper_offer c x (link_of p i) ls ≡ line l → Written l ls
      → ended (l ∷ ls) ≡ false → Phase r.weight p f (l ∷ ls)
  phase_upper c x i l hx hi hB o w e =
      let k : LinkInRange r p.points (link_of p i) = link_there g i hi in
      let u : UpperLine x (link_of p i) ls l = upper_line c x (link_of p i) ls l o in
      let there : AtMost (cells Strict ls (link_of p i).con (link_of p i).act) (neg_ℤ (pos (link_of p i).short)) =
      at_most (h.linked.shortest i hi (omega arith)) in
      let over : neg_ℤ (pos (link_of p i).short) ≤ℤ upper_weight (link_of p i) u.value =
      larger_right (u.value -ℤ pos (link_of p i).long) (neg_ℤ (pos (link_of p i).short)) in
      let least : neg_ℤ (pos r.weight) ≤ℤ upper_weight (link_of p i) u.value =
      omega (ints, over, k.order, k.most, neg (pos (link_of p i).short), neg (pos r.weight)) in
      let low : neg_ℤ (pos f) ≤ℤ upper_weight (link_of p i) u.value = omega (ints, least, neg (pos f), neg (pos r.weight)) in
      let from : l.from < p.points = rw u.from_is hx in
      let to : l.to < p.points = rw u.to_is k.act in
      phase_more l from to (rw u.sum low)
      (there_so Strict ls (num (pos (highest r.weight p.points))) u.from_is u.to_is
      (h.filled x (link_of p i).con (link_of p i).act u.value there.value hx k.con k.act u.is there.is))
      (drawn_alone (record { from = from; to = to; least = rw u.sum least; over = at_most (put_under Open l ls refl) }))
      (record { not_always = rw u.kind_is; counted = rw u.kind_is }) w e hf h
