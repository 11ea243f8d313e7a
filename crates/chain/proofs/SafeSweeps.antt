-- Every plan in range is safe: at every place before the end no weight lies further from zero than `lowest` and `highest` say, and there are at most
-- `most_lines` lines. Each part of a sweep keeps its floor (`Floors`); after the open joins the open table is joined, so that the walks behind its numbers
-- bring it back to the floor of the beginning. Assumes nothing.
use mathlib.Core.Path.{◌≡◌, refl, sym, ◌∙◌}
use mathlib.Core.Bool.{false}
use mathlib.Core.List.{List, ◌∷◌}
use Prim.Native.Nat.{ℕ, zero, suc, ◌*◌, ◌≤◌, ◌<◌}
use native.Mathlib.Omega.{arith}
use lib.ListN.{length}
use lib.IntN.{ℤ, pos, neg_ℤ, ◌+ℤ◌}
use lib.Signed.{◌≤ℤ◌}
use Rattle.whole.proofs.Order.{ints, plus, neg}
use Rattle.rules.specs.declared.Side.{Side}
use Rattle.rules.specs.declared.Side.TheVariants.{Strict, Open}
use Rattle.rules.specs.Plan.{Plan, Ranges, InRange}
use Rattle.rules.specs.Cells.{num, Table, ◌≤ᶜ◌}
use Rattle.rules.proofs.Cells.{AtMost, at_most, by_at_most, same_number}
use Rattle.chain.specs.Lines.{Line, cells}
use Rattle.chain.specs.Reasons.{ended, link_of, longest_at, lower_case_at, strict_offer, open_offer, lower_offer, upper_offer, before_links, given, strict_joins, lowers, uppers, open_joins, sweep, sweeps}
use Rattle.chain.proofs.CellOrder.{≤ᶜ_trans}
use Rattle.chain.proofs.Tries.{try_stops}
use Rattle.chain.proofs.JoinPass.{Stage, stage_least, stage_most}
use Rattle.chain.proofs.BestsMove.{put_under, Written, JoinLine, strict_offer_lem, open_offer_lem, try_keeps}
use Rattle.chain.proofs.Backing.{backed_least}
use Rattle.chain.proofs.Places.{lowest, highest, Small, part, strict_steps, lower_steps, upper_steps, open_steps, strict_pass, lowers_pass, uppers_pass, open_pass}
use Rattle.chain.proofs.Floors.{begin_floor, strict_floor, weight_begin, begin_strict, weight_strict, strict_lowest}
use Rattle.chain.proofs.Passes.{in_part, after_pass}
use Rattle.chain.proofs.Safe.{SmallWithin, Safe}
use Rattle.chain.proofs.Sane.{Sane, sane_more, sane_lower, sane_floor, sane_least, sane_most, sane_zero, sane_small}
use Rattle.chain.proofs.JoiningLists.{joining_part, joining_pass}
use Rattle.chain.proofs.GivenLines.{Linked, linked_more, Begun, given_begun, starts_small, limits_small, links_small}
use Rattle.chain.proofs.Phases.{Phase, phase_join, phase_lower, phase_upper, join_contends, join_backing}

-- the numbers of a table are at least -L, and at most U
abbrev Low : ℕ → ℕ → Table → Type 0
Low n L T = (x z : ℕ) (w : ℤ) → x < n → z < n → T x z ≡ num w → neg_ℤ (pos L) ≤ℤ w

abbrev High : ℕ → ℕ → Table → Type 0
High n U T = (x z : ℕ) (w : ℤ) → x < n → z < n → T x z ≡ num w → w ≤ℤ pos U

-- sums along a middle
module _ (n : ℕ) (B : Table) (q : ℕ) (T : Table) (s : Stage n B q T) (x y z : ℕ) (v w : ℤ) (hx : x < n) (hy : y < n) (hz : z < n) (e : T x y ≡ num v)
    (f : T y z ≡ num w) where
  sum_low : (L : ℕ) → Low n L B → neg_ℤ (pos (2 * (L * n))) ≤ℤ (v +ℤ w)
  sum_low L low =
      let a : neg_ℤ (pos (L * n)) ≤ℤ v = stage_least n B q T s L low x y v hx hy e in
      let b : neg_ℤ (pos (L * n)) ≤ℤ w = stage_least n B q T s L low y z w hy hz f in
      omega (ints, a, b, plus v w, neg (pos (L * n)), neg (pos (2 * (L * n))))

  sum_high : (U : ℕ) → High n U B → (v +ℤ w) ≤ℤ pos (2 * (U * n))
  sum_high U high =
      let a : v ≤ℤ pos (U * n) = stage_most n B q T s U high x y v hx hy e in
      let b : w ≤ℤ pos (U * n) = stage_most n B q T s U high y z w hy hz f in
      omega (ints, a, b, plus v w)

-- a part with a lower floor
phase_lowered : {B : ℕ} {p : Plan} {f : ℕ} {ls : List Line} (e : ℕ) → f ≤ e → Phase B p f ls → Phase B p e ls
phase_lowered e h a = record { sane = sane_lower a.sane e h; linked = a.linked; filled = a.filled }

module _ (r : Ranges) (p : Plan) (g : InRange r p) where
  abbrev n : ℕ
  n = p.points

  abbrev B : ℕ
  B = r.weight

  phase_small : (f : ℕ) (ls : List Line) → f ≤ lowest B n → Phase B p f ls → Small B n (length p.links) ls
  phase_small f ls h a = sane_small a.sane (length p.links) (omega arith) h

  -- ---- the first strict joins

  record First (T : Table) (ls : List Line) : Type 0 where
    sane : Sane B n (3 * length p.links) (strict_floor B n) ls
    linked : Linked p (3 * length p.links) ls
    low : Low n (begin_floor B n) T
    high : High n B T

  first_keep : (T₀ : Table) (y x z : ℕ) (ls : List Line) (T : Table) (l : Line) (v w : ℤ) → y < n → x < n → z < n → First T₀ ls → Stage n T₀ y T → T x y ≡ num v
      → T y z ≡ num w → JoinLine Strict y x z ls l → cells Strict ls x y ≡ num v → cells Strict ls y z ≡ num w → Written l ls → ended (l ∷ ls) ≡ false
      → First T₀ (l ∷ ls)
  first_keep T₀ y x z ls T l v w hy hx hz h s e f j e' f' c k =
      let sv : v ≡ j.left = same_number (sym e' ∙ j.left_is) in
      let sw : w ≡ j.right = same_number (sym f' ∙ j.right_is) in
      let is : l.weight ≡ v +ℤ w = rw (sv, sw) j.sum in
      let low : neg_ℤ (pos (strict_floor B n)) ≤ℤ (v +ℤ w) = sum_low n T₀ y T s x y z v w hx hy hz e f (begin_floor B n) h.low in
      let high : (v +ℤ w) ≤ℤ pos (2 * (B * n)) = sum_high n T₀ y T s x y z v w hx hy hz e f B h.high in
      let most : l.weight ≤ℤ pos (highest B n) = omega (ints, is, high) in
      let there : cells Strict (l ∷ ls) l.from l.to ≤ᶜ num l.weight = put_under Strict l ls (rw j.kind_is) in
      record {
        sane =
            sane_more h.sane l
            (record {
              from = rw j.from_is hx;
              to = rw j.to_is hz;
              low = rw is low;
              high = most;
              strict_there = ≤ᶜ_trans (cells Strict (l ∷ ls) l.from l.to) (num l.weight) (num (pos (highest B n))) there most;
              backing = join_backing h.sane hx hy hz j;
            })
            (join_contends j) c k (strict_lowest B n g.some_point);
        linked = linked_more l h.linked;
        low = h.low;
        high = h.high;
      }

  first_start : ended (given p) ≡ false → First (cells Strict (given p)) (given p)
  first_start e =
      let b : Begun B p (3 * length p.links) (given p) = given_begun r p g e in
      let down : B ≤ begin_floor B n = weight_begin B n g.some_point in
      let s : Sane B n (3 * length p.links) (begin_floor B n) (given p) = sane_lower b.sane (begin_floor B n) down in
      record {
        sane = sane_lower s (strict_floor B n) (begin_strict B n g.some_point);
        linked = b.linked;
        low = λ x z w hx hz q. sane_least s Strict x z w hx hz q;
        high = λ x z w hx hz q. b.most x z w hx hz q;
      }

  -- after them every pair that is reached has its number
  first_filled : (T : Table) (ls : List Line) → First T ls → Stage n T n (cells Strict ls) → Phase B p (strict_floor B n) ls
  first_filled T ls h s = record {
    sane = h.sane;
    linked = h.linked;
    filled = λ x y z v w hx hy hz e f.
        let sum : cells Strict ls x z ≤ᶜ num (v +ℤ w) = rw (e, f) at (s.joined x y z hx hy hz hy) in
        let a : AtMost (cells Strict ls x z) (v +ℤ w) = at_most sum in
        by_at_most (record { value = a.value; is = a.is; le = sane_most h.sane Strict x z a.value hx hz a.is });
  }

  first_strict_lem : ended (strict_joins n (given p)) ≡ false → Phase B p (strict_floor B n) (strict_joins n (given p))
  first_strict_lem e =
      let is : strict_joins n (given p) ≡ _ = strict_pass n (given p) in
      let T : Table = cells Strict (given p) in
      let both =
      joining_pass Strict n T strict_offer (First T) strict_offer_lem (λ ls h x. sane_zero h.sane Strict x) (first_keep T) (given p) refl first_start
      (rw is at e) in
      rw is (first_filled T _ both.0 both.1)

  first_small : SmallWithin B p strict_steps n n n (given p)
  first_small a b c ha hb hc e =
      let T : Table = cells Strict (given p) in
      let h : First T (part strict_steps n n a b c (given p)) =
      joining_part Strict n T strict_offer (First T) strict_offer_lem (λ ls h x. sane_zero h.sane Strict x) (first_keep T) (given p) refl first_start a b c ha hb
      hc e in
      sane_small h.sane (length p.links) (omega arith) (strict_lowest B n g.some_point)

  -- ---- joins of either side, once the strict pairs are filled

  -- a pass that began with the table T, no lower than -L
  record Later (f L : ℕ) (T : Table) (ls : List Line) : Type 0 where
    phase : Phase B p f ls
    low : Low n L T

  later_keep : (s : Side) (f L : ℕ) (T₀ : Table) → 2 * (L * n) ≤ f → f ≤ lowest B n → (y x z : ℕ) (ls : List Line) (T : Table) (l : Line) (v w : ℤ) → y < n
      → x < n → z < n → Later f L T₀ ls → Stage n T₀ y T → T x y ≡ num v → T y z ≡ num w → JoinLine s y x z ls l → cells s ls x y ≡ num v
      → cells s ls y z ≡ num w → Written l ls → ended (l ∷ ls) ≡ false → Later f L T₀ (l ∷ ls)
  later_keep s f L T₀ hL hf y x z ls T l v w hy hx hz h st e d j e' d' c k =
      let sv : v ≡ j.left = same_number (sym e' ∙ j.left_is) in
      let sw : w ≡ j.right = same_number (sym d' ∙ j.right_is) in
      let low : neg_ℤ (pos (2 * (L * n))) ≤ℤ (v +ℤ w) = sum_low n T₀ y T st x y z v w hx hy hz e d L h.low in
      let floor : neg_ℤ (pos f) ≤ℤ (v +ℤ w) = omega (ints, low, hL, neg (pos f), neg (pos (2 * (L * n)))) in
      record { phase = phase_join hx hy hz j (rw (← sv, ← sw) floor) c k hf h.phase; low = h.low }

  -- strict joins of a sweep that began at its floor
  strict_start : (ls : List Line) → (ended ls ≡ false → Phase B p (begin_floor B n) ls) → ended ls ≡ false
      → Later (strict_floor B n) (begin_floor B n) (cells Strict ls) ls
  strict_start ls h e = record {
    phase = phase_lowered (strict_floor B n) (begin_strict B n g.some_point) (h e);
    low = λ x z w hx hz q. sane_least (h e).sane Strict x z w hx hz q;
  }

  later_zero : (s : Side) (f L : ℕ) (T : Table) (ls : List Line) → Later f L T ls → (x : ℕ) → cells s ls x x ≡ num (pos zero)
  later_zero s f L T ls h x = sane_zero h.phase.sane s x

  later_strict : (ls : List Line) → (ended ls ≡ false → Phase B p (begin_floor B n) ls) → ended (strict_joins n ls) ≡ false
      → Phase B p (strict_floor B n) (strict_joins n ls)
  later_strict ls h e =
      let is : strict_joins n ls ≡ _ = strict_pass n ls in
      let T : Table = cells Strict ls in
      let both =
      joining_pass Strict n T strict_offer (Later (strict_floor B n) (begin_floor B n) T) strict_offer_lem (later_zero Strict (strict_floor B n) (begin_floor B n) T)
      (later_keep Strict (strict_floor B n) (begin_floor B n) T (omega arith) (strict_lowest B n g.some_point)) ls refl (strict_start ls h) (rw is at e) in
      rw is both.0.phase

  later_small : (ls : List Line) → (ended ls ≡ false → Phase B p (begin_floor B n) ls) → SmallWithin B p strict_steps n n n ls
  later_small ls h a b c ha hb hc e =
      let T : Table = cells Strict ls in
      let k : Later (strict_floor B n) (begin_floor B n) T (part strict_steps n n a b c ls) =
      joining_part Strict n T strict_offer (Later (strict_floor B n) (begin_floor B n) T) strict_offer_lem (later_zero Strict (strict_floor B n) (begin_floor B n) T)
      (later_keep Strict (strict_floor B n) (begin_floor B n) T (omega arith) (strict_lowest B n g.some_point)) ls refl (strict_start ls h) a b c ha hb hc e in
      phase_small (strict_floor B n) (part strict_steps n n a b c ls) (strict_lowest B n g.some_point) k.phase

  -- ---- Lower and Upper

  abbrev Before : List Line → Type 0
  Before ls = Phase B p (strict_floor B n) ls

  lower_next : (q a b c : ℕ) (m : List Line) → a < length p.links → b < length p.links → c < 1 → ended m ≡ false → ended (lower_steps p q a b c m) ≡ false
      → Before m → Before (lower_steps p q a b c m)
  lower_next q a b c m ha hb hc e h i =
      try_keeps Before (lower_offer (lower_case_at q a) (link_of p a) (link_of p b)) m e h i
      (λ l o w k. phase_lower r p g (strict_floor B n) (strict_lowest B n g.some_point) m i (lower_case_at q a) a b l ha hb o w k)

  upper_next : (q a b c : ℕ) (m : List Line) → a < n → b < length p.links → c < 1 → ended m ≡ false → ended (upper_steps p q a b c m) ≡ false
      → Before m → Before (upper_steps p q a b c m)
  upper_next q a b c m ha hb hc e h i =
      try_keeps Before (upper_offer (longest_at q b) a (link_of p b)) m e h i
      (λ l o w k. phase_upper r p g (strict_floor B n) (strict_lowest B n g.some_point) m i (longest_at q b) a b l ha hb
      (weight_strict B n g.some_point) o w k)

  lowers_before : (q : ℕ) (ls : List Line) → (ended ls ≡ false → Before ls) → ended (lowers p q ls) ≡ false → Before (lowers p q ls)
  lowers_before q ls h e =
      let is : lowers p q ls ≡ _ = lowers_pass p q ls in
      rw is
      (after_pass (lower_steps p q) (λ a b c. try_stops (lower_offer (lower_case_at q a) (link_of p a) (link_of p b))) (length p.links) (length p.links) 1
      (λ a b c m. Before m) (lower_next q) (λ a b m ha hb i. i) (λ a m ha i. i) ls h (rw is at e))

  lowers_small : (q : ℕ) (ls : List Line) → (ended ls ≡ false → Before ls) → SmallWithin B p (lower_steps p q) (length p.links) (length p.links) 1 ls
  lowers_small q ls h a b c ha hb hc e =
      phase_small (strict_floor B n) (part (lower_steps p q) (length p.links) 1 a b c ls) (strict_lowest B n g.some_point)
      (in_part (lower_steps p q) (λ a b c. try_stops (lower_offer (lower_case_at q a) (link_of p a) (link_of p b))) (length p.links) (length p.links) 1
      (λ a b c m. Before m) (lower_next q) (λ a b m ha hb i. i) (λ a m ha i. i) ls h a b c ha hb hc e)

  uppers_before : (q : ℕ) (ls : List Line) → (ended ls ≡ false → Before ls) → ended (uppers p q ls) ≡ false → Before (uppers p q ls)
  uppers_before q ls h e =
      let is : uppers p q ls ≡ _ = uppers_pass p q ls in
      rw is
      (after_pass (upper_steps p q) (λ a b c. try_stops (upper_offer (longest_at q b) a (link_of p b))) n (length p.links) 1 (λ a b c m. Before m) (upper_next q)
      (λ a b m ha hb i. i) (λ a m ha i. i) ls h (rw is at e))

  uppers_small : (q : ℕ) (ls : List Line) → (ended ls ≡ false → Before ls) → SmallWithin B p (upper_steps p q) n (length p.links) 1 ls
  uppers_small q ls h a b c ha hb hc e =
      phase_small (strict_floor B n) (part (upper_steps p q) (length p.links) 1 a b c ls) (strict_lowest B n g.some_point)
      (in_part (upper_steps p q) (λ a b c. try_stops (upper_offer (longest_at q b) a (link_of p b))) n (length p.links) 1 (λ a b c m. Before m) (upper_next q)
      (λ a b m ha hb i. i) (λ a m ha i. i) ls h a b c ha hb hc e)

  -- ---- open joins

  open_start : (ls : List Line) → (ended ls ≡ false → Before ls) → ended ls ≡ false → Later (lowest B n) (strict_floor B n) (cells Open ls) ls
  open_start ls h e = record {
    phase = phase_lowered (lowest B n) (strict_lowest B n g.some_point) (h e);
    low = λ x z w hx hz q. sane_least (h e).sane Open x z w hx hz q;
  }

  opens_small : (ls : List Line) → (ended ls ≡ false → Before ls) → SmallWithin B p open_steps n n n ls
  opens_small ls h a b c ha hb hc e =
      let T : Table = cells Open ls in
      let k : Later (lowest B n) (strict_floor B n) T (part open_steps n n a b c ls) =
      joining_part Open n T open_offer (Later (lowest B n) (strict_floor B n) T) open_offer_lem (later_zero Open (lowest B n) (strict_floor B n) T)
      (later_keep Open (lowest B n) (strict_floor B n) T (omega arith) (omega arith)) ls refl (open_start ls h) a b c ha hb hc e in
      phase_small (lowest B n) (part open_steps n n a b c ls) (omega arith) k.phase

  -- after them the walks behind the open numbers bring the floor back
  back_up : (T : Table) (ls : List Line) → Phase B p (lowest B n) ls → Stage n T n (cells Open ls) → Phase B p (begin_floor B n) ls
  back_up T ls h s = record {
    sane =
        sane_floor h.sane (begin_floor B n)
        (backed_least n B (cells Open ls) s.zeros (λ x y z hx hy hz. s.joined x y z hx hy hz hy) h.sane.backed);
    linked = h.linked;
    filled = h.filled;
  }

  opens_begin : (ls : List Line) → (ended ls ≡ false → Before ls) → ended (open_joins n ls) ≡ false → Phase B p (begin_floor B n) (open_joins n ls)
  opens_begin ls h e =
      let is : open_joins n ls ≡ _ = open_pass n ls in
      let T : Table = cells Open ls in
      let both =
      joining_pass Open n T open_offer (Later (lowest B n) (strict_floor B n) T) open_offer_lem (later_zero Open (lowest B n) (strict_floor B n) T)
      (later_keep Open (lowest B n) (strict_floor B n) T (omega arith) (omega arith)) ls refl (open_start ls h) (rw is at e) in
      rw is (back_up T _ both.0.phase both.1)

  -- ---- sweep after sweep

  abbrev lines_before : ℕ
  lines_before = length (before_links p)

  sweeps_first : sweeps p 0 ≡ given p
  unfolding sweeps
  sweeps_first = refl

  sweeps_next : (i : ℕ) → sweeps p (suc i) ≡ open_joins n (uppers p lines_before (lowers p lines_before (strict_joins n (sweeps p i))))
  unfolding sweeps sweep
  sweeps_next i = refl

  -- a sweep begins at its floor, if the strict joins of the one before kept theirs
  sweep_begins : (i : ℕ) → (ended (strict_joins n (sweeps p i)) ≡ false → Before (strict_joins n (sweeps p i))) → ended (sweeps p (suc i)) ≡ false
      → Phase B p (begin_floor B n) (sweeps p (suc i))
  sweep_begins i h e =
      let s : List Line = strict_joins n (sweeps p i) in
      let l : List Line = lowers p lines_before s in
      rw (sweeps_next i) (opens_begin (uppers p lines_before l) (uppers_before lines_before l (lowers_before lines_before s h)) (rw (sweeps_next i) at e))

  strict_done : (i : ℕ) → ended (strict_joins n (sweeps p i)) ≡ false → Before (strict_joins n (sweeps p i))
  strict_done zero e = rw sweeps_first (first_strict_lem (rw sweeps_first at e))
  strict_done (suc i) e = later_strict (sweeps p (suc i)) (sweep_begins i (strict_done i)) e

  strict_small : (i : ℕ) → SmallWithin B p strict_steps n n n (sweeps p i)
  strict_small zero = rw sweeps_first first_small
  strict_small (suc i) = later_small (sweeps p (suc i)) (sweep_begins i (strict_done i))

  lowers_done : (i : ℕ) → ended (lowers p lines_before (strict_joins n (sweeps p i))) ≡ false → Before (lowers p lines_before (strict_joins n (sweeps p i)))
  lowers_done i = lowers_before lines_before (strict_joins n (sweeps p i)) (strict_done i)

  all_small : Safe r.weight p
  all_small =
      record {
        in_starts = starts_small r p g;
        in_limits = limits_small r p g;
        in_links = links_small r p g;
        in_strict = strict_small;
        in_lowers = λ i. lowers_small lines_before (strict_joins n (sweeps p i)) (strict_done i);
        in_uppers = λ i. uppers_small lines_before (lowers p lines_before (strict_joins n (sweeps p i))) (lowers_done i);
        in_opens = λ i.
            let l : List Line = lowers p lines_before (strict_joins n (sweeps p i)) in
            opens_small (uppers p lines_before l) (uppers_before lines_before l (lowers_done i));
      }

pub safe : (r : Ranges) (p : Plan) → InRange r p → Safe r.weight p
safe r p g = all_small r p g
