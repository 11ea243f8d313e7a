-- The lines that are given: at every place of starts, limits and links no number lies further from zero than the plan's weights, and after the links each has
-- its three lines. Assumes nothing.
use mathlib.Core.Path.{◌≡◌, refl, sym, ◌∙◌}
use mathlib.Core.Logic.{◌≢◌, ⊎_elim}
use mathlib.Core.Bool.{true, false}
use mathlib.Core.List.{List, [], ◌∷◌, Memᴰ}
use Prim.Native.Nat.{ℕ, zero, suc, ◌+◌, ◌*◌, ◌≤◌, ◌<◌}
use native.Mathlib.Nat.{eq-or-lt_of_le, le_of_suc-le-suc}
use native.Mathlib.Omega.{arith}
use lib.ListN.{length, get_or}
use lib.IntN.{ℤ, pos, neg_ℤ}
use lib.Signed.{◌≤ℤ◌}
use Rattle.whole.proofs.Order.{ints, neg}
use Rattle.rules.specs.declared.Side.{Side}
use Rattle.rules.specs.declared.Side.TheVariants.{Strict, Open}
use Rattle.rules.specs.Plan.{Plan, Ranges, LimitInRange, LinkInRange, InRange}
use Rattle.rules.specs.Cells.{Cell, num, ◌≤ᶜ◌}
use Rattle.rules.proofs.Cells.{AtMost, at_most, same_number, mark_no_number, raised}
use Rattle.chain.specs.Lines.{Line, counts, cells, start_line, limit_line, longest_line, shortest_line, lower_case_line}
use Rattle.chain.specs.Reasons.{Offer, line, always, ended, try, limit_of, link_of, start_offer, limit_offer, link_offer, starts, limits, links, before_links, given}
use Rattle.chain.proofs.CellOrder.{≤ᶜ_trans}
use Rattle.chain.proofs.Tries.{try_stops}
use Rattle.chain.proofs.BestsMove.{moved, put_under, first_cell, Written, try_keeps, try_always, same_line}
use Rattle.chain.proofs.Backing.{drawn_alone}
use Rattle.chain.proofs.Places.{highest, Small, start_steps, limit_steps, link_steps, starts_pass, limits_pass, links_pass, part}
use Rattle.chain.proofs.Floors.{weight_high, weight_lowest}
use Rattle.chain.proofs.Passes.{in_part, after_pass}
use Rattle.chain.proofs.Safe.{SmallWithin}
use Rattle.chain.proofs.Sane.{Sane, Adds, Contends, sane_more, sane_always, sane_first, sane_lower, sane_small}

-- a list's element is its member
get_or_member : {A : Type 0} (l : List A) (i : ℕ) (d : A) → i < length l → Memᴰ (get_or l i d) l
get_or_member [] i d h = absurd (omega arith)
get_or_member (a ∷ l) zero d h = Memᴰ.head refl
get_or_member (a ∷ l) (suc i) d h = Memᴰ.tail (get_or_member l i d (omega arith))

pub limit_there : {r : Ranges} {p : Plan} → InRange r p → (i : ℕ) → i < length p.limits → LimitInRange r p.points (limit_of p i)
limit_there {r} {p} g i h = g.limit (limit_of p i) (get_or_member p.limits i (record { from = 0; to = 0; weight = pos zero }) h)

pub link_there : {r : Ranges} {p : Plan} → InRange r p → (i : ℕ) → i < length p.links → LinkInRange r p.points (link_of p i)
link_there {r} {p} g i h = g.link (link_of p i) (get_or_member p.links i (record { act = 0; con = 0; short = 0; long = 0 }) h)

-- the links whose three lines, in their order, are among the first t of them
pub record Linked (p : Plan) (t : ℕ) (ls : List Line) : Type 0 where
  pub longest : (i : ℕ) → i < length p.links → 3 * i < t → cells Strict ls (link_of p i).act (link_of p i).con ≤ᶜ num (pos (link_of p i).long)
  pub shortest : (i : ℕ) → i < length p.links → 3 * i + 1 < t
      → cells Strict ls (link_of p i).con (link_of p i).act ≤ᶜ num (neg_ℤ (pos (link_of p i).short))
  pub lower_case_rule : (i : ℕ) → i < length p.links → 3 * i + 2 < t → cells Open ls (link_of p i).act (link_of p i).con ≤ᶜ num (pos (link_of p i).short)

-- one line more keeps them
pub linked_more : {p : Plan} {t : ℕ} {ls : List Line} (l : Line) → Linked p t ls → Linked p t (l ∷ ls)
linked_more {p} {t} {ls} l k = record {
  longest = λ i h q. fall Strict (link_of p i).act (link_of p i).con (num (pos (link_of p i).long)) (k.longest i h q);
  shortest = λ i h q. fall Strict (link_of p i).con (link_of p i).act (num (neg_ℤ (pos (link_of p i).short))) (k.shortest i h q);
  lower_case_rule = λ i h q. fall Open (link_of p i).act (link_of p i).con (num (pos (link_of p i).short)) (k.lower_case_rule i h q);
}
  where
    fall : (s : Side) (x y : ℕ) (c : Cell) → cells s ls x y ≤ᶜ c → cells s (l ∷ ls) x y ≤ᶜ c
    fall s x y c h = ≤ᶜ_trans (cells s (l ∷ ls) x y) (cells s ls x y) c ((moved s l ls).falls x y) h

-- where the given lines stand: so many of the links' lines, and no weight above B either way
pub record Begun (B : ℕ) (p : Plan) (t : ℕ) (ls : List Line) : Type 0 where
  pub sane : Sane B p.points t B ls
  pub most : (x y : ℕ) (w : ℤ) → x < p.points → y < p.points → cells Strict ls x y ≡ num w → w ≤ℤ pos B
  pub linked : Linked p t ls

module _ (r : Ranges) (p : Plan) (g : InRange r p) where
  -- a given line
  record Fit (l : Line) : Type 0 where
    from : l.from < p.points
    to : l.to < p.points
    least : neg_ℤ (pos r.weight) ≤ℤ l.weight
    most : l.weight ≤ℤ pos r.weight

  -- it may be added, if its pair has a strict number then
  fit_adds : (l : Line) (ls : List Line) → Fit l → AtMost (cells Strict (l ∷ ls) l.from l.to) (pos r.weight)
      → Adds r.weight p.points r.weight l ls
  fit_adds l ls f a =
      let high : r.weight ≤ highest r.weight p.points = weight_high r.weight p.points g.some_point in
      let v : ℤ = a.value in
      let le : v ≤ℤ pos r.weight = a.le in
      record {
        from = f.from;
        to = f.to;
        low = f.least;
        high = omega (ints, f.most);
        strict_there = rw a.is (omega (ints, le, high));
        backing = drawn_alone (record { from = f.from; to = f.to; least = f.least; over = at_most (put_under Open l ls refl) });
      }

  most_after : (l : Line) (ls : List Line) → Fit l → ((x y : ℕ) (w : ℤ) → x < p.points → y < p.points → cells Strict ls x y ≡ num w → w ≤ℤ pos r.weight)
      → (x y : ℕ) (w : ℤ) → x < p.points → y < p.points → cells Strict (l ∷ ls) x y ≡ num w → w ≤ℤ pos r.weight
  most_after l ls f m x y w hx hy e =
      ⊎_elim (λ q. m x y w hx hy (sym q ∙ e)) (λ h. let same : l.weight ≡ w = same_number (sym h.1 ∙ e) in rw (← same) f.most)
      ((moved Strict l ls).kept x y)

  -- a line that is for strict pairs
  strict_number : (l : Line) (ls : List Line) → Fit l → counts Strict l.kind ≡ true → AtMost (cells Strict (l ∷ ls) l.from l.to) (pos r.weight)
  strict_number l ls f c =
      let a : AtMost (cells Strict (l ∷ ls) l.from l.to) l.weight = at_most (put_under Strict l ls c) in
      let v : ℤ = a.value in
      let le : v ≤ℤ l.weight = a.le in
      record { value = a.value; is = a.is; le = omega (ints, le, f.most) }

  begun_more : (t : ℕ) (l : Line) (ls : List Line) → Fit l → Contends l → counts Strict l.kind ≡ true → Written l ls → ended (l ∷ ls) ≡ false
      → Begun r.weight p t ls → Begun r.weight p t (l ∷ ls)
  begun_more t l ls f c s w e b = record {
    sane = sane_more b.sane l (fit_adds l ls f (strict_number l ls f s)) c w e (weight_lowest r.weight p.points g.some_point);
    most = most_after l ls f b.most;
    linked = linked_more l b.linked;
  }

  -- a try of such a line
  begun_try : (t : ℕ) (o : List Line → Offer) (l : Line) (ls : List Line) → o ls ≡ line l → Fit l → Contends l → counts Strict l.kind ≡ true
      → ended ls ≡ false → ended (try o ls) ≡ false → Begun r.weight p t ls → Begun r.weight p t (try o ls)
  begun_try t o l ls q f c s e h b = try_keeps (Begun r.weight p t) o ls e h b (λ m i w k. more m (same_line (sym q ∙ i)) w k)
    where
      more : (m : Line) → l ≡ m → Written m ls → ended (m ∷ ls) ≡ false → Begun r.weight p t (m ∷ ls)
      more m i w k = rw (← i) (begun_more t l ls f c s (rw (← i) at w) (rw (← i) at k) b)

  begun_first : Begun r.weight p 0 []
  begun_first = record {
    sane = sane_lower (sane_first r.weight p.points) r.weight (omega arith);
    most = λ x y w hx hy e. first_most x y w e;
    linked =
        record { longest = λ i h q. absurd (omega arith); shortest = λ i h q. absurd (omega arith); lower_case_rule = λ i h q. absurd (omega arith) };
  }
    where
      first_most : (x y : ℕ) (w : ℤ) → cells Strict [] x y ≡ num w → w ≤ℤ pos r.weight
      first_most x y w e =
          ⊎_elim (λ q. absurd (mark_no_number (sym q ∙ e)))
          (λ q. let z : pos zero ≡ w = same_number (sym q.1 ∙ e) in omega (ints, z)) (first_cell Strict x y)

  -- ---- starts and limits

  start_fits : (x : ℕ) → x < p.points → Fit (start_line x)
  start_fits x h = record { from = h; to = g.some_point; least = omega (ints, neg (pos r.weight)); most = omega ints }

  limit_fits_lem : (i : ℕ) → i < length p.limits → Fit (limit_line i (limit_of p i))
  limit_fits_lem i h =
      let m : LimitInRange r p.points (limit_of p i) = limit_there g i h in
      record { from = m.from; to = m.to; least = m.least; most = m.most }

  start_next : (a b c : ℕ) (m : List Line) → a < p.points → b < 1 → c < 1 → ended m ≡ false → ended (start_steps a b c m) ≡ false
      → Begun r.weight p 0 m → Begun r.weight p 0 (start_steps a b c m)
  unfolding start_offer
  start_next a b c m ha hb hc e h i =
      begun_try 0 (start_offer a) (start_line a) m refl (start_fits a ha) (record { not_always = refl; counted = refl }) refl e h i

  limit_next : (a b c : ℕ) (m : List Line) → a < length p.limits → b < 1 → c < 1 → ended m ≡ false → ended (limit_steps p a b c m) ≡ false
      → Begun r.weight p 0 m → Begun r.weight p 0 (limit_steps p a b c m)
  unfolding limit_offer
  limit_next a b c m ha hb hc e h i =
      begun_try 0 (limit_offer a (limit_of p a)) (limit_line a (limit_of p a)) m refl (limit_fits_lem a ha) (record { not_always = refl; counted = refl }) refl e h i

  -- ---- links

  module _ (i : ℕ) (hi : i < length p.links) where
    longest_fits_lem : Fit (longest_line i (link_of p i))
    longest_fits_lem =
        let m : LinkInRange r p.points (link_of p i) = link_there g i hi in
        record { from = m.act; to = m.con; least = omega (ints, neg (pos r.weight)); most = omega (ints, m.most) }

    shortest_fits : Fit (shortest_line i (link_of p i))
    shortest_fits =
        let m : LinkInRange r p.points (link_of p i) = link_there g i hi in
        record {
          from = m.con;
          to = m.act;
          least = omega (ints, m.order, m.most, neg (pos r.weight), neg (pos (link_of p i).short));
          most = omega (ints, neg (pos (link_of p i).short));
        }

    lower_case_fits : Fit (lower_case_line i (link_of p i))
    lower_case_fits =
        let m : LinkInRange r p.points (link_of p i) = link_there g i hi in
        record { from = m.act; to = m.con; least = omega (ints, neg (pos r.weight)); most = omega (ints, m.order, m.most) }

    -- a line of a link, with what it adds to the links' lines
    link_more : (t : ℕ) (l : Line) (ls : List Line) → Fit l → AtMost (cells Strict (l ∷ ls) l.from l.to) (pos r.weight) → l.from ≢ l.to
        → Begun r.weight p t ls → Linked p (suc t) (l ∷ ls) → Begun r.weight p (suc t) (l ∷ ls)
    link_more t l ls f a d b q =
        record { sane = sane_always b.sane l (fit_adds l ls f a) d; most = most_after l ls f b.most; linked = q }

    longest_next : (ls : List Line) → Begun r.weight p (3 * i + 0) ls → Begun r.weight p (suc (3 * i + 0)) (longest_line i (link_of p i) ∷ ls)
    longest_next ls b =
        let l : Line = longest_line i (link_of p i) in
        let old : Linked p (3 * i + 0) (l ∷ ls) = linked_more l b.linked in
        link_more (3 * i + 0) l ls longest_fits_lem (strict_number l ls longest_fits_lem refl) (link_there g i hi).differs b
        (record {
          longest = λ j h q.
              ⊎_elim (λ (e : 3 * j ≡ 3 * i + 0). let same : j ≡ i = omega arith in rw same (put_under Strict l ls refl)) (λ q. old.longest j h q)
              (eq-or-lt_of_le (le_of_suc-le-suc q));
          shortest = λ j h q. old.shortest j h (omega arith);
          lower_case_rule = λ j h q. old.lower_case_rule j h (omega arith);
        })

    shortest_next : (ls : List Line) → Begun r.weight p (3 * i + 1) ls → Begun r.weight p (suc (3 * i + 1)) (shortest_line i (link_of p i) ∷ ls)
    shortest_next ls b =
        let l : Line = shortest_line i (link_of p i) in
        let old : Linked p (3 * i + 1) (l ∷ ls) = linked_more l b.linked in
        link_more (3 * i + 1) l ls shortest_fits (strict_number l ls shortest_fits refl) (λ e. (link_there g i hi).differs (sym e)) b
        (record {
          longest = λ j h q. old.longest j h (omega arith);
          shortest = λ j h q.
              ⊎_elim (λ (e : 3 * j + 1 ≡ 3 * i + 1). let same : j ≡ i = omega arith in rw same (put_under Strict l ls refl)) (λ q. old.shortest j h q)
              (eq-or-lt_of_le (le_of_suc-le-suc q));
          lower_case_rule = λ j h q. old.lower_case_rule j h (omega arith);
        })

    lower_case_next : (ls : List Line) → Begun r.weight p (3 * i + 2) ls → Begun r.weight p (suc (3 * i + 2)) (lower_case_line i (link_of p i) ∷ ls)
    lower_case_next ls b =
        let l : Line = lower_case_line i (link_of p i) in
        let old : Linked p (3 * i + 2) (l ∷ ls) = linked_more l b.linked in
        let m : LinkInRange r p.points (link_of p i) = link_there g i hi in
        let a : AtMost (cells Strict (l ∷ ls) (link_of p i).act (link_of p i).con) (pos (link_of p i).long) = at_most (old.longest i hi (omega arith)) in
        let le : pos (link_of p i).long ≤ℤ pos r.weight = omega (ints, m.most) in
        link_more (3 * i + 2) l ls lower_case_fits (raised a le) (link_there g i hi).differs b
        (record {
          longest = λ j h q. old.longest j h (omega arith);
          shortest = λ j h q. old.shortest j h (omega arith);
          lower_case_rule = λ j h q.
              ⊎_elim (λ (e : 3 * j + 2 ≡ 3 * i + 2). let same : j ≡ i = omega arith in rw same (put_under Open l ls refl)) (λ q. old.lower_case_rule j h q)
              (eq-or-lt_of_le (le_of_suc-le-suc q));
        })

    written : (o : List Line → Offer) (ls : List Line) (l : Line) (t : ℕ) → ended ls ≡ false → o ls ≡ line l → always l.kind ≡ true
        → Begun r.weight p t (l ∷ ls) → Begun r.weight p t (try o ls)
    written o ls l t e q a b = rw (try_always o ls l e q a) b

    link_next : (b c : ℕ) (m : List Line) → b < 1 → c < 3 → ended m ≡ false → Begun r.weight p (3 * i + c) m
        → Begun r.weight p (suc (3 * i + c)) (link_steps p i b c m)
    unfolding link_offer
    link_next b zero m hb hc e s = written (link_offer i (link_of p i) zero) m (longest_line i (link_of p i)) (suc (3 * i + 0)) e refl refl (longest_next m s)
    link_next b (suc zero) m hb hc e s =
        written (link_offer i (link_of p i) 1) m (shortest_line i (link_of p i)) (suc (3 * i + 1)) e refl refl (shortest_next m s)
    link_next b (suc (suc zero)) m hb hc e s =
        written (link_offer i (link_of p i) 2) m (lower_case_line i (link_of p i)) (suc (3 * i + 2)) e refl refl (lower_case_next m s)
    link_next b (suc (suc (suc c))) m hb hc e s = absurd (omega arith)

  -- the count of the links' lines, said otherwise
  counted_so : {t u : ℕ} {ls : List Line} → t ≡ u → Begun r.weight p t ls → Begun r.weight p u ls
  counted_so e b = rw (← e) b

  links_next : (a b c : ℕ) (m : List Line) → a < length p.links → b < 1 → c < 3 → ended m ≡ false → ended (link_steps p a b c m) ≡ false
      → Begun r.weight p (3 * (a + b) + c) m → Begun r.weight p (3 * (a + b) + suc c) (link_steps p a b c m)
  links_next a b c m ha hb hc e h s =
      let here : 3 * (a + b) + c ≡ 3 * a + c = omega arith in
      let there : suc (3 * a + c) ≡ 3 * (a + b) + suc c = omega arith in
      counted_so there (link_next a ha b c m hb hc e (counted_so here s))

  -- ---- at every place

  pub starts_begun : ended (starts p []) ≡ false → Begun r.weight p 0 (starts p [])
  starts_begun e =
      let is : starts p [] ≡ _ = starts_pass p [] in
      rw is
      (after_pass start_steps (λ a b c. try_stops (start_offer a)) p.points 1 1 (λ a b c m. Begun r.weight p 0 m) start_next (λ a b m ha hb i. i)
      (λ a m ha i. i) [] (λ k. begun_first) (rw is at e))

  pub limits_begun : ended (before_links p) ≡ false → Begun r.weight p 0 (before_links p)
  unfolding before_links
  limits_begun e =
      let is : limits p (starts p []) ≡ _ = limits_pass p (starts p []) in
      rw is
      (after_pass (limit_steps p) (λ a b c. try_stops (limit_offer a (limit_of p a))) (length p.limits) 1 1 (λ a b c m. Begun r.weight p 0 m) limit_next
      (λ a b m ha hb i. i) (λ a m ha i. i) (starts p []) starts_begun (rw is at e))

  links_row : (a b : ℕ) (m : List Line) → a < length p.links → b < 1 → Begun r.weight p (3 * (a + b) + 3) m → Begun r.weight p (3 * (a + suc b) + 0) m
  links_row a b m ha hb s = counted_so (omega arith) s

  links_middle : (a : ℕ) (m : List Line) → a < length p.links → Begun r.weight p (3 * (a + 1) + 0) m → Begun r.weight p (3 * (suc a + 0) + 0) m
  links_middle a m ha s = counted_so (omega arith) s

  links_first : ended (before_links p) ≡ false → Begun r.weight p (3 * (0 + 0) + 0) (before_links p)
  links_first e = limits_begun e

  pub given_begun : ended (given p) ≡ false → Begun r.weight p (3 * length p.links) (given p)
  unfolding given
  given_begun e =
      let is : links p (before_links p) ≡ _ = links_pass p (before_links p) in
      let all : 3 * (length p.links + 0) + 0 ≡ 3 * length p.links = omega arith in
      rw is
      (counted_so all
      (after_pass (link_steps p) (λ a b c. try_stops (link_offer a (link_of p a) c)) (length p.links) 1 3 (λ a b c m. Begun r.weight p (3 * (a + b) + c) m)
      links_next links_row links_middle (before_links p) links_first (rw is at e)))

  begun_small : (t : ℕ) (ls : List Line) → t ≤ 3 * length p.links → Begun r.weight p t ls → Small r.weight p.points (length p.links) ls
  begun_small t ls h b = sane_small b.sane (length p.links) h (weight_lowest r.weight p.points g.some_point)

  pub starts_small : SmallWithin r.weight p start_steps p.points 1 1 []
  starts_small a b c ha hb hc e =
      begun_small 0 (part start_steps 1 1 a b c []) (omega arith)
      (in_part start_steps (λ a b c. try_stops (start_offer a)) p.points 1 1 (λ a b c m. Begun r.weight p 0 m) start_next (λ a b m ha hb i. i)
      (λ a m ha i. i) [] (λ k. begun_first) a b c ha hb hc e)

  pub limits_small : SmallWithin r.weight p (limit_steps p) (length p.limits) 1 1 (starts p [])
  limits_small a b c ha hb hc e =
      begun_small 0 (part (limit_steps p) 1 1 a b c (starts p [])) (omega arith)
      (in_part (limit_steps p) (λ a b c. try_stops (limit_offer a (limit_of p a))) (length p.limits) 1 1 (λ a b c m. Begun r.weight p 0 m) limit_next
      (λ a b m ha hb i. i) (λ a m ha i. i) (starts p []) starts_begun a b c ha hb hc e)

  pub links_small : SmallWithin r.weight p (link_steps p) (length p.links) 1 3 (before_links p)
  links_small a b c ha hb hc e =
      let most : 3 * (a + b) + c ≤ 3 * length p.links = omega arith in
      begun_small (3 * (a + b) + c) (part (link_steps p) 1 3 a b c (before_links p)) most
      (in_part (link_steps p) (λ a b c. try_stops (link_offer a (link_of p a) c)) (length p.links) 1 3 (λ a b c m. Begun r.weight p (3 * (a + b) + c) m)
      links_next links_row links_middle (before_links p) links_first a b c ha hb hc e)
