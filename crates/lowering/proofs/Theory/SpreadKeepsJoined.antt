-- A joined table stays joined when an edge is spread through it. First what every cell is after: the way over the edge, as
-- it is stored, or the cell as it was, whichever is smaller. Then joins: a way over the edge twice goes round a closed walk
-- of at least 0. Over any coherent ranges. Assumes nothing.
use mathlib.Core.Path.{◌≡◌, refl, sym, ap, subst, ◌∙◌}
use mathlib.Core.Bool.{Bool, true, false, cond, true≢false}
use mathlib.Core.Logic.{⊎_elim, ◌≢◌}
use mathlib.Core.List.{List}
use Prim.Native.Nat.{ℕ, zero, suc, ◌≤◌, ◌<◌}
use native.Mathlib.Nat.{not-suc-le-zero, eq-or-lt_of_le, le_of_suc-le-suc}
use native.Mathlib.Omega.{arith}
use lib.IntN.{ℤ, pos, negsuc, ◌+ℤ◌}
use lib.Signed.{◌≤ℤ◌, ◌<ℤ◌, lt_z_yes}
use Rattle.whole.proofs.Order.{ints, plus, neg}
use Rattle.rules.specs.Plan.{Ranges}
use Rattle.rules.proofs.Coherence.{Coherent}
use Rattle.rules.specs.Cells.{Cell, mark, num, ◌+ᶜ◌, ◌≤ᶜ◌, Within, table_of}
use Rattle.rules.proofs.Cells.{AtMost, at_most, by_at_most, same_number, mark_no_number}
use Rattle.cell.specs.Steps.{belowᶜ, smallerᶜ, clamped}
use Rattle.cell.proofs.StoredCells.{clamped_le, clamped_within, ≤ᶜ_refl, ≤ᶜ_trans, ≤ᶜ_antisym, ≤ᶜ_mark, +ᶜ-mono, not_below_le, le_not_below, smaller_left, smaller_right}
use Rattle.lowering.specs.Table.{Sound}
use Rattle.lowering.specs.Fair.{Fair}
use Rattle.lowering.specs.Sweep.{iter, lower_cell, join_cell}
use Rattle.lowering.specs.Spread.{row_by, spread_row, spread_all, take_edge, new_edge}
use Rattle.lowering.proofs.Theory.StoredNumbers.{Clamping, above, below, inside, clamping, exact}
use Rattle.lowering.proofs.Theory.LoweredTables.{after_lowering, cell_lowered, cell_down, by_test}

-- a joined table: its diagonal is 0, and no cell exceeds the sum of two along a middle point
pub record Shut (r : Ranges) (n : ℕ) (t : List ℤ) : Type 0 where
  pub zeros : (x : ℕ) → x < n → table_of r n t x x ≡ num (pos zero)
  pub join : (x y z : ℕ) → x < n → y < n → z < n → table_of r n t x z ≤ᶜ (table_of r n t x y +ᶜ table_of r n t y z)

-- ---- cells

-- what is stored is stored as it is
clamped_again : (reach : ℕ) (c : Cell) → clamped reach (clamped reach c) ≡ clamped reach c
clamped_again reach mark = refl
clamped_again reach (num c) = by (clamping reach c)
  where
    floor : {d : Cell} → Clamping reach (negsuc reach) d → d ≡ num (negsuc reach)
    floor (above k) = absurd (omega ints)
    floor (below k) = refl
    floor (inside k l) = absurd (omega (ints, k, neg (pos reach)))

    by : {d : Cell} → Clamping reach c d → clamped reach d ≡ d
    by (above k) = refl
    by (below k) = floor (clamping reach (negsuc reach))
    by (inside k l) = clamped_within reach (num c) (k, l)

-- the way over an edge between its own ends
over_itself : (w : Cell) → (num (pos zero) +ᶜ w) +ᶜ num (pos zero) ≡ w
over_itself mark = refl
over_itself (num w) = ap num (omega (ints, plus (pos zero) w, plus (pos zero +ℤ w) (pos zero)))

module _ (r : Ranges) (h : Coherent r) (n : ℕ) where
  abbrev at : List ℤ → ℕ → ℕ → Cell
  at t x y = table_of r n t x y

  -- the way from x to z over an edge from a to b of w, and what is stored where that shortens the cell
  abbrev way : ℕ → ℕ → Cell → List ℤ → ℕ → ℕ → Cell
  way a b w t x z = (at t x a +ᶜ w) +ᶜ at t b z

  abbrev shortened : ℕ → ℕ → Cell → List ℤ → ℕ → ℕ → Cell
  shortened a b w t x z = smallerᶜ (clamped r.reach (way a b w t x z)) (at t x z)

  -- ---- a row

  -- m of the cells of row x by the cells from another point y
  record RowPart (y x : ℕ) (a : Cell) (t : List ℤ) (m : ℕ) (u : List ℤ) : Type 0 where
    sound : Sound r n u
    done : (z : ℕ) → z < m → z < n → at u x z ≡ smallerᶜ (clamped r.reach (a +ᶜ at t y z)) (at t x z)
    rest : (z : ℕ) → m ≤ z → z < n → at u x z ≡ at t x z
    others : (x' z : ℕ) → x' < n → z < n → x' ≢ x → at u x' z ≡ at t x' z

  row_step : (y x : ℕ) (a : Cell) (t : List ℤ) → y < n → x < n → y ≢ x → (m : ℕ) → m < n → (u : List ℤ) → RowPart y x a t m u
      → RowPart y x a t (suc m) (join_cell r n y x a m u)
  unfolding join_cell
  row_step y x a t hy hx ne m hm u p =
      let c : Cell = a +ᶜ at u y m in
      let same : at u y m ≡ at t y m = p.others y m hy hm ne in
      record {
        sound = (cell_lowered r h n x m c u hx hm p.sound).sound;
        done = λ z hz zn.
            ⊎_elim (λ e. e.1 ∙ rw (e.0.1, same, p.rest m (omega arith) hm))
            (λ e. e.1 ∙ p.done z (earlier z hz (λ q. e.0 (refl, q))) zn)
            (after_lowering r h n x m c u p.sound hx hm x z hx zn);
        rest = λ z hz zn.
            ⊎_elim (λ e. absurd (omega (arith, e.0.1))) (λ e. e.1 ∙ p.rest z (omega arith) zn)
            (after_lowering r h n x m c u p.sound hx hm x z hx zn);
        others = λ x' z hx' hz d.
            ⊎_elim (λ e. absurd (d e.0.0)) (λ e. e.1 ∙ p.others x' z hx' hz d)
            (after_lowering r h n x m c u p.sound hx hm x' z hx' hz);
      }
    where
      earlier : (z : ℕ) → z < suc m → (z ≡ m → ⊥) → z < m
      earlier z q d = ⊎_elim (λ e. absurd (d e)) (λ l. l) (eq-or-lt_of_le (le_of_suc-le-suc q))

  row_parts : (y x : ℕ) (a : Cell) (t : List ℤ) → Sound r n t → y < n → x < n → y ≢ x → (m : ℕ) → m ≤ n → RowPart y x a t m (iter (join_cell r n y x a) m t)
  row_parts y x a t s hy hx ne zero q =
      record { sound = s; done = λ z hz zn. absurd (not-suc-le-zero hz); rest = λ z hz zn. refl; others = λ x' z hx' hz d. refl }
  row_parts y x a t s hy hx ne (suc m) q =
      row_step y x a t hy hx ne m (omega arith) (iter (join_cell r n y x a) m t) (row_parts y x a t s hy hx ne m (omega arith))

  row_part : (y x : ℕ) (a : Cell) (t : List ℤ) → Sound r n t → y < n → x < n → y ≢ x → RowPart y x a t n (row_by r n y x a t)
  unfolding row_by
  row_part y x a t s hy hx ne = row_parts y x a t s hy hx ne n (omega arith)

  -- ---- the whole table

  -- m of the rows after an edge from a to b of w
  record Part (a b : ℕ) (w : Cell) (t : List ℤ) (m : ℕ) (u : List ℤ) : Type 0 where
    sound : Sound r n u
    done : (x z : ℕ) → x < m → x < n → z < n → at u x z ≡ shortened a b w t x z
    rest : (x z : ℕ) → m ≤ x → x < n → z < n → at u x z ≡ at t x z
    along : (z : ℕ) → z < n → at u b z ≡ at t b z

  module _ (a b : ℕ) (w : Cell) (t : List ℤ) (s : Sound r n t) (ha : a < n) (hb : b < n)
      (join : (x z : ℕ) → x < n → z < n → at t x z ≤ᶜ (at t x b +ᶜ at t b z))
      (round : belowᶜ (at t b a +ᶜ w) (at t b b) ≡ false) where
    spread_step : (m : ℕ) → m < n → (u : List ℤ) → Part a b w t m u → Part a b w t (suc m) (spread_row r n a b w m u)
    unfolding spread_row
    spread_step m hm u p = by_test (Part a b w t (suc m)) (belowᶜ c (at u m b)) changes stays
      where
        here : (z : ℕ) → z < n → at u m z ≡ at t m z
        here z hz = p.rest m z (omega arith) hm hz

        c : Cell
        c = at u m a +ᶜ w

        same_c : c ≡ at t m a +ᶜ w
        same_c = ap (λ (d : Cell). d +ᶜ w) (here a ha)

        -- the row stays: it was joined
        stays : belowᶜ c (at u m b) ≡ false → Part a b w t (suc m) u
        stays e =
            record {
              sound = p.sound;
              done = λ x z hx xn zn.
                  ⊎_elim
                  (λ q.
                  let not : belowᶜ (at t m a +ᶜ w) (at t m b) ≡ false = rw (← same_c, ← here b hb) e in
                  let le : at t m z ≤ᶜ way a b w t m z =
                  ≤ᶜ_trans (at t m z) (at t m b +ᶜ at t b z) (way a b w t m z) (join m z hm zn)
                  (+ᶜ-mono (at t m b) (at t m a +ᶜ w) (at t b z) (at t b z) (not_below_le (at t m a +ᶜ w) (at t m b) not) (≤ᶜ_refl (at t b z))) in
                  let stored : at t m z ≤ᶜ clamped r.reach (way a b w t m z) =
                  ≤ᶜ_trans (at t m z) (way a b w t m z) (clamped r.reach (way a b w t m z)) le (clamped_le r.reach (way a b w t m z)) in
                  let same : shortened a b w t m z ≡ at t m z = rw (le_not_below (clamped r.reach (way a b w t m z)) (at t m z) stored) in
                  rw q (here z zn ∙ sym same))
                  (λ l. p.done x z l xn zn) (eq-or-lt_of_le (le_of_suc-le-suc hx));
              rest = λ x z hx xn zn. p.rest x z (omega arith) xn zn;
              along = p.along;
            }

        -- the row is joined, and is not that of b
        changes : belowᶜ c (at u m b) ≡ true → Part a b w t (suc m) (row_by r n b m c u)
        changes e =
            let ne : b ≢ m = λ q.
            let yes : belowᶜ (at t b a +ᶜ w) (at t b b) ≡ true =
            subst (λ (x : ℕ). belowᶜ (at t x a +ᶜ w) (at t x b) ≡ true) (sym q) (rw (← same_c, ← here b hb) e) in
            true≢false (sym yes ∙ round) in
            let row : RowPart b m c u n (row_by r n b m c u) = row_part b m c u p.sound hb hm ne in
            record {
              sound = row.sound;
              done = λ x z hx xn zn.
                  ⊎_elim
                  (λ q. rw q (row.done z zn zn ∙ rw (same_c, p.along z zn, here z zn)))
                  (λ l. row.others x z xn zn (λ q. omega (arith, q)) ∙ p.done x z l xn zn)
                  (eq-or-lt_of_le (le_of_suc-le-suc hx));
              rest = λ x z hx xn zn. row.others x z xn zn (λ q. omega (arith, q)) ∙ p.rest x z (omega arith) xn zn;
              along = λ z zn. row.others b z hb zn ne ∙ p.along z zn;
            }

    spread_parts : (m : ℕ) → m ≤ n → Part a b w t m (iter (spread_row r n a b w) m t)
    spread_parts zero q =
        record { sound = s; done = λ x z hx xn zn. absurd (not-suc-le-zero hx); rest = λ x z hx xn zn. refl; along = λ z zn. refl }
    spread_parts (suc m) q = spread_step m (omega arith) (iter (spread_row r n a b w) m t) (spread_parts m (omega arith))

    -- every cell after
    pub spread_cell : (x z : ℕ) → x < n → z < n → at (spread_all r n a b w t) x z ≡ shortened a b w t x z
    unfolding spread_all
    spread_cell x z hx hz = (spread_parts n (omega arith)).done x z hx hx hz

  -- ---- joins

  -- a number among the cells after: it was there, or it is the way over the edge
  data Came (a b : ℕ) (w : Cell) (t : List ℤ) (x z : ℕ) (v : ℤ) : Type 0 where
    old : at t x z ≡ num v → Came a b w t x z v
    over : {p q s : ℤ} → at t x a ≡ num p → w ≡ num q → at t b z ≡ num s → v ≡ (p +ℤ q) +ℤ s → Came a b w t x z v

  -- three cells whose sum is a number are numbers
  came_over : (a b : ℕ) (w : Cell) (t : List ℤ) (x z : ℕ) (v : ℤ) (first second : Cell) → at t x a ≡ first → at t b z ≡ second
      → (first +ᶜ w) +ᶜ second ≡ num v → Came a b w t x z v
  came_over a b w t x z v mark second ef es e = absurd (mark_no_number e)
  came_over a b mark t x z v (num p) second ef es e = absurd (mark_no_number e)
  came_over a b (num q) t x z v (num p) mark ef es e = absurd (mark_no_number e)
  came_over a b (num q) t x z v (num p) (num s) ef es e = over ef refl es (sym (same_number e))

  -- what is stored of a cell is that cell, if it is a number in reach
  stored_number : (reach : ℕ) (c : Cell) (v : ℤ) → clamped reach c ≡ num v → Within reach (num v) → c ≡ num v
  stored_number reach mark v e k = absurd (mark_no_number e)
  stored_number reach (num c) v e k = by (clamping reach c) e
    where
      by : {d : Cell} → Clamping reach c d → d ≡ num v → num c ≡ num v
      by (above l) q = absurd (mark_no_number q)
      by (below l) q = let e : negsuc reach ≡ v = same_number q in absurd (omega (ints, k.0, neg (pos reach), e))
      by (inside l m) q = q

  -- two numbers, one after the other: the pair's cell is in reach
  abbrev pub Full : List ℤ → Type 0
  Full u = (x y z : ℕ) (v₁ v₂ : ℤ) → x < n → y < n → z < n → at u x y ≡ num v₁ → at u y z ≡ num v₂ → AtMost (at u x z) (pos r.reach)

  module _ (a b : ℕ) (w : Cell) (t u : List ℤ) (ha : a < n) (hb : b < n) (j : Shut r n t) (round : num (pos zero) ≤ᶜ (at t b a +ᶜ w))
      (cell : (x z : ℕ) → x < n → z < n → at u x z ≡ shortened a b w t x z) (f : Fair r n u) (full : Full u) where
    came : (x z : ℕ) (v : ℤ) → x < n → z < n → at u x z ≡ num v → Came a b w t x z v
    came x z v hx hz e = by (belowᶜ (clamped r.reach (way a b w t x z)) (at t x z)) (sym (cell x z hx hz) ∙ e)
      where
        by : (test : Bool) → cond test (clamped r.reach (way a b w t x z)) (at t x z) ≡ num v → Came a b w t x z v
        by true q =
            came_over a b w t x z v (at t x a) (at t b z) refl refl
            (stored_number r.reach (way a b w t x z) v q (subst (Within r.reach) e (f.within x z hx hz)))
        by false q = old q

    -- no cell after exceeds the cell before
    down : (x z : ℕ) → x < n → z < n → at u x z ≤ᶜ at t x z
    down x z hx hz = rw (cell x z hx hz) (smaller_right (clamped r.reach (way a b w t x z)) (at t x z))

    -- nor the way over the edge
    under_way : (x z : ℕ) {p q s : ℤ} → x < n → z < n → AtMost (at u x z) (pos r.reach) → at t x a ≡ num p → w ≡ num q
        → at t b z ≡ num s → at u x z ≤ᶜ num ((p +ℤ q) +ℤ s)
    under_way x z {p} {q} {s} hx hz k ep eq es =
        let le : at u x z ≤ᶜ clamped r.reach (way a b w t x z) =
        rw (cell x z hx hz) (smaller_left (clamped r.reach (way a b w t x z)) (at t x z)) in
        exact r.reach (at u x z) (num ((p +ℤ q) +ℤ s)) (f.within x z hx hz) (λ c e. k) (rw (ep, eq, es) at le)

    -- joins of two numbers
    joined_numbers : (x y z : ℕ) (v₁ v₂ : ℤ) → x < n → y < n → z < n → at u x y ≡ num v₁ → at u y z ≡ num v₂ → at u x z ≤ᶜ num (v₁ +ℤ v₂)
    joined_numbers x y z v₁ v₂ hx hy hz e₁ e₂ = by (came x y v₁ hx hy e₁) (came y z v₂ hy hz e₂)
      where
        k : AtMost (at u x z) (pos r.reach)
        k = full x y z v₁ v₂ hx hy hz e₁ e₂

        -- an old join gives a number
        joins : (x y z : ℕ) {p q : ℤ} → x < n → y < n → z < n → at t x y ≡ num p → at t y z ≡ num q → AtMost (at t x z) (p +ℤ q)
        joins x y z hx hy hz ep eq = at_most (rw (ep, eq) at (j.join x y z hx hy hz))

        by : Came a b w t x y v₁ → Came a b w t y z v₂ → at u x z ≤ᶜ num (v₁ +ℤ v₂)
        by (old p) (old q) =
            ≤ᶜ_trans (at u x z) (at t x z) (num (v₁ +ℤ v₂)) (down x z hx hz) (by_at_most (joins x y z hx hy hz p q))
        by (over {p} {q} {s} ep eq es e) (old o) =
            let m : AtMost (at t b z) (s +ℤ v₂) = joins b y z hb hy hz es o in
            ≤ᶜ_trans (at u x z) (num ((p +ℤ q) +ℤ m.value)) (num (v₁ +ℤ v₂)) (under_way x z hx hz k ep eq m.is)
            (omega (ints, m.le, e, plus p q, plus (p +ℤ q) s, plus (p +ℤ q) m.value, plus s v₂, plus v₁ v₂))
        by (old o) (over {p} {q} {s} ep eq es e) =
            let m : AtMost (at t x a) (v₁ +ℤ p) = joins x y a hx hy ha o ep in
            ≤ᶜ_trans (at u x z) (num ((m.value +ℤ q) +ℤ s)) (num (v₁ +ℤ v₂)) (under_way x z hx hz k m.is eq es)
            (omega (ints, m.le, e, plus p q, plus (p +ℤ q) s, plus m.value q, plus (m.value +ℤ q) s, plus v₁ p, plus v₁ v₂))
        by (over {p} {q} {s} ep eq es e) (over {p = p'} {q = q'} {s = s'} ep' eq' es' e') =
            let m : AtMost (at t b a) (s +ℤ p') = joins b y a hb hy ha es ep' in
            let same : q ≡ q' = same_number (sym eq ∙ eq') in
            let least : pos zero ≤ℤ (m.value +ℤ q) = rw (m.is, eq) at round in
            ≤ᶜ_trans (at u x z) (num ((p +ℤ q) +ℤ s')) (num (v₁ +ℤ v₂)) (under_way x z hx hz k ep eq es')
            (omega (
              ints,
              m.le,
              e,
              e',
              same,
              least,
              plus p q,
              plus (p +ℤ q) s,
              plus (p +ℤ q) s',
              plus p' q',
              plus (p' +ℤ q') s',
              plus s p',
              plus m.value q,
              plus v₁ v₂,
            ))

    -- the table after is joined
    pub shut_after : Shut r n u
    shut_after =
        record {
          zeros = λ x hx. ≤ᶜ_antisym (at u x x) (num (pos zero)) (rw (j.zeros x hx) at (down x x hx hx)) (f.diagonal x hx);
          join = λ x y z hx hy hz. joins x y z hx hy hz (at u x y) (at u y z) refl refl;
        }
      where
        joins : (x y z : ℕ) → x < n → y < n → z < n → (c d : Cell) → at u x y ≡ c → at u y z ≡ d → at u x z ≤ᶜ (c +ᶜ d)
        joins x y z hx hy hz mark d ec ed = ≤ᶜ_mark (at u x z)
        joins x y z hx hy hz (num c) mark ec ed = ≤ᶜ_mark (at u x z)
        joins x y z hx hy hz (num c) (num d) ec ed = joined_numbers x y z c d hx hy hz ec ed

  -- ---- an edge

  +ᶜ-swap : (c d : Cell) → c +ᶜ d ≡ d +ᶜ c
  +ᶜ-swap mark mark = refl
  +ᶜ-swap mark (num d) = refl
  +ᶜ-swap (num c) mark = refl
  +ᶜ-swap (num c) (num d) = ap num (omega (ints, plus c d, plus d c))

  -- a diagonal cell lowered below 0 is not fair
  not_fair : (a : ℕ) (c : Cell) (t : List ℤ) → a < n → Sound r n t → belowᶜ c (num (pos zero)) ≡ true → Fair r n (lower_cell r n a a c t) → ⊥
  not_fair a mark t ha s e f = true≢false (sym e)
  not_fair a (num c) t ha s e f =
      by (clamping r.reach c)
      (≤ᶜ_trans (num (pos zero)) (at (lower_cell r n a a (num c) t) a a) (clamped r.reach (num c)) (f.diagonal a ha)
      (cell_down r h n a a (num c) t ha ha s))
    where
      below_zero : c <ℤ pos zero
      below_zero = lt_z_yes (rw e tt)

      by : {d : Cell} → Clamping r.reach c d → num (pos zero) ≤ᶜ d → ⊥
      by (above k) q = omega (ints, below_zero)
      by (below k) q = omega (ints, q)
      by (inside k l) q = omega (ints, q, below_zero)

  module _ (a b : ℕ) (c : Cell) (t : List ℤ) (s : Sound r n t) (ha : a < n) (hb : b < n) (j : Shut r n t) (full : Full (new_edge r n a b c t))
      (f : Fair r n (new_edge r n a b c t)) where
    -- the edge as it is stored
    abbrev w : Cell
    w = clamped r.reach c

    -- how an edge is taken, where the table after is fair
    data Taken : List ℤ → Type 0 where
      left : at t a b ≤ᶜ w → Taken t
      spread : num (pos zero) ≤ᶜ (at t b a +ᶜ w) → Taken (spread_all r n a b w t)

    taken : Taken (new_edge r n a b c t)
    unfolding new_edge take_edge
    taken =
        by_test (λ u. Fair r n u → Taken u) (belowᶜ w (at t a b))
        (λ e.
        by_test (λ u. Fair r n u → Taken u) (belowᶜ (w +ᶜ at t b a) (num (pos zero)))
        (λ i g. absurd (not_fair a (w +ᶜ at t b a) t ha s i g))
        (λ i g. spread (rw (+ᶜ-swap (at t b a) w) (not_below_le (w +ᶜ at t b a) (num (pos zero)) i))))
        (λ e g. left (not_below_le w (at t a b) e)) f

    -- the round over the edge and back does not shorten the way from b to itself
    cells : num (pos zero) ≤ᶜ (at t b a +ᶜ w) → (x z : ℕ) → x < n → z < n → at (spread_all r n a b w t) x z ≡ shortened a b w t x z
    cells q =
        spread_cell a b w t s ha hb (λ x z hx hz. j.join x b z hx hb hz) (le_not_below (at t b a +ᶜ w) (at t b b) (rw (j.zeros b hb) q))

    -- the table after an edge is joined
    pub edge_shut : Shut r n (new_edge r n a b c t)
    edge_shut = by taken full f
      where
        by : {u : List ℤ} → Taken u → Full u → Fair r n u → Shut r n u
        by (left q) k g = j
        by (spread q) k g = shut_after a b w t (spread_all r n a b w t) ha hb j q (cells q) g k

    -- and its cell is at most what is stored of the edge
    pub edge_under : at (new_edge r n a b c t) a b ≤ᶜ clamped r.reach c
    edge_under = by taken
      where
        by : {u : List ℤ} → Taken u → at u a b ≤ᶜ w
        by (left q) = q
        by (spread q) =
            let same : clamped r.reach (way a b w t a b) ≡ w =
            rw (j.zeros a ha, j.zeros b hb, over_itself w) (clamped_again r.reach c) in
            rw (cells q a b ha hb, same) (smaller_left w (at t a b))
