-- One pass of joins over a table, by middle: Floyd and Warshall's argument with no list in sight. After the middles below q no cell exceeds the sum of two
-- along such a middle (`joined`), and a number has a walk behind it (`way`). So while the diagonal stays 0 a walk can be shortened to fewer than n edges, and
-- the numbers lie within n times the bounds of those that the pass began with. Assumes nothing.
use mathlib.Core.Path.{◌≡◌, refl, sym, ◌∙◌}
use mathlib.Core.Logic.{◌⊎◌, inl, inr, ⊎_elim}
use Prim.Native.Nat.{ℕ, zero, suc, ◌*◌, ◌≤◌, ◌<◌}
use native.Mathlib.Nat.{mul-le-mul_left, eq-or-lt_of_le, le_of_suc-le-suc}
use native.Mathlib.Omega.{arith}
use lib.ListN.{length}
use lib.IntN.{ℤ, pos, neg_ℤ, ◌+ℤ◌}
use lib.Signed.{◌≤ℤ◌}
use Rattle.whole.proofs.Order.{ints, plus, neg}
use Rattle.rules.specs.Walks.{Walk, stay, step}
use Rattle.rules.specs.Cells.{Cell, mark, num, Table, ◌+ᶜ◌, ◌≤ᶜ◌}
use Rattle.rules.proofs.Cells.{AtMost, by_at_most, raised, under, sum}
use Rattle.rules.proofs.Walks.{single, append, replaced}
use Rattle.rules.proofs.Shortening.{Short, few, trail_least, trail_most, trail_walk}
use Rattle.chain.proofs.ShortWalks.{short_walk}
use Rattle.chain.proofs.CellOrder.{≤ᶜ_refl, ≤ᶜ_mark, ≤ᶜ_trans, at_number, number_le, +ᶜ-zero, zero-+ᶜ, Summands, summands}

-- a number of the first table, from a middle that is done
pub record Passed (n : ℕ) (T : Table) (q a b : ℕ) (w : ℤ) : Type 0 where
  pub from : a < n
  pub to : b < n
  pub done : a < q
  pub is : T a b ≡ num w

-- a number of the first table and a walk of such, together at most w
pub record Way (n : ℕ) (T : Table) (q x z : ℕ) (w : ℤ) : Type 0 where
  pub at : ℕ
  pub below : at < n
  pub first : ℤ
  pub starts : T x at ≡ num first
  pub rest : ℤ
  pub walk : Walk (Passed n T q) at z rest
  pub le : (first +ℤ rest) ≤ℤ w

-- where a pass from the table B stands after the middles below q
pub record Stage (n : ℕ) (B : Table) (q : ℕ) (T : Table) : Type 0 where
  pub zeros : (x : ℕ) → x < n → T x x ≡ num (pos zero)
  pub falls : (x y : ℕ) → x < n → y < n → T x y ≤ᶜ B x y
  pub joined : (x m z : ℕ) → x < n → m < n → z < n → m < q → T x z ≤ᶜ (T x m +ᶜ T m z)
  pub way : (x z : ℕ) (w : ℤ) → x < n → z < n → T x z ≡ num w → Way n B q x z w

-- it begins
pub stage_first : (n : ℕ) (B : Table) → ((x : ℕ) → x < n → B x x ≡ num (pos zero)) → Stage n B zero B
stage_first n B zeros = record {
  zeros = zeros;
  falls = λ x y hx hy. ≤ᶜ_refl (B x y);
  joined = λ x m z hx hm hz l. absurd (omega arith);
  way = λ x z w hx hz e.
      record { at = z; below = hz; first = w; starts = e; rest = pos zero; walk = stay; le = omega (ints, plus w (pos zero)) };
}

-- ---- the bounds

module _ (n : ℕ) (B : Table) (q : ℕ) (T : Table) (s : Stage n B q T) where
  -- no cell exceeds a number of the first table and a walk after it
  under_way : (x c z : ℕ) (v t : ℤ) → x < n → c < n → z < n → B x c ≡ num v → Walk (Passed n B q) c z t → AtMost (T x z) (v +ℤ t)
  under_way x c z v t hx hc hz e stay = raised (under (s.falls x c hx hc) (at_number e)) (omega (ints, plus v (pos zero)))
  under_way x c z v t hx hc hz e (step {y} {v = a} f k) =
      let first : AtMost (T x c) v = under (s.falls x c hx hc) (at_number e) in
      under (s.joined x c z hx hc hz f.done) (sum first (under_way c y z a _ hc f.to hz f.is k))

  -- nor a walk
  under_walk : (x z : ℕ) (t : ℤ) → x < n → z < n → Walk (Passed n B q) x z t → AtMost (T x z) t
  under_walk x z t hx hz stay = at_number (s.zeros x hx)
  under_walk x z t hx hz (step {y} {v} e k) = under_way x y z v _ hx e.to hz e.is k

  -- so a walk is matched by a short one
  shortened : (x z : ℕ) (t : ℤ) → x < n → Walk (Passed n B q) x z t → Short (Passed n B q) n x z t
  shortened x z t hx k = short_walk (Passed n B q) n T (λ a b w e. (e.from, e.to)) s.zeros under_walk hx k

  -- from below
  pub stage_least : (L : ℕ) → ((x z : ℕ) (w : ℤ) → x < n → z < n → B x z ≡ num w → neg_ℤ (pos L) ≤ℤ w)
      → (x z : ℕ) (w : ℤ) → x < n → z < n → T x z ≡ num w → neg_ℤ (pos (L * n)) ≤ℤ w
  stage_least L low x z w hx hz e =
      let y : Way n B q x z w = s.way x z w hx hz e in
      let k : Short (Passed n B q) n y.at z y.rest = shortened y.at z y.rest y.below y.walk in
      let first : neg_ℤ (pos L) ≤ℤ y.first = low x y.at y.first hx y.below y.starts in
      let m : ℕ = length k.points in
      let rest : neg_ℤ (pos (L * m)) ≤ℤ k.total = trail_least (Passed n B q) L (λ a b v f. low a b v f.from f.to f.is) k.trail in
      let more : L * suc m ≤ L * n = mul-le-mul_left L (few k) in
      omega (ints, first, rest, more, k.le, y.le, plus y.first y.rest, neg (pos L), neg (pos (L * m)), neg (pos (L * n)))

  -- from above
  pub stage_most : (U : ℕ) → ((x z : ℕ) (w : ℤ) → x < n → z < n → B x z ≡ num w → w ≤ℤ pos U)
      → (x z : ℕ) (w : ℤ) → x < n → z < n → T x z ≡ num w → w ≤ℤ pos (U * n)
  stage_most U high x z w hx hz e =
      let y : Way n B q x z w = s.way x z w hx hz e in
      let k : Short (Passed n B q) n y.at z y.rest = shortened y.at z y.rest y.below y.walk in
      let first : y.first ≤ℤ pos U = high x y.at y.first hx y.below y.starts in
      let m : ℕ = length k.points in
      let rest : k.total ≤ℤ pos (U * m) = trail_most (Passed n B q) U (λ a b v f. high a b v f.from f.to f.is) k.trail in
      let more : U * suc m ≤ U * n = mul-le-mul_left U (few k) in
      let a : AtMost (T x z) (y.first +ℤ k.total) =
      under_way x y.at z y.first k.total hx y.below hz y.starts (trail_walk k.trail) in
      let l : w ≤ℤ (y.first +ℤ k.total) = number_le (by_at_most a) e in
      omega (ints, first, rest, more, l, plus y.first k.total)

-- ---- one middle

-- a table in which some cells are the sums along the middle y of the table T
pub record Mid (n y : ℕ) (T U : Table) : Type 0 where
  pub falls : (a b : ℕ) → a < n → b < n → U a b ≤ᶜ T a b
  pub made : (a b : ℕ) → a < n → b < n → (U a b ≡ T a b) ⊎ (U a b ≡ T a y +ᶜ T y b)

module _ (n y : ℕ) (T U : Table) (hy : y < n) (zero_there : T y y ≡ num (pos zero)) (m : Mid n y T U) where
  -- what goes to the middle or comes from it stays
  pub mid_column : (a : ℕ) → a < n → U a y ≡ T a y
  mid_column a ha = ⊎_elim (λ e. e) (λ e. e ∙ rw zero_there (+ᶜ-zero (T a y))) (m.made a y ha hy)

  pub mid_row : (b : ℕ) → b < n → U y b ≡ T y b
  mid_row b hb = ⊎_elim (λ e. e) (λ e. e ∙ rw zero_there (zero-+ᶜ (T y b))) (m.made y b hy hb)

-- ---- after a middle

module _ (n : ℕ) (B : Table) (q : ℕ) (T U : Table) (hq : q < n) (s : Stage n B q T) (m : Mid n q T U)
    (done : (a b : ℕ) → a < n → b < n → U a b ≤ᶜ (T a q +ᶜ T q b)) (still_zero : (x : ℕ) → x < n → U x x ≡ num (pos zero)) where
  -- a walk of earlier middles is one of the middles now done
  longer : {a b : ℕ} {t : ℤ} → Walk (Passed n B q) a b t → Walk (Passed n B (suc q)) a b t
  longer k =
      replaced {E = Passed n B q} {F = Passed n B (suc q)}
      (λ a b w e. single (record { from = e.from; to = e.to; done = omega (arith, e.done); is = e.is })) k

  longer_way : {x z : ℕ} {w : ℤ} → Way n B q x z w → Way n B (suc q) x z w
  longer_way y =
      record { at = y.at; below = y.below; first = y.first; starts = y.starts; rest = y.rest; walk = longer y.walk; le = y.le }

  -- one way to the middle, and one from it
  over_middle : {x z : ℕ} {u v w : ℤ} → Way n B q x q u → Way n B q q z v → u +ℤ v ≡ w → Way n B (suc q) x z w
  over_middle {x} {z} {u} {v} {w} a b e =
      let next : Passed n B (suc q) q b.at b.first = record { from = hq; to = b.below; done = omega arith; is = b.starts } in
      record {
        at = a.at;
        below = a.below;
        first = a.first;
        starts = a.starts;
        rest = a.rest +ℤ (b.first +ℤ b.rest);
        walk = append (longer a.walk) (step next (longer b.walk));
        le = omega (
          ints,
          a.le,
          b.le,
          e,
          plus u v,
          plus a.first a.rest,
          plus b.first b.rest,
          plus a.rest (b.first +ℤ b.rest),
          plus a.first (a.rest +ℤ (b.first +ℤ b.rest)),
        );
      }

  way_after : (x z : ℕ) (w : ℤ) → x < n → z < n → U x z ≡ num w → Way n B (suc q) x z w
  way_after x z w hx hz e = ⊎_elim old new (m.made x z hx hz)
    where
      old : U x z ≡ T x z → Way n B (suc q) x z w
      old f = longer_way (s.way x z w hx hz (sym f ∙ e))

      new : U x z ≡ T x q +ᶜ T q z → Way n B (suc q) x z w
      new f =
          let k : Summands (T x q) (T q z) w = summands (T x q) (T q z) w (sym f ∙ e) in
          over_middle (s.way x q k.left hx hq k.left_is) (s.way q z k.right hq hz k.right_is) k.sum

  -- no cell exceeds the sum along the middle just done
  joined_here : (x z : ℕ) → x < n → z < n → U x z ≤ᶜ (U x q +ᶜ U q z)
  joined_here x z hx hz =
      rw (mid_column n q T U hq (s.zeros q hq) m x hx, mid_row n q T U hq (s.zeros q hq) m z hz) (done x z hx hz)

  -- nor along an earlier one, whichever of the two cells are sums
  joined_before : (x y z : ℕ) (c d : ℤ) → x < n → y < n → z < n → y < q → U x y ≡ num c → U y z ≡ num d → AtMost (U x z) (c +ℤ d)
  joined_before x y z c d hx hy hz l ec ed = by (m.made x y hx hy) (m.made y z hy hz)
    where
      joins : (a b : ℕ) (u v : ℤ) → a < n → b < n → AtMost (T a y) u → AtMost (T y b) v → AtMost (T a b) (u +ℤ v)
      joins a b u v ha hb f g = under (s.joined a y b ha hy hb l) (sum f g)

      along : (u v : ℤ) → AtMost (T x q) u → AtMost (T q z) v → AtMost (U x z) (u +ℤ v)
      along u v f g = under (done x z hx hz) (sum f g)

      by : (U x y ≡ T x y) ⊎ (U x y ≡ T x q +ᶜ T q y) → (U y z ≡ T y z) ⊎ (U y z ≡ T y q +ᶜ T q z) → AtMost (U x z) (c +ℤ d)
      by (inl f) (inl g) = under (m.falls x z hx hz) (joins x z c d hx hz (at_number (sym f ∙ ec)) (at_number (sym g ∙ ed)))
      by (inr f) (inl g) =
          let k : Summands (T x q) (T q y) c = summands (T x q) (T q y) c (sym f ∙ ec) in
          let a : ℤ = k.left in
          let b : ℤ = k.right in
          let e : a +ℤ b ≡ c = k.sum in
          raised (along a (b +ℤ d) (at_number k.left_is) (joins q z b d hq hz (at_number k.right_is) (at_number (sym g ∙ ed))))
          (omega (ints, e, plus a b, plus b d, plus a (b +ℤ d), plus c d))
      by (inl f) (inr g) =
          let k : Summands (T y q) (T q z) d = summands (T y q) (T q z) d (sym g ∙ ed) in
          let a : ℤ = k.left in
          let b : ℤ = k.right in
          let e : a +ℤ b ≡ d = k.sum in
          raised (along (c +ℤ a) b (joins x q c a hx hq (at_number (sym f ∙ ec)) (at_number k.left_is)) (at_number k.right_is))
          (omega (ints, e, plus a b, plus c a, plus (c +ℤ a) b, plus c d))
      by (inr f) (inr g) =
          let k : Summands (T x q) (T q y) c = summands (T x q) (T q y) c (sym f ∙ ec) in
          let h : Summands (T y q) (T q z) d = summands (T y q) (T q z) d (sym g ∙ ed) in
          let a₁ : ℤ = k.left in
          let a₂ : ℤ = k.right in
          let b₁ : ℤ = h.left in
          let b₂ : ℤ = h.right in
          let e₁ : a₁ +ℤ a₂ ≡ c = k.sum in
          let e₂ : b₁ +ℤ b₂ ≡ d = h.sum in
          let round : AtMost (T q q) (a₂ +ℤ b₁) = joins q q a₂ b₁ hq hq (at_number k.right_is) (at_number h.left_is) in
          let least : pos zero ≤ℤ (a₂ +ℤ b₁) = number_le (by_at_most round) (s.zeros q hq) in
          raised (along a₁ b₂ (at_number k.left_is) (at_number h.right_is))
          (omega (ints, least, e₁, e₂, plus a₁ a₂, plus b₁ b₂, plus a₂ b₁, plus a₁ b₂, plus c d))

  joined_after : (x y z : ℕ) → x < n → y < n → z < n → y < suc q → U x z ≤ᶜ (U x y +ᶜ U y z)
  joined_after x y z hx hy hz l = ⊎_elim here before (eq-or-lt_of_le (le_of_suc-le-suc l))
    where
      here : y ≡ q → U x z ≤ᶜ (U x y +ᶜ U y z)
      here e = rw e (joined_here x z hx hz)

      before : y < q → U x z ≤ᶜ (U x y +ᶜ U y z)
      before k = cells (U x y) (U y z) refl refl
        where
          cells : (c d : Cell) → U x y ≡ c → U y z ≡ d → U x z ≤ᶜ (c +ᶜ d)
          cells mark d ec ed = ≤ᶜ_mark (U x z)
          cells (num c) mark ec ed = ≤ᶜ_mark (U x z)
          cells (num c) (num d) ec ed = by_at_most (joined_before x y z c d hx hy hz k ec ed)

  pub stage_next : Stage n B (suc q) U
  stage_next = record {
    zeros = still_zero;
    falls = λ x y hx hy. ≤ᶜ_trans (U x y) (T x y) (B x y) (m.falls x y hx hy) (s.falls x y hx hy);
    joined = joined_after;
    way = way_after;
  }
