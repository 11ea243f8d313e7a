-- What every list so far has until it ends: no line from a point to itself, no open number below a floor, a strict number up to `highest` where there is an
-- open one, walks behind the open numbers, and only so many lines as the heights of both tables have fallen. A line with its facts (`Adds`) keeps all that.
-- Assumes nothing.
use mathlib.Core.Path.{◌≡◌, refl, sym, ◌∙◌}
use mathlib.Core.Logic.{◌≢◌, inl, inr, ⊎_elim}
use mathlib.Core.Bool.{true, false, true≢false}
use mathlib.Core.List.{List, [], ◌∷◌}
use Prim.Native.Nat.{ℕ, zero, suc, ◌+◌, ◌*◌, ◌≤◌, ◌<◌}
use native.Mathlib.Omega.{arith}
use lib.ListN.{length}
use lib.IntN.{ℤ, pos, neg_ℤ}
use lib.Signed.{◌≤ℤ◌, ≤ℤ_refl}
use Rattle.whole.proofs.Order.{ints, neg, ≤ℤ_trans}
use Rattle.rules.specs.declared.Side.{Side}
use Rattle.rules.specs.declared.Side.TheVariants.{Strict, Open}
use Rattle.rules.specs.Walks.{stay}
use Rattle.rules.specs.Cells.{Cell, mark, num, ◌≤ᶜ◌}
use Rattle.rules.proofs.Cells.{AtMost, at_most, same_number, mark_no_number}
use Rattle.rules.proofs.Walks.{Dominated}
use Rattle.chain.specs.Lines.{Line, counts, still, beats, best, cells}
use Rattle.chain.specs.Reasons.{always, side_of, ended}
use Rattle.chain.proofs.CellOrder.{≤ᶜ_trans, number_le}
use Rattle.chain.proofs.BestsMove.{moved, put_under, open_under, diagonal_first, diagonal_kept, first_cell, Written, leads_on}
use Rattle.chain.proofs.Backing.{Drawn, Backed, backed_moved}
use Rattle.chain.proofs.Heights.{heights, heights_moved, heights_less, heights_first}
use Rattle.chain.proofs.Places.{lowest, highest, Small}

-- the heights of a side's table
abbrev pub heights_of : ℕ → ℕ → Side → List Line → ℕ
heights_of B n s ls = heights (lowest B n) (highest B n) n (cells s ls)

-- B bounds the plan's weights, k counts the lines that are always written, -f is the floor
pub record Sane (B n k f : ℕ) (ls : List Line) : Type 0 where
  pub zeros : (s : Side) (a : ℕ) → best s a a ls ≡ still
  pub least : (x y : ℕ) (w : ℤ) → x < n → y < n → cells Open ls x y ≡ num w → neg_ℤ (pos f) ≤ℤ w
  pub paired : (x y : ℕ) (w : ℤ) → x < n → y < n → cells Open ls x y ≡ num w → cells Strict ls x y ≤ᶜ num (pos (highest B n))
  pub backed : Backed n B (cells Open ls)
  pub few : length ls + (heights_of B n Strict ls + heights_of B n Open ls) ≤ k + 2 * (n * (n * suc (lowest B n + highest B n)))

-- what is known of a line that is written
pub record Adds (B n f : ℕ) (l : Line) (ls : List Line) : Type 0 where
  pub from : l.from < n
  pub to : l.to < n
  pub low : neg_ℤ (pos f) ≤ℤ l.weight
  pub high : l.weight ≤ℤ pos (highest B n)
  pub strict_there : cells Strict (l ∷ ls) l.from l.to ≤ᶜ num (pos (highest B n))
  pub backing : Dominated (Drawn n B (cells Open (l ∷ ls))) l.from l.to l.weight

-- of a line that is not always written
pub record Contends (l : Line) : Type 0 where
  pub not_always : always l.kind ≡ false
  pub counted : counts (side_of l.kind) l.kind ≡ true

-- ---- what it says of both tables

module _ {B n k f : ℕ} {ls : List Line} (s : Sane B n k f ls) where
  -- a number has an open one under it
  open_there : (t : Side) (x y : ℕ) (w : ℤ) → cells t ls x y ≡ num w → AtMost (cells Open ls x y) w
  open_there Strict x y w e = at_most (rw e at (open_under ls x y))
  open_there Open x y w e = record { value = w; is = e; le = ≤ℤ_refl w }

  pub sane_least : (t : Side) (x y : ℕ) (w : ℤ) → x < n → y < n → cells t ls x y ≡ num w → neg_ℤ (pos f) ≤ℤ w
  sane_least t x y w hx hy e =
      let o : AtMost (cells Open ls x y) w = open_there t x y w e in
      ≤ℤ_trans (s.least x y o.value hx hy o.is) o.le

  pub sane_most : (t : Side) (x y : ℕ) (w : ℤ) → x < n → y < n → cells t ls x y ≡ num w → w ≤ℤ pos (highest B n)
  sane_most t x y w hx hy e =
      let o : AtMost (cells Open ls x y) w = open_there t x y w e in
      by t e (s.paired x y o.value hx hy o.is)
    where
      by : (t : Side) → cells t ls x y ≡ num w → cells Strict ls x y ≤ᶜ num (pos (highest B n)) → w ≤ℤ pos (highest B n)
      by Strict e h = number_le h e
      by Open e h =
          number_le (≤ᶜ_trans (cells Open ls x y) (cells Strict ls x y) (num (pos (highest B n))) (open_under ls x y) h) e

  pub sane_zero : (t : Side) (x : ℕ) → cells t ls x x ≡ num (pos zero)
  sane_zero t x = rw (s.zeros t x)

  pub sane_small : (K : ℕ) → k ≤ 3 * K → f ≤ lowest B n → Small B n K ls
  sane_small K hk hf = record {
    least = λ t x y hx hy. least_cell (cells t ls x y) (λ w e. sane_least t x y w hx hy e);
    most = λ t x y hx hy w e. sane_most t x y w hx hy e;
    few = omega (arith, s.few);
  }
    where
      least_cell : (c : Cell) → ((w : ℤ) → c ≡ num w → neg_ℤ (pos f) ≤ℤ w) → num (neg_ℤ (pos (lowest B n))) ≤ᶜ c
      least_cell mark h = tt
      least_cell (num w) h = let l : neg_ℤ (pos f) ≤ℤ w = h w refl in omega (ints, l, neg (pos f), neg (pos (lowest B n)))

  -- with another floor
  pub sane_floor : (g : ℕ) → ((x y : ℕ) (w : ℤ) → x < n → y < n → cells Open ls x y ≡ num w → neg_ℤ (pos g) ≤ℤ w) → Sane B n k g ls
  sane_floor g low = record { zeros = s.zeros; least = low; paired = s.paired; backed = s.backed; few = s.few }

  pub sane_lower : (g : ℕ) → f ≤ g → Sane B n k g ls
  sane_lower g h =
      sane_floor g (λ x y w hx hy e. let l : neg_ℤ (pos f) ≤ℤ w = s.least x y w hx hy e in omega (ints, l, neg (pos f), neg (pos g)))

  -- ---- one line more

  module _ (l : Line) (a : Adds B n f l ls) (differs : l.from ≢ l.to) where
    least_after : (x y : ℕ) (w : ℤ) → x < n → y < n → cells Open (l ∷ ls) x y ≡ num w → neg_ℤ (pos f) ≤ℤ w
    least_after x y w hx hy e =
        ⊎_elim (λ q. s.least x y w hx hy (sym q ∙ e)) (λ h. let same : l.weight ≡ w = same_number (sym h.1 ∙ e) in rw (← same) a.low)
        ((moved Open l ls).kept x y)

    paired_after : (x y : ℕ) (w : ℤ) → x < n → y < n → cells Open (l ∷ ls) x y ≡ num w → cells Strict (l ∷ ls) x y ≤ᶜ num (pos (highest B n))
    paired_after x y w hx hy e =
        ⊎_elim
        (λ q.
        ≤ᶜ_trans (cells Strict (l ∷ ls) x y) (cells Strict ls x y) (num (pos (highest B n))) ((moved Strict l ls).falls x y)
        (s.paired x y w hx hy (sym q ∙ e)))
        (λ h. rw (h.0.0, h.0.1) a.strict_there)
        ((moved Open l ls).kept x y)

    -- the heights do not grow
    heights_after : (t : Side) → heights_of B n t (l ∷ ls) ≤ heights_of B n t ls
    heights_after t =
        heights_moved (lowest B n) (highest B n) n (cells t ls) (cells t (l ∷ ls)) l.from l.to l.weight (moved t l ls) a.high

    -- whatever the count
    sane_with : (j : ℕ) → length (l ∷ ls) + (heights_of B n Strict (l ∷ ls) + heights_of B n Open (l ∷ ls)) ≤ j + 2 * (n * (n * suc (lowest B n + highest B n)))
        → Sane B n j f (l ∷ ls)
    sane_with j few = record {
      zeros = λ t b. diagonal_kept t b l ls differs (s.zeros t b);
      least = least_after;
      paired = paired_after;
      backed = backed_moved (moved Open l ls) s.backed a.backing;
      few = few;
    }

    -- a line that is always written
    pub sane_always : Sane B n (suc k) f (l ∷ ls)
    sane_always =
        let st : heights_of B n Strict (l ∷ ls) ≤ heights_of B n Strict ls = heights_after Strict in
        let op : heights_of B n Open (l ∷ ls) ≤ heights_of B n Open ls = heights_after Open in
        let before : length ls + (heights_of B n Strict ls + heights_of B n Open ls) ≤ k + 2 * (n * (n * suc (lowest B n + highest B n))) = s.few in
        sane_with (suc k) (omega arith)

    -- one that beat its pair's best
    heights_beaten : (t : Side) → f ≤ lowest B n → counts t l.kind ≡ true → beats l.weight (best t l.from l.to ls) ≡ true
        → heights_of B n t (l ∷ ls) < heights_of B n t ls
    heights_beaten t hf c b =
        let low : neg_ℤ (pos f) ≤ℤ l.weight = a.low in
        heights_less (lowest B n) (highest B n) n (cells t ls) (cells t (l ∷ ls)) l.from l.to l.weight (moved t l ls) a.high a.from a.to
        (omega (ints, low, neg (pos f), neg (pos (lowest B n)))) (best t l.from l.to ls) refl b (put_under t l ls c)

    sane_beats : (t : Side) → f ≤ lowest B n → counts t l.kind ≡ true → beats l.weight (best t l.from l.to ls) ≡ true → Sane B n k f (l ∷ ls)
    sane_beats Strict hf c b =
        let st : heights_of B n Strict (l ∷ ls) < heights_of B n Strict ls = heights_beaten Strict hf c b in
        let op : heights_of B n Open (l ∷ ls) ≤ heights_of B n Open ls = heights_after Open in
        let before : length ls + (heights_of B n Strict ls + heights_of B n Open ls) ≤ k + 2 * (n * (n * suc (lowest B n + highest B n))) = s.few in
        sane_with k (omega arith)
    sane_beats Open hf c b =
        let st : heights_of B n Strict (l ∷ ls) ≤ heights_of B n Strict ls = heights_after Strict in
        let op : heights_of B n Open (l ∷ ls) < heights_of B n Open ls = heights_beaten Open hf c b in
        let before : length ls + (heights_of B n Strict ls + heights_of B n Open ls) ≤ k + 2 * (n * (n * suc (lowest B n + highest B n))) = s.few in
        sane_with k (omega arith)

  -- one that is not always written
  pub sane_more : (l : Line) → Adds B n f l ls → Contends l → Written l ls → ended (l ∷ ls) ≡ false → f ≤ lowest B n → Sane B n k f (l ∷ ls)
  sane_more l a c w e hf =
      sane_beats l a (leads_on l ls w (λ q. absurd (true≢false (sym q ∙ c.not_always))) s.zeros e) (side_of l.kind) hf c.counted
      (⊎_elim (λ q. absurd (true≢false (sym q ∙ c.not_always))) (λ b. b) w)

-- ---- the empty list

pub sane_first : (B n : ℕ) → Sane B n 0 0 []
sane_first B n = record {
  zeros = diagonal_first;
  least = λ x y w hx hy e. let z : pos zero ≡ w = (first_zero x y w e).1 in omega (ints, z, neg (pos zero));
  paired = λ x y w hx hy e. rw (first_zero x y w e).0 (rw (diagonal_first Strict y) (omega ints));
  backed = λ x y w hx hy e.
      let q : (x ≡ y) × (pos zero ≡ w) = first_zero x y w e in
      rw (q.0, ← q.1) (record { total = pos zero; walk = stay; le = ≤ℤ_refl (pos zero) });
  few =
      let st : heights_of B n Strict [] ≤ n * (n * suc (lowest B n + highest B n)) = first_heights Strict in
      let op : heights_of B n Open [] ≤ n * (n * suc (lowest B n + highest B n)) = first_heights Open in
      omega arith;
}
  where
    first_zero : (x y : ℕ) (w : ℤ) → cells Open [] x y ≡ num w → (x ≡ y) × (pos zero ≡ w)
    first_zero x y w e =
        ⊎_elim (λ q. absurd (mark_no_number (sym q ∙ e))) (λ q. (q.0, same_number (sym q.1 ∙ e))) (first_cell Open x y)

    first_heights : (s : Side) → heights_of B n s [] ≤ n * (n * suc (lowest B n + highest B n))
    first_heights s =
        heights_first (lowest B n) (highest B n) n (cells s []) (λ x y. ⊎_elim inl (λ q. inr q.1) (first_cell s x y))
