-- How far the cells of a table stand above -L, summed over all pairs, with the mark above every number up to H: a number that beats its pair's cell makes the
-- sum smaller. So the sum counts how many lines may still be written. Assumes nothing.
use mathlib.Core.Path.{◌≡◌}
use mathlib.Core.Logic.{◌⊎◌, ⊎_elim}
use mathlib.Core.Bool.{true}
use Prim.Native.Nat.{ℕ, zero, suc, ◌+◌, ◌*◌, ◌-◌, ◌≤◌, ◌<◌}
use native.Mathlib.Nat.{eq-or-lt_of_le, le_of_suc-le-suc}
use native.Mathlib.Omega.{arith}
use lib.IntN.{ℤ, pos, neg_ℤ}
use lib.Signed.{◌≤ℤ◌}
use Rattle.whole.specs.Signed.{up, dn}
use Rattle.whole.proofs.Order.{ints, neg, parts}
use Rattle.whole.proofs.Bits.{signed}
use Rattle.rules.specs.Cells.{Cell, mark, num, Table, ◌≤ᶜ◌}
use Rattle.chain.specs.Lines.{Best, none, still, made, beats, weight_of}
use Rattle.chain.proofs.BestsMove.{Moved}

-- ---- sums

-- the sum of the first m values
sum_to : (ℕ → ℕ) → ℕ → ℕ
sum_to f zero = 0
sum_to f (suc m) = sum_to f m + f m

sum_le : (f g : ℕ → ℕ) (m : ℕ) → ((i : ℕ) → i < m → f i ≤ g i) → sum_to f m ≤ sum_to g m
unfolding sum_to
sum_le f g zero h = omega arith
sum_le f g (suc m) h = omega (arith, sum_le f g m (λ i k. h i (omega arith)), h m (omega arith))

sum_less : (f g : ℕ → ℕ) (m : ℕ) → ((i : ℕ) → i < m → f i ≤ g i) → (j : ℕ) → j < m → f j < g j → sum_to f m < sum_to g m
unfolding sum_to
sum_less f g zero h j k s = absurd (omega arith)
sum_less f g (suc m) h j k s =
    ⊎_elim
    (λ (e : j ≡ m). let t : f m < g m = rw e at s in omega (arith, sum_le f g m (λ i k. h i (omega arith))))
    (λ (l : j < m). omega (arith, sum_less f g m (λ i k. h i (omega arith)) j l s, h m (omega arith)))
    (eq-or-lt_of_le (le_of_suc-le-suc k))

sum_most : (f : ℕ → ℕ) (b m : ℕ) → ((i : ℕ) → i < m → f i ≤ b) → sum_to f m ≤ m * b
unfolding sum_to
sum_most f b zero h = omega arith
sum_most f b (suc m) h = omega (arith, sum_most f b m (λ i k. h i (omega arith)), h m (omega arith))

-- ---- heights

height : ℕ → ℕ → Cell → ℕ
height L H mark = suc (L + H)
height L H (num w) = (up w + L) - dn w

tops : (L H : ℕ) → height L H mark ≤ suc (L + H)
unfolding height
tops L H = omega arith

bottoms : (L H : ℕ) → height L H (num (pos zero)) ≤ suc (L + H)
unfolding height
bottoms L H = omega arith

-- what is summed
pub heights : ℕ → ℕ → ℕ → Table → ℕ
heights L H n T = sum_to (λ x. sum_to (λ y. height L H (T x y)) n) n

-- a number up to H is no higher than what it does not exceed
height_le : (L H : ℕ) (w : ℤ) (c : Cell) → w ≤ℤ pos H → num w ≤ᶜ c → height L H (num w) ≤ height L H c
unfolding height
height_le L H w mark h k = omega (ints, h)
height_le L H w (num v) h k = omega (ints, k)

-- a number that beats a best is lower, and so is what does not exceed it
height_less : (L H : ℕ) (w : ℤ) (b : Best) (c : Cell) → neg_ℤ (pos L) ≤ℤ w → w ≤ℤ pos H → beats w b ≡ true → c ≤ᶜ num w
    → height L H c < height L H (weight_of b)
unfolding height
height_less L H w b mark low high t a = absurd a
height_less L H w none (num u) low high t a = omega (ints, high, a)
height_less L H w still (num u) low high t a = omega (signed, low, neg (pos L), parts w, a, t)
height_less L H w (made i v) (num u) low high t a = omega (signed, low, neg (pos L), parts w, a, t)

-- ---- one pair lowered

module _ (L H n : ℕ) (T U : Table) (x z : ℕ) (w : ℤ) (m : Moved T U x z (num w)) (high : w ≤ℤ pos H) where
  moved_height : (a b : ℕ) → height L H (U a b) ≤ height L H (T a b)
  moved_height a b = ⊎_elim same new (m.kept a b)
    where
      same : U a b ≡ T a b → height L H (U a b) ≤ height L H (T a b)
      same e = rw e (omega arith)

      new : ((a ≡ x) × (b ≡ z)) × (U a b ≡ num w) → height L H (U a b) ≤ height L H (T a b)
      new h = rw h.1 (height_le L H w (T a b) high (rw h.1 at (m.falls a b)))

  -- the sum does not grow
  pub heights_moved : heights L H n U ≤ heights L H n T
  unfolding heights
  heights_moved = sum_le _ _ n (λ a ha. sum_le _ _ n (λ b hb. moved_height a b))

  -- and is smaller where the number beat the pair's best
  pub heights_less : x < n → z < n → neg_ℤ (pos L) ≤ℤ w → (b : Best) → T x z ≡ weight_of b → beats w b ≡ true → U x z ≤ᶜ num w
      → heights L H n U < heights L H n T
  unfolding heights
  heights_less hx hz low b is t a =
      let there : height L H (U x z) < height L H (T x z) = rw is (height_less L H w b (U x z) low high t a) in
      sum_less _ _ n (λ a ha. sum_le _ _ n (λ b hb. moved_height a b)) x hx (sum_less _ _ n (λ b hb. moved_height x b) z hz there)

-- ---- the first sum

-- where every cell is the mark or 0
pub heights_first : (L H n : ℕ) (T : Table) → ((x y : ℕ) → (T x y ≡ mark) ⊎ (T x y ≡ num (pos zero))) → heights L H n T ≤ n * (n * suc (L + H))
unfolding heights
heights_first L H n T first =
    sum_most _ (n * suc (L + H)) n (λ x hx. sum_most _ (suc (L + H)) n (λ y hy. ⊎_elim (λ e. no e) (λ e. rest e) (first x y)))
  where
    no : {c : Cell} → c ≡ mark → height L H c ≤ suc (L + H)
    no e = rw e (tops L H)

    rest : {c : Cell} → c ≡ num (pos zero) → height L H c ≤ suc (L + H)
    rest e = rw e (bottoms L H)
