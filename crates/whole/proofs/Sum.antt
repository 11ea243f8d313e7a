-- Sums over lists: what writing one entry does to the sum, and what bounds on the entries say of it. Stated over a list of anything and a
-- height of its entries, and again for a list of numbers. The sum of how far each cell of a table stands above a floor is the measure of
-- a loop that only lowers cells. Assumes nothing.
use mathlib.Core.Path.{◌≡◌}
use mathlib.Core.List.{List, [], ◌∷◌, map, map-id}
use Prim.Native.Nat.{ℕ, zero, suc, ◌+◌, ◌*◌, ◌≤◌, ◌<◌}
use native.Mathlib.Nat.{mul-suc}
use native.Mathlib.Omega.{arith}
use lib.ListN.{length, get_or, set}
use Rattle.whole.specs.Sum.{total}

-- ---- a sum of heights

module _ {A : Type 0} (f : A → ℕ) (d : A) where
  -- writing an entry: the sum gains the new height and loses the old one
  pub heights_set : (l : List A) (i : ℕ) (v : A) → i < length l → total (map f (set l i v)) + f (get_or l i d) ≡ total (map f l) + f v
  heights_set [] i v h = absurd (omega arith)
  heights_set (a ∷ l) zero v h = omega arith
  heights_set (a ∷ l) (suc i) v h = omega (arith, heights_set l i v (omega arith))

  -- writing a lower entry makes a smaller sum
  pub heights_fall : (l : List A) (i : ℕ) (v : A) → i < length l → f v < f (get_or l i d) → total (map f (set l i v)) < total (map f l)
  heights_fall l i v h k = omega (arith, heights_set l i v h)

  -- heights of at most b make a sum of at most b for each entry
  pub heights_bound : (b : ℕ) (l : List A) → ((i : ℕ) → i < length l → f (get_or l i d) ≤ b) → total (map f l) ≤ b * length l
  heights_bound b [] h = omega arith
  heights_bound b (a ∷ l) h =
      let first : f a ≤ b = h zero (omega arith) in
      let others : total (map f l) ≤ b * length l = heights_bound b l (λ i k. h (suc i) (omega arith)) in
      omega (arith, mul-suc b (length l))

  -- a list that is nowhere higher than another has no larger sum
  pub heights_mono : (l m : List A) → length l ≡ length m → ((i : ℕ) → i < length l → f (get_or l i d) ≤ f (get_or m i d))
      → total (map f l) ≤ total (map f m)
  heights_mono [] m e h = omega arith
  heights_mono (a ∷ l) [] e h = absurd (omega arith)
  heights_mono (a ∷ l) (b ∷ m) e h =
      let first : f a ≤ f b = h zero (omega arith) in
      omega (arith, heights_mono l m (omega arith) (λ i k. h (suc i) (omega arith)))

  -- and a smaller one where it is lower somewhere
  pub heights_less : (l m : List A) → length l ≡ length m → ((i : ℕ) → i < length l → f (get_or l i d) ≤ f (get_or m i d))
      → (i : ℕ) → i < length l → f (get_or l i d) < f (get_or m i d) → total (map f l) < total (map f m)
  heights_less [] m e h i k s = absurd (omega arith)
  heights_less (a ∷ l) [] e h i k s = absurd (omega arith)
  heights_less (a ∷ l) (b ∷ m) e h zero k s = omega (arith, heights_mono l m (omega arith) (λ i k. h (suc i) (omega arith)))
  heights_less (a ∷ l) (b ∷ m) e h (suc i) k s =
      let first : f a ≤ f b = h zero (omega arith) in
      omega (arith, heights_less l m (omega arith) (λ i k. h (suc i) (omega arith)) i (omega arith) s)

-- ---- a sum of numbers

-- writing an entry: the sum gains the new one and loses the old one
pub total_set : (l : List ℕ) (i v : ℕ) → i < length l → total (set l i v) + get_or l i zero ≡ total l + v
total_set l i v h = simp map-id at (heights_set (λ (x : ℕ). x) zero l i v h)

-- lowering an entry by d lowers the sum by d
pub total_lowered : (l : List ℕ) (i v d : ℕ) → i < length l → get_or l i zero ≡ v + d → total (set l i v) + d ≡ total l
total_lowered l i v d h e = omega (arith, total_set l i v h)

-- a smaller entry makes a smaller sum
pub total_falls : (l : List ℕ) (i v : ℕ) → i < length l → v < get_or l i zero → total (set l i v) < total l
total_falls l i v h k = omega (arith, total_set l i v h)

-- entries of at most b make a sum of at most b for each
pub total_bound : (b : ℕ) (l : List ℕ) → ((i : ℕ) → i < length l → get_or l i zero ≤ b) → total l ≤ b * length l
total_bound b l h = simp map-id at (heights_bound (λ (x : ℕ). x) zero b l h)
