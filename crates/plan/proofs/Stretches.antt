-- Stretches of a sequence: the list of its members from an index on. Records that hold so many members each, laid one after another, make a
-- stretch, and the stretch that such records make is read as those records. So it is with the bytes of fields and the fields of limits and links.
-- Assumes nothing.
use mathlib.Core.Path.{◌≡◌, refl, sym, ap, ◌∙◌}
use mathlib.Core.List.{List, [], ◌∷◌, ◌++◌, flat_map, Memᴰ}
use Prim.Native.Nat.{ℕ, zero, suc, ◌+◌, ◌*◌}
use native.Mathlib.Nat.{add-zero, zero-add, suc-add, add-suc, mul-zero, mul-suc}
use native.Mathlib.Omega.{arith}
use lib.ListN.{length, get_or, take, drop, length-append}
use lib.Seq.{take-append_seam, drop-append_seam, take_at, drop_at}
use Rattle.plan.specs.Layout.{records}
use Rattle.plan.proofs.Records.{records_length}

module _ {A : Type 0} where
  -- ---- one list in parts of known lengths, twice: the parts are the same

  two_parts : (a b x y : List A) → length a ≡ length x → a ++ b ≡ x ++ y → (a ≡ x) × (b ≡ y)
  two_parts a b x y l e = (
    sym (take-append_seam a b) ∙ ap (take (length a)) e ∙ take_at x y (length a) (sym l),
    sym (drop-append_seam a b) ∙ ap (drop (length a)) e ∙ drop_at x y (length a) (sym l),
  )

  pub three_parts : (a b c x y z : List A) → length a ≡ length x → length b ≡ length y → a ++ b ++ c ≡ x ++ y ++ z
      → (a ≡ x) × (b ≡ y) × (c ≡ z)
  three_parts a b c x y z l m e =
      let p = two_parts (a ++ b) c (x ++ y) z (omega (arith, length-append a b, length-append x y)) e in
      let q = two_parts a b x y l p.0 in
      (q.0, q.1, p.1)

  -- ---- stretches

  -- a stretch and the next
  pub stretch_join : (w : ℕ → A) (i m n : ℕ) → records w i m ++ records w (i + m) n ≡ records w i (m + n)
  stretch_join w i zero n = rw (add-zero, zero-add)
  stretch_join w i (suc m) n = rw (suc-add m n, add-suc i m, ← suc-add i m) (ap (λ (l : List A). w i ∷ l) (stretch_join w (suc i) m n))

  -- the stretch of record i, and those of the n after it, where each record holds c members and the first begins at b
  stretch_next : (w : ℕ → A) (b c i n : ℕ) → records w (b + c * i) c ++ records w (b + c * suc i) (c * n) ≡ records w (b + c * i) (c * suc n)
  stretch_next w b c i n =
      let e : b + c * suc i ≡ b + c * i + c = omega (arith, mul-suc c i) in
      let l : c * suc n ≡ c + c * n = omega (arith, mul-suc c n) in
      rw (e, l) (stretch_join w (b + c * i) c (c * n))

  stretch_shift : (w : ℕ → A) (i n : ℕ) → records w (suc i) n ≡ records (λ j. w (suc j)) i n
  stretch_shift w i zero = refl
  stretch_shift w i (suc n) = ap (λ (l : List A). w (suc i) ∷ l) (stretch_shift w (suc i) n)

  -- a list is the stretch of its members
  pub stretch_all : (d : A) (xs : List A) → records (λ i. get_or xs i d) 0 (length xs) ≡ xs
  stretch_all d [] = refl
  stretch_all d (x ∷ xs) = ap (λ (l : List A). x ∷ l) (stretch_shift (λ i. get_or (x ∷ xs) i d) 0 (length xs) ∙ stretch_all d xs)

-- ---- records laid one after another

module _ {A B : Type 0} (f : A → List B) (c : ℕ) where
  pub flat_length : ((x : A) → length (f x) ≡ c) → (xs : List A) → length (flat_map f xs) ≡ c * length xs
  unfolding flat_map
  flat_length e [] = sym (mul-zero c)
  flat_length e (x ∷ xs) = length-append (f x) (flat_map f xs) ∙ omega (arith, e x, flat_length e xs, mul-suc c (length xs))

  -- record i of a sequence holds the stretch of c members from b + c * i on
  module _ (g : ℕ → A) (w : ℕ → B) (b : ℕ) (each : (i : ℕ) → f (g i) ≡ records w (b + c * i) c) where
    -- then the records from i on make a stretch
    pub flat_records : (i n : ℕ) → flat_map f (records g i n) ≡ records w (b + c * i) (c * n)
    unfolding flat_map
    flat_records i zero = rw mul-zero
    flat_records i (suc n) = rw (each i, flat_records (suc i) n) (stretch_next w b c i n)

    -- and where a list's records make it, the records from i on are that list: each is known by its members
    pub flat_read : ((x : A) → length (f x) ≡ c) → (xs : List A)
        → ((x : A) → Memᴰ x xs → (j : ℕ) → f (g j) ≡ f x → g j ≡ x)
        → (i : ℕ) → flat_map f xs ≡ records w (b + c * i) (c * length xs) → records g i (length xs) ≡ xs
    unfolding flat_map
    flat_read l [] known i e = refl
    flat_read l (x ∷ xs) known i e =
        let n = length xs in
        let first = records w (b + c * i) c in
        let same : length (f x) ≡ length first = l x ∙ sym (records_length w (b + c * i) c) in
        let p = two_parts (f x) (flat_map f xs) first (records w (b + c * suc i) (c * n)) same (e ∙ sym (stretch_next w b c i n)) in
        let head : g i ≡ x = known x (Memᴰ.head refl) i (each i ∙ sym p.0) in
        let tail : records g (suc i) n ≡ xs = flat_read l xs (λ y m. known y (Memᴰ.tail m)) (suc i) p.1 in
        rw (head, tail)
