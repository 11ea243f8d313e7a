-- Fields written one after the other: as a run of stores, and what that leaves. s is what was there before, t and u what is there after some of them.
-- Assumes nothing.
use mathlib.Core.Path.{◌≡◌, refl, sym, ap, ◌∙◌}
use mathlib.Core.List.{List, [], ◌∷◌, ◌++◌, flat_map, append_assoc, append-nil}
use Prim.Native.Nat.{ℕ, suc, ◌+◌, ◌*◌, ◌≤◌}
use native.Mathlib.Nat.{add-zero, zero-add}
use native.Mathlib.Omega.{arith}
use lib.ListN.{length, drop, set}
use lib.Seq.{sets, sets-eq}
use Rattle.fields.specs.Bytes.{word_bytes}
use Rattle.rules.specs.Plan.{Limit, Link}
use Rattle.plan.specs.Layout.{records, limit_fields, link_fields}
use Rattle.plan.proofs.Records.{records_length}
use Rattle.plan.proofs.Stretches.{stretch_join, flat_length}
use Rattle.plan.proofs.BytesOfPlans.{words_length}
use Rattle.writing.specs.Puts.{put_fields}

-- ---- lists

flat_map_append : {A B : Type 0} (f : A → List B) (xs ys : List A) → flat_map f (xs ++ ys) ≡ flat_map f xs ++ flat_map f ys
unfolding flat_map
flat_map_append f [] ys = refl
flat_map_append f (x ∷ xs) ys = ap (λ r. f x ++ r) (flat_map_append f xs ys) ∙ sym (append_assoc (f x) (flat_map f xs) (flat_map f ys))

flat_map_one : {A B : Type 0} (f : A → List B) (x : A) → flat_map f (x ∷ []) ≡ f x
unfolding flat_map
flat_map_one f x = append-nil (f x)

-- one record more
records_last : {A : Type 0} (f : ℕ → A) (n : ℕ) → records f 0 (n + 1) ≡ records f 0 n ++ (f n ∷ [])
records_last f n = rw (zero-add n) at (sym (stretch_join f 0 n 1))

-- a run of stores in two parts
sets_append : {A : Type 0} (s : List A) (at : ℕ) (xs ys : List A) → sets (sets s at xs) (at + length xs) ys ≡ sets s at (xs ++ ys)
sets_append s at [] ys = ap (λ k. sets s k ys) (add-zero at)
sets_append s at (x ∷ xs) ys =
    let e : at + suc (length xs) ≡ suc at + length xs = omega arith in
    ap (λ k. sets (sets (set s at x) (suc at) xs) k ys) e ∙ sets_append (set s at x) (suc at) xs ys

-- ---- fields

-- bytes from a position on
module _ (s : List ℕ) (at : ℕ) where
  none : s ≡ put_fields s at []
  unfolding flat_map
  none = refl

  -- fields after fields
  pub more : {t u : List ℕ} (ws vs : List ℕ) (next : ℕ) → t ≡ put_fields s at ws → next ≡ at + 4 * length ws → u ≡ put_fields t next vs
      → u ≡ put_fields s at (ws ++ vs)
  more {t} {u} ws vs next p e q =
      let n : next ≡ at + length (flat_map word_bytes ws) = omega (arith, words_length ws) in
      let r : u ≡ sets (put_fields s at ws) (at + length (flat_map word_bytes ws)) (flat_map word_bytes vs) = rw (p, n) at q in
      r ∙ sets_append s at (flat_map word_bytes ws) (flat_map word_bytes vs) ∙ ap (sets s at) (sym (flat_map_append word_bytes ws vs))

  -- one field after fields
  next : {t u : List ℕ} (ws : List ℕ) (w n : ℕ) → t ≡ put_fields s at ws → n ≡ at + 4 * length ws → u ≡ sets t n (word_bytes w)
      → u ≡ put_fields s at (ws ++ (w ∷ []))
  next {t} ws w n p e q = more ws (w ∷ []) n p e (q ∙ ap (sets t n) (sym (flat_map_one word_bytes w)))

  module _ (a b c : ℕ) {t₁ t₂ t₃ : List ℕ} (p₁ : t₁ ≡ sets s at (word_bytes a)) (p₂ : t₂ ≡ sets t₁ (at + 4) (word_bytes b))
      (p₃ : t₃ ≡ sets t₂ (at + 8) (word_bytes c)) where
    pub three : t₃ ≡ put_fields s at (a ∷ b ∷ c ∷ [])
    three =
        next (a ∷ b ∷ []) c (at + 8) (next (a ∷ []) b (at + 4) (next [] a at none (omega arith) p₁) (omega arith) p₂) (omega arith) p₃

    pub four : (d : ℕ) {t₄ : List ℕ} → t₄ ≡ sets t₃ (at + 12) (word_bytes d) → t₄ ≡ put_fields s at (a ∷ b ∷ c ∷ d ∷ [])
    four d p₄ = next (a ∷ b ∷ c ∷ []) d (at + 12) three (omega arith) p₄

-- three fields after three
pub three_more : (s : List ℕ) (a b c d e f : ℕ) {t u : List ℕ} → t ≡ put_fields s 0 (a ∷ b ∷ c ∷ []) → u ≡ put_fields t 12 (d ∷ e ∷ f ∷ [])
    → u ≡ put_fields s 0 (a ∷ b ∷ c ∷ d ∷ e ∷ f ∷ [])
three_more s a b c d e f p q = more s 0 (a ∷ b ∷ c ∷ []) (d ∷ e ∷ f ∷ []) 12 p (omega arith) q

-- fields from the start on, where there is room: their bytes, and then what was there
pub put_start : (s ws : List ℕ) → length (flat_map word_bytes ws) ≤ length s
    → put_fields s 0 ws ≡ flat_map word_bytes ws ++ drop (length (flat_map word_bytes ws)) s
put_start s ws h =
    let bytes = flat_map word_bytes ws in
    let e : 0 + length bytes ≡ length bytes = omega arith in
    sets-eq bytes s 0 (omega arith) ∙ ap (λ k. bytes ++ drop k s) e

-- ---- records: after the first i, as fields from a position on, one more, of c fields

module _ {A : Type 0} (fields : A → List ℕ) (c : ℕ) (each : (y : A) → length (fields y) ≡ c) (f : ℕ → A) (s : List ℕ) (at : ℕ) where
  record_next : (i : ℕ) {t u : List ℕ} {x : A} → t ≡ put_fields s at (flat_map fields (records f 0 i)) → x ≡ f i
      → u ≡ put_fields t (at + 4 * c * i) (fields x) → u ≡ put_fields s at (flat_map fields (records f 0 (i + 1)))
  record_next i {x = x} r e q =
      let done = flat_map fields (records f 0 i) in
      let long : length done ≡ c * i = flat_length fields c each (records f 0 i) ∙ ap (λ k. c * k) (records_length f 0 i) in
      let last : flat_map fields (records f 0 (i + 1)) ≡ done ++ fields x =
      ap (flat_map fields) (records_last f i)
      ∙ flat_map_append fields (records f 0 i) (f i ∷ [])
      ∙ ap (λ r. done ++ r) (flat_map_one fields (f i) ∙ ap fields (sym e)) in
      more s at done (fields x) (at + 4 * c * i) r (omega (arith, long)) q ∙ ap (put_fields s at) (sym last)

pub limit_next : (f : ℕ → Limit) (s : List ℕ) (at i : ℕ) {t u : List ℕ} {x : Limit} → t ≡ put_fields s at (flat_map limit_fields (records f 0 i))
    → x ≡ f i → u ≡ put_fields t (at + 12 * i) (limit_fields x) → u ≡ put_fields s at (flat_map limit_fields (records f 0 (i + 1)))
limit_next f s at i r e q = record_next limit_fields 3 (λ y. refl) f s at i r e q

pub link_next : (f : ℕ → Link) (s : List ℕ) (at i : ℕ) {t u : List ℕ} {x : Link} → t ≡ put_fields s at (flat_map link_fields (records f 0 i))
    → x ≡ f i → u ≡ put_fields t (at + 16 * i) (link_fields x) → u ≡ put_fields s at (flat_map link_fields (records f 0 (i + 1)))
link_next f s at i r e q = record_next link_fields 4 (λ y. refl) f s at i r e q
