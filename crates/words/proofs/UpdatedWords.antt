-- Words that Update changed, whatever they were: the same update once more changes nothing, and two updates leave the same in either order.
-- A word that has none of the bits asked for is left alone, so these hold of any numbers; any other becomes a word of 64 bits, and
-- those are told by their bits. Assumes nothing.
use mathlib.Core.Path.{◌≡◌, refl, sym, ap, ap₂, ◌∙◌}
use mathlib.Core.Bool.{Bool, true, false, cond, ◌&&◌, ◌||◌, or-false}
use mathlib.Core.List.{List}
use Prim.Native.Nat.{ℕ, ◌^◌, ◌<◌}
use native.Mathlib.Omega.{arith}
use lib.ListN.{length}
use Rattle.std.specs.Prelude.{Ok, Err}
use Rattle.rules.proofs.Lists.{same_parts}
use Rattle.words.specs.Sets.{word_bits, bit, word_of}
use Rattle.words.specs.Calls.{Asked, asked_answer, point_word, taking}
use Rattle.words.specs.Laws.{UpdatedTwice, UpdatedInAnyOrder}
use Rattle.words.proofs.BitsOfWords.{same_bits, word_lt, word_bit}
use Rattle.words.proofs.WordAnswers.{asked_done}

-- ---- one word

-- a word without the bit is left alone
left_alone : (x to w : ℕ) → bit w x ≡ false → taking x to w ≡ w
left_alone x to w e = rw e

-- one that has it becomes a word of 64 bits
made : (x to w : ℕ) → bit w x ≡ true → taking x to w < 2 ^ word_bits
made x to w e = rw e (word_lt word_bits (λ z. bit w z || bit to z))

-- and a word of 64 bits stays one
pub taking_lt : (x to w : ℕ) → w < 2 ^ word_bits → taking x to w < 2 ^ word_bits
taking_lt x to w h = by (bit w x)
  where
    by : (b : Bool) → cond b (word_of word_bits (λ z. bit w z || bit to z)) w < 2 ^ word_bits
    by true = word_lt word_bits (λ z. bit w z || bit to z)
    by false = h

-- the bits after an update
pub taking_bit : (x to w z : ℕ) → z < word_bits → bit (taking x to w) z ≡ (bit w z || (bit w x && bit to z))
taking_bit x to w z h = by (bit w x)
  where
    by : (b : Bool) → bit (cond b (word_of word_bits (λ y. bit w y || bit to y)) w) z ≡ (bit w z || (b && bit to z))
    by true = word_bit word_bits (λ y. bit w y || bit to y) z h
    by false = sym (or-false (bit w z))

-- no bit is lost
kept : (x to w z : ℕ) → z < word_bits → bit w z ≡ true → bit (taking x to w) z ≡ true
kept x to w z h e = taking_bit x to w z h ∙ ap (λ (b : Bool). b || (bit w x && bit to z)) e

-- the bits after two updates, of word w, where the first took u's bits and the second takes those that v has by then
two_bits : (x x' u v w z : ℕ) → x' < word_bits → z < word_bits
    → bit (taking x' (taking x u v) (taking x u w)) z
    ≡ (bit w z || (bit w x && bit u z) || ((bit w x' || (bit w x && bit u x')) && (bit v z || (bit v x && bit u z))))
two_bits x x' u v w z hx hz =
    taking_bit x' (taking x u v) (taking x u w) z hz
    ∙ λ i. taking_bit x u w z hz i || (taking_bit x u w x' hx i && taking_bit x u v z hz i)

-- ---- the same update twice

-- the tests: whether the word has the bit and the one asked for, and the same of the word taken
twice_table : (a b c d : Bool) → (a || (b && c) || ((b || (b && d)) && (c || (d && c)))) ≡ (a || (b && c))
twice_table a b c d = grind arith

word_twice : (x u w : ℕ) → x < word_bits → taking x (taking x u u) (taking x u w) ≡ taking x u w
word_twice x u w hx = by (bit w x) refl
  where
    by : (b : Bool) → bit w x ≡ b → taking x (taking x u u) (taking x u w) ≡ taking x u w
    by true e =
        let small : taking x u w < 2 ^ word_bits = made x u w e in
        same_bits word_bits (taking x (taking x u u) (taking x u w)) (taking x u w) (taking_lt x (taking x u u) (taking x u w) small) small
        (λ z h. two_bits x x u u w z hx h ∙ twice_table (bit w z) (bit w x) (bit u z) (bit u x) ∙ sym (taking_bit x u w z h))
    by false e = ap (taking x (taking x u u)) (left_alone x u w e) ∙ left_alone x (taking x u u) w e ∙ sym (left_alone x u w e)

pub updated_twice : UpdatedTwice
updated_twice n x y words words₁ words₂ (Ok done) (Ok done') d g =
    let q : Asked n x y (length words) = asked_done (sym d.answer_is) in (
      refl,
      same_parts 0 n words₂ words₁ g.updated.length_same g.updated.beyond_same
          (λ i h.
          g.updated.first i h
          ∙ ap₂ (taking x) (d.updated.first y q.second) (d.updated.first i h)
          ∙ word_twice x (point_word words y) (point_word words i) (omega (arith, q.first, q.few))
          ∙ sym (d.updated.first i h)),
    )
updated_twice n x y words words₁ words₂ (Ok done) (Err r) d g =
    let e = ap (asked_answer n x y) d.updated.length_same in absurd (cc)
updated_twice n x y words words₁ words₂ (Err r) b d g =
    let e = ap (λ (w : List ℕ). asked_answer n x y (length w)) d.refused in
    let same : b ≡ Err r = cc in
    (same, rw same at g.refused)

-- ---- two updates in either order

-- the tests: of the word whether it has the bit, the one the first update asks for and the second's; the same of the words taken
order_table : (a b c d e f g : Bool)
    → (a || (b && c) || ((d || (b && e)) && (f || (g && c)))) ≡ (a || (d && f) || ((b || (d && g)) && (c || (e && f))))
order_table a b c d e f g = grind arith

module _ (x x' u v w : ℕ) (hx : x < word_bits) (hx' : x' < word_bits) where
  -- word w where x's update comes first, and where it comes second
  abbrev first_x : ℕ
  first_x = taking x' (taking x u v) (taking x u w)

  abbrev second_x : ℕ
  second_x = taking x (taking x' v u) (taking x' v w)

  told : first_x < 2 ^ word_bits → second_x < 2 ^ word_bits → first_x ≡ second_x
  told p q =
      same_bits word_bits first_x second_x p q
      (λ z h.
      two_bits x x' u v w z hx' h
      ∙ order_table (bit w z) (bit w x) (bit u z) (bit w x') (bit u x') (bit v z) (bit v x)
      ∙ sym (two_bits x' x v u w z hx h))

  either_order : first_x ≡ second_x
  either_order = by (bit w x) refl (bit w x') refl
    where
      by : (b : Bool) → bit w x ≡ b → (c : Bool) → bit w x' ≡ c → first_x ≡ second_x
      by true e c f =
          told (taking_lt x' (taking x u v) (taking x u w) (made x u w e)) (made x (taking x' v u) (taking x' v w) (kept x' v w x hx e))
      by false e true f =
          told (made x' (taking x u v) (taking x u w) (kept x u w x' hx' f)) (taking_lt x (taking x' v u) (taking x' v w) (made x' v w f))
      by false e false f =
          ap (taking x' (taking x u v)) (left_alone x u w e)
          ∙ left_alone x' (taking x u v) w f
          ∙ sym (left_alone x (taking x' v u) w e)
          ∙ ap (taking x (taking x' v u)) (sym (left_alone x' v w f))

pub updated_in_any_order : UpdatedInAnyOrder
updated_in_any_order n x y x' y' words one two one_two two_one a b c d =
    let p : Asked n x y (length words) = asked_done (sym a.answer_is) in
    let r : Asked n x' y' (length words) = asked_done (sym c.answer_is) in
    same_parts 0 n one_two two_one
    (b.updated.length_same ∙ a.updated.length_same ∙ sym c.updated.length_same ∙ sym d.updated.length_same)
    (λ i h. b.updated.beyond_same i h ∙ a.updated.beyond_same i h ∙ sym (c.updated.beyond_same i h) ∙ sym (d.updated.beyond_same i h))
    (λ i h.
    b.updated.first i h
    ∙ ap₂ (taking x') (a.updated.first y' r.second) (a.updated.first i h)
    ∙ either_order x x' (point_word words y) (point_word words y') (point_word words i) (omega (arith, p.first, p.few)) (omega (arith, r.first, r.few))
    ∙ sym (ap₂ (taking x) (c.updated.first y p.second) (c.updated.first i h))
    ∙ sym (d.updated.first i h))
