-- One answer: two answers that meet a call's statement are equal, in code, number and every lent word. What a set's numbers are is settled by
-- the set, and of a word of 0 they are those of no point. Assumes nothing.
use mathlib.Core.Path.{◌≡◌, refl, sym, ap, ◌∙◌}
use mathlib.Core.Bool.{◌&&◌}
use mathlib.Core.List.{List}
use Prim.Native.Nat.{ℕ, ◌<◌}
use native.Mathlib.Omega.{arith}
use Rattle.std.specs.Prelude.{Ok, Err, OnOk, OnErr}
use Rattle.std.proofs.Common.{drop}
use Rattle.std.proofs.lemmas.Bool.{both_ways}
use Rattle.std.proofs.lemmas.Grind.{common_steps}
use lib.Count.{ones}
use Rattle.rules.specs.Answers.{Answer}
use Rattle.rules.proofs.Lists.{same_parts}
use Rattle.words.specs.Sets.{Set, word_bits, Lowest, Highest, Numbers, bit, word_of}
use Rattle.words.specs.Calls.{bounds, point_word, FirstWords, taking}
use Rattle.words.specs.Handed.{FirstNumbers}
use Rattle.words.specs.Laws.{WordOfZero, ReachedOnce, BoundedOnce, BothOnce, ReachAddedOnce, BoundedIntoOnce, BothIntoOnce}
use Rattle.words.proofs.BitCounts.{ones_number, no_points, zero_highest}

-- ---- the numbers of a set

pub lowest_once : {k : ℕ} {s : Set} {a b : ℕ} → Lowest k s a → Lowest k s b → a ≡ b
lowest_once {s} (Lowest.lowest {y = a} ha sa na) (Lowest.lowest {y = b} hb sb nb) =
    let up : a < b → ⊥ = λ l. both_ways (s a) (nb a l) sa in
    let down : b < a → ⊥ = λ l. both_ways (s b) (na b l) sb in
    omega arith
lowest_once {s} (Lowest.lowest {y = a} ha sa na) (Lowest.none nb) = absurd (both_ways (s a) (nb a ha) sa)
lowest_once {s} (Lowest.none na) (Lowest.lowest {y = b} hb sb nb) = absurd (both_ways (s b) (na b hb) sb)
lowest_once (Lowest.none na) (Lowest.none nb) = refl

pub highest_once : {k : ℕ} {s : Set} {a b : ℕ} → Highest k s a → Highest k s b → a ≡ b
highest_once {s} (Highest.highest {y = a} ha sa na) (Highest.highest {y = b} hb sb nb) =
    let up : a < b → ⊥ = λ l. both_ways (s b) (na b l hb) sb in
    let down : b < a → ⊥ = λ l. both_ways (s a) (nb a l ha) sa in
    omega arith
highest_once {s} (Highest.highest {y = a} ha sa na) (Highest.none nb) = absurd (both_ways (s a) (nb a ha) sa)
highest_once {s} (Highest.none na) (Highest.highest {y = b} hb sb nb) = absurd (both_ways (s b) (na b hb) sb)
highest_once (Highest.none na) (Highest.none nb) = refl

pub numbers_once : {k : ℕ} {s : Set} {n l h n' l' h' : ℕ} → Numbers k s n l h → Numbers k s n' l' h' → (n ≡ n') × (l ≡ l') × (h ≡ h')
numbers_once a b = (
  a.number_is ∙ sym b.number_is,
  lowest_once a.lowest_is b.lowest_is,
  highest_once a.highest_is b.highest_is,
)

-- those of a word of 0
pub word_of_zero : WordOfZero
unfolding ones
word_of_zero number low high n =
    numbers_once n (record { number_is = ones_number word_bits 0 (omega arith); lowest_is = Lowest.none no_points; highest_is = zero_highest })

-- ---- the calls

-- the first n words are written in one way
first_words_once : {n : ℕ} {new : ℕ → ℕ} {words u v : List ℕ} → FirstWords n new words u → FirstWords n new words v → u ≡ v
first_words_once {n} {u} {v} f g =
    same_parts 0 n u v (f.length_same ∙ sym g.length_same) (λ i h. f.beyond_same i h ∙ sym (g.beyond_same i h))
    (λ i h. f.first i h ∙ sym (g.first i h))

-- of one answer: what is written with 0, or kept with a refusal
left_once : (F : List ℕ → Type 0) (words : List ℕ) (a b : Answer) {u v : List ℕ} → a ≡ b → (F u → F v → u ≡ v) → OnOk a (F u) → OnErr a (u ≡ words)
    → OnOk b (F v) → OnErr b (v ≡ words) → u ≡ v
left_once F words (Ok done) (Ok done') e same f r g q = same f g
left_once F words (Err c) (Err d) e same f r g q = r ∙ sym q
left_once F words (Ok done) (Err d) e same f r g q = absurd (cc)
left_once F words (Err c) (Ok done) e same f r g q = absurd (cc)

pub reached_once : ReachedOnce
reached_once n strict words a b words₁ words₂ p q =
    let e = p.answer_is ∙ sym q.answer_is in
    (e, left_once (FirstWords n (λ x. word_of n (bounds n strict x)) words) words a b e first_words_once p.built p.refused q.built q.refused)

pub reach_added_once : ReachAddedOnce
reach_added_once n x y words a b words₁ words₂ p q =
    let e = p.answer_is ∙ sym q.answer_is in
    (e, left_once (FirstWords n (λ i. taking x (point_word words y) (point_word words i)) words) words a b e first_words_once p.updated p.refused q.updated q.refused)

pub bounded_once : BoundedOnce
bounded_once n words x (Ok e) (Ok f) a b =
    let q = numbers_once a.1 b.1 in
    λ i. Ok (record { number = q.0 i; lowest = q.1 i; highest = q.2 i })
bounded_once n words x (Ok e) (Err r) a b = absurd (cc)
bounded_once n words x (Err r) (Ok e) a b = absurd (cc)
bounded_once n words x (Err r) (Err q) a b = cc

pub both_once : BothOnce
both_once n words x y (Ok v) (Ok w) a b = ap Ok (a.1 ∙ sym b.1)
both_once n words x y (Ok v) (Err r) a b = absurd (cc)
both_once n words x y (Err r) (Ok v) a b = absurd (cc)
both_once n words x y (Err r) (Err q) a b = cc

-- ---- what C gets in a lent slice

first_numbers_once : {s : Set} {out u v : List ℕ} → FirstNumbers s out u → FirstNumbers s out v → u ≡ v
first_numbers_once {u} {v} f g =
    let e = numbers_once f.numbers g.numbers in
    let beyond : drop 3 u ≡ drop 3 v = f.beyond_same ∙ sym g.beyond_same in
    same_parts 0 3 u v (f.length_same ∙ sym g.length_same) (λ i h. grind (arith, common_steps)) (λ i h. grind (arith, common_steps))

pub bounded_into_once : BoundedIntoOnce
bounded_into_once n words x out a b out₁ out₂ p q =
    let e = p.answer_is ∙ sym q.answer_is in
    (e, left_once (FirstNumbers (bit (point_word words x)) out) out a b e first_numbers_once p.numbers p.refused q.numbers q.refused)

pub both_into_once : BothIntoOnce
both_into_once n words x y out a b out₁ out₂ p q =
    let e = p.answer_is ∙ sym q.answer_is in
    (e, left_once (FirstWords 1 (λ i. word_of word_bits (λ z. bit (point_word words x) z && bit (point_word words y) z)) out) out a b e first_words_once p.word p.refused q.word q.refused)
