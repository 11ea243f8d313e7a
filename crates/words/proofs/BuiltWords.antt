-- Words that Reach built: their bits are where the strict table has numbers, so what the
-- calls about points answer of them is what the table says, and after Judge it is where the plan's given edges lead. Assumes nothing.
use mathlib.Core.Path.{◌≡◌, refl, sym, ap, ap₂, subst, ◌∙◌}
use mathlib.Core.Logic.{◌≢◌, ⊎_elim}
use mathlib.Core.Bool.{Bool, true, not, ◌&&◌}
use mathlib.Core.List.{List}
use Prim.Native.Nat.{ℕ, ◌≤◌, ◌<◌}
use native.Mathlib.Omega.{arith}
use lib.Dec.{ltb}
use lib.ListN.{length}
use lib.IntN.{ℤ}
use Rattle.rules.specs.Answers.{Answer, Done}
use Rattle.rules.specs.Plan.{version1}
use Rattle.rules.specs.Cells.{Cell, mark, num, table_of}
use Rattle.rules.specs.Calls.{Judged, Written}
use Rattle.rules.proofs.Points.{Pointed, in_range_pointed}
use Rattle.rules.proofs.Leading.{Led, number_led, led_number}
use Rattle.cell.specs.Steps.{is_mark}
use Rattle.plan.specs.Layout.{plan_of}
use Rattle.plan.specs.File.{file_answer}
use Rattle.plan.proofs.SoundFile.{good}
use Rattle.std.specs.Prelude.{Ok, Err}
use Rattle.std.proofs.lemmas.Bool.{both_ways, cases_lt, lt-ltb}
use Rattle.std.proofs.lemmas.Bool.Decides.{nat_tests}
use Rattle.words.specs.Sets.{Set, word_bits, Lowest, Highest, Numbers, bit, word_of}
use Rattle.words.specs.Calls.{Room, asked_answer, bounds, point_word, Reached}
use Rattle.words.specs.Laws.{BitsOfBuilt, BoundedOfBuilt, BothOfBuilt, Leads, BitsOfJudged}
use Rattle.words.proofs.BitsOfWords.{no_bit, word_lt, word_fits, word_bit, word_has}
use Rattle.words.proofs.BitCounts.{ones_word, ones_number}
use Rattle.words.proofs.WordAnswers.{room_done, done_asked}

-- ---- of built words

module _ {n : ℕ} {strict : List ℤ} {words words' : List ℕ} (r : Reached n strict words Done words') where
  pub built_room : Room n (length strict) (length words)
  built_room = room_done (sym r.answer_is)

  pub built_word : (x : ℕ) → x < n → point_word words' x ≡ word_of n (bounds n strict x)
  built_word = r.built.first

  -- a call about points below n is answered
  pub built_asked : {x y : ℕ} → x < n → y < n → asked_answer n x y (length words') ≡ Done
  built_asked hx hy =
      done_asked (record {
        some = built_room.some;
        few = built_room.few;
        first = hx;
        second = hy;
        room = rw r.built.length_same built_room.room;
      })

pub bits_of_built : BitsOfBuilt
bits_of_built n strict words words' r x y h = ap (λ (w : ℕ). bit w y) (built_word r x h) ∙ word_has n (bounds n strict x) y

-- ---- the numbers

-- the numbers of a word of n bits are those of the points below n
module _ (n : ℕ) (s : Set) (few : n ≤ word_bits) where
  -- a bit is a point below n
  bit_below : (y : ℕ) → bit (word_of n s) y ≡ true → y < n
  bit_below y e = ⊎_elim (λ l. l) (λ l. absurd (both_ways (bit (word_of n s) y) (no_bit n (word_lt n s) y l) e)) (cases_lt y n)

  bit_point : {b : Bool} (y : ℕ) → y < n → bit (word_of n s) y ≡ b → s y ≡ b
  bit_point y h e = sym (word_bit n s y h) ∙ e

  lowest_point : {y : ℕ} → Lowest word_bits (bit (word_of n s)) y → Lowest n s y
  lowest_point (Lowest.lowest {y} h e b) =
      let l : y < n = bit_below y e in
      Lowest.lowest l (bit_point y l e) (λ z k. bit_point z (omega arith) (b z k))
  lowest_point (Lowest.none b) = Lowest.none (λ z h. bit_point z h (b z (omega arith)))

  highest_point : {y : ℕ} → Highest word_bits (bit (word_of n s)) y → Highest n s y
  highest_point (Highest.highest {y} h e b) =
      let l : y < n = bit_below y e in
      Highest.highest l (bit_point y l e) (λ z k j. bit_point z j (b z k (omega arith)))
  highest_point (Highest.none b) = Highest.none (λ z h. bit_point z h (b z (omega arith)))

  pub numbers_points : {number low high : ℕ} → Numbers word_bits (bit (word_of n s)) number low high → Numbers n s number low high
  numbers_points a = record {
    number_is = a.number_is ∙ sym (ones_number word_bits (word_of n s) (word_fits n s few)) ∙ ones_word n s;
    lowest_is = lowest_point a.lowest_is;
    highest_is = highest_point a.highest_is;
  }

pub bounded_of_built : BoundedOfBuilt
bounded_of_built n strict words words' x (Ok e) g h a = (
  e,
  refl,
  numbers_points n (bounds n strict x) (built_room g).few
      (subst (λ (w : ℕ). Numbers word_bits (bit w) e.number e.lowest e.highest) (built_word g x h) a.1),
)
bounded_of_built n strict words words' x (Err r) g h a = let d = built_asked g h h in absurd (cc)

-- the word that both points' words make has the bits of both, and of no point from n on
both_bits : {n : ℕ} (s t : Set) → n ≤ word_bits → (z : ℕ)
    → bit (word_of word_bits (λ y. bit (word_of n s) y && bit (word_of n t) y)) z ≡ (ltb z n && (s z && t z))
both_bits {n} s t few z =
    word_has word_bits (λ y. bit (word_of n s) y && bit (word_of n t) y) z
    ∙ ap₂ (λ (a b : Bool). ltb z word_bits && (a && b)) (word_has n s z) (word_has n t z)
    ∙ grind (arith, nat_tests)

pub both_of_built : BothOfBuilt
both_of_built n strict words words' x y (Ok w) g hx hy a = (
  w,
  refl,
  λ z.
      ap (λ (v : ℕ). bit v z) a.1
      ∙ ap₂ (λ (u v : ℕ). bit (word_of word_bits (λ y. bit u y && bit v y)) z) (built_word g x hx) (built_word g y hy)
      ∙ both_bits (bounds n strict x) (bounds n strict y) (built_room g).few z,
)
both_of_built n strict words words' x y (Err r) g hx hy a = let d = built_asked g hx hy in absurd (cc)

-- ---- after Judge

-- a cell that is no mark is a number
pub data Numbered (c : Cell) : Type 0 where
  numbered : {v : ℤ} → c ≡ num v → Numbered c

pub bounds_number : (c : Cell) → not (is_mark c) ≡ true → Numbered c
bounds_number mark e = absurd (cc)
bounds_number (num v) e = numbered refl

pub number_bounds : (c : Cell) → c ≢ mark → not (is_mark c) ≡ true
number_bounds mark d = absurd (d refl)
number_bounds (num v) d = refl

-- Judge's tables are the plan's where it answers Done
record Judgement (s : List ℕ) (strict weak strict' weak' : List ℤ) : Type 0 where
  sound : file_answer s ≡ Done
  written : Written version1 (plan_of s) strict weak strict' weak'

judged_done : {s : List ℕ} {strict weak strict' weak' : List ℤ} {a : Answer} → Judged version1 (file_answer s) (plan_of s) strict weak a strict' weak'
    → a ≡ Done → Judgement s strict weak strict' weak'
judged_done (Judged.bad_file d) i = absurd (d i)
judged_done (Judged.short_room e q) i = absurd (cc)
judged_done (Judged.uncontrollable e q u m) i = absurd (cc)
judged_done (Judged.judged e q w) i = record { sound = e; written = w }

pub bits_of_judged : BitsOfJudged
bits_of_judged s strict weak strict' weak' words words' j r x y hx hy = (there, back)
  where
    n : ℕ
    n = (plan_of s).points

    judgement : Judgement s strict weak strict' weak'
    judgement = judged_done j refl

    pointed : Pointed (plan_of s)
    pointed = in_range_pointed (good s judgement.sound).ranges

    -- the bit of a point below n says whether its cell is a number
    bit_is : bit (point_word words' x) y ≡ bounds n strict' x y
    bit_is = bits_of_built n strict' words words' r x y hx ∙ ap (λ (t : Bool). t && bounds n strict' x y) (lt-ltb y n hy)

    walked : Numbered (table_of version1 n strict' x y) → Leads (plan_of s) x y
    walked (numbered e) =
        let l : Led (plan_of s) x y = number_led pointed judgement.written.tables hx hy e in
        (l.total, l.walk)

    there : bit (point_word words' x) y ≡ true → Leads (plan_of s) x y
    there e = walked (bounds_number (table_of version1 n strict' x y) (sym bit_is ∙ e))

    back : Leads (plan_of s) x y → bit (point_word words' x) y ≡ true
    back l =
        bit_is
        ∙ number_bounds (table_of version1 n strict' x y)
        (led_number pointed judgement.written.tables hx hy (record { total = l.0; walk = l.1 }))
