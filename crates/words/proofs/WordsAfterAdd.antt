-- After a taken Add: the words updated from the new limit are those that Reach builds from the new strict table. A number of that table was there
-- before, or leads to the limit's beginning and on from its end; the update sets just those bits. Assumes nothing.
use mathlib.Core.Path.{◌≡◌, refl, sym, ap₂, ◌∙◌}
use mathlib.Core.Bool.{Bool, true, not, ◌&&◌, ◌||◌, or-true}
use mathlib.Core.List.{List}
use Prim.Native.Nat.{ℕ, ◌≤◌, ◌<◌}
use native.Mathlib.Omega.{arith}
use lib.Dec.{ltb}
use lib.ListN.{length}
use lib.IntN.{ℤ}
use Rattle.std.proofs.lemmas.Bool.Decides.{nat_tests, same_from_decides}
use Rattle.rules.specs.Answers.{Answer, Done}
use Rattle.rules.specs.Plan.{Limit, version1, LimitInRange}
use Rattle.rules.specs.Cells.{Cell, mark, num, Table, table_of}
use Rattle.rules.specs.Tables.{Closed}
use Rattle.rules.specs.Additions.{with_cells}
use Rattle.rules.specs.Calls.{Written, Added}
use Rattle.rules.proofs.Points.{Pointed, in_range_pointed}
use Rattle.rules.proofs.Leading.{Onward, before, through, added_number, number_added}
use Rattle.cell.specs.Steps.{is_mark}
use Rattle.plan.specs.Layout.{plan_of}
use Rattle.plan.specs.File.{file_answer, add_answer}
use Rattle.plan.proofs.SoundFile.{good, add_exactly}
use Rattle.words.specs.Sets.{Set, word_bits, word_of}
use Rattle.words.specs.Calls.{asked_answer, bounds, point_word, taking, Reached, ReachAdded}
use Rattle.words.specs.Laws.{UpdatedAsAfresh}
use Rattle.words.proofs.BitsOfWords.{same_bits, word_fits, word_has}
use Rattle.words.proofs.WordAnswers.{asked_done, done_room}
use Rattle.words.proofs.BuiltWords.{Numbered, numbered, bounds_number, number_bounds, built_room, built_word, built_asked}
use Rattle.words.proofs.UpdatedWords.{taking_lt, taking_bit}

-- ---- one word

-- the word of s that takes t's bits where s has x is the word of r, where r has just those points
taking_word : (n x : ℕ) (s t r : Set) → n ≤ word_bits → x < n → ((z : ℕ) → z < n → (s z || (s x && t z)) ≡ r z)
    → taking x (word_of n t) (word_of n s) ≡ word_of n r
taking_word n x s t r few hx e =
    same_bits word_bits (taking x (word_of n t) (word_of n s)) (word_of n r) (taking_lt x (word_of n t) (word_of n s) (word_fits n s few))
    (word_fits n r few)
    (λ z h.
    taking_bit x (word_of n t) (word_of n s) z h
    ∙ (λ i. word_has n s z i || (word_has n s x i && word_has n t z i))
    ∙ at z (e z)
    ∙ sym (word_has n r z))
  where
    at : (z : ℕ) → (z < n → (s z || (s x && t z)) ≡ r z) → (ltb z n && s z || (ltb x n && s x && (ltb z n && t z))) ≡ (ltb z n && r z)
    at z h = grind (arith, nat_tests)

-- ---- cells

-- whether a table has a number from x to y, or numbers over the limit
abbrev onwards : Table → Limit → ℕ → ℕ → Bool
onwards t m x y = not (is_mark (t x y)) || (not (is_mark (t x m.from)) && not (is_mark (t m.to y)))

test_onward : (t : Table) (m : Limit) (x y : ℕ) → onwards t m x y ≡ true → Onward t m x y
test_onward t m x y = by (t x y) refl (t x m.from) refl (t m.to y) refl
  where
    by : (c : Cell) → t x y ≡ c → (d : Cell) → t x m.from ≡ d → (e : Cell) → t m.to y ≡ e
        → (not (is_mark c) || (not (is_mark d) && not (is_mark e))) ≡ true → Onward t m x y
    by (num v) p d q e r h = before p
    by mark p mark q e r h = absurd (cc)
    by mark p (num a) q mark r h = absurd (cc)
    by mark p (num a) q (num b) r h = through q r

onward_test : {t : Table} {m : Limit} {x y : ℕ} → Onward t m x y → onwards t m x y ≡ true
onward_test {t} {m} {x} {y} (before e) = rw e
onward_test {t} {m} {x} {y} (through e f) = rw (e, f) (or-true (not (is_mark (t x y))))

-- ---- what Add did where it answers Done

record Addition (s : List ℕ) (m : Limit) (strict weak strict' weak' : List ℤ) : Type 0 where
  sound : add_answer s m ≡ Done
  closed : Closed version1 (plan_of s) (table_of version1 (plan_of s).points strict) (table_of version1 (plan_of s).points weak)
  written : Written version1 (with_cells (plan_of s) (table_of version1 (plan_of s).points strict) m) strict weak strict' weak'

added_done : {s : List ℕ} {m : Limit} {strict weak scratch strict' weak' scratch' : List ℤ} {a : Answer}
    → Added version1 (add_answer s m) (plan_of s) m strict weak scratch a strict' weak' scratch' → a ≡ Done → Addition s m strict weak strict' weak'
added_done (Added.bad_file d) i = absurd (d i)
added_done (Added.short_room e q) i = absurd (cc)
added_done (Added.not_closed e q l x f) i = absurd (cc)
added_done (Added.uncontrollable e q l c u f) i = absurd (cc)
added_done (Added.beyond e q l c t b f) i = absurd (cc)
added_done (Added.added e q l c w b f) i = record { sound = e; closed = c; written = w }

-- ---- the words

module _ {s : List ℕ} {m : Limit} {strict weak strict' weak' : List ℤ} (d : Addition s m strict weak strict' weak') where
  abbrev points : ℕ
  points = (plan_of s).points

  sound_file : file_answer s ≡ Done
  sound_file = ((add_exactly s m).0 d.sound).0

  limit_ranged : LimitInRange version1 points m
  limit_ranged = ((add_exactly s m).0 d.sound).1

  pointed : Pointed (plan_of s)
  pointed = in_range_pointed (good s sound_file).ranges

  -- the new table has a number where the old one has, or leads over the limit
  new_bounds : (x y : ℕ) → x < points → y < points → onwards (table_of version1 points strict) m x y ≡ bounds points strict' x y
  new_bounds x y hx hy = same_from_decides (onwards (table_of version1 points strict) m x y) (bounds points strict' x y) (there, back) (λ h. h, λ h. h)
    where
      there : onwards (table_of version1 points strict) m x y ≡ true → bounds points strict' x y ≡ true
      there e =
          number_bounds (table_of version1 points strict' x y)
          (number_added pointed d.closed limit_ranged.from limit_ranged.to d.written.tables hx hy
          (test_onward (table_of version1 points strict) m x y e))

      led : Numbered (table_of version1 points strict' x y) → onwards (table_of version1 points strict) m x y ≡ true
      led (numbered e) =
          onward_test (added_number pointed d.closed limit_ranged.from limit_ranged.to d.written.tables hx hy e)

      back : bounds points strict' x y ≡ true → onwards (table_of version1 points strict) m x y ≡ true
      back e = led (bounds_number (table_of version1 points strict' x y) e)

  module _ {words words₁ : List ℕ} (b : Reached points strict words Done words₁) where
    -- the update is taken, since the limit's points are below n
    taken : asked_answer points m.from m.to (length words₁) ≡ Done
    taken = built_asked b limit_ranged.from limit_ranged.to

    -- a word of the old table becomes that of the new one
    afresh : (i : ℕ) → i < points → taking m.from (point_word words₁ m.to) (point_word words₁ i) ≡ word_of points (bounds points strict' i)
    afresh i h =
        ap₂ (taking m.from) (built_word b m.to limit_ranged.to) (built_word b i h)
        ∙ taking_word points m.from (bounds points strict i) (bounds points strict m.to) (bounds points strict' i) (built_room b).few
        limit_ranged.from (λ z hz. new_bounds i z h hz)

    -- so the updated words are built from the new table
    rebuilt : {words₂ : List ℕ} → ReachAdded points m.from m.to words₁ Done words₂ → Reached points strict' words₁ Done words₂
    rebuilt u =
        let r = built_room b in
        record {
          answer_is = sym (done_room (record {
            some = r.some;
            few = r.few;
            table = rw d.written.strict_kept.length_same r.table;
            room = (asked_done (sym u.answer_is)).room;
          }));
          built = record {
            length_same = u.updated.length_same;
            first = λ i h. u.updated.first i h ∙ afresh i h;
            beyond_same = u.updated.beyond_same;
          };
          refused = tt;
        }

pub updated_as_afresh : UpdatedAsAfresh
updated_as_afresh s m strict weak scratch strict' weak' scratch' words words₁ words₂ a add reach update =
    let d : Addition s m strict weak strict' weak' = added_done add refl in
    let e : a ≡ Done = update.answer_is ∙ taken d reach in
    (e, rebuilt d reach (rw e at update))
