-- What the six lists hold after every line of a list so far was set in them: each its part of every line, where there is room for them all. Assumes nothing.
use mathlib.Core.Path.{◌≡◌, refl, subst, ◌∙◌}
use mathlib.Core.Bool.{Bool, true, false, cond}
use mathlib.Core.List.{List, [], ◌∷◌}
use Prim.Native.Nat.{ℕ, suc, ◌%◌, ◌≤◌, ◌<◌, min}
use native.Mathlib.Decide.{ℕ_discrete}
use native.Mathlib.Omega.{arith}
use lib.Dec.{eqb, ltb}
use lib.ListN.{length, get_or, set, length-set}
use lib.Seq.{get_or-set_same, get_or-set_other}
use borrow.Author.Tests.{lt-ltb, le-ltb, eq-eqb, ne_eqb}
use Rattle.chain.specs.Lines.{Line, line_at}
use Rattle.chain.specs.Call.{Lists, room_of, Column, Listed}
use Rattle.reasons.specs.Notes.{set_at, word, set_line, laid}
use Rattle.reasons.specs.Room.{Roomy}

-- ---- one line

-- past the room no line is set
pub set_out : (room i : ℕ) (l : Line) (t : Lists) → room ≤ i → set_line room i l t ≡ t
unfolding set_line
set_out room i l t h = rw (le-ltb i room h)

-- within it each part is
pub set_in : (room i : ℕ) (l : Line) (t : Lists) → i < room
    → set_line room i l t
    ≡ record {
      kinds = set t.kinds i l.kind;
      froms = set t.froms i l.from;
      tos = set t.tos i l.to;
      weights = set t.weights i l.weight;
      firsts = set t.firsts i (word l.first);
      seconds = set t.seconds i (word l.second);
    }
unfolding set_line
set_in room i l t h = rw (lt-ltb i room h)

-- no list grows
part_length : {A : Type 0} (room i : ℕ) (v : A) (t : List A) → length (set_at room i v t) ≡ length t
part_length room i v t = by (ltb i room)
  where
    by : (b : Bool) → length (cond b (set t i v) t) ≡ length t
    by true = length-set t i v
    by false = refl

-- ---- every line

-- with no room the lists stay as they were
pub laid_none : (ls : List Line) (t : Lists) → laid 0 ls t ≡ t
unfolding laid
laid_none [] t = refl
laid_none (l ∷ ls) t = set_out 0 (length ls) l (laid 0 ls t) (omega arith) ∙ laid_none ls t

-- one more part of a line in its list
column_more : {A : Type 0} {d : A} {part : Line → A} {l : Line} {ls : List Line} {before after : List A} (room : ℕ) (v : A) → length ls < room → room ≤ length before
    → v ≡ part l → Column d part ls before after → Column d part (l ∷ ls) before (set_at room (length ls) v after)
column_more {A} {d} {part} {l} {ls} {before} {after} room v h r e c =
    record {
      length_same = part_length room (length ls) v after ∙ c.length_same;
      listed = λ i k. rw (lt-ltb (length ls) room h) (by i k (ℕ_discrete i (length ls)));
      beyond_same = λ i k. rw (lt-ltb (length ls) room h) (get_or-set_other after (length ls) i v d (omega arith) ∙ c.beyond_same i (omega arith));
    }
  where
    by : (i : ℕ) → i < suc (length ls) → Dec (i ≡ length ls) → get_or (set after (length ls) v) i d ≡ part (cond (eqb i (length ls)) l (line_at ls i))
    by i k (yes q) =
        let inside : length ls < length after = omega (arith, c.length_same) in
        rw (eq-eqb i (length ls) q, q) (get_or-set_same after (length ls) v d inside ∙ e)
    by i k (no q) = rw (ne_eqb i (length ls) q) (get_or-set_other after (length ls) i v d q ∙ c.listed i (omega (arith, q)))

-- an earlier line is where it was
earlier : (l : Line) (ls : List Line) (i : ℕ) → i < length ls → line_at (l ∷ ls) i ≡ line_at ls i
earlier l ls i k = rw (ne_eqb i (length ls) (omega arith))

-- where there is room for them all, each list holds its part of every line; references are below 4,294,967,296, as the cells that hold them ask
pub laid_listed : (room : ℕ) (ls : List Line) (t : Lists) → length ls ≤ room → Roomy room t
    → ((i : ℕ) → i < length ls → ((line_at ls i).first < 4_294_967_296) × ((line_at ls i).second < 4_294_967_296)) → Listed ls t (laid room ls t)
unfolding laid set_line
laid_listed room [] t h r few = record { kinds = none; froms = none; tos = none; weights = none; firsts = none; seconds = none }
  where
    none : {A : Type 0} {d : A} {part : Line → A} {t : List A} → Column d part [] t t
    none = record { length_same = refl; listed = λ i k. absurd (omega arith); beyond_same = λ i k. refl }
laid_listed room (l ∷ ls) t h r few =
    more
    (laid_listed room ls t (omega arith) r
    (λ i k. subst (λ (q : Line). (q.first < 4_294_967_296) × (q.second < 4_294_967_296)) (earlier l ls i k) (few i (omega arith))))
  where
    fits : length ls < room
    fits = omega arith

    same : (v : ℕ) → v < 4_294_967_296 → v % 4_294_967_296 ≡ v
    same v k = omega arith

    newest : line_at (l ∷ ls) (length ls) ≡ l
    newest = rw (eq-eqb (length ls) (length ls) refl)

    last : (l.first < 4_294_967_296) × (l.second < 4_294_967_296)
    last = subst (λ (q : Line). (q.first < 4_294_967_296) × (q.second < 4_294_967_296)) newest (few (length ls) (omega arith))

    more : Listed ls t (laid room ls t) → Listed (l ∷ ls) t (set_line room (length ls) l (laid room ls t))
    more rest =
        record {
          kinds = column_more room l.kind fits r.kinds refl rest.kinds;
          froms = column_more room l.from fits r.froms refl rest.froms;
          tos = column_more room l.to fits r.tos refl rest.tos;
          weights = column_more room l.weight fits r.weights refl rest.weights;
          firsts = column_more room (word l.first) fits r.firsts (same l.first last.0) rest.firsts;
          seconds = column_more room (word l.second) fits r.seconds (same l.second last.1) rest.seconds;
        }

-- ---- room

pub min_comm : (a b : ℕ) → min a b ≡ min b a
min_comm a b = omega arith

-- the room of six lists fits into each
pub room_roomy : (t : Lists) → Roomy (room_of t) t
unfolding room_of
room_roomy t =
    record {
      place = omega arith;
      kinds = omega arith;
      froms = omega arith;
      tos = omega arith;
      weights = omega arith;
      firsts = omega arith;
      seconds = omega arith;
    }
