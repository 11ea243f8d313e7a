-- What the work room holds after a line was noted: where it held the bests of a list so far, it holds those of the list with the line. Assumes nothing.
use mathlib.Core.Path.{◌≡◌, refl, sym, ap, ◌∙◌}
use mathlib.Core.Bool.{Bool, true, false, cond, ◌&&◌}
use mathlib.Core.List.{List, ◌∷◌}
use Prim.Native.Nat.{ℕ, suc, ◌+◌, ◌*◌, ◌≤◌, ◌<◌}
use native.Mathlib.Decide.{ℕ_discrete}
use native.Mathlib.Numerals.{add-one}
use native.Mathlib.Omega.{arith}
use lib.Dec.{eqb}
use lib.ListN.{length, get_or, set, length-set}
use lib.Seq.{get_or-set_same, get_or-set_other}
use lib.IntN.{ℤ, pos}
use borrow.Author.Tests.{eq-eqb, ne_eqb}
use Rattle.whole.proofs.Place.{inside, same_row, same_column}
use Rattle.rules.specs.declared.Side.{Side}
use Rattle.rules.specs.declared.Side.TheVariants.{Strict, Open}
use Rattle.rules.specs.Cells.{num, Within}
use Rattle.rules.specs.Calls.{Kept}
use Rattle.cell.specs.Steps.{adding, roomy, cell64, belowᶜ, number_of}
use Rattle.cell.proofs.StoredCells.{within_stored, cell_back}
use Rattle.chain.specs.Lines.{Line, counts, Best, made, beats, best, weight_of, line_of, cells}
use Rattle.offers.specs.Work.{spot_of, part_of, weight_in, Holds}
use Rattle.offers.proofs.OfferLaws.{spot_below, beats_is}
use Rattle.reasons.specs.Notes.{note_pair, note_strict, note_line}

-- ---- where cells stand

-- an index is that of one pair in one table
module _ (p q : ℕ) {n x y x' y' : ℕ} (hx : x < n) (hy : y < n) (hx' : x' < n) (hy' : y' < n) (e : spot_of n p x y ≡ spot_of n q x' y') where
  pub spot_part : p ≡ q
  spot_part = same_row p q (inside hx hy) (inside hx' hy') e

  spot_within : x * n + y ≡ x' * n + y'
  spot_within = same_column p q (inside hx hy) (inside hx' hy') e

  pub spot_row : x ≡ x'
  spot_row = same_row x x' hy hy' spot_within

  pub spot_column : y ≡ y'
  spot_column = same_column x x' hy hy' spot_within

-- ---- the two cells written

-- the work room with a line in two of its tables
abbrev both : ℕ → ℕ → Line → ℕ → List ℤ → List ℤ
both n part l i work = set (set work (spot_of n part l.from l.to) l.weight) (spot_of n (suc part) l.from l.to) (pos i)

both_length : (n part : ℕ) (l : Line) (i : ℕ) (work : List ℤ) → length (both n part l i work) ≡ length work
both_length n part l i work =
    length-set (set work (spot_of n part l.from l.to) l.weight) (spot_of n (suc part) l.from l.to) (pos i)
    ∙ length-set work (spot_of n part l.from l.to) l.weight

module _ (n part : ℕ) (l : Line) (i : ℕ) (work : List ℤ) where
  -- every other cell holds what it held
  both_other : (j : ℕ) → (j ≡ spot_of n part l.from l.to → ⊥) → (j ≡ spot_of n (suc part) l.from l.to → ⊥)
      → get_or (both n part l i work) j (pos 0) ≡ get_or work j (pos 0)
  both_other j a b =
      get_or-set_other (set work (spot_of n part l.from l.to) l.weight) (spot_of n (suc part) l.from l.to) j (pos i) (pos 0) b
      ∙ get_or-set_other work (spot_of n part l.from l.to) j l.weight (pos 0) a

  module _ (hf : l.from < n) (ht : l.to < n) (hp : part < 3) (room : 4 * (n * n) ≤ length work) where
    both_weight : get_or (both n part l i work) (spot_of n part l.from l.to) (pos 0) ≡ l.weight
    both_weight =
        get_or-set_other (set work (spot_of n part l.from l.to) l.weight) (spot_of n (suc part) l.from l.to) (spot_of n part l.from l.to) (pos i)
        (pos 0)
        (λ e. let q : part ≡ suc part = spot_part part (suc part) hf ht hf ht e in omega arith)
        ∙ get_or-set_same work (spot_of n part l.from l.to) l.weight (pos 0) (omega (arith, spot_below {n = n} {part = part} hf ht (omega arith)))

    both_line : get_or (both n part l i work) (spot_of n (suc part) l.from l.to) (pos 0) ≡ pos i
    both_line =
        get_or-set_same (set work (spot_of n part l.from l.to) l.weight) (spot_of n (suc part) l.from l.to) (pos i) (pos 0)
        (rw (length-set work (spot_of n part l.from l.to) l.weight) (omega (arith, spot_below {n = n} {part = suc part} hf ht (omega arith))))

-- ---- as the code writes them

module _ (n part : ℕ) (l : Line) (i : ℕ) (work : List ℤ) {c : ℤ} {t : Bool} (read : c ≡ get_or work (spot_of n part l.from l.to) (pos 0))
    (test : t ≡ belowᶜ (cell64 l.weight) (cell64 c)) where
  below_is : belowᶜ (cell64 l.weight) (weight_in n work part l.from l.to) ≡ t
  below_is = rw (← read) (sym test)

  -- a weight that is not below the pair's best changes nothing
  pub pair_stays : t ≡ false → work ≡ note_pair n part l i work
  unfolding note_pair
  pair_stays f = rw (below_is ∙ f)

  -- one that is stands there, with the number of its line
  pub pair_written : {a b : ℕ} {v : ℤ} → t ≡ true → a ≡ spot_of n part l.from l.to → b ≡ spot_of n (part + 1) l.from l.to → v ≡ pos i
      → set (set work a l.weight) b v ≡ note_pair n part l i work
  unfolding note_pair
  pair_written f ea eb ev = rw (below_is ∙ f, ea, eb, ev, add-one part)

-- one after the other
pub line_written : (n : ℕ) (l : Line) (i : ℕ) (work : List ℤ) {mid last : List ℤ} → mid ≡ note_strict n l i work → last ≡ note_pair n 2 l i mid
    → last ≡ note_line n l i work
unfolding note_line
line_written n l i work e g = g ∙ ap (note_pair n 2 l i) e

-- ---- lengths, and the cells past the tables

pub pair_length : (n part : ℕ) (l : Line) (i : ℕ) (work : List ℤ) → length (note_pair n part l i work) ≡ length work
unfolding note_pair
pair_length n part l i work = by (belowᶜ (cell64 l.weight) (weight_in n work part l.from l.to))
  where
    by : (b : Bool) → length (cond b (both n part l i work) work) ≡ length work
    by true = both_length n part l i work
    by false = refl

pub strict_length : (n : ℕ) (l : Line) (i : ℕ) (work : List ℤ) → length (note_strict n l i work) ≡ length work
unfolding note_strict
strict_length n l i work = by (counts Strict l.kind)
  where
    by : (b : Bool) → length (cond b (note_pair n 0 l i work) work) ≡ length work
    by true = pair_length n 0 l i work
    by false = refl

pub note_length : (n : ℕ) (l : Line) (i : ℕ) (work : List ℤ) → length (note_line n l i work) ≡ length work
unfolding note_line
note_length n l i work = pair_length n 2 l i (note_strict n l i work) ∙ strict_length n l i work

-- a cell that is neither of the two
pair_other : (n part : ℕ) (l : Line) (i : ℕ) (work : List ℤ) (j : ℕ) → (j ≡ spot_of n part l.from l.to → ⊥)
    → (j ≡ spot_of n (suc part) l.from l.to → ⊥) → get_or (note_pair n part l i work) j (pos 0) ≡ get_or work j (pos 0)
unfolding note_pair
pair_other n part l i work j a b = by (belowᶜ (cell64 l.weight) (weight_in n work part l.from l.to))
  where
    by : (t : Bool) → get_or (cond t (both n part l i work) work) j (pos 0) ≡ get_or work j (pos 0)
    by true = both_other n part l i work j a b
    by false = refl

pair_beyond : (n part : ℕ) (l : Line) (i : ℕ) (work : List ℤ) → l.from < n → l.to < n → part < 3 → (j : ℕ) → 4 * (n * n) ≤ j
    → get_or (note_pair n part l i work) j (pos 0) ≡ get_or work j (pos 0)
pair_beyond n part l i work hf ht hp j h =
    pair_other n part l i work j (λ e. omega (arith, spot_below {n = n} {part = part} hf ht (omega arith)))
    (λ e. omega (arith, spot_below {n = n} {part = suc part} hf ht (omega arith)))

strict_beyond : (n : ℕ) (l : Line) (i : ℕ) (work : List ℤ) → l.from < n → l.to < n → (j : ℕ) → 4 * (n * n) ≤ j
    → get_or (note_strict n l i work) j (pos 0) ≡ get_or work j (pos 0)
unfolding note_strict
strict_beyond n l i work hf ht j h = by (counts Strict l.kind)
  where
    by : (b : Bool) → get_or (cond b (note_pair n 0 l i work) work) j (pos 0) ≡ get_or work j (pos 0)
    by true = pair_beyond n 0 l i work hf ht (omega arith) j h
    by false = refl

pub note_beyond : (n : ℕ) (l : Line) (i : ℕ) (work : List ℤ) → l.from < n → l.to < n → Kept (4 * (n * n)) work (note_line n l i work)
unfolding note_line
note_beyond n l i work hf ht =
    record {
      length_same = note_length n l i work;
      beyond_same = λ j h. pair_beyond n 2 l i (note_strict n l i work) hf ht (omega arith) j h ∙ strict_beyond n l i work hf ht j h;
    }

-- ---- the bests

-- two tables hold the weights and the lines of some bests
record Half (n part : ℕ) (b : ℕ → ℕ → Best) (work : List ℤ) : Type 0 where
  weight : (x y : ℕ) → x < n → y < n → get_or work (spot_of n part x y) (pos 0) ≡ number_of adding.mark (weight_of (b x y))
  line : (x y : ℕ) → x < n → y < n → get_or work (spot_of n (suc part) x y) (pos 0) ≡ pos (line_of (b x y))

-- the bests with one line more
abbrev more : Bool → Line → ℕ → (ℕ → ℕ → Best) → ℕ → ℕ → Best
more counted l i b x y = cond ((counted && (eqb l.from x && eqb l.to y)) && beats l.weight (b x y)) (made i l.weight) (b x y)

-- those of the other two tables stay
half_kept : {n q part : ℕ} {b : ℕ → ℕ → Best} {work : List ℤ} (l : Line) (i : ℕ) → l.from < n → l.to < n → (q ≡ part → ⊥) → (q ≡ suc part → ⊥)
    → (suc q ≡ part → ⊥) → Half n q b work → Half n q b (note_pair n part l i work)
half_kept {n} {q} {part} {b} {work} l i hf ht d e f h =
    record {
      weight = λ x y hx hy. pair_other n part l i work (spot_of n q x y) (λ g. d (spot_part q part hx hy hf ht g)) (λ g. e (spot_part q (suc part) hx hy hf ht g))
          ∙ h.weight x y hx hy;
      line = λ x y hx hy. pair_other n part l i work (spot_of n (suc q) x y) (λ g. f (spot_part (suc q) part hx hy hf ht g))
          (λ g. let k : suc q ≡ suc part = spot_part (suc q) (suc part) hx hy hf ht g in d (omega arith))
          ∙ h.line x y hx hy;
    }

-- a pair is that of the line, or another
pair_is : (l : Line) (x y : ℕ) → Dec ((l.from ≡ x) × (l.to ≡ y))
pair_is l x y =
    elim (ℕ_discrete l.from x) [
      | yes p ↦ elim (ℕ_discrete l.to y) [
        | yes q ↦ yes (p, q)
        | no q ↦ no (λ e. q e.1)
      ]
      | no p ↦ no (λ e. p e.0)
    ]

other_pair : (l : Line) (x y : ℕ) → ((l.from ≡ x) × (l.to ≡ y) → ⊥) → (eqb l.from x && eqb l.to y) ≡ false
other_pair l x y ne =
    elim (ℕ_discrete l.from x) [
      | yes p ↦ rw (eq-eqb l.from x p, ne_eqb l.to y (λ q. ne (p, q)))
      | no p ↦ rw (ne_eqb l.from x p)
    ]

-- those of the line's own tables are the bests with the line
module _ {n part : ℕ} {b : ℕ → ℕ → Best} {work : List ℤ} (l : Line) (i : ℕ) (hf : l.from < n) (ht : l.to < n) (hp : part < 3)
    (room : 4 * (n * n) ≤ length work) (number : cell64 l.weight ≡ num l.weight) (near : Within roomy.reach (weight_of (b l.from l.to)))
    (h : Half n part b work) where
  test_is : belowᶜ (cell64 l.weight) (weight_in n work part l.from l.to) ≡ beats l.weight (b l.from l.to)
  unfolding adding
  test_is =
      rw (number, h.weight l.from l.to hf ht)
      (ap (belowᶜ (num l.weight))
      (cell_back adding.mark roomy.reach (omega arith) (weight_of (b l.from l.to)) (within_stored roomy.reach (weight_of (b l.from l.to)) near))
      ∙ sym (beats_is l.weight (b l.from l.to)))

  weight_more : (x y : ℕ) → x < n → y < n → (t : Bool) → beats l.weight (b l.from l.to) ≡ t → Dec ((l.from ≡ x) × (l.to ≡ y))
      → get_or (cond t (both n part l i work) work) (spot_of n part x y) (pos 0) ≡ number_of adding.mark (weight_of (more true l i b x y))
  weight_more x y hx hy true e (yes q) = rw (← q.0, ← q.1, eq-eqb l.from l.from refl, eq-eqb l.to l.to refl, e) (both_weight n part l i work hf ht hp room)
  weight_more x y hx hy false e (yes q) = rw (← q.0, ← q.1, eq-eqb l.from l.from refl, eq-eqb l.to l.to refl, e) (h.weight l.from l.to hf ht)
  weight_more x y hx hy true e (no q) =
      rw (other_pair l x y q)
      (both_other n part l i work (spot_of n part x y) (λ g. q (sym (spot_row part part hx hy hf ht g), sym (spot_column part part hx hy hf ht g)))
      (λ g. let k : part ≡ suc part = spot_part part (suc part) hx hy hf ht g in omega arith)
      ∙ h.weight x y hx hy)
  weight_more x y hx hy false e (no q) = rw (other_pair l x y q) (h.weight x y hx hy)

  line_more : (x y : ℕ) → x < n → y < n → (t : Bool) → beats l.weight (b l.from l.to) ≡ t → Dec ((l.from ≡ x) × (l.to ≡ y))
      → get_or (cond t (both n part l i work) work) (spot_of n (suc part) x y) (pos 0) ≡ pos (line_of (more true l i b x y))
  line_more x y hx hy true e (yes q) = rw (← q.0, ← q.1, eq-eqb l.from l.from refl, eq-eqb l.to l.to refl, e) (both_line n part l i work hf ht hp room)
  line_more x y hx hy false e (yes q) = rw (← q.0, ← q.1, eq-eqb l.from l.from refl, eq-eqb l.to l.to refl, e) (h.line l.from l.to hf ht)
  line_more x y hx hy true e (no q) =
      rw (other_pair l x y q)
      (both_other n part l i work (spot_of n (suc part) x y) (λ g. let k : suc part ≡ part = spot_part (suc part) part hx hy hf ht g in omega arith)
      (λ g. q (sym (spot_row (suc part) (suc part) hx hy hf ht g), sym (spot_column (suc part) (suc part) hx hy hf ht g)))
      ∙ h.line x y hx hy)
  line_more x y hx hy false e (no q) = rw (other_pair l x y q) (h.line x y hx hy)

  half_noted : Half n part (more true l i b) (note_pair n part l i work)
  unfolding note_pair
  half_noted =
      record {
        weight = λ x y hx hy. rw test_is (weight_more x y hx hy (beats l.weight (b l.from l.to)) refl (pair_is l x y));
        line = λ x y hx hy. rw test_is (line_more x y hx hy (beats l.weight (b l.from l.to)) refl (pair_is l x y));
      }

-- the strict tables, where the line counts or does not
strict_noted : {n : ℕ} {b : ℕ → ℕ → Best} {work : List ℤ} (l : Line) (i : ℕ) → l.from < n → l.to < n → 4 * (n * n) ≤ length work
    → cell64 l.weight ≡ num l.weight → Within roomy.reach (weight_of (b l.from l.to)) → Half n 0 b work
    → Half n 0 (more (counts Strict l.kind) l i b) (note_strict n l i work)
unfolding note_strict
strict_noted {n} {b} {work} l i hf ht room number near h = by (counts Strict l.kind)
  where
    by : (t : Bool) → Half n 0 (more t l i b) (cond t (note_pair n 0 l i work) work)
    by true = half_noted l i hf ht (omega arith) room number near h
    by false = record { weight = h.weight; line = h.line }

-- and what the open tables hold meanwhile
strict_kept : {n : ℕ} {b : ℕ → ℕ → Best} {work : List ℤ} (l : Line) (i : ℕ) → l.from < n → l.to < n → Half n 2 b work → Half n 2 b (note_strict n l i work)
unfolding note_strict
strict_kept {n} {b} {work} l i hf ht h = by (counts Strict l.kind)
  where
    by : (t : Bool) → Half n 2 b (cond t (note_pair n 0 l i work) work)
    by true = half_kept l i hf ht (omega arith) (omega arith) (omega arith) h
    by false = h

-- the work room holds the bests of the list with the line
pub noted : (n : ℕ) (l : Line) (ls : List Line) (work : List ℤ) → l.from < n → l.to < n → cell64 l.weight ≡ num l.weight
    → ((s : Side) (x y : ℕ) → x < n → y < n → Within roomy.reach (cells s ls x y)) → Holds n ls work → Holds n (l ∷ ls) (note_line n l (length ls) work)
unfolding note_line best
noted n l ls work hf ht number near h =
    record {
      room = rw (note_length n l (length ls) work) h.room;
      weight = weights;
      line = lines;
    }
  where
    strict : Half n 0 (more (counts Strict l.kind) l (length ls) (λ x y. best Strict x y ls)) (note_pair n 2 l (length ls) (note_strict n l (length ls) work))
    strict =
        half_kept {b = more (counts Strict l.kind) l (length ls) (λ x y. best Strict x y ls)} l (length ls) hf ht (omega arith) (omega arith) (omega arith)
        (strict_noted {b = λ x y. best Strict x y ls} l (length ls) hf ht h.room number (near Strict l.from l.to hf ht) (record { weight = h.weight Strict; line = h.line Strict }))

    «open» : Half n 2 (more true l (length ls) (λ x y. best Open x y ls)) (note_pair n 2 l (length ls) (note_strict n l (length ls) work))
    «open» =
        half_noted {b = λ x y. best Open x y ls} l (length ls) hf ht (omega arith) (rw (strict_length n l (length ls) work) h.room) number (near Open l.from l.to hf ht)
        (strict_kept {b = λ x y. best Open x y ls} l (length ls) hf ht (record { weight = h.weight Open; line = h.line Open }))

    weights : (s : Side) (x y : ℕ) → x < n → y < n
        → get_or (note_line n l (length ls) work) (spot_of n (part_of s) x y) (pos 0) ≡ number_of adding.mark (cells s (l ∷ ls) x y)
    weights Strict = strict.weight
    weights Open = «open».weight

    lines : (s : Side) (x y : ℕ) → x < n → y < n
        → get_or (note_line n l (length ls) work) (spot_of n (suc (part_of s)) x y) (pos 0) ≡ pos (line_of (best s x y (l ∷ ls)))
    lines Strict = strict.line
    lines Open = «open».line
