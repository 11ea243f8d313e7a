-- The work room before any line: the loops that write it, one cell after another, and that it then holds the bests of no line. Assumes nothing.
use mathlib.Core.Path.{◌≡◌, refl, sym, ap, ◌∙◌}
use mathlib.Core.Logic.{⊎_elim}
use mathlib.Core.List.{List, []}
use Prim.Native.Nat.{ℕ, suc, ◌+◌, ◌*◌, ◌≤◌, ◌<◌}
use native.Mathlib.Decide.{ℕ_discrete}
use native.Mathlib.Nat.{eq-or-lt_of_le}
use native.Mathlib.Omega.{arith}
use lib.ListN.{length, get_or, set, length-set}
use lib.Seq.{get_or-set_same, get_or-set_other}
use lib.IntN.{ℤ, pos}
use borrow.Author.Tests.{eq-eqb, ne_eqb}
use Rattle.whole.proofs.Place.{inside}
use Rattle.rules.specs.declared.Side.{Side}
use Rattle.rules.specs.declared.Side.TheVariants.{Strict, Open}
use Rattle.rules.specs.Cells.{mark}
use Rattle.rules.specs.Calls.{Kept, Filled}
use Rattle.cell.specs.Steps.{adding, cell64, number_of}
use Rattle.cell.proofs.StoredCells.{number_of_lem}
use Rattle.chain.specs.Lines.{best, line_of, cells}
use Rattle.offers.specs.Work.{spot_of, part_of, Holds}
use Rattle.offers.proofs.OfferLaws.{spot_below}
use Rattle.reasons.specs.Starting.{Between, Diagonal}
use Rattle.reasons.proofs.NoteLaws.{spot_part, spot_row, spot_column}

-- ---- a diagonal

pub diagonal_none : {n part : ℕ} {t : List ℤ} → Diagonal n part 0 t t
diagonal_none = record { length_same = refl; on = λ x h. absurd (omega arith); off = λ i h. refl }

pub diagonal_more : {n part x : ℕ} {start now : List ℤ} → Diagonal n part x start now → x < n → part < 4 → 4 * (n * n) ≤ length now → {at : ℕ} → at ≡ spot_of n part x x
    → {next : List ℤ} → next ≡ set now at (pos 0) → Diagonal n part (x + 1) start next
diagonal_more {n} {part} {x} {start} {now} d h hp room ea e =
    let within : spot_of n part x x < length now = omega (arith, room, spot_below {n = n} {part = part} h h hp) in
    rw (e, ea)
    (record {
      length_same = length-set now (spot_of n part x x) (pos 0) ∙ d.length_same;
      on = λ y k. ⊎_elim
          (λ (q : y ≡ x). rw q (get_or-set_same now (spot_of n part x x) (pos 0) (pos 0) within))
          (λ (l : y < x). get_or-set_other now (spot_of n part x x) (spot_of n part y y) (pos 0) (pos 0)
          (λ g. let r : y ≡ x = spot_row part part (omega arith) (omega arith) h h g in omega arith)
          ∙ d.on y l)
          (eq-or-lt_of_le (omega arith));
      off = λ i k. get_or-set_other now (spot_of n part x x) i (pos 0) (pos 0) (λ g. k x (omega arith) g) ∙ d.off i (λ y l. k y (omega arith));
    })

-- ---- all four tables

module _ {n part : ℕ} {before after : List ℤ} (d : Diagonal n part n before after) where
  -- another table
  elsewhere : (q x y : ℕ) → x < n → y < n → (q ≡ part → ⊥) → get_or after (spot_of n q x y) (pos 0) ≡ get_or before (spot_of n q x y) (pos 0)
  elsewhere q x y hx hy ne = d.off (spot_of n q x y) (λ z hz e. ne (spot_part q part hx hy hz hz e))

  -- past the tables
  past : part < 4 → (i : ℕ) → 4 * (n * n) ≤ i → get_or after i (pos 0) ≡ get_or before i (pos 0)
  past hp i h = d.off i (λ z hz e. omega (arith, spot_below {n = n} {part = part} hz hz hp))

  -- its own, which held the mark everywhere
  crossed : (s : Side) (x y : ℕ) → x < n → y < n → get_or before (spot_of n part x y) (pos 0) ≡ pos adding.mark
      → get_or after (spot_of n part x y) (pos 0) ≡ number_of adding.mark (cells s [] x y)
  unfolding best
  crossed s x y hx hy e =
      elim (ℕ_discrete x y) [
        | yes p ↦ rw (eq-eqb x y p, p) (d.on y hy)
        | no p ↦ rw (ne_eqb x y p) (d.off (spot_of n part x y) (λ z hz g. p (spot_row part part hx hy hz hz g ∙ sym (spot_column part part hx hy hz hz g))) ∙ e)
      ]

-- no line has a number but 0
no_number : (s : Side) (x y : ℕ) → 0 ≡ line_of (best s x y [])
unfolding best
no_number s x y =
    elim (ℕ_discrete x y) [
      | yes p ↦ rw (eq-eqb x y p)
      | no p ↦ rw (ne_eqb x y p)
    ]

-- cleared, the weights filled with the mark, and the points to themselves 0
module _ {n : ℕ} {w₀ w₁ w₂ w₃ w₄ w₅ : List ℤ} {v : ℤ} (room : 4 * (n * n) ≤ length w₀) (none : cell64 v ≡ mark) (a : Filled (4 * (n * n)) (pos 0) w₀ w₁)
    (b : Between (0 * (n * n)) ((0 + 1) * (n * n)) v w₁ w₂) (c : Between (2 * (n * n)) ((2 + 1) * (n * n)) v w₂ w₃) (d : Diagonal n 0 n w₃ w₄) (e : Diagonal n 2 n w₄ w₅) where
  is_mark_lem : v ≡ pos adding.mark
  is_mark_lem = number_of_lem adding.mark none

  begun_length : length w₅ ≡ length w₀
  begun_length = e.length_same ∙ d.length_same ∙ c.length_same ∙ b.length_same ∙ a.kept.length_same

  pub begun_kept : Kept (4 * (n * n)) w₀ w₅
  begun_kept =
      record {
        length_same = begun_length;
        beyond_same = λ i h. past e (omega arith) i h
            ∙ past d (omega arith) i h
            ∙ c.beyond_same i (omega arith)
            ∙ b.beyond_same i (omega arith)
            ∙ a.kept.beyond_same i h;
      }

  pub begun : Holds n [] w₅
  begun = record { room = rw begun_length room; weight = weights; line = lines }
    where
      weights : (s : Side) (x y : ℕ) → x < n → y < n → get_or w₅ (spot_of n (part_of s) x y) (pos 0) ≡ number_of adding.mark (cells s [] x y)
      weights Strict x y hx hy =
          let k = inside hx hy in
          elsewhere e 0 x y hx hy (omega arith)
          ∙ crossed d Strict x y hx hy (c.before_same (spot_of n 0 x y) (omega (arith, k)) ∙ b.all_same (spot_of n 0 x y) (omega arith) (omega (arith, k)) ∙ is_mark_lem)
      weights Open x y hx hy =
          let k = inside hx hy in
          crossed e Open x y hx hy
          (elsewhere d 2 x y hx hy (omega arith) ∙ c.all_same (spot_of n 2 x y) (omega arith) (omega (arith, k)) ∙ is_mark_lem)

      lines : (s : Side) (x y : ℕ) → x < n → y < n → get_or w₅ (spot_of n (suc (part_of s)) x y) (pos 0) ≡ pos (line_of (best s x y []))
      lines Strict x y hx hy =
          let k = inside hx hy in
          elsewhere e 1 x y hx hy (omega arith)
          ∙ elsewhere d 1 x y hx hy (omega arith)
          ∙ c.before_same (spot_of n 1 x y) (omega (arith, k))
          ∙ b.beyond_same (spot_of n 1 x y) (omega (arith, k))
          ∙ a.all_same (spot_of n 1 x y) (omega (arith, k))
          ∙ ap pos (no_number Strict x y)
      lines Open x y hx hy =
          let k = inside hx hy in
          elsewhere e 3 x y hx hy (omega arith)
          ∙ elsewhere d 3 x y hx hy (omega arith)
          ∙ c.beyond_same (spot_of n 3 x y) (omega (arith, k))
          ∙ b.beyond_same (spot_of n 3 x y) (omega (arith, k))
          ∙ a.all_same (spot_of n 3 x y) (omega (arith, k))
          ∙ ap pos (no_number Open x y)
