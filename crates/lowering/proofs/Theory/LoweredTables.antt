-- Lowering one cell, and steps made of it: lengths and cells past the room stay, no cell rises, the stored range stays, and what is fair was so
-- before. Over any coherent ranges, so at any width. Assumes nothing.
use mathlib.Core.Path.{◌≡◌, refl, ap, ◌∙◌}
use mathlib.Core.Bool.{Bool, true, false, cond}
use mathlib.Core.Logic.{◌⊎◌, inl, inr, ⊎_elim}
use mathlib.Core.List.{List}
use Prim.Native.Nat.{ℕ, zero, suc, ◌+◌, ◌*◌, ◌≤◌, ◌<◌}
use native.Mathlib.Omega.{arith}
use lib.ListN.{length, get_or, length-set}
use lib.Seq.{get_or-set_other}
use lib.IntN.{ℤ, pos}
use Rattle.whole.proofs.Order.{ints}
use Rattle.whole.proofs.Place.{inside, after_write}
use Rattle.rules.specs.Plan.{Ranges}
use Rattle.rules.proofs.Coherence.{Coherent}
use Rattle.rules.specs.Cells.{Cell, mark, num, ◌≤ᶜ◌, Within, cell_of, table_of}
use Rattle.cell.specs.Steps.{smallerᶜ, Stored, clamped, number_of}
use Rattle.lowering.specs.Table.{Sound}
use Rattle.lowering.specs.Fair.{Fair}
use Rattle.lowering.specs.Sweep.{iter, lower_cell}
use Rattle.cell.proofs.StoredCells.{≤ᶜ_refl, ≤ᶜ_trans, smaller_left, smaller_right, clamped_stored}
use Rattle.lowering.proofs.Theory.StoredNumbers.{cell_of_number, smaller_keeps}

-- u is t with cells lowered
pub record Lowered (r : Ranges) (n : ℕ) (t u : List ℤ) : Type 0 where
  pub same_length : length u ≡ length t
  pub beyond : (i : ℕ) → n * n ≤ i → get_or u i (pos zero) ≡ get_or t i (pos zero)
  pub down : (x y : ℕ) → x < n → y < n → table_of r n u x y ≤ᶜ table_of r n t x y
  pub sound : Sound r n u

pub lowered_refl : (r : Ranges) (n : ℕ) (t : List ℤ) → Sound r n t → Lowered r n t t
lowered_refl r n t s =
    record { same_length = refl; beyond = λ i h. refl; down = λ x y hx hy. ≤ᶜ_refl (table_of r n t x y); sound = s }

pub lowered_trans : (r : Ranges) (n : ℕ) (t u v : List ℤ) → Lowered r n t u → Lowered r n u v → Lowered r n t v
lowered_trans r n t u v a b =
    record {
      same_length = b.same_length ∙ a.same_length;
      beyond = λ i h. b.beyond i h ∙ a.beyond i h;
      down = λ x y hx hy. ≤ᶜ_trans (table_of r n v x y) (table_of r n u x y) (table_of r n t x y) (b.down x y hx hy) (a.down x y hx hy);
      sound = b.sound;
    }

-- a list lowered, and that lowered
pub lowered_then : {r : Ranges} {n : ℕ} {t u v : List ℤ} → Lowered r n t u → (Sound r n u → Lowered r n u v) → Lowered r n t v
lowered_then {r} {n} {t} {u} {v} a f = lowered_trans r n t u v a (f a.sound)

-- what both sides of a test keep
pub by_test : (P : List ℤ → Type 0) (b : Bool) {t u : List ℤ} → (b ≡ true → P t) → (b ≡ false → P u) → P (cond b t u)
by_test P true p q = p refl
by_test P false p q = q refl

-- a cell that was at most another stays so
pub lowered_below : {r : Ranges} {n : ℕ} {t u : List ℤ} → Lowered r n t u → (x y : ℕ) → x < n → y < n → (c : Cell) → table_of r n t x y ≤ᶜ c
    → table_of r n u x y ≤ᶜ c
lowered_below {r} {n} {t} {u} l x y hx hy c q = ≤ᶜ_trans (table_of r n u x y) (table_of r n t x y) c (l.down x y hx hy) q

-- a fair table was fair before it was lowered
pub fair_before : {r : Ranges} {n : ℕ} {t u : List ℤ} → Sound r n t → Lowered r n t u → Fair r n u → Fair r n t
fair_before {r} {n} {t} {u} s l f =
    record {
      within = λ x y hx hy.
          within (table_of r n t x y) (table_of r n u x y) (s.stored x y hx hy) (l.down x y hx hy) (f.within x y hx hy);
      diagonal = λ x hx.
          ≤ᶜ_trans (num (pos zero)) (table_of r n u x x) (table_of r n t x x) (f.diagonal x hx) (l.down x x hx hx);
    }
  where
    within : (c d : Cell) → Stored r.reach c → d ≤ᶜ c → Within r.reach d → Within r.reach c
    within mark d k q m = tt
    within (num c) mark k q m = absurd q
    within (num c) (num d) k q m = (omega (ints, q, m.0), k.1)

-- ---- one cell

module _ (r : Ranges) (h : Coherent r) (n : ℕ) where
  -- what a cell is after one was lowered
  pub after_lowering : (x y : ℕ) (c : Cell) (t : List ℤ) → Sound r n t → x < n → y < n → (x' y' : ℕ) → x' < n → y' < n
      → (((x' ≡ x) × (y' ≡ y)) × (table_of r n (lower_cell r n x y c t) x' y' ≡ smallerᶜ (clamped r.reach c) (table_of r n t x y)))
      ⊎ (((x' ≡ x) × (y' ≡ y) → ⊥) × (table_of r n (lower_cell r n x y c t) x' y' ≡ table_of r n t x' y'))
  unfolding table_of lower_cell
  after_lowering x y c t s hx hy x' y' hx' hy' =
      let new : Cell = smallerᶜ (clamped r.reach c) (table_of r n t x y) in
      let stored : Stored r.reach new =
      smaller_keeps (Stored r.reach) (clamped r.reach c) (table_of r n t x y) (clamped_stored r.reach c) (s.stored x y hx hy) in
      ⊎_elim (λ e. inl (e.0, ap (cell_of r.mark) e.1 ∙ cell_of_number r h new stored))
      (λ e. inr (e.0, ap (cell_of r.mark) e.1))
      (after_write t (number_of r.mark new) (pos zero) hx' hy' hx hy s.room)

  -- what holds of every cell and of the lowered one holds of every cell after
  pub lowering_keeps : (P : ℕ → ℕ → Cell → Type 0) (x y : ℕ) (c : Cell) (t : List ℤ) → Sound r n t → x < n → y < n
      → P x y (smallerᶜ (clamped r.reach c) (table_of r n t x y)) → ((x y : ℕ) → x < n → y < n → P x y (table_of r n t x y))
      → (x' y' : ℕ) → x' < n → y' < n → P x' y' (table_of r n (lower_cell r n x y c t) x' y')
  lowering_keeps P x y c t s hx hy new old x' y' hx' hy' =
      ⊎_elim (λ e. rw (e.1, e.0.0, e.0.1) new) (λ e. rw e.1 (old x' y' hx' hy')) (after_lowering x y c t s hx hy x' y' hx' hy')

  -- lowering a cell lowers the list
  pub cell_lowered : (x y : ℕ) (c : Cell) (t : List ℤ) → x < n → y < n → Sound r n t → Lowered r n t (lower_cell r n x y c t)
  unfolding lower_cell
  cell_lowered x y c t hx hy s =
      let old : Cell = table_of r n t x y in
      let new : Cell = smallerᶜ (clamped r.reach c) old in
      record {
        same_length = length-set t (x * n + y) (number_of r.mark new);
        beyond = λ i k. get_or-set_other t (x * n + y) i (number_of r.mark new) (pos zero) (omega (arith, inside hx hy));
        down =
            lowering_keeps (λ x' y' d. d ≤ᶜ table_of r n t x' y') x y c t s hx hy (smaller_right (clamped r.reach c) old)
            (λ x' y' hx' hy'. ≤ᶜ_refl (table_of r n t x' y'));
        sound = record {
          room = omega (arith, s.room, length-set t (x * n + y) (number_of r.mark new));
          stored =
              lowering_keeps (λ x' y' d. Stored r.reach d) x y c t s hx hy
              (smaller_keeps (Stored r.reach) (clamped r.reach c) old (clamped_stored r.reach c) (s.stored x y hx hy)) s.stored;
        };
      }

  -- the cell is at most what is stored
  pub cell_down : (x y : ℕ) (c : Cell) (t : List ℤ) → x < n → y < n → Sound r n t → table_of r n (lower_cell r n x y c t) x y ≤ᶜ clamped r.reach c
  cell_down x y c t hx hy s =
      ⊎_elim (λ e. rw e.1 (smaller_left (clamped r.reach c) (table_of r n t x y))) (λ e. absurd (e.0 (refl, refl)))
      (after_lowering x y c t s hx hy x y hx hy)

-- ---- steps

-- a family of steps, each of which lowers
abbrev pub Lowers : Ranges → ℕ → ℕ → (ℕ → List ℤ → List ℤ) → Type 0
Lowers r n m f = (i : ℕ) → i < m → (t : List ℤ) → Sound r n t → Lowered r n t (f i t)

-- all of them lower
pub iter_lowered : (r : Ranges) (n m : ℕ) (f : ℕ → List ℤ → List ℤ) → Lowers r n m f → (t : List ℤ) → Sound r n t
    → Lowered r n t (iter f m t)
iter_lowered r n zero f l t s = lowered_refl r n t s
iter_lowered r n (suc m) f l t s =
    let b : Lowered r n t (iter f m t) = iter_lowered r n m f (λ i k. l i (omega arith)) t s in
    lowered_trans r n t (iter f m t) (f m (iter f m t)) b (l m (omega arith) (iter f m t) b.sound)
