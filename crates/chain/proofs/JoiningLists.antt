-- A pass of joins over the list, of either side: at every place its table is a middle's table with some sums along that middle, so that what `JoinPass` says of
-- tables holds of the list. What else is to be kept (`X`) is kept by each line, which is a sum of two numbers of the middle's table. Assumes nothing.
use mathlib.Core.Path.{◌≡◌, refl, sym, ◌∙◌}
use mathlib.Core.Logic.{◌⊎◌, inl, inr, ⊎_elim}
use mathlib.Core.Bool.{false}
use mathlib.Core.List.{List, ◌∷◌}
use Prim.Native.Nat.{ℕ, zero, suc, ◌<◌, ◌≤◌}
use native.Mathlib.Nat.{eq-or-lt_of_le, le_of_suc-le-suc}
use native.Mathlib.Omega.{arith}
use lib.IntN.{ℤ, pos}
use Rattle.rules.specs.declared.Side.{Side}
use Rattle.rules.specs.Cells.{num, Table, ◌+ᶜ◌, ◌≤ᶜ◌}
use Rattle.chain.specs.Lines.{Line, cells}
use Rattle.chain.specs.Reasons.{Offer, ended, try}
use Rattle.chain.proofs.CellOrder.{≤ᶜ_refl, ≤ᶜ_trans}
use Rattle.chain.proofs.Tries.{try_stops}
use Rattle.chain.proofs.Places.{Steps, pass, part}
use Rattle.chain.proofs.Passes.{in_part, after_pass}
use Rattle.chain.proofs.JoinPass.{Stage, stage_first, stage_next, Mid, mid_column, mid_row}
use Rattle.chain.proofs.BestsMove.{Moved, JoinLine, join_line, join_offer, join_under, join_moved, Written, try_keeps}

-- the pairs whose sums along the middle are taken, after b rows and c pairs of the next
abbrev Taken : ℕ → ℕ → ℕ → ℕ → Type 0
Taken b c x z = (x < b) ⊎ ((x ≡ b) × (z < c))

-- where a pass that began with the table B stands: in the middle a, after b rows and c pairs of the next
pub record Joining (s : Side) (n : ℕ) (B : Table) (X : List Line → Type 0) (a b c : ℕ) (ls : List Line) : Type 0 where
  pub table : Table
  pub stage : Stage n B a table
  pub mid : Mid n a table (cells s ls)
  pub done : (x z : ℕ) → x < n → z < n → Taken b c x z → cells s ls x z ≤ᶜ (table x a +ᶜ table a z)
  pub fresh : b ≡ 0 → c ≡ 0 → table ≡ cells s ls
  pub also : X ls

module _ (s : Side) (n : ℕ) (B : Table) (o : ℕ → ℕ → ℕ → List Line → Offer) (X : List Line → Type 0)
    (is : (y x z : ℕ) (ls : List Line) → o y x z ls ≡ join_offer s y x z ls)
    (zeros : (ls : List Line) → X ls → (x : ℕ) → cells s ls x x ≡ num (pos zero))
    (keep : (y x z : ℕ) (ls : List Line) (T : Table) (l : Line) (v w : ℤ) → y < n → x < n → z < n → X ls → Stage n B y T → T x y ≡ num v → T y z ≡ num w
    → JoinLine s y x z ls l → cells s ls x y ≡ num v → cells s ls y z ≡ num w → Written l ls → ended (l ∷ ls) ≡ false → X (l ∷ ls)) where
  abbrev f : Steps
  f y x z = try (o y x z)

  joining_first : (ls : List Line) → X ls → ((x : ℕ) → x < n → B x x ≡ num (pos zero)) → B ≡ cells s ls → Joining s n B X 0 0 0 ls
  joining_first ls i z e = record {
    table = B;
    stage = stage_first n B z;
    mid = record { falls = λ a b ha hb. rw e (≤ᶜ_refl (cells s ls a b)); made = λ a b ha hb. inl (rw e) };
    done = λ x z hx hz t. ⊎_elim (λ (h : x < 0). absurd (omega arith)) (λ h. let l : z < 0 = h.1 in absurd (omega arith)) t;
    fresh = λ p q. e;
    also = i;
  }

  -- one more pair
  joining_next : (y x z : ℕ) (ls : List Line) → y < n → x < n → z < n → ended ls ≡ false → ended (f y x z ls) ≡ false → Joining s n B X y x z ls
      → Joining s n B X y x (suc z) (f y x z ls)
  joining_next y x z ls hy hx hz e h j = record {
    table = j.table;
    stage = j.stage;
    mid = record {
      falls = λ a b ha hb. ≤ᶜ_trans (cells s (f y x z ls) a b) (cells s ls a b) (j.table a b) (m.falls a b) (j.mid.falls a b ha hb);
      made = λ a b ha hb.
          ⊎_elim (λ q. ⊎_elim (λ i. inl (q ∙ i)) (λ i. inr (q ∙ i)) (j.mid.made a b ha hb)) (λ q. inr (q.1 ∙ rw (q.0.0, q.0.1) sums)) (m.kept a b);
    };
    done = λ a b ha hb t.
        ⊎_elim (λ l. before a b ha hb (inl l))
        (λ l. ⊎_elim (λ q. rw (l.0, q) here) (λ q. before a b ha hb (inr (l.0, q))) (eq-or-lt_of_le (le_of_suc-le-suc l.1))) t;
    fresh = λ p q. absurd (omega arith);
    also =
        try_keeps X (o y x z) ls e h j.also
        (λ l q w k.
        let g : JoinLine s y x z ls l = join_line s y x z ls l (sym (is y x z ls) ∙ q) in
        keep y x z ls j.table l g.left g.right hy hx hz j.also j.stage (sym column ∙ g.left_is) (sym row ∙ g.right_is) g g.left_is
        g.right_is w k);
  }
    where
      m : Moved (cells s ls) (cells s (f y x z ls)) x z (cells s ls x y +ᶜ cells s ls y z)
      m = join_moved s (o y x z) y x z ls (is y x z ls) e

      column : cells s ls x y ≡ j.table x y
      column = mid_column n y j.table (cells s ls) hy (j.stage.zeros y hy) j.mid x hx

      row : cells s ls y z ≡ j.table y z
      row = mid_row n y j.table (cells s ls) hy (j.stage.zeros y hy) j.mid z hz

      sums : cells s ls x y +ᶜ cells s ls y z ≡ j.table x y +ᶜ j.table y z
      sums = rw (column, row)

      here : cells s (f y x z ls) x z ≤ᶜ (j.table x y +ᶜ j.table y z)
      here = rw (← sums) (join_under s (o y x z) y x z ls (is y x z ls) e)

      before : (a b : ℕ) → a < n → b < n → Taken x z a b → cells s (f y x z ls) a b ≤ᶜ (j.table a y +ᶜ j.table y b)
      before a b ha hb t =
          ≤ᶜ_trans (cells s (f y x z ls) a b) (cells s ls a b) (j.table a y +ᶜ j.table y b) (m.falls a b) (j.done a b ha hb t)

  joining_row : (y x : ℕ) (ls : List Line) → y < n → x < n → Joining s n B X y x n ls → Joining s n B X y (suc x) 0 ls
  joining_row y x ls hy hx j = record {
    table = j.table;
    stage = j.stage;
    mid = j.mid;
    done = λ a b ha hb t.
        ⊎_elim (λ l. ⊎_elim (λ q. j.done a b ha hb (inr (q, hb))) (λ q. j.done a b ha hb (inl q)) (eq-or-lt_of_le (le_of_suc-le-suc l)))
        (λ l. let z : b < 0 = l.1 in absurd (omega arith)) t;
    fresh = λ p q. absurd (omega arith);
    also = j.also;
  }

  joining_middle : (y : ℕ) (ls : List Line) → y < n → Joining s n B X y n 0 ls → Joining s n B X (suc y) 0 0 ls
  joining_middle y ls hy j = record {
    table = cells s ls;
    stage =
        stage_next n B y j.table (cells s ls) hy j.stage j.mid (λ a b ha hb. j.done a b ha hb (inl ha)) (λ x hx. zeros ls j.also x);
    mid = record { falls = λ a b ha hb. ≤ᶜ_refl (cells s ls a b); made = λ a b ha hb. inl refl };
    done = λ x z hx hz t. ⊎_elim (λ (h : x < 0). absurd (omega arith)) (λ h. let l : z < 0 = h.1 in absurd (omega arith)) t;
    fresh = λ p q. refl;
    also = j.also;
  }

  joining_start : (ls : List Line) → B ≡ cells s ls → (ended ls ≡ false → X ls) → ended ls ≡ false → Joining s n B X 0 0 0 ls
  joining_start ls q i e = joining_first ls (i e) (λ x hx. rw q (zeros ls (i e) x)) q

  -- at every place
  pub joining_part : (ls : List Line) → B ≡ cells s ls → (ended ls ≡ false → X ls) → (a b c : ℕ) → a < n → b < n → c ≤ n → ended (part f n n a b c ls) ≡ false
      → X (part f n n a b c ls)
  joining_part ls q i a b c ha hb hc e =
      (in_part f (λ a b c. try_stops (o a b c)) n n n (Joining s n B X) joining_next joining_row joining_middle ls (joining_start ls q i) a b c ha hb hc e).also

  -- after the pass no cell exceeds a sum of two
  pub joining_pass : (ls : List Line) → B ≡ cells s ls → (ended ls ≡ false → X ls) → ended (pass f n n n ls) ≡ false
      → X (pass f n n n ls) × Stage n B n (cells s (pass f n n n ls))
  joining_pass ls q i e =
      by (pass f n n n ls)
      (after_pass f (λ a b c. try_stops (o a b c)) n n n (Joining s n B X) joining_next joining_row joining_middle ls (joining_start ls q i) e)
    where
      by : (m : List Line) → Joining s n B X n 0 0 m → X m × Stage n B n (cells s m)
      by m j = (j.also, rw (← j.fresh refl refl) j.stage)
