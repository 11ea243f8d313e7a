-- Lent lists and the tables they hold: two lists with the same table, the same length and the same numbers past it are one list. Assumes nothing.
use mathlib.Core.Path.{◌≡◌, refl, sym, ap, subst, ◌∙◌}
use mathlib.Core.Bool.{Bool, true, false, cond}
use mathlib.Core.List.{List}
use Prim.Native.Nat.{ℕ, zero, ◌*◌, ◌≤◌, ◌<◌}
use native.Mathlib.Omega.{arith}
use native.Mathlib.Decide.{dec_le}
use lib.Dec.{eqb, eqb→eq}
use lib.ListN.{length, get_or}
use lib.Seq.{ext_get_or}
use lib.IntN.{ℤ, pos, negsuc}
use Rattle.whole.proofs.Place.{Spot, spot}
use Rattle.rules.specs.Plan.{Ranges}
use Rattle.rules.specs.Cells.{Cell, mark, num, cell_of, table_of}
use Rattle.rules.specs.Calls.{Kept, Filled}

-- the number as which a cell lies in a list whose mark is m
numbered : ℕ → Cell → ℤ
numbered m mark = pos m
numbered m (num c) = c

numbered_cell : (m : ℕ) (z : ℤ) → numbered m (cell_of m z) ≡ z
unfolding numbered
numbered_cell m (negsuc c) = refl
numbered_cell m (pos c) = by (eqb c m) refl
  where
    by : (b : Bool) → eqb c m ≡ b → numbered m (cond b mark (num (pos c))) ≡ pos c
    by true e = ap pos (sym (eqb→eq c m (rw e tt)))
    by false e = refl

-- two numbers that are read as one cell are one number
pub cell_injective : (m : ℕ) {a b : ℤ} → cell_of m a ≡ cell_of m b → a ≡ b
cell_injective m {a} {b} e = sym (numbered_cell m a) ∙ ap (numbered m) e ∙ numbered_cell m b

-- two lists of one length that agree below an index and from it on are one list, whatever they hold
pub same_parts : {A : Type 0} (d : A) (m : ℕ) (t u : List A) → length t ≡ length u → ((i : ℕ) → m ≤ i → get_or t i d ≡ get_or u i d)
    → ((i : ℕ) → i < m → get_or t i d ≡ get_or u i d) → t ≡ u
same_parts d m t u e b a = ext_get_or d t u e (λ i h. at i (dec_le m i))
  where
    at : (i : ℕ) → Dec (m ≤ i) → get_or t i d ≡ get_or u i d
    at i (yes h) = b i h
    at i (no h) = a i (omega arith)

-- two lists with the same table, the same length and the same numbers past the table are one list
pub same_list : (r : Ranges) (n : ℕ) (t u : List ℤ) → length t ≡ length u
    → ((i : ℕ) → n * n ≤ i → get_or t i (pos zero) ≡ get_or u i (pos zero))
    → ((x y : ℕ) → x < n → y < n → table_of r n t x y ≡ table_of r n u x y) → t ≡ u
unfolding table_of
same_list r n t u e b c =
    same_parts (pos zero) (n * n) t u e b
    (λ i h.
    let s : Spot n i = spot n i h in
    subst (λ (k : ℕ). get_or t k (pos zero) ≡ get_or u k (pos zero)) (sym s.is)
    (cell_injective r.mark (c s.row s.column s.row_below s.column_below)))

-- a list is filled with one number in one way
pub filled_once : {m : ℕ} {c : ℤ} {t u v : List ℤ} → Filled m c t u → Filled m c t v → u ≡ v
filled_once {m} {u} {v} a b =
    same_parts (pos zero) m u v (a.kept.length_same ∙ sym b.kept.length_same) (λ i h. a.kept.beyond_same i h ∙ sym (b.kept.beyond_same i h))
    (λ i h. a.all_same i h ∙ sym (b.all_same i h))

-- two lists that keep what lies past the table, and hold the same table
pub kept_once : (r : Ranges) (n : ℕ) {t u v : List ℤ} → Kept (n * n) t u → Kept (n * n) t v
    → ((x y : ℕ) → x < n → y < n → table_of r n u x y ≡ table_of r n v x y) → u ≡ v
kept_once r n {u} {v} a b c =
    same_list r n u v (a.length_same ∙ sym b.length_same) (λ i h. a.beyond_same i h ∙ sym (b.beyond_same i h)) c
