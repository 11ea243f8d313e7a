-- A list of lines with new ones from line 0 on: it is as long as it was, each new line is there, and the others stay. Assumes nothing.
use mathlib.Core.Path.{◌≡◌, refl, ◌∙◌}
use mathlib.Core.Logic.{⊎_elim}
use mathlib.Core.List.{List}
use Prim.Native.Nat.{ℕ, zero, suc, ◌≤◌, ◌<◌}
use native.Mathlib.Nat.{eq-or-lt_of_le, le_of_suc-le-suc}
use native.Mathlib.Omega.{arith}
use lib.ListN.{length, get_or, length-set}
use lib.Seq.{get_or-set_same, get_or-set_other}
use Rattle.lines.specs.declared.Line.{Line}
use Rattle.lines.specs.Reads.{no_line, filled}

module _ (line : ℕ → Line) where
  pub length_filled : (n : ℕ) (lines : List Line) → length (filled line n lines) ≡ length lines
  length_filled zero lines = refl
  length_filled (suc n) lines = length-set (filled line n lines) n _ ∙ length_filled n lines

  pub filled_new : (n : ℕ) (lines : List Line) (i : ℕ) → n ≤ length lines → i < n → get_or (filled line n lines) i no_line ≡ line i
  filled_new zero lines i h l = elim l [ ]
  filled_new (suc n) lines i h l =
      ⊎_elim
      (λ e. rw e (get_or-set_same (filled line n lines) n _ no_line (rw (length_filled n lines) (omega arith))))
      (λ m. get_or-set_other (filled line n lines) n i _ no_line (omega arith) ∙ filled_new n lines i (omega arith) m)
      (eq-or-lt_of_le (le_of_suc-le-suc l))

  pub filled_stays : (n : ℕ) (lines : List Line) (i : ℕ) → n ≤ i → get_or (filled line n lines) i no_line ≡ get_or lines i no_line
  filled_stays zero lines i h = refl
  filled_stays (suc n) lines i h = get_or-set_other (filled line n lines) n i _ no_line (omega arith) ∙ filled_stays n lines i (omega arith)
