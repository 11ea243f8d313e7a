-- The first demand: whatever a call is lent, it gives one of the paper's numbered answers and leaves every lent cell as the paper says; row access hands
-- back a row or nothing. That a call's statement (rules, specs/Calls.antt and Rows.antt) holds for every input is the call's contract; here is what the
-- statement fixes. Assumes nothing.
use Rattle.std.specs.Prelude.{◌≡◌, ◌⊎◌, true, List, [], ℕ, zero, ◌+◌, ◌*◌, ◌≤◌, ◌<◌, length, get_or, ℤ, pos}
use Rattle.std.specs.Borrow.{Bor}
use Rattle.rules.specs.Answers.{Answer, code_of, place_of}
use Rattle.rules.specs.declared.Side.{Side}
use Rattle.rules.specs.Plan.{Limit, version1}
use Rattle.rules.specs.Calls.{cells_of, scratch_of, Kept, Filled, Marked, Judged, Checked, Timed, Added}
use Rattle.rules.specs.Rows.{chosen, has_row, OwnCells, RowHanded}
use Rattle.plan.specs.Layout.{plan_of}
use Rattle.plan.specs.File.{file_answer, add_answer}
use Rattle.demands.specs.Programs.{our_sound}

-- "Place is 0 unless named": of these calls only codes 6, 7 and 8 name one
abbrev pub PlaceNamed : Answer → Type 0
PlaceNamed a = (place_of a ≡ 0) ⊎ ((6 ≤ code_of a) × (code_of a ≤ 8))

-- Sound: codes 1 to 8, 0. Document 02, item 7: "one call says whether the file is sound (codes 1 to 8)"; it is lent nothing that it could write.
pub record SoundLeaves (a : Answer) : Type 0 where
  pub code : code_of a ≤ 8
  pub place : PlaceNamed a

-- Judge: codes 1 to 9, 11, 0. "Judge with 11 .. fill the first n x n cells of both tables with the mark; their other refusals change no cell."
pub record JudgeLeaves (s : List ℕ) (strict weak : List ℤ) (a : Answer) (strict' weak' : List ℤ) : Type 0 where
  pub code : (code_of a ≤ 9) ⊎ (code_of a ≡ 11)
  pub place : PlaceNamed a
  pub refusals : 1 ≤ code_of a → code_of a ≤ 9 → (strict' ≡ strict) × (weak' ≡ weak)
  pub marks : code_of a ≡ 11 → Marked version1 (plan_of s) strict weak strict' weak'
  pub strict_beyond : Kept (cells_of (plan_of s)) strict strict'
  pub open_beyond : Kept (cells_of (plan_of s)) weak weak'

-- Check: codes 1 to 9, 12, 0. "Check writes nothing": it is lent nothing that it could write.
pub record CheckLeaves (s : List ℕ) (strict weak : List ℤ) (a : Answer) : Type 0 where
  pub code : (code_of a ≤ 9) ⊎ (code_of a ≡ 12)
  pub place : PlaceNamed a

-- Earliest: codes 1 to 11, 0. "writes times only then", when it succeeds
pub record EarliestLeaves (s : List ℕ) (strict weak times : List ℤ) (a : Answer) (strict' weak' times' : List ℤ) : Type 0 where
  pub code : code_of a ≤ 11
  pub place : PlaceNamed a
  pub refusals : 1 ≤ code_of a → code_of a ≤ 10 → (strict' ≡ strict) × (weak' ≡ weak)
  pub marks : code_of a ≡ 11 → Marked version1 (plan_of s) strict weak strict' weak'
  pub no_times : 1 ≤ code_of a → times' ≡ times
  pub strict_beyond : Kept (cells_of (plan_of s)) strict strict'
  pub open_beyond : Kept (cells_of (plan_of s)) weak weak'
  pub times_beyond : Kept (plan_of s).points times times'

-- Add: codes 1 to 9, 11, 12, 0. "Add changes the tables only with code 0. Its scratch is unchanged with codes 1 to 9, and else its first 2 x n x n cells are 0."
pub record AddLeaves (s : List ℕ) (m : Limit) (strict weak scratch : List ℤ) (a : Answer) (strict' weak' scratch' : List ℤ) : Type 0 where
  pub code : (code_of a ≤ 9) ⊎ ((code_of a ≡ 11) ⊎ (code_of a ≡ 12))
  pub place : PlaceNamed a
  pub refusals : 1 ≤ code_of a → (strict' ≡ strict) × (weak' ≡ weak)
  pub scratch_kept : 1 ≤ code_of a → code_of a ≤ 9 → scratch' ≡ scratch
  pub scratch_cleared : (code_of a ≡ 0) ⊎ (10 ≤ code_of a) → Filled (scratch_of (plan_of s)) (pos zero) scratch scratch'
  pub strict_beyond : Kept (cells_of (plan_of s)) strict strict'
  pub open_beyond : Kept (cells_of (plan_of s)) weak weak'
  pub scratch_beyond : Kept (scratch_of (plan_of s)) scratch scratch'

-- The part is "that row of the chosen table, the caller's own cells and no copy": n cells, the table's from x * n on, where they lie.
pub record IsRow (table : Bor (List ℤ)) (n x : ℕ) (part : Bor (List ℤ)) : Type 0 where
  pub cells : length part.now ≡ n
  pub cell : (y : ℕ) → y < n → get_or part.now y (pos zero) ≡ get_or table.now (x * n + y) (pos zero)
  pub own : OwnCells table (x * n) part

-- Row access: a row, or nothing "with n not 1 to 64, a point at or above n, or either table shorter than n x n"
pub data RowLeaves (strict weak : Bor (List ℤ)) (n x : ℕ) (which : Side) (part : Bor (List ℤ)) : Type 0 where
  row : 1 ≤ n → n ≤ version1.points → x < n → n * n ≤ length strict.now → n * n ≤ length weak.now → IsRow (chosen strict weak which) n x part
      → RowLeaves strict weak n x which part
  nothing : ((n < 1) ⊎ (version1.points < n)) ⊎ ((n ≤ x) ⊎ ((length strict.now < n * n) ⊎ (length weak.now < n * n))) → part.now ≡ []
      → RowLeaves strict weak n x which part

-- Sound, the four calls of document 01, and row access; and two answers to the same input are equal, in code, place and every lent cell, two parts in
-- their numbers and, where there is a row, in where they lie
pub record Demand1 : Type 0 where
  pub sound : (s : List ℕ) (a : Answer) → our_sound s a → SoundLeaves a
  pub sound_once : (s : List ℕ) (a b : Answer) → our_sound s a → our_sound s b → a ≡ b
  pub judge : (s : List ℕ) (strict weak : List ℤ) (a : Answer) (strict' weak' : List ℤ)
      → Judged version1 (file_answer s) (plan_of s) strict weak a strict' weak' → JudgeLeaves s strict weak a strict' weak'
  pub judge_once : (s : List ℕ) (strict weak : List ℤ) (a b : Answer) (s₁ s₂ w₁ w₂ : List ℤ)
      → Judged version1 (file_answer s) (plan_of s) strict weak a s₁ w₁ → Judged version1 (file_answer s) (plan_of s) strict weak b s₂ w₂
      → (a ≡ b) × (s₁ ≡ s₂) × (w₁ ≡ w₂)
  pub check : (s : List ℕ) (strict weak : List ℤ) (a : Answer) → Checked version1 (file_answer s) (plan_of s) strict weak a
      → CheckLeaves s strict weak a
  pub check_once : (s : List ℕ) (strict weak : List ℤ) (a b : Answer) → Checked version1 (file_answer s) (plan_of s) strict weak a
      → Checked version1 (file_answer s) (plan_of s) strict weak b → a ≡ b
  pub earliest : (s : List ℕ) (strict weak times : List ℤ) (a : Answer) (strict' weak' times' : List ℤ)
      → Timed version1 (file_answer s) (plan_of s) strict weak times a strict' weak' times'
      → EarliestLeaves s strict weak times a strict' weak' times'
  pub earliest_once : (s : List ℕ) (strict weak times : List ℤ) (a b : Answer) (s₁ s₂ w₁ w₂ t₁ t₂ : List ℤ)
      → Timed version1 (file_answer s) (plan_of s) strict weak times a s₁ w₁ t₁ → Timed version1 (file_answer s) (plan_of s) strict weak times b s₂ w₂ t₂
      → (a ≡ b) × (s₁ ≡ s₂) × (w₁ ≡ w₂) × (t₁ ≡ t₂)
  pub add : (s : List ℕ) (m : Limit) (strict weak scratch : List ℤ) (a : Answer) (strict' weak' scratch' : List ℤ)
      → Added version1 (add_answer s m) (plan_of s) m strict weak scratch a strict' weak' scratch'
      → AddLeaves s m strict weak scratch a strict' weak' scratch'
  pub add_once : (s : List ℕ) (m : Limit) (strict weak scratch : List ℤ) (a b : Answer) (s₁ s₂ w₁ w₂ c₁ c₂ : List ℤ)
      → Added version1 (add_answer s m) (plan_of s) m strict weak scratch a s₁ w₁ c₁
      → Added version1 (add_answer s m) (plan_of s) m strict weak scratch b s₂ w₂ c₂ → (a ≡ b) × (s₁ ≡ s₂) × (w₁ ≡ w₂) × (c₁ ≡ c₂)
  pub row : (strict weak : Bor (List ℤ)) (n x : ℕ) (which : Side) (part : Bor (List ℤ)) → RowHanded strict weak n x which part
      → RowLeaves strict weak n x which part
  pub row_once : (strict weak : Bor (List ℤ)) (n x : ℕ) (which : Side) (a b : Bor (List ℤ)) → RowHanded strict weak n x which a
      → RowHanded strict weak n x which b → (a.now ≡ b.now) × (has_row (length strict.now) (length weak.now) n x ≡ true → a.ref_ptr ≡ b.ref_ptr)
