-- Induction along the places of three loops, one within the other: what holds before the first step and is kept by every step that does not end the list holds
-- at every place before its end. Assumes nothing.
use mathlib.Core.Path.{◌≡◌}
use mathlib.Core.Bool.{false}
use mathlib.Core.List.{List}
use Prim.Native.Nat.{ℕ, zero, suc, ◌≤◌, ◌<◌}
use native.Mathlib.Omega.{arith}
use Rattle.chain.specs.Lines.{Line}
use Rattle.chain.specs.Reasons.{ended, each}
use Rattle.chain.proofs.Tries.{Stops, each_stops, going_back}
use Rattle.chain.proofs.Places.{Steps, pass, part}

module _ (f : Steps) (stops : (a b c : ℕ) → Stops (f a b c)) (A M C : ℕ) (I : ℕ → ℕ → ℕ → List Line → Type 0)
    (next : (a b c : ℕ) (m : List Line) → a < A → b < M → c < C → ended m ≡ false → ended (f a b c m) ≡ false → I a b c m → I a b (suc c) (f a b c m))
    (row : (a b : ℕ) (m : List Line) → a < A → b < M → I a b C m → I a (suc b) 0 m)
    (middle : (a : ℕ) (m : List Line) → a < A → I a M 0 m → I (suc a) 0 0 m) where
  in_row : (a b c : ℕ) (m : List Line) → a < A → b < M → c ≤ C → I a b 0 m → ended (each (f a b) c m) ≡ false → I a b c (each (f a b) c m)
  in_row a b zero m ha hb hc i e = i
  in_row a b (suc c) m ha hb hc i e =
      let g : ended (each (f a b) c m) ≡ false = going_back (f a b c) (stops a b c) (each (f a b) c m) e in
      next a b c (each (f a b) c m) ha hb hc g e (in_row a b c m ha hb (omega arith) i g)

  in_rows : (a b : ℕ) (m : List Line) → a < A → b ≤ M → I a 0 0 m → ended (each (λ b. each (f a b) C) b m) ≡ false
      → I a b 0 (each (λ b. each (f a b) C) b m)
  in_rows a zero m ha hb i e = i
  in_rows a (suc b) m ha hb i e =
      let g : ended (each (λ b. each (f a b) C) b m) ≡ false =
      going_back (each (f a b) C) (each_stops (f a b) (stops a b) C) (each (λ b. each (f a b) C) b m) e in
      row a b (each (f a b) C (each (λ b. each (f a b) C) b m)) ha hb
      (in_row a b C (each (λ b. each (f a b) C) b m) ha hb (omega arith) (in_rows a b m ha (omega arith) i g) e)

  rows_stop : (a b : ℕ) → Stops (each (λ b. each (f a b) C) b)
  rows_stop a b = each_stops (λ b. each (f a b) C) (λ b. each_stops (f a b) (stops a b) C) b

  in_middles : (a : ℕ) (ls : List Line) → a ≤ A → I 0 0 0 ls → ended (each (λ a. each (λ b. each (f a b) C) M) a ls) ≡ false
      → I a 0 0 (each (λ a. each (λ b. each (f a b) C) M) a ls)
  in_middles zero ls ha i e = i
  in_middles (suc a) ls ha i e =
      let g : ended (each (λ a. each (λ b. each (f a b) C) M) a ls) ≡ false =
      going_back (each (λ b. each (f a b) C) M) (rows_stop a M) (each (λ a. each (λ b. each (f a b) C) M) a ls) e in
      middle a (each (λ b. each (f a b) C) M (each (λ a. each (λ b. each (f a b) C) M) a ls)) ha
      (in_rows a M (each (λ a. each (λ b. each (f a b) C) M) a ls) ha (omega arith) (in_middles a ls (omega arith) i g) e)

  middles_stop : (a : ℕ) → Stops (each (λ a. each (λ b. each (f a b) C) M) a)
  middles_stop a = each_stops (λ a. each (λ b. each (f a b) C) M) (λ a. rows_stop a M) a

  -- at a place
  pub in_part : (ls : List Line) → (ended ls ≡ false → I 0 0 0 ls) → (a b c : ℕ) → a < A → b < M → c ≤ C → ended (part f M C a b c ls) ≡ false
      → I a b c (part f M C a b c ls)
  in_part ls i a b c ha hb hc e =
      let outer : List Line = each (λ a. each (λ b. each (f a b) C) M) a ls in
      let inner : List Line = each (λ b. each (f a b) C) b outer in
      let g : ended inner ≡ false = going_back (each (f a b) c) (each_stops (f a b) (stops a b) c) inner e in
      let h : ended outer ≡ false = going_back (each (λ b. each (f a b) C) b) (rows_stop a b) outer g in
      let k : ended ls ≡ false = going_back (each (λ a. each (λ b. each (f a b) C) M) a) (middles_stop a) ls h in
      in_row a b c inner ha hb hc (in_rows a b outer ha (omega arith) (in_middles a ls (omega arith) (i k) h) g) e

  -- after all of them
  pub after_pass : (ls : List Line) → (ended ls ≡ false → I 0 0 0 ls) → ended (pass f A M C ls) ≡ false → I A 0 0 (pass f A M C ls)
  after_pass ls i e =
      let k : ended ls ≡ false = going_back (each (λ a. each (λ b. each (f a b) C) M) A) (middles_stop A) ls e in
      in_middles A ls (omega arith) (i k) e
