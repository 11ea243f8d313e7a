-- What a line rests on, with no bound on the steps back: from what its references rest on; as a join line and as a rule line; and what a turn of the loop
-- that counts it does to the count. Assumes nothing.
use mathlib.Core.Path.{◌≡◌, refl, sym, ap, ◌∙◌}
use mathlib.Core.Bool.{Bool, true, false, cond, ◌||◌}
use mathlib.Core.List.{List}
use mathlib.Core.Logic.{⊎_elim}
use Rattle.std.proofs.lemmas.List.{get_or_past}
use Rattle.std.proofs.lemmas.Bool.{cases_lt}
use Prim.Native.Nat.{ℕ, zero, suc, ◌+◌, ◌-◌, ◌≤◌, ◌<◌, min}
use native.Mathlib.Nat.{lt_of_le_of_lt}
use native.Mathlib.Omega.{arith}
use lib.Dec.{eqb, ltb}
use lib.ListN.{length, get_or}
use mir.Syntax.{w32}
use mir.Val.{Fits}
use borrow.Author.Tests.{ltb-true, lt-ltb, le-ltb, eqb-true}
use Rattle.rests.specs.Rests.{line_count, kind_at, is_join, is_rule, adds, within, rests_on, joins_on, rules_on}

-- ---- the kind of a line

module _ (kinds firsts seconds : List ℕ) (i : ℕ) where
  pub kind_past : line_count kinds firsts seconds ≤ i → kind_at kinds firsts seconds i ≡ 0
  unfolding kind_at
  kind_past h = rw (le-ltb i (line_count kinds firsts seconds) h)

  -- past `kinds` too, where the list reads as 0
  pub kind_within : i < length firsts → i < length seconds → kind_at kinds firsts seconds i ≡ get_or kinds i 0
  unfolding kind_at
  kind_within a b =
      ⊎_elim
      (λ l. rw (lt-ltb i (line_count kinds firsts seconds) (omega arith)))
      (λ h. rw (le-ltb i (line_count kinds firsts seconds) (omega arith), get_or_past kinds i 0 h))
      (cases_lt i (length kinds))

-- a join line is no rule line
join_no_rule_by : (kind : ℕ) (a b : Bool) → eqb kind 6 ≡ a → eqb kind 9 ≡ b → (a || b) ≡ true → is_rule kind ≡ false
unfolding is_rule
join_no_rule_by kind true b p q h = rw (eqb-true kind 6 p)
join_no_rule_by kind false true p q h = rw (eqb-true kind 9 q)
join_no_rule_by kind false false p q h = cc

pub join_no_rule : (kind : ℕ) → is_join kind ≡ true → is_rule kind ≡ false
unfolding is_join
join_no_rule kind h = join_no_rule_by kind (eqb kind 6) (eqb kind 9) refl refl h

-- ---- what a line rests on, from what its references rest on

cond_same : (b : Bool) {x y : ℕ} → (b ≡ true → x ≡ y) → cond b x 0 ≡ cond b y 0
cond_same true h = h refl
cond_same false h = refl

-- what a reference adds asks only of earlier lines
adds_same : (f g : ℕ → ℕ) (i r : ℕ) → ((j : ℕ) → j < i → f j ≡ g j) → adds f i r ≡ adds g i r
adds_same f g i r h = cond_same (ltb r i) (λ t. ap suc (h r (ltb-true r i t)))

adds_none : (f : ℕ → ℕ) (i r : ℕ) → i ≤ r → adds f i r ≡ 0
adds_none f i r h = rw (le-ltb r i h)

adds_some : (f : ℕ → ℕ) (i r : ℕ) → r < i → adds f i r ≡ suc (f r)
adds_some f i r h = rw (lt-ltb r i h)

or-true : (b : Bool) → (b || true) ≡ true
or-true true = refl
or-true false = refl

cond_none : (b : Bool) {x : ℕ} → x ≡ 0 → cond b x 0 ≡ 0
cond_none true h = h
cond_none false h = refl

module _ (kinds firsts seconds : List ℕ) where
  -- with nothing to go back to, line 0 rests on nothing
  within_none : (m i : ℕ) → i ≤ 0 → within kinds firsts seconds m i ≡ 0
  unfolding within
  within_none zero i h = refl
  within_none (suc m) i h =
      cond_none (is_join (kind_at kinds firsts seconds i) || is_rule (kind_at kinds firsts seconds i))
      (omega (
        arith,
        adds_none (within kinds firsts seconds m) i (get_or firsts i 0) (omega arith),
        adds_none (within kinds firsts seconds m) i (get_or seconds i 0) (omega arith),
      ))

  -- the lines before line i are met with one step less
  one_less : (f g : ℕ → ℕ) (i : ℕ) → ((j : ℕ) → j < i → f j ≡ g j)
      → cond (is_join (kind_at kinds firsts seconds i) || is_rule (kind_at kinds firsts seconds i)) (adds f i (get_or firsts i 0) + adds f i (get_or seconds i 0)) 0
      ≡ cond (is_join (kind_at kinds firsts seconds i) || is_rule (kind_at kinds firsts seconds i)) (adds g i (get_or firsts i 0) + adds g i (get_or seconds i 0)) 0
  one_less f g i h =
      cond_same (is_join (kind_at kinds firsts seconds i) || is_rule (kind_at kinds firsts seconds i))
      (λ t. omega (arith, adds_same f g i (get_or firsts i 0) h, adds_same f g i (get_or seconds i 0) h))

  -- more steps than the line's number find nothing more
  within_same : (m k i : ℕ) → i ≤ m → i ≤ k → within kinds firsts seconds m i ≡ within kinds firsts seconds k i
  unfolding within
  within_same zero k i a b = sym (within_none k i a)
  within_same (suc m) zero i a b = within_none (suc m) i b
  within_same (suc m) (suc k) i a b =
      one_less (within kinds firsts seconds m) (within kinds firsts seconds k) i (λ j h. within_same m k j (omega arith) (omega arith))

  -- what a line rests on, from what its references rest on
  pub rests_by : (i : ℕ) → rests_on kinds firsts seconds i
      ≡ cond (is_join (kind_at kinds firsts seconds i) || is_rule (kind_at kinds firsts seconds i))
      (adds (rests_on kinds firsts seconds) i (get_or firsts i 0) + adds (rests_on kinds firsts seconds) i (get_or seconds i 0)) 0
  unfolding rests_on within
  rests_by i =
      within_same i (suc i) i (omega arith) (omega arith)
      ∙ one_less (within kinds firsts seconds i) (rests_on kinds firsts seconds) i (λ j h. within_same i j j (omega arith) (omega arith))

  -- it rests on that as a join line or as a rule line
  both_by : (i : ℕ) (a b : Bool) → is_join (kind_at kinds firsts seconds i) ≡ a → is_rule (kind_at kinds firsts seconds i) ≡ b
      → rests_on kinds firsts seconds i ≡ cond a (rests_on kinds firsts seconds i) 0 + cond b (rests_on kinds firsts seconds i) 0
  both_by i true b p q =
      let e : b ≡ false = sym q ∙ join_no_rule (kind_at kinds firsts seconds i) p in
      rw e (omega arith)
  both_by i false true p q = omega arith
  both_by i false false p q =
      let e : rests_on kinds firsts seconds i ≡ 0 = rests_by i ∙ rw (p, q) in
      omega arith

  pub both : (i : ℕ) → rests_on kinds firsts seconds i ≡ joins_on kinds firsts seconds i + rules_on kinds firsts seconds i
  unfolding joins_on rules_on
  both i = both_by i (is_join (kind_at kinds firsts seconds i)) (is_rule (kind_at kinds firsts seconds i)) refl refl

  -- a line of no such kind
  pub joins_none : (i : ℕ) → is_join (kind_at kinds firsts seconds i) ≡ false → joins_on kinds firsts seconds i ≡ 0
  unfolding joins_on
  joins_none i h = rw h

  pub rules_none : (i : ℕ) → is_rule (kind_at kinds firsts seconds i) ≡ false → rules_on kinds firsts seconds i ≡ 0
  unfolding rules_on
  rules_none i h = rw h

  -- what one reference adds
  abbrev pub part : ℕ → ℕ → ℕ
  part i r = adds (rests_on kinds firsts seconds) i r

  pub joins_parts : (i : ℕ) → is_join (kind_at kinds firsts seconds i) ≡ true
      → joins_on kinds firsts seconds i ≡ part i (get_or firsts i 0) + part i (get_or seconds i 0)
  unfolding joins_on
  joins_parts i h = rw h (rests_by i ∙ rw h)

  pub rules_parts : (i : ℕ) → is_rule (kind_at kinds firsts seconds i) ≡ true
      → rules_on kinds firsts seconds i ≡ part i (get_or firsts i 0) + part i (get_or seconds i 0)
  unfolding rules_on
  rules_parts i h = rw h (rests_by i ∙ rw (h, or-true))

  -- what a reference to an earlier line adds, and one to no earlier line
  pub part_some : (i r : ℕ) → r < i → part i r ≡ suc (joins_on kinds firsts seconds r + rules_on kinds firsts seconds r)
  part_some i r h = adds_some (rests_on kinds firsts seconds) i r h ∙ ap suc (both r)

  pub part_none : (i r : ℕ) → i ≤ r → part i r ≡ 0
  part_none i r h = adds_none (rests_on kinds firsts seconds) i r h

-- ---- counting up to a room: of `all` so many are counted and so many left

pub record Left (all room count more : ℕ) : Type 0 where
  pub fits : count ≤ room
  pub same : min all room ≡ min (count + more) room

pub left_all : (all room : ℕ) → Left all room 0 all
left_all all room = record { fits = omega arith; same = omega arith }

module _ {all room count more : ℕ} (l : Left all room count more) where
  pub left_full : count ≡ room → count ≡ min all room
  left_full h = omega arith

  pub left_none : more ≡ 0 → count ≡ min all room
  left_none h = omega arith

  pub left_is : (other : ℕ) → more ≡ other → Left all room count other
  left_is other h = record { fits = omega arith; same = omega arith }

  -- an earlier line is counted, of which there is room for at least itself; then what it rests on as one sort of line, up to the room
  pub left_one : (x other got : ℕ) → (count ≡ room → ⊥) → more ≡ suc (x + other) → got ≡ min x (room - (count + 1)) → Left all room (count + 1 + got) other
  left_one x other got d e g = record { fits = omega arith; same = omega arith }

  pub left_more : (x other got : ℕ) → more ≡ x + other → got ≡ min x (room - count) → Left all room (count + got) other
  left_more x other got e g = record { fits = omega arith; same = omega arith }

-- ---- a turn at line `at`, where what is left is what its two references add

module _ (kinds firsts seconds : List ℕ) {all room count more : ℕ} (l : Left all room count more) (at r : ℕ) where
  -- its first reference: to an earlier line, of which both parts are counted, and to no earlier line
  pub first_taken : more ≡ part kinds firsts seconds at (get_or firsts at 0) + part kinds firsts seconds at (get_or seconds at 0)
      → r ≡ get_or firsts at 0 → r < at → (count ≡ room → ⊥) → (g h : ℕ)
      → g ≡ min (joins_on kinds firsts seconds r) (room - (count + 1))
      → h ≡ min (rules_on kinds firsts seconds r) (room - (count + 1 + g))
      → Left all room (count + 1 + g + h) (part kinds firsts seconds at (get_or seconds at 0))
  first_taken e f b d g h p q =
      let k : part kinds firsts seconds at (get_or firsts at 0) ≡ suc (joins_on kinds firsts seconds r + rules_on kinds firsts seconds r)
      = ap (part kinds firsts seconds at) (sym f) ∙ part_some kinds firsts seconds at r b in
      left_more
      (left_one l (joins_on kinds firsts seconds r)
      (rules_on kinds firsts seconds r + part kinds firsts seconds at (get_or seconds at 0)) g d (omega arith) p)
      (rules_on kinds firsts seconds r) (part kinds firsts seconds at (get_or seconds at 0)) h refl q

  pub first_left : more ≡ part kinds firsts seconds at (get_or firsts at 0) + part kinds firsts seconds at (get_or seconds at 0)
      → r ≡ get_or firsts at 0 → at ≤ r → Left all room count (part kinds firsts seconds at (get_or seconds at 0))
  first_left e f b =
      let k : part kinds firsts seconds at (get_or firsts at 0) ≡ 0 = ap (part kinds firsts seconds at) (sym f) ∙ part_none kinds firsts seconds at r b in
      left_is l (part kinds firsts seconds at (get_or seconds at 0)) (omega arith)

  -- its second reference: to no earlier line, and to an earlier line, of which one part is counted and the other is left to the next turn
  pub second_none : more ≡ part kinds firsts seconds at (get_or seconds at 0) → r ≡ get_or seconds at 0 → at ≤ r → count ≡ min all room
  second_none e f b = left_none l (e ∙ ap (part kinds firsts seconds at) (sym f) ∙ part_none kinds firsts seconds at r b)

  pub second_join : more ≡ part kinds firsts seconds at (get_or seconds at 0) → r ≡ get_or seconds at 0 → r < at → (count ≡ room → ⊥) → (g : ℕ)
      → g ≡ min (rules_on kinds firsts seconds r) (room - (count + 1)) → Left all room (count + 1 + g) (joins_on kinds firsts seconds r)
  second_join e f b d g p =
      let k : more ≡ suc (joins_on kinds firsts seconds r + rules_on kinds firsts seconds r)
      = e ∙ ap (part kinds firsts seconds at) (sym f) ∙ part_some kinds firsts seconds at r b in
      left_one l (rules_on kinds firsts seconds r) (joins_on kinds firsts seconds r) g d (omega arith) p

  pub second_rule : more ≡ part kinds firsts seconds at (get_or seconds at 0) → r ≡ get_or seconds at 0 → r < at → (count ≡ room → ⊥) → (g : ℕ)
      → g ≡ min (joins_on kinds firsts seconds r) (room - (count + 1)) → Left all room (count + 1 + g) (rules_on kinds firsts seconds r)
  second_rule e f b d g p =
      let k : more ≡ suc (joins_on kinds firsts seconds r + rules_on kinds firsts seconds r)
      = e ∙ ap (part kinds firsts seconds at) (sym f) ∙ part_some kinds firsts seconds at r b in
      left_one l (joins_on kinds firsts seconds r) (rules_on kinds firsts seconds r) g d (omega arith) p

-- what is counted of a reference stays within the room
one_within : (x room count g : ℕ) → count ≤ room → (count ≡ room → ⊥) → g ≡ min x (room - (count + 1)) → count + 1 + g ≤ room
one_within x room count g a b p = omega arith

pub one_fits : (x room count g : ℕ) → count ≤ room → (count ≡ room → ⊥) → g ≡ min x (room - (count + 1)) → Fits w32 room → Fits w32 (count + 1 + g)
one_fits x room count g a b p f = record { fits = lt_of_le_of_lt (one_within x room count g a b p) f.fits }

both_within : (x y room count g h : ℕ) → count ≤ room → (count ≡ room → ⊥) → g ≡ min x (room - (count + 1)) → h ≡ min y (room - (count + 1 + g))
    → count + 1 + g + h ≤ room
both_within x y room count g h a b p q = omega arith

pub both_fit : (x y room count g h : ℕ) → count ≤ room → (count ≡ room → ⊥) → g ≡ min x (room - (count + 1)) → h ≡ min y (room - (count + 1 + g))
    → Fits w32 room → Fits w32 (count + 1 + g + h)
both_fit x y room count g h a b p q f = record { fits = lt_of_le_of_lt (both_within x y room count g h a b p q) f.fits }
