-- What one more line does to the bests of pairs: the cell of its pair may fall to its weight, and nothing else changes. What a try does: it adds nothing, or
-- the line that it offers. While the list has not ended no line leads from a point to itself, so such a best stays at its start. Assumes nothing.
use mathlib.Core.Path.{◌≡◌, refl, sym, ap, ◌∙◌}
use mathlib.Core.Logic.{◌≢◌, ◌⊎◌, inl, inr, ⊎_elim}
use mathlib.Core.Bool.{Bool, true, false, cond, true≢false, ◌&&◌, ◌||◌}
use mathlib.Core.List.{List, [], ◌∷◌}
use Prim.Native.Nat.{ℕ, zero}
use native.Mathlib.Omega.{arith}
use lib.Dec.{eqb}
use lib.ListN.{length}
use lib.IntN.{ℤ, pos, ◌+ℤ◌, +ℤ_idr}
use lib.Signed.{lt_z, ≤ℤ_refl}
use borrow.Author.Tests.{eqb-true, eq-eqb}
use Rattle.whole.proofs.Bits.{signed}
use Rattle.rules.specs.declared.Side.{Side}
use Rattle.rules.specs.declared.Side.TheVariants.{Strict, Open}
use Rattle.rules.specs.Cells.{Cell, mark, num, Table, ◌+ᶜ◌, ◌≤ᶜ◌}
use Rattle.chain.specs.Lines.{Line, strict_join, open_join, counts, Best, none, still, made, beats, leads, best, weight_of, cells}
use Rattle.chain.specs.Reasons.{Offer, nothing, line, always, side_of, write, ended, try, joined, strict_offer, open_offer}
use Rattle.chain.proofs.BestLines.{still_same}
use Rattle.chain.proofs.CellOrder.{≤ᶜ_refl, ≤ᶜ_trans, ≤ᶜ_mark, zero-+ᶜ}

and_left : (a b : Bool) → a && b ≡ true → a ≡ true
and_left true b e = refl
and_left false b e = e

and_right : (a b : Bool) → a && b ≡ true → b ≡ true
and_right true b e = e
and_right false b e = absurd (true≢false (sym e))

-- ---- a best, and one more weight for its pair

-- a weight that beats a best is at most its cell, and one that does not is at least it
pub beats_le : (w : ℤ) (b : Best) → beats w b ≡ true → num w ≤ᶜ weight_of b
beats_le w none e = tt
beats_le w still e = omega signed
beats_le w (made i v) e = omega signed

pub not_beats_le : (w : ℤ) (b : Best) → beats w b ≡ false → weight_of b ≤ᶜ num w
not_beats_le w none e = absurd (true≢false e)
not_beats_le w still e = omega signed
not_beats_le w (made i v) e = omega signed

-- the best after a line of number k and weight w, which is for this pair or not
after : Bool → ℕ → ℤ → Best → Best
after t k w b = cond (t && beats w b) (made k w) b

after_falls : (t : Bool) (k : ℕ) (w : ℤ) (b : Best) → weight_of (after t k w b) ≤ᶜ weight_of b
unfolding after
after_falls false k w b = ≤ᶜ_refl (weight_of b)
after_falls true k w b = by (beats w b) refl
  where
    by : (c : Bool) → beats w b ≡ c → weight_of (cond c (made k w) b) ≤ᶜ weight_of b
    by true e = beats_le w b e
    by false e = ≤ᶜ_refl (weight_of b)

after_under : (k : ℕ) (w : ℤ) (b : Best) → weight_of (after true k w b) ≤ᶜ num w
unfolding after
after_under k w b = by (beats w b) refl
  where
    by : (c : Bool) → beats w b ≡ c → weight_of (cond c (made k w) b) ≤ᶜ num w
    by true e = ≤ℤ_refl w
    by false e = not_beats_le w b e

after_kept : (t : Bool) (k : ℕ) (w : ℤ) (b : Best) → (weight_of (after t k w b) ≡ weight_of b) ⊎ ((t ≡ true) × (weight_of (after t k w b) ≡ num w))
unfolding after
after_kept false k w b = inl refl
after_kept true k w b = by (beats w b)
  where
    by : (c : Bool) → (weight_of (cond c (made k w) b) ≡ weight_of b) ⊎ ((◌≡◌ {A = Bool} true true) × (weight_of (cond c (made k w) b) ≡ num w))
    by true = inr (refl, refl)
    by false = inl refl

-- ---- a table, and one line more

-- U is T, but for the pair x, z, which may have fallen to c
pub record Moved (T U : Table) (x z : ℕ) (c : Cell) : Type 0 where
  pub falls : (a b : ℕ) → U a b ≤ᶜ T a b
  pub kept : (a b : ℕ) → (U a b ≡ T a b) ⊎ (((a ≡ x) × (b ≡ z)) × (U a b ≡ c))

best_cons : (s : Side) (x y : ℕ) (l : Line) (ls : List Line)
    → best s x y (l ∷ ls) ≡ after (leads s x y l) (length ls) l.weight (best s x y ls)
unfolding best after
best_cons s x y l ls = refl

pub moved : (s : Side) (l : Line) (ls : List Line) → Moved (cells s ls) (cells s (l ∷ ls)) l.from l.to (num l.weight)
moved s l ls = record {
  falls = λ a b. rw (best_cons s a b l ls) (after_falls (leads s a b l) (length ls) l.weight (best s a b ls));
  kept = λ a b. kept a b;
}
  where
    kept : (a b : ℕ) → (cells s (l ∷ ls) a b ≡ cells s ls a b) ⊎ (((a ≡ l.from) × (b ≡ l.to)) × (cells s (l ∷ ls) a b ≡ num l.weight))
    kept a b =
        rw (best_cons s a b l ls)
        (⊎_elim inl
        (λ h.
        let both : eqb l.from a && eqb l.to b ≡ true = and_right (counts s l.kind) (eqb l.from a && eqb l.to b) h.0 in
        inr (
          (
            sym (eqb-true l.from a (and_left (eqb l.from a) (eqb l.to b) both)),
            sym (eqb-true l.to b (and_right (eqb l.from a) (eqb l.to b) both)),
          ),
          h.1,
        ))
        (after_kept (leads s a b l) (length ls) l.weight (best s a b ls)))

-- a line that counts for a side is not exceeded by its pair there
pub put_under : (s : Side) (l : Line) (ls : List Line) → counts s l.kind ≡ true → cells s (l ∷ ls) l.from l.to ≤ᶜ num l.weight
put_under s l ls e =
    let f : eqb l.from l.from ≡ true = eq-eqb l.from l.from refl in
    let g : eqb l.to l.to ≡ true = eq-eqb l.to l.to refl in
    let h : leads s l.from l.to l ≡ true = rw (e, f, g) in
    rw (best_cons s l.from l.to l ls, h) (after_under (length ls) l.weight (best s l.from l.to ls))

-- "an open pair's best includes its strict one"
open_cons : (l : Line) (ls : List Line) (x y : ℕ) → cells Open ls x y ≤ᶜ cells Strict ls x y → cells Open (l ∷ ls) x y ≤ᶜ cells Strict (l ∷ ls) x y
open_cons l ls x y h = ⊎_elim same new ((moved Strict l ls).kept x y)
  where
    same : cells Strict (l ∷ ls) x y ≡ cells Strict ls x y → cells Open (l ∷ ls) x y ≤ᶜ cells Strict (l ∷ ls) x y
    same e = rw e (≤ᶜ_trans (cells Open (l ∷ ls) x y) (cells Open ls x y) (cells Strict ls x y) ((moved Open l ls).falls x y) h)

    new : ((x ≡ l.from) × (y ≡ l.to)) × (cells Strict (l ∷ ls) x y ≡ num l.weight) → cells Open (l ∷ ls) x y ≤ᶜ cells Strict (l ∷ ls) x y
    new k = rw k.1 (rw (k.0.0, k.0.1) (put_under Open l ls refl))

-- the best where there is no line
best_none : (s : Side) (x y : ℕ) → best s x y [] ≡ cond (eqb x y) still none
unfolding best
best_none s x y = refl

pub open_under : (ls : List Line) (x y : ℕ) → cells Open ls x y ≤ᶜ cells Strict ls x y
open_under [] x y = rw (best_none Open x y, best_none Strict x y) (≤ᶜ_refl (weight_of (cond (eqb x y) still none)))
open_under (l ∷ ls) x y = open_cons l ls x y (open_under ls x y)

-- the cells where there is no line
pub first_cell : (s : Side) (x y : ℕ) → (cells s [] x y ≡ mark) ⊎ ((x ≡ y) × (cells s [] x y ≡ num (pos zero)))
first_cell s x y = rw (best_none s x y) (by (eqb x y) refl)
  where
    by : (t : Bool) → eqb x y ≡ t → (weight_of (cond t still none) ≡ mark) ⊎ ((x ≡ y) × (weight_of (cond t still none) ≡ num (pos zero)))
    by true e = inr (eqb-true x y e, refl)
    by false e = inl refl

-- ---- from a point to itself

-- the best of a point and itself, where no line leads there
pub diagonal_first : (s : Side) (a : ℕ) → best s a a [] ≡ still
diagonal_first s a = best_none s a a ∙ rw (eq-eqb a a refl)

pub diagonal_kept : (s : Side) (a : ℕ) (l : Line) (ls : List Line) → l.from ≢ l.to → best s a a ls ≡ still → best s a a (l ∷ ls) ≡ still
unfolding after
diagonal_kept s a l ls differs h = best_cons s a a l ls ∙ rw apart h
  where
    apart : leads s a a l ≡ false
    apart = by (leads s a a l) refl
      where
        by : (t : Bool) → leads s a a l ≡ t → t ≡ false
        by false e = refl
        by true e =
            let both : eqb l.from a && eqb l.to a ≡ true = and_right (counts s l.kind) (eqb l.from a && eqb l.to a) e in
            absurd
            (differs
            (eqb-true l.from a (and_left (eqb l.from a) (eqb l.to a) both)
            ∙ sym (eqb-true l.to a (and_right (eqb l.from a) (eqb l.to a) both))))

-- ---- a try

-- why a line was written
abbrev pub Written : Line → List Line → Type 0
Written l ls = (always l.kind ≡ true) ⊎ (beats l.weight (best (side_of l.kind) l.from l.to ls) ≡ true)

pub data Tried (ls : List Line) : Offer → List Line → Type 0 where
  empty : Tried ls nothing ls
  kept : {l : Line} → beats l.weight (best (side_of l.kind) l.from l.to ls) ≡ false → Tried ls (line l) ls
  wrote : {l : Line} → Written l ls → Tried ls (line l) (l ∷ ls)

pub tried : (o : List Line → Offer) (ls : List Line) → ended ls ≡ false → Tried ls (o ls) (try o ls)
unfolding try write
tried o ls e = rw e (by (o ls))
  where
    by : (f : Offer) → Tried ls f (write f ls)
    by nothing = empty
    by (line l) = test (always l.kind) (beats l.weight (best (side_of l.kind) l.from l.to ls)) refl refl
      where
        test : (a b : Bool) → always l.kind ≡ a → beats l.weight (best (side_of l.kind) l.from l.to ls) ≡ b
            → Tried ls (line l) (cond (a || b) (l ∷ ls) ls)
        test true b p q = wrote (inl p)
        test false true p q = wrote (inr q)
        test false false p q = kept q

-- a line that is always written is written
pub try_always : (o : List Line → Offer) (ls : List Line) (l : Line) → ended ls ≡ false → o ls ≡ line l → always l.kind ≡ true → try o ls ≡ l ∷ ls
unfolding try write
try_always o ls l e q a = rw (e, q, a)

-- a line that was written and did not end the list does not lead from a point to itself
pub leads_on : (l : Line) (ls : List Line) → Written l ls → (always l.kind ≡ true → l.from ≢ l.to) → ((s : Side) (a : ℕ) → best s a a ls ≡ still)
    → ended (l ∷ ls) ≡ false → l.from ≢ l.to
leads_on l ls w differs zeros e q = ⊎_elim (λ a. differs a q) (λ b. true≢false (sym (below b) ∙ above)) w
  where
    below : beats l.weight (best (side_of l.kind) l.from l.to ls) ≡ true → lt_z l.weight (pos zero) ≡ true
    below b = rw (← q, zeros (side_of l.kind) l.from) at b

    above : lt_z l.weight (pos zero) ≡ false
    above = rw (eq-eqb l.from l.to q) at e

-- what every line that a try may write keeps, the try keeps
pub try_keeps : (Inv : List Line → Type 0) (o : List Line → Offer) (ls : List Line) → ended ls ≡ false → ended (try o ls) ≡ false → Inv ls
    → ((l : Line) → o ls ≡ line l → Written l ls → ended (l ∷ ls) ≡ false → Inv (l ∷ ls)) → Inv (try o ls)
try_keeps Inv o ls e g i step = by (tried o ls e) refl g
  where
    by : {f : Offer} {m : List Line} → Tried ls f m → o ls ≡ f → ended m ≡ false → Inv m
    by empty q g = i
    by (kept b) q g = i
    by (wrote {l} w) q g = step l q w g

-- a try raises no cell
pub try_falls : (o : List Line → Offer) (s : Side) (ls : List Line) → ended ls ≡ false → (a b : ℕ) → cells s (try o ls) a b ≤ᶜ cells s ls a b
try_falls o s ls e a b = by (tried o ls e)
  where
    by : {f : Offer} {m : List Line} → Tried ls f m → cells s m a b ≤ᶜ cells s ls a b
    by empty = ≤ᶜ_refl (cells s ls a b)
    by (kept q) = ≤ᶜ_refl (cells s ls a b)
    by (wrote {l} w) = (moved s l ls).falls a b

-- ---- joins, of either side

abbrev pub join_kind : Side → ℕ
join_kind Strict = strict_join
join_kind Open = open_join

abbrev pub join_offer : Side → ℕ → ℕ → ℕ → List Line → Offer
join_offer s y x z ls = joined (join_kind s) x z (best s x y ls) (best s y z ls)

pub strict_offer_lem : (y x z : ℕ) (ls : List Line) → strict_offer y x z ls ≡ join_offer Strict y x z ls
unfolding strict_offer
strict_offer_lem y x z ls = refl

pub open_offer_lem : (y x z : ℕ) (ls : List Line) → open_offer y x z ls ≡ join_offer Open y x z ls
unfolding open_offer
open_offer_lem y x z ls = refl

-- the line that a join offers
pub record JoinLine (s : Side) (y x z : ℕ) (ls : List Line) (l : Line) : Type 0 where
  pub kind_is : l.kind ≡ join_kind s
  pub from_is : l.from ≡ x
  pub to_is : l.to ≡ z
  pub left : ℤ
  pub right : ℤ
  pub left_is : cells s ls x y ≡ num left
  pub right_is : cells s ls y z ≡ num right
  pub sum : l.weight ≡ left +ℤ right

pub no_offer : {l : Line} → nothing ≡ line l → ⊥
no_offer e = let z : ◌≡◌ {A = ℕ} 0 1 = cc in omega arith

pub same_line : {l m : Line} → line l ≡ line m → l ≡ m
same_line e = cc

pub join_line : (s : Side) (y x z : ℕ) (ls : List Line) (l : Line) → join_offer s y x z ls ≡ line l → JoinLine s y x z ls l
join_line s y x z ls l e = by (best s x y ls) (best s y z ls) refl refl e
  where
    by : (b c : Best) → best s x y ls ≡ b → best s y z ls ≡ c → joined (join_kind s) x z b c ≡ line l → JoinLine s y x z ls l
    by none c p q e = absurd (no_offer e)
    by still c p q e = absurd (no_offer e)
    by (made i v) none p q e = absurd (no_offer e)
    by (made i v) still p q e = absurd (no_offer e)
    by (made i v) (made j w) p q e =
        let f : record { kind = join_kind s; from = x; to = z; weight = v +ℤ w; first = i; second = j } ≡ l = same_line e in
        record {
          kind_is = sym (ap (λ (m : Line). m.kind) f);
          from_is = sym (ap (λ (m : Line). m.from) f);
          to_is = sym (ap (λ (m : Line). m.to) f);
          left = v;
          right = w;
          left_is = rw p;
          right_is = rw q;
          sum = sym (ap (λ (m : Line). m.weight) f);
        }

pub join_side : (s : Side) → side_of (join_kind s) ≡ s
join_side Strict = refl
join_side Open = refl

pub join_counts : (s : Side) → counts s (join_kind s) ≡ true
join_counts Strict = refl
join_counts Open = refl

pub join_not_always : (s : Side) → always (join_kind s) ≡ false
join_not_always Strict = refl
join_not_always Open = refl

-- after the try the pair does not exceed the sum
pub join_under : (s : Side) (o : List Line → Offer) (y x z : ℕ) (ls : List Line) → o ls ≡ join_offer s y x z ls → ended ls ≡ false
    → cells s (try o ls) x z ≤ᶜ (cells s ls x y +ᶜ cells s ls y z)
join_under s o y x z ls is e = by (best s x y ls) (best s y z ls) refl refl
  where
    same : cells s (try o ls) x z ≤ᶜ cells s ls x z
    same = try_falls o s ls e x z

    line_under : (i j : ℕ) (v w : ℤ) {f : Offer} {m : List Line} → Tried ls f m
        → f ≡ line (record { kind = join_kind s; from = x; to = z; weight = v +ℤ w; first = i; second = j }) → cells s m x z ≤ᶜ num (v +ℤ w)
    line_under i j v w empty q = absurd (no_offer q)
    line_under i j v w (kept {l} b) q =
        let f : l ≡ record { kind = join_kind s; from = x; to = z; weight = v +ℤ w; first = i; second = j } = same_line q in
        not_beats_le (v +ℤ w) (best s x z ls) (rw (f, join_side s) at b)
    line_under i j v w (wrote {l} b) q =
        let f : l ≡ record { kind = join_kind s; from = x; to = z; weight = v +ℤ w; first = i; second = j } = same_line q in
        rw f (put_under s (record { kind = join_kind s; from = x; to = z; weight = v +ℤ w; first = i; second = j }) ls (join_counts s))

    by : (b c : Best) → best s x y ls ≡ b → best s y z ls ≡ c → cells s (try o ls) x z ≤ᶜ (weight_of b +ᶜ weight_of c)
    by none c p q = ≤ᶜ_mark (cells s (try o ls) x z)
    by still c p q =
        let xy : x ≡ y = still_same s x y ls p in
        let there : cells s ls x z ≡ weight_of c = rw (xy, q) in
        rw (zero-+ᶜ (weight_of c), ← there) same
    by (made i v) none p q = ≤ᶜ_mark (cells s (try o ls) x z)
    by (made i v) still p q =
        let yz : y ≡ z = still_same s y z ls q in
        let there : cells s ls x z ≡ num v = rw (← yz, p) in
        rw (+ℤ_idr v, ← there) same
    by (made i v) (made j w) p q = line_under i j v w (tried o ls e) (is ∙ rw (p, q))

-- and nothing but its pair has changed, if that has
pub join_moved : (s : Side) (o : List Line → Offer) (y x z : ℕ) (ls : List Line) → o ls ≡ join_offer s y x z ls → ended ls ≡ false
    → Moved (cells s ls) (cells s (try o ls)) x z (cells s ls x y +ᶜ cells s ls y z)
join_moved s o y x z ls is e = record { falls = λ a b. try_falls o s ls e a b; kept = λ a b. by a b (tried o ls e) refl }
  where
    by : (a b : ℕ) {f : Offer} {m : List Line} → Tried ls f m → o ls ≡ f
        → (cells s m a b ≡ cells s ls a b) ⊎ (((a ≡ x) × (b ≡ z)) × (cells s m a b ≡ cells s ls x y +ᶜ cells s ls y z))
    by a b empty q = inl refl
    by a b (kept t) q = inl refl
    by a b (wrote {l} w) q =
        let j : JoinLine s y x z ls l = join_line s y x z ls l (sym is ∙ q) in
        let sum : num l.weight ≡ cells s ls x y +ᶜ cells s ls y z = rw (j.left_is, j.right_is) (ap num j.sum) in
        ⊎_elim inl (λ h. inr ((h.0.0 ∙ j.from_is, h.0.1 ∙ j.to_is), h.1 ∙ sum)) ((moved s l ls).kept a b)
