-- What the walks through the offers cite: where cells stand in the work room, that a cell read is the weight of the pair's best, and what joins, Lower and Upper come
-- to from such cells. Assumes nothing.
use mathlib.Core.Path.{◌≡◌, refl, sym, ap, ◌∙◌, subst}
use mathlib.Core.Bool.{Bool, true, false, cond, ◌||◌, true≢false}
use mathlib.Core.Logic.{⊎_elim}
use Rattle.std.specs.Prelude.{Some, None, IfSome}
use Rattle.std.specs.Bool.{then_some}
use mathlib.Core.List.{List, ◌∷◌}
use Prim.Native.Nat.{ℕ, suc, ◌+◌, ◌*◌, ◌≤◌, ◌<◌}
use native.Mathlib.Nat.{eq-or-lt_of_le}
use lib.Arith.{digits_lt}
use native.Mathlib.Omega.{arith}
use lib.ListN.{get_or}
use lib.IntN.{ℤ, pos, ◌+ℤ◌, +ℤ_idl, +ℤ_idr}
use lib.Signed.{◌≤ℤ◌, ≤ℤ_refl}
use Rattle.whole.proofs.Order.{ints}
use Rattle.whole.proofs.Bits.{le_lt_z}
use Rattle.rules.specs.declared.Side.{Side}
use Rattle.rules.specs.declared.Side.TheVariants.{Strict, Open}
use Rattle.rules.specs.Cells.{Cell, mark, num, ◌+ᶜ◌, Within}
use Rattle.cell.specs.Steps.{adding, roomy, cell64, belowᶜ, Stored, number_of}
use Rattle.cell.proofs.CellMethods.{number_is, mark_is}
use Rattle.rules.proofs.Cells.{same_number}
use Rattle.cell.proofs.StoredCells.{within_stored, number_of_lem}
use Rattle.chain.specs.Lines.{Line, Best, none, still, made, beats, best, weight_of, line_of, cells}
use Rattle.chain.specs.Reasons.{Offer, line, always, side_of, write, try, joined}
use Rattle.chain.proofs.BestLines.{still_same}
use Rattle.offers.specs.declared.Draft.{Draft}
use Rattle.offers.specs.Kinds.{kind_number}
use Rattle.offers.specs.Work.{spot_of, part_of, weight_in, Standing, Known}
use Rattle.offers.specs.Drafts.{made_of, Offers, Adds, Notable, Plain, lowers_by, NoneBefore}

-- ---- where cells stand

-- within the four tables
pub spot_below : {n part x y : ℕ} → x < n → y < n → part < 4 → spot_of n part x y < 4 * (n * n)
spot_below hx hy hp = digits_lt hp (digits_lt hx hy)

-- the two tables of a side are among them
pub part_next : (s : Side) → suc (part_of s) < 4
part_next Strict = omega arith
part_next Open = omega arith

pub part_small : (s : Side) → part_of s < 4
part_small s = omega (arith, part_next s)

-- ---- what is read

-- a number within the reach stands for itself
number_cell : (c : Cell) → Within roomy.reach c → cell64 (number_of adding.mark c) ≡ c
unfolding adding
number_cell mark h = mark_is adding.mark
number_cell (num a) h = number_is adding.mark a (omega (ints, h.1))

module _ {n : ℕ} {ls : List Line} {work : List ℤ} (t : Standing n ls work) where
  -- a weight read is that of the pair's best
  pub weight_read : (s : Side) (x y : ℕ) → x < n → y < n → weight_in n work (part_of s) x y ≡ cells s ls x y
  weight_read s x y hx hy = rw (t.holds.weight s x y hx hy) (number_cell (cells s ls x y) (t.near s x y hx hy))

-- it may be added to
pub near_read : {n : ℕ} {work : List ℤ} (s : Side) {x y : ℕ} {v : ℤ} → Known n work → x < n → y < n → v ≡ get_or work (spot_of n (part_of s) x y) (pos 0)
    → Stored roomy.reach (cell64 v)
near_read {n} {work} s {x} {y} {v} k hx hy e =
    rw (e, weight_read k.standing s x y hx hy) (within_stored roomy.reach (cells s k.lines x y) (k.standing.near s x y hx hy))

-- a cell that holds the number of a line holds no negative number
pub line_read : {n : ℕ} {work : List ℤ} (s : Side) {x y : ℕ} {v : ℤ} → Known n work → x < n → y < n → v ≡ get_or work (spot_of n (suc (part_of s)) x y) (pos 0)
    → pos 0 ≤ℤ v
line_read {n} {work} s {x} {y} {v} k hx hy e = rw (e, k.standing.holds.line s x y hx hy) (omega ints)

-- ---- the bests

-- whether a weight beats a best, by its cell
pub beats_is : (w : ℤ) (b : Best) → beats w b ≡ belowᶜ (num w) (weight_of b)
beats_is w none = refl
beats_is w still = refl
beats_is w (made i v) = refl

-- ---- a join

-- nothing is below itself, with or without a 0 before or after it
never_left : (b : Best) → belowᶜ (num (pos 0) +ᶜ weight_of b) (weight_of b) ≡ false
never_left none = refl
never_left still = refl
never_left (made i w) = rw (+ℤ_idl w) (le_lt_z w w (≤ℤ_refl w))

never_right : (b : Best) → belowᶜ (weight_of b +ᶜ num (pos 0)) (weight_of b) ≡ false
never_right none = refl
never_right still = refl
never_right (made i w) = rw (+ℤ_idr w) (le_lt_z w w (≤ℤ_refl w))

-- a line that does not beat its pair's best is not written, and one that does is
pub not_written : (l : Line) (ls : List Line) (c : Cell) → always l.kind ≡ false → cells (side_of l.kind) ls l.from l.to ≡ c
    → belowᶜ (num l.weight) c ≡ false → write (line l) ls ≡ ls
unfolding write
not_written l ls c a e f = rw (a, beats_is l.weight (best (side_of l.kind) l.from l.to ls), e, f)

pub is_written : (l : Line) (ls : List Line) (c : Cell) → cells (side_of l.kind) ls l.from l.to ≡ c
    → belowᶜ (num l.weight) c ≡ true → write (line l) ls ≡ l ∷ ls
unfolding write
is_written l ls c e f = by (always l.kind) (beats_is l.weight (best (side_of l.kind) l.from l.to ls) ∙ ap (belowᶜ (num l.weight)) e ∙ f)
  where
    by : (b : Bool) {t : Bool} → t ≡ true → cond (b || t) (l ∷ ls) ls ≡ l ∷ ls
    by true h = refl
    by false h = rw h

module _ (s : Side) (kind x y z : ℕ) (ls : List Line) where
  -- what a join offers is not written where the sum is not below the pair's cell
  pub join_none : always kind ≡ false → side_of kind ≡ s → belowᶜ (cells s ls x y +ᶜ cells s ls y z) (cells s ls x z) ≡ false
      → write (joined kind x z (best s x y ls) (best s y z ls)) ls ≡ ls
  unfolding write
  join_none a o f = by (best s x y ls) (best s y z ls) f
    where
      by : (b c : Best) → belowᶜ (weight_of b +ᶜ weight_of c) (cells s ls x z) ≡ false → write (joined kind x z b c) ls ≡ ls
      by none c f = refl
      by still c f = refl
      by (made i v) none f = refl
      by (made i v) still f = refl
      by (made i v) (made j w) f =
          not_written (record { kind = kind; from = x; to = z; weight = v +ℤ w; first = i; second = j }) ls (cells s ls x z) a
          (ap (λ (q : Side). cells q ls x z) o) f

  -- and where it is, both are lines
  pub join_some : belowᶜ (cells s ls x y +ᶜ cells s ls y z) (cells s ls x z) ≡ true → (w : ℤ) → num w ≡ cells s ls x y +ᶜ cells s ls y z
      → joined kind x z (best s x y ls) (best s y z ls)
      ≡ line (record { kind = kind; from = x; to = z; weight = w; first = line_of (best s x y ls); second = line_of (best s y z ls) })
  join_some f w e = by (best s x y ls) refl (best s y z ls) refl f e
    where
      by : (b : Best) → best s x y ls ≡ b → (c : Best) → best s y z ls ≡ c → belowᶜ (weight_of b +ᶜ weight_of c) (cells s ls x z) ≡ true
          → num w ≡ weight_of b +ᶜ weight_of c
          → joined kind x z b c ≡ line (record { kind = kind; from = x; to = z; weight = w; first = line_of b; second = line_of c })
      by none p c q f e = absurd (true≢false (sym f))
      by (made i v) p none q f e = absurd (true≢false (sym f))
      by still p c q f e =
          let g : x ≡ y = still_same s x y ls p in
          let t : belowᶜ (num (pos 0) +ᶜ weight_of c) (cells s ls y z) ≡ true = subst (λ (a : ℕ). belowᶜ (num (pos 0) +ᶜ weight_of c) (cells s ls a z) ≡ true) g f in
          absurd (true≢false (sym t ∙ ap (λ (d : Best). belowᶜ (num (pos 0) +ᶜ weight_of c) (weight_of d)) q ∙ never_left c))
      by (made i v) p still q f e =
          let g : y ≡ z = still_same s y z ls q in
          let t : belowᶜ (num v +ᶜ num (pos 0)) (cells s ls x y) ≡ true = subst (λ (a : ℕ). belowᶜ (num v +ᶜ num (pos 0)) (cells s ls x a) ≡ true) (sym g) f in
          absurd (true≢false (sym t ∙ ap (λ (d : Best). belowᶜ (num v +ᶜ num (pos 0)) (weight_of d)) p ∙ never_right (made i v)))
      by (made i v) p (made j u) q f e = rw (same_number e)

-- ---- the search for the next join

module _ {n : ℕ} {work : List ℤ} {part y x z : ℕ} where
  pub none_more : {at : ℕ} → NoneBefore n work part y x z at → lowers_by n work part y x at ≡ false → NoneBefore n work part y x z (at + 1)
  none_more {at} before f =
      record {
        stays = λ j a b. ⊎_elim
            (λ (e : j ≡ at). rw e f)
            (λ (l : j < at). before.stays j a l)
            (eq-or-lt_of_le (omega arith));
      }

  -- at the last column
  pub none_all : {at : ℕ} → NoneBefore n work part y x z at → n ≤ at → NoneBefore n work part y x z n
  none_all before h = record { stays = λ j a b. before.stays j a (omega arith) }

-- a row whose cell to the middle is the mark
pub none_by_mark : {n : ℕ} {work : List ℤ} {part y x z r : ℕ} (v : ℤ) → v ≡ get_or work (spot_of n part x y) (pos 0) → cell64 v ≡ mark → NoneBefore n work part y x z r
none_by_mark {n} {work} {part} {y} {x} v e m = record { stays = λ j a b. let g : weight_in n work part x y ≡ mark = ap cell64 (sym e) ∙ m in rw g }

-- the test that the code makes, of the cells as they were read
pub lowers_read : (n : ℕ) (work : List ℤ) (part y x j : ℕ) {t : Bool} (a b c s : ℤ) → a ≡ get_or work (spot_of n part x y) (pos 0)
    → b ≡ get_or work (spot_of n part y j) (pos 0) → c ≡ get_or work (spot_of n part x j) (pos 0) → cell64 s ≡ cell64 a +ᶜ cell64 b
    → t ≡ belowᶜ (cell64 s) (cell64 c) → lowers_by n work part y x j ≡ t
lowers_read n work part y x j a b c s ea eb ec es et = rw (← ea, ← eb, ← ec, ← es) (sym et)

-- ---- what a try adds

-- nothing offered adds nothing
pub none_adds : {n : ℕ} {work : List ℤ} (offer : List Line → Offer) → Offers n work offer None → Adds n work offer None
unfolding try write
none_adds offer given ls t = rw (t.going, given ls t)

-- an ordinary line, kept or not by the test of its weight against the strict cell
module _ (n : ℕ) (work : List ℤ) (d : Draft) (c : ℤ) (p : Plain n d) (ec : c ≡ get_or work (spot_of n 0 d.from d.to) (pos 0)) where
  side_cell : (ls : List Line) → Standing n ls work → cells (side_of (kind_number d.kind)) ls d.from d.to ≡ cell64 c
  side_cell ls t = rw p.strict (sym (weight_read t Strict d.from d.to p.notable.from p.notable.to) ∙ ap cell64 (sym ec))

  pub kept_adds : (t : Bool) → t ≡ belowᶜ (cell64 d.weight) (cell64 c) → (offer : List Line → Offer) → Offers n work offer (Some d) → Adds n work offer (then_some t d)
  unfolding try write
  kept_adds true e offer given ls t =
      rw (t.going, given ls t)
      (is_written (made_of d) ls (cell64 c) (side_cell ls t) (ap (λ (q : Cell). belowᶜ q (cell64 c)) (sym p.notable.number) ∙ sym e))
  kept_adds false e offer given ls t =
      rw (t.going, given ls t)
      (not_written (made_of d) ls (cell64 c) p.ordinary (side_cell ls t) (ap (λ (q : Cell). belowᶜ q (cell64 c)) (sym p.notable.number) ∙ sym e))

  pub kept_notable : (t : Bool) → IfSome (then_some t d) (Notable n)
  kept_notable true = p.notable
  kept_notable false = tt

-- the number that was read of a line
pub same_line : (work : List ℤ) {i j r v : ℕ} → pos r ≡ get_or work i (pos 0) → i ≡ j → get_or work j (pos 0) ≡ pos v → r ≡ v
same_line work {i} {j} {r} {v} e h q =
    let f : pos r ≡ pos v = e ∙ ap (λ (k : ℕ). get_or work k (pos 0)) h ∙ q in
    omega ints

-- a cell below another is the number that was read of it
pub below_number : {w : ℤ} (c d : Cell) → cell64 w ≡ c → belowᶜ c d ≡ true → num w ≡ c
below_number mark d e f = absurd (true≢false (sym f))
below_number {w} (num q) d e f = ap num (number_of_lem adding.mark e)

-- a sum that lowers a cell is no mark
pub sum_number : (n : ℕ) (work : List ℤ) (part x y z : ℕ) → lowers_by n work part y x z ≡ true → (a b w : ℤ) → a ≡ get_or work (spot_of n part x y) (pos 0)
    → b ≡ get_or work (spot_of n part y z) (pos 0) → cell64 w ≡ cell64 a +ᶜ cell64 b → cell64 w ≡ num w
sum_number n work part x y z low a b w ea eb ew =
    let sum : cell64 w ≡ weight_in n work part x y +ᶜ weight_in n work part y z = rw (← ea, ← eb) ew in
    sum ∙ sym (below_number (weight_in n work part x y +ᶜ weight_in n work part y z) (weight_in n work part x z) sum low)

-- the join that was made of two bests as they were read
module _ (n : ℕ) (work : List ℤ) (s : Side) (kind x y z : ℕ) (hx : x < n) (hy : y < n) (hz : z < n) (lower : lowers_by n work (part_of s) y x z ≡ true)
    (a b : ℤ) (w : ℤ) (ea : a ≡ get_or work (spot_of n (part_of s) x y) (pos 0)) (eb : b ≡ get_or work (spot_of n (part_of s) y z) (pos 0))
    (ew : cell64 w ≡ cell64 a +ᶜ cell64 b) (f g : ℕ) where
  pub join_made : ((v : ℕ) → get_or work (spot_of n (suc (part_of s)) x y) (pos 0) ≡ pos v → f ≡ v)
      → ((v : ℕ) → get_or work (spot_of n (suc (part_of s)) y z) (pos 0) ≡ pos v → g ≡ v) → (ls : List Line) → Standing n ls work
      → joined kind x z (best s x y ls) (best s y z ls) ≡ line (record { kind = kind; from = x; to = z; weight = w; first = f; second = g })
  join_made lf lg ls t =
      let xy = weight_read t s x y hx hy in
      let yz = weight_read t s y z hy hz in
      let xz = weight_read t s x z hx hz in
      let low : belowᶜ (cells s ls x y +ᶜ cells s ls y z) (cells s ls x z) ≡ true = rw (← xy, ← yz, ← xz) lower in
      let sum : cell64 w ≡ cells s ls x y +ᶜ cells s ls y z = rw (← xy, ← yz, ← ea, ← eb) ew in
      let first : f ≡ line_of (best s x y ls) = lf (line_of (best s x y ls)) (t.holds.line s x y hx hy) in
      let second : g ≡ line_of (best s y z ls) = lg (line_of (best s y z ls)) (t.holds.line s y z hy hz) in
      join_some s kind x y z ls low w (below_number (cells s ls x y +ᶜ cells s ls y z) (cells s ls x z) sum low) ∙ rw (first, second)
