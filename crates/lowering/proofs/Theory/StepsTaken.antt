-- Steps taken one after another, each of which brings a cell of a table down to what a rule yields. What each of them keeps of a table, all of
-- them keep; and what one of them brought a cell down to, it stays at most. So a new step costs its rule and its place among the steps.
-- Over any ranges. Assumes nothing.
use mathlib.Core.Path.{◌≡◌, refl, sym, subst}
use mathlib.Core.Bool.{Bool, true, false, cond, true≢false}
use mathlib.Core.Logic.{◌⊎◌, inl, inr, ⊎_elim}
use mathlib.Core.List.{List}
use Prim.Native.Nat.{ℕ, zero, suc, ◌<◌}
use native.Mathlib.Nat.{not-suc-le-zero, eq-or-lt_of_le, le_of_suc-le-suc}
use native.Mathlib.Omega.{arith}
use lib.IntN.{ℤ, pos}
use Rattle.rules.specs.Plan.{Ranges}
use Rattle.rules.specs.Walks.{Walk}
use Rattle.rules.specs.Cells.{Cell, ◌≤ᶜ◌, Within, table_of}
use Rattle.rules.proofs.Cells.{AtMost}
use Rattle.rules.proofs.Walks.{Dominated}
use Rattle.cell.specs.Steps.{clamped}
use Rattle.cell.proofs.StoredCells.{≤ᶜ_trans}
use Rattle.lowering.specs.Sweep.{iter}
use Rattle.lowering.proofs.Theory.StoredNumbers.{clamped_mono, exact}
use Rattle.lowering.proofs.Theory.LoweredTables.{Lowered, lowered_refl, lowered_trans}
use Rattle.lowering.proofs.Theory.WalksKept.{Has, Walked}

-- u is t lowered, and P holds of it
pub record Taken (P : List ℤ → Type 0) (r : Ranges) (n : ℕ) (t u : List ℤ) : Type 0 where
  pub low : Lowered r n t u
  pub holds : P u

-- a step that keeps P
abbrev pub Keeps : (List ℤ → Type 0) → Ranges → ℕ → (List ℤ → List ℤ) → Type 0
Keeps P r n f = (t : List ℤ) → P t → Taken P r n t (f t)

-- a step that brings the cell x to y down to what a rule yields of any earlier table, where Q holds of the table after
abbrev pub Reaches : (List ℤ → Type 0) → (List ℤ → Type 0) → Ranges → ℕ → ℕ → ℕ → (List ℤ → Cell) → (List ℤ → List ℤ) → Type 0
Reaches P Q r n x y rule f = (s t : List ℤ) → Taken P r n s t → Q (f t) → table_of r n (f t) x y ≤ᶜ clamped r.reach (rule s)

-- steps put together: one, one after others, one for each number below m, and one where a test fails
pub data Steps (P : List ℤ → Type 0) (r : Ranges) (n : ℕ) : (List ℤ → List ℤ) → Type 0 where
  one : {f : List ℤ → List ℤ} → Keeps P r n f → Steps P r n f
  both : {f g : List ℤ → List ℤ} → Steps P r n f → Steps P r n g → Steps P r n (λ t. g (f t))
  each : {f : ℕ → List ℤ → List ℤ} (m : ℕ) → ((i : ℕ) → i < m → Steps P r n (f i)) → Steps P r n (iter f m)
  unless : {f : List ℤ → List ℤ} (b : Bool) → (b ≡ false → Steps P r n f) → Steps P r n (λ t. cond b t (f t))

-- where among steps the one is that brings the cell x to y down to what a rule yields: of two, the first or the second; of many, which
module _ (P Q : List ℤ → Type 0) (r : Ranges) (n x y : ℕ) (rule : List ℤ → Cell) where
  abbrev pub Among : {f : List ℤ → List ℤ} → Steps P r n f → Type 0
  Among (one {f} k) = Reaches P Q r n x y rule f
  Among (both a b) = Among a ⊎ Among b
  Among (each m a) = (i : ℕ) × (h : i < m) × Among (a i h)
  Among (unless b a) = (e : b ≡ false) × Among (a e)

-- a rule: from a table whose cells have their walks it yields a cell from x to y that has its walk, and no larger one from a lowered table
pub record Rule (E : ℕ → ℕ → ℤ → Type 0) (r : Ranges) (n x y : ℕ) (rule : List ℤ → Cell) : Type 0 where
  pub from_below : x < n
  pub to_below : y < n
  pub has : (t : List ℤ) → Walked E r n t → Has E x y (rule t)
  pub falls : (t u : List ℤ) → Lowered r n t u → rule u ≤ᶜ rule t

-- a way to bring a cell down, with what it keeps of a table, P, and what must hold of the table after for the cell to be down, Q, which then held before
pub record Puts (E : ℕ → ℕ → ℤ → Type 0) (r : Ranges) (n : ℕ) (P Q : List ℤ → Type 0) (put : ℕ → ℕ → Cell → List ℤ → List ℤ) : Type 0 where
  pub walks : (t : List ℤ) → P t → Walked E r n t
  pub before : (t u : List ℤ) → P t → Lowered r n t u → Q u → Q t
  pub puts : (x y : ℕ) (c : Cell) → x < n → y < n → Has E x y c → Keeps P r n (put x y c)
  pub down : (x y : ℕ) (c : Cell) → x < n → y < n → Has E x y c → (t : List ℤ) → P t → Q (put x y c t)
      → table_of r n (put x y c t) x y ≤ᶜ clamped r.reach c

module _ {E : ℕ → ℕ → ℤ → Type 0} {r : Ranges} {n : ℕ} {P Q : List ℤ → Type 0} {put : ℕ → ℕ → Cell → List ℤ → List ℤ} (w : Puts E r n P Q put) where
  -- ---- what steps keep

  pub taken_none : (t : List ℤ) → P t → Taken P r n t t
  taken_none t p = record { low = lowered_refl r n t (w.walks t p).sound; holds = p }

  taken_more : {t u v : List ℤ} → Taken P r n t u → Taken P r n u v → Taken P r n t v
  taken_more {t} {u} {v} a b = record { low = lowered_trans r n t u v a.low b.low; holds = b.holds }

  iter_keeps : {f : ℕ → List ℤ → List ℤ} (m : ℕ) → ((i : ℕ) → i < m → Keeps P r n (f i)) → Keeps P r n (iter f m)
  iter_keeps zero k t p = taken_none t p
  iter_keeps {f} (suc m) k t p =
      let a : Taken P r n t (iter f m t) = iter_keeps m (λ i h. k i (omega arith)) t p in
      taken_more a (k m (omega arith) (iter f m t) a.holds)

  unless_keeps : {f : List ℤ → List ℤ} (b : Bool) → (b ≡ false → Keeps P r n f) → Keeps P r n (λ t. cond b t (f t))
  unless_keeps true k = taken_none
  unless_keeps false k = k refl

  pub keeps : {f : List ℤ → List ℤ} → Steps P r n f → Keeps P r n f
  keeps (one k) = k
  keeps (both {f} a b) = λ t p. taken_more (keeps a t p) (keeps b (f t) (keeps a t p).holds)
  keeps (each m a) = iter_keeps m (λ i h. keeps (a i h))
  keeps (unless b a) = unless_keeps b (λ e. keeps (a e))

  module _ {x y : ℕ} {rule : List ℤ → Cell} (l : Rule E r n x y rule) where
    -- ---- one rule

    pub rule_keeps : Keeps P r n (λ t. put x y (rule t) t)
    rule_keeps t p = w.puts x y (rule t) l.from_below l.to_below (l.has t (w.walks t p)) t p

    pub rule_reaches : Reaches P Q r n x y rule (λ t. put x y (rule t) t)
    rule_reaches s t k q =
        ≤ᶜ_trans (table_of r n (put x y (rule t) t) x y) (clamped r.reach (rule t)) (clamped r.reach (rule s))
        (w.down x y (rule t) l.from_below l.to_below (l.has t (w.walks t k.holds)) t k.holds q)
        (clamped_mono r.reach (rule t) (rule s) (l.falls s t k.low))

    -- ---- what one of many steps reaches

    abbrev Down : (List ℤ → List ℤ) → Type 0
    Down f = Reaches P Q r n x y rule f

    second_reaches : (f g : List ℤ → List ℤ) → Keeps P r n f → Down g → Down (λ t. g (f t))
    second_reaches f g kf m s t k q = m s (f t) (taken_more k (kf t k.holds)) q

    first_reaches : (f g : List ℤ → List ℤ) → Keeps P r n f → Keeps P r n g → Down f → Down (λ t. g (f t))
    first_reaches f g kf kg m s t k q =
        let a : P (f t) = (kf t k.holds).holds in
        let b : Lowered r n (f t) (g (f t)) = (kg (f t) a).low in
        ≤ᶜ_trans (table_of r n (g (f t)) x y) (table_of r n (f t) x y) (clamped r.reach (rule s)) (b.down x y l.from_below l.to_below)
        (m s t k (w.before (f t) (g (f t)) a b q))

    iter_reaches : (f : ℕ → List ℤ → List ℤ) (m : ℕ) → ((i : ℕ) → i < m → Keeps P r n (f i)) → (i : ℕ) → i < m → Down (f i) → Down (iter f m)
    iter_reaches f zero k i hi q = absurd (not-suc-le-zero hi)
    iter_reaches f (suc m) k i hi q =
        let earlier : Keeps P r n (iter f m) = iter_keeps m (λ j h. k j (omega arith)) in
        ⊎_elim (λ e. second_reaches (iter f m) (f m) earlier (subst (λ (j : ℕ). Down (f j)) e q))
        (λ d. first_reaches (iter f m) (f m) earlier (k m (omega arith)) (iter_reaches f m (λ j h. k j (omega arith)) i d q))
        (eq-or-lt_of_le (le_of_suc-le-suc hi))

    unless_reaches : (f : List ℤ → List ℤ) (b : Bool) → b ≡ false → Down f → Down (λ t. cond b t (f t))
    unless_reaches f true e q = absurd (true≢false e)
    unless_reaches f false e q = q

    pub reaches : {f : List ℤ → List ℤ} (a : Steps P r n f) → Among P Q r n x y rule a → Down f
    reaches (one k) q = q
    reaches (both {f} {g} a b) (inl q) = first_reaches f g (keeps a) (keeps b) (reaches a q)
    reaches (both {f} {g} a b) (inr q) = second_reaches f g (keeps a) (reaches b q)
    reaches (each {f} m a) q = iter_reaches f m (λ i h. keeps (a i h)) q.0 q.1 (reaches (a q.0 q.1) q.2)
    reaches (unless {f} b a) q = unless_reaches f b q.0 (reaches (a q.0) q.1)

    module _ {f : List ℤ → List ℤ} (a : Steps P r n f) (q : Among P Q r n x y rule a) (t : List ℤ) (p : P t) where
      -- after the steps, where Q holds
      pub reached : Q (f t) → table_of r n (f t) x y ≤ᶜ clamped r.reach (rule t)
      reached good = reaches a q t t (taken_none t p) good

      -- steps that leave a table as it is: its cell is at most what is stored of what the rule yields
      pub still_down : f t ≡ t → Q t → table_of r n t x y ≤ᶜ clamped r.reach (rule t)
      still_down same good = subst (λ (u : List ℤ). table_of r n u x y ≤ᶜ clamped r.reach (rule t)) same (reached (subst Q (sym same) good))

      -- and at most what the rule yields, if it is no lower than the reach, and in reach where there is a walk
      pub still_obeys : f t ≡ t → Q t → Within r.reach (table_of r n t x y)
          → ((v : ℤ) → Walk E x y v → AtMost (table_of r n t x y) (pos r.reach)) → table_of r n t x y ≤ᶜ rule t
      still_obeys same good within full =
          exact r.reach (table_of r n t x y) (rule t) within
          (λ c e. let d : Dominated E x y c = subst (Has E x y) e (l.has t (w.walks t p)) in full d.total d.walk) (still_down same good)
