-- A plan's tables are closed, and every cell that is not the mark lies within B(n - 1) of zero, where B bounds the plan's weights.
-- Assumes nothing.
use mathlib.Core.Path.{◌≡◌, refl, ap}
use mathlib.Core.Logic.{◌≢◌, ⊎_elim}
use mathlib.Core.Bool.{Bool, true, false, cond}
use mathlib.Core.List.{Memᴰ}
use Prim.Native.Nat.{ℕ, zero, ◌*◌, ◌-◌, ◌≤◌, ◌<◌}
use lib.IntN.{ℤ, pos, neg_ℤ, ◌+ℤ◌}
use lib.Signed.{lt_z, ◌≤ℤ◌, lt_z_yes}
use Rattle.whole.proofs.Order.{ints, neg, ≤ℤ_trans, ≤ℤ_antisym, split}
use Rattle.rules.specs.Plan.{Plan, Ranges, Link}
use Rattle.rules.specs.Edges as edges
use Rattle.rules.specs.Edges.{Derivable, Open, spread}
use Rattle.rules.specs.Walks.{Walk, stay}
use Rattle.rules.specs.Cells.{Cell, mark, num, ◌+ᶜ◌, ◌≤ᶜ◌, lowered, uppered, Within, Table}
use Rattle.rules.specs.Tables.{Least, Tables, Closed}
use Rattle.rules.proofs.Walks.{single, append, Dominated, exactly}
use Rattle.rules.proofs.Points.{Pointed, Weighted, Ends, given_ends}
use Rattle.rules.proofs.Domination.{lower_walk, upper_walk, as_open}
use Rattle.rules.proofs.Justified.{no_negative, tables_controllable}
use Rattle.rules.proofs.Reach.{floor, ceiling}

-- ---- least totals

-- a least total does not exceed the total of any walk
pub least_below : (E : ℕ → ℕ → ℤ → Type 0) (x y : ℕ) (c : Cell) {t : ℤ} → Least E x y c → Walk E x y t → c ≤ᶜ num t
least_below E x y mark {t} h k = h t k
least_below E x y (num c) {t} h k = h.1 t k

-- nor anything at least the total of some walk
pub least_under : (E : ℕ → ℕ → ℤ → Type 0) (x y : ℕ) (c : Cell) {t : ℤ} → Least E x y c → Dominated E x y t → c ≤ᶜ num t
least_under E x y mark h d = h d.total d.walk
least_under E x y (num c) h d = ≤ℤ_trans (h.1 d.total d.walk) d.le

-- from a point to itself the least total is 0
pub least_diagonal : (E : ℕ → ℕ → ℤ → Type 0) (x : ℕ) (c : Cell) → Least E x x c → c ≡ num (pos zero)
least_diagonal E x mark h = absurd (h (pos zero) stay)
least_diagonal E x (num c) h =
    ap num
    (≤ℤ_antisym (h.1 (pos zero) stay) (⊎_elim (λ l. l) (λ l. absurd (no_negative (num c) h h.0 l)) (split (pos zero) c)))

-- least totals along a middle point
least_join : (E : ℕ → ℕ → ℤ → Type 0) (x y z : ℕ) (a b c : Cell) → Least E x y a → Least E y z b → Least E x z c → c ≤ᶜ (a +ᶜ b)
least_join E x y z mark b mark ha hb hc = tt
least_join E x y z mark b (num c) ha hb hc = tt
least_join E x y z (num a) mark mark ha hb hc = tt
least_join E x y z (num a) mark (num c) ha hb hc = tt
least_join E x y z (num a) (num b) c ha hb hc = least_below E x z c hc (append ha.0 hb.0)

-- every cell is at most the mark
pub top : (c : Cell) → c ≤ᶜ mark
top mark = tt
top (num c) = tt

module _ (p : Plan) (strict weak : Table) (g : Pointed p) (t : Tables p strict weak) where
  -- ---- rules

  lower_below : (k j : Link) → Memᴰ k p.links → Memᴰ j p.links → j.con ≢ k.con
      → (c : Cell) → Least (Derivable p) k.con j.con c → strict k.act j.con ≤ᶜ lowered k j c
  lower_below k j hk hj ne mark h = top (strict k.act j.con)
  lower_below k j hk hj ne (num w) h = by (lt_z w (spread j)) refl
    where
      by : (b : Bool) → lt_z w (spread j) ≡ b → strict k.act j.con ≤ᶜ cond b (num (pos k.short +ℤ w)) mark
      by true e =
          least_under (Derivable p) k.act j.con (strict k.act j.con)
          (t.strict_least k.act j.con (g.link_act k hk) (g.link_con j hj))
          (lower_walk p hk hj refl refl (record { other = ne; below = lt_z_yes (rw e tt) }) (exactly h.0))
      by false e = top (strict k.act j.con)

  upper_below : (k : Link) → Memᴰ k p.links → (x : ℕ) → x < p.points
      → (c : Cell) → Least (Derivable p) x k.con c → strict x k.act ≤ᶜ uppered k c
  upper_below k hk x hx mark h = top (strict x k.act)
  upper_below k hk x hx (num v) h =
      least_under (Derivable p) x k.act (strict x k.act) (t.strict_least x k.act hx (g.link_act k hk))
      (upper_walk p hk refl (exactly h.0))

  open_below : (x y : ℕ) → x < p.points → y < p.points → (c : Cell) → Least (Derivable p) x y c → weak x y ≤ᶜ c
  open_below x y hx hy mark h = top (weak x y)
  open_below x y hx hy (num c) h = least_below (Open p) x y (weak x y) (t.open_least x y hx hy) (as_open h.0)

  -- ---- ranges

  module _ (B : ℕ) (b : Weighted B p) where
    above_floor : {x y : ℕ} {c : ℤ} → x < p.points → Walk (Open p) x y c → neg_ℤ (pos (B * (p.points - 1))) ≤ℤ c
    above_floor hx k = ⊎_elim (λ u. absurd (tables_controllable p strict weak g t u)) (λ h. h) (floor B p g b hx k)

    -- a strict cell that is not the mark lies within B(n - 1) of zero
    pub strict_reach : (x y : ℕ) → x < p.points → y < p.points → Within (B * (p.points - 1)) (strict x y)
    strict_reach x y hx hy = by (strict x y) (t.strict_least x y hx hy)
      where
        by : (c : Cell) → Least (Derivable p) x y c → Within (B * (p.points - 1)) c
        by mark h = tt
        by (num c) h =
            (above_floor hx (as_open h.0), least_under (Derivable p) x y (num c) h (ceiling B p g b hx (as_open h.0)))

    -- and so does an open cell
    pub open_reach : (x y : ℕ) → x < p.points → y < p.points → Within (B * (p.points - 1)) (weak x y)
    open_reach x y hx hy = by (weak x y) (t.open_least x y hx hy)
      where
        by : (c : Cell) → Least (Open p) x y c → Within (B * (p.points - 1)) c
        by mark h = tt
        by (num c) h =
            let d : Dominated (Derivable p) x y (pos (B * (p.points - 1))) = ceiling B p g b hx h.0 in
            (above_floor hx h.0, least_under (Open p) x y (num c) h (record { total = d.total; walk = as_open d.walk; le = d.le }))

-- a wider range holds what a narrower one does
pub wider : {a b : ℕ} (c : Cell) → a ≤ b → Within a c → Within b c
wider mark h w = tt
wider {a} {b} (num c) h w = (omega (ints, w.0, neg (pos a), neg (pos b)), omega (ints, w.1))

-- a plan's tables are closed, where the closed range holds B(n - 1)
pub tables_closed : (r : Ranges) (p : Plan) (strict weak : Table) → Pointed p → Weighted r.weight p
    → r.weight * (p.points - 1) ≤ r.reach → Tables p strict weak → Closed r p strict weak
tables_closed r p strict weak g b fits t = record {
  strict_within = λ x y hx hy. wider (strict x y) fits (strict_reach p strict weak g t r.weight b x y hx hy);
  open_within = λ x y hx hy. wider (weak x y) fits (open_reach p strict weak g t r.weight b x y hx hy);
  strict_diagonal = λ x hx. least_diagonal (Derivable p) x (strict x x) (t.strict_least x x hx hx);
  open_diagonal = λ x hx. least_diagonal (Open p) x (weak x x) (t.open_least x x hx hx);
  strict_join_rule = λ x y z hx hy hz.
      least_join (Derivable p) x y z (strict x y) (strict y z) (strict x z) (t.strict_least x y hx hy) (t.strict_least y z hy hz)
      (t.strict_least x z hx hz);
  open_join_rule = λ x y z hx hy hz.
      least_join (Open p) x y z (weak x y) (weak y z) (weak x z) (t.open_least x y hx hy) (t.open_least y z hy hz)
      (t.open_least x z hx hz);
  given = λ x y w e.
      let h : Ends p x y = given_ends p g e in
      least_below (Derivable p) x y (strict x y) (t.strict_least x y h.from h.to) (single (edges.given e));
  lower = λ k j hk hj ne.
      lower_below p strict weak g t k j hk hj ne (strict k.con j.con)
      (t.strict_least k.con j.con (g.link_con k hk) (g.link_con j hj));
  upper = λ k hk x hx.
      upper_below p strict weak g t k hk x hx (strict x k.con) (t.strict_least x k.con hx (g.link_con k hk));
  open_strict = λ x y hx hy. open_below p strict weak g t x y hx hy (strict x y) (t.strict_least x y hx hy);
  open_lower_case = λ k hk.
      least_below (Open p) k.act k.con (weak k.act k.con)
      (t.open_least k.act k.con (g.link_act k hk) (g.link_con k hk))
      (single (edges.lower_case_rule hk));
}
