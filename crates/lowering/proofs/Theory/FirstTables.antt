-- The first tables: they have their walks, hold every given edge and 0 at most on the diagonal, and leave what lies past the room. Assumes nothing.
use mathlib.Core.Path.{◌≡◌, refl, ap, subst, ◌∙◌}
use mathlib.Core.Logic.{inl, inr, ⊎_elim}
use mathlib.Core.List.{List, Memᴰ}
use Prim.Native.Nat.{ℕ, zero, suc, ◌+◌, ◌*◌, ◌≤◌, ◌<◌}
use native.Mathlib.Nat.{eq-or-lt_of_le, le_of_suc-le-suc, not-suc-le-zero}
use native.Mathlib.Omega.{arith}
use lib.ListN.{length, get_or, length-set}
use lib.Seq.{get_or-set_same, get_or-set_other}
use lib.IntN.{ℤ, pos, neg_ℤ}
use Rattle.whole.proofs.Order.{ints, neg}
use Rattle.whole.proofs.Place.{inside}
use Rattle.rules.specs.Plan.{Limit, Link, Plan, Ranges}
use Rattle.rules.proofs.Coherence.{Coherent}
use Rattle.rules.specs.Edges as edges
use Rattle.rules.specs.Edges.{Given}
use Rattle.rules.specs.Walks.{stay}
use Rattle.rules.specs.Cells.{mark, num, ◌≤ᶜ◌, Within, cell_of, table_of}
use Rattle.rules.proofs.Walks.{single, exactly}
use Rattle.rules.proofs.Points.{Pointed, Weighted, Ends, given_ends}
use Rattle.rules.proofs.Expansion.{basic_least, basic_given}
use Rattle.rules.proofs.Reach.{given_most}
use Rattle.lowering.specs.Sweep.{lower_cell, mark_all, diagonal_all, limit_cell, limit_all, start_all, link_edges, link_all, first_strict}
use Rattle.cell.proofs.CellMethods.{mark_is}
use Rattle.cell.proofs.StoredCells.{clamped_within}
use Rattle.lowering.proofs.Theory.WalksKept.{Walked}
use Rattle.lowering.proofs.Theory.StepsTaken.{Steps, one, both, each, Among, Rule, Puts, Taken, keeps, reached, rule_keeps, rule_reaches}
use Rattle.lowering.proofs.Theory.CellRules.{constant_rule}
use Rattle.lowering.proofs.Theory.SweepsTaken.{Any, cells}
use Rattle.lowering.proofs.Theory.StillSweep.{AllLinks, each_link}

-- ---- the mark everywhere

-- the first m cells hold the mark, the others and the length stay
pub record AllMark (r : Ranges) (m : ℕ) (t u : List ℤ) : Type 0 where
  pub same_length : length u ≡ length t
  pub beyond : (i : ℕ) → m ≤ i → get_or u i (pos zero) ≡ get_or t i (pos zero)
  pub all : (i : ℕ) → i < m → get_or u i (pos zero) ≡ pos r.mark

pub marks : (r : Ranges) (m : ℕ) (t : List ℤ) → m ≤ length t → AllMark r m t (mark_all r m t)
unfolding mark_all
marks r zero t h = record { same_length = refl; beyond = λ i k. refl; all = λ i k. absurd (not-suc-le-zero k) }
marks r (suc m) t h =
    let u : List ℤ = mark_all r m t in
    let w : AllMark r m t u = marks r m t (omega arith) in
    let room : m < length u = omega (arith, w.same_length) in
    record {
      same_length = length-set u m (pos r.mark) ∙ w.same_length;
      beyond = λ i k. get_or-set_other u m i (pos r.mark) (pos zero) (omega arith) ∙ w.beyond i (omega arith);
      all = λ i k.
          ⊎_elim (λ e. rw e (get_or-set_same u m (pos r.mark) (pos zero) room))
          (λ e. get_or-set_other u m i (pos r.mark) (pos zero) (omega arith) ∙ w.all i e) (eq-or-lt_of_le (le_of_suc-le-suc k));
    }

-- marks have their walks
pub marks_walked : (E : ℕ → ℕ → ℤ → Type 0) (r : Ranges) (n : ℕ) (t : List ℤ) → n * n ≤ length t → Walked E r n (mark_all r (n * n) t)
unfolding table_of
marks_walked E r n t h =
    let w : AllMark r (n * n) t (mark_all r (n * n) t) = marks r (n * n) t h in
    let is : (x y : ℕ) → x < n → y < n → table_of r n (mark_all r (n * n) t) x y ≡ mark =
    λ x y hx hy. ap (cell_of r.mark) (w.all (x * n + y) (inside hx hy)) ∙ mark_is r.mark in
    record {
      sound = record { room = omega (arith, w.same_length); stored = λ x y hx hy. rw (is x y hx hy) tt };
      has = λ x y hx hy. rw (is x y hx hy) tt;
    }

-- ---- the diagonal

module _ (E : ℕ → ℕ → ℤ → Type 0) (r : Ranges) (h : Coherent r) (n : ℕ) where
  diagonal_rule : (x : ℕ) → x < n → Rule E r n x x (λ t. num (pos zero))
  diagonal_rule x hx = constant_rule E r n (num (pos zero)) hx hx (exactly stay)

  pub diagonal_steps : Steps (Walked E r n) r n (diagonal_all r n)
  unfolding diagonal_all
  diagonal_steps = each n (λ x hx. one (rule_keeps (cells E r h n) (diagonal_rule x hx)))

  pub diagonal_among : (x : ℕ) → x < n → Among (Walked E r n) Any r n x x (λ t. num (pos zero)) diagonal_steps
  unfolding diagonal_steps
  diagonal_among x hx = (x, hx, rule_reaches (cells E r h n) (diagonal_rule x hx))

  -- a cell brought down to a number in reach is at most it
  pub number_below : {x y : ℕ} {c : ℤ} {f : List ℤ → List ℤ} → Rule E r n x y (λ t. num c) → (a : Steps (Walked E r n) r n f)
      → Among (Walked E r n) Any r n x y (λ t. num c) a → Within r.reach (num c) → (t : List ℤ) → Walked E r n t → table_of r n (f t) x y ≤ᶜ num c
  number_below {c} l a q within t w = rw (clamped_within r.reach (num c) within) at (reached (cells E r h n) l a q t w tt)

  pub zero_within : Within r.reach (num (pos zero))
  zero_within = (omega (ints, neg (pos r.reach)), omega ints)

  pub diagonal_below : (t : List ℤ) → Walked E r n t → (x : ℕ) → x < n → table_of r n (diagonal_all r n t) x x ≤ᶜ num (pos zero)
  diagonal_below t w x hx = number_below (diagonal_rule x hx) diagonal_steps (diagonal_among x hx) zero_within t w

-- ---- every given edge

-- the code's limits are all of the plan's
pub record AllLimits (p : Plan) (limit : ℕ → Limit) (count : ℕ) : Type 0 where
  pub member : (i : ℕ) → i < count → Memᴰ (limit i) p.limits
  pub index : (m : Limit) → Memᴰ m p.limits → ℕ
  pub index_below : (m : Limit) (k : Memᴰ m p.limits) → index m k < count
  pub index_is : (m : Limit) (k : Memᴰ m p.limits) → limit (index m k) ≡ m

each_limit : {p : Plan} {limit : ℕ → Limit} {count : ℕ} → AllLimits p limit count → (Q : Limit → Type 0) → ((i : ℕ) → i < count → Q (limit i))
    → (m : Limit) → Memᴰ m p.limits → Q m
each_limit a Q f m k = subst Q (a.index_is m k) (f (a.index m k) (a.index_below m k))

-- as walks of any edges that hold the given ones
module _ (p : Plan) (r : Ranges) (h : Coherent r) (g : Pointed p) (b : Weighted r.weight p) (limit : ℕ → Limit) (limits : ℕ)
    (al : AllLimits p limit limits) (link : ℕ → Link) (links : ℕ) (ak : AllLinks p link links) (E : ℕ → ℕ → ℤ → Type 0)
    (inc : (x y : ℕ) (w : ℤ) → Given p x y w → E x y w) where
  abbrev storing : Puts E r p.points (Walked E r p.points) Any (lower_cell r p.points)
  storing = cells E r h p.points

  given_rule : {x y : ℕ} {w : ℤ} → Given p x y w → Rule E r p.points x y (λ t. num w)
  given_rule {x} {y} {w} e =
      let q : Ends p x y = given_ends p g e in
      constant_rule E r p.points (num w) q.from q.to (exactly (single (inc x y w e)))

  -- the diagonal, the limits, the start edges, and both ordinary edges of each link
  given_steps : Steps (Walked E r p.points) r p.points
      (λ t. link_all r p.points link links (start_all r p.points (limit_all r p.points limit limits (diagonal_all r p.points t))))
  unfolding limit_all limit_cell start_all link_all link_edges
  given_steps =
      both
      (both (both (diagonal_steps E r h p.points) (each limits (λ i hi. one (rule_keeps storing (given_rule (edges.limit (al.member i hi)))))))
      (each p.points (λ x hx. one (rule_keeps storing (given_rule (edges.start hx))))))
      (each links (λ i hi.
      both (one (rule_keeps storing (given_rule (edges.longest (ak.links.member i hi)))))
      (one (rule_keeps storing (given_rule (edges.shortest (ak.links.member i hi)))))))

  abbrev Holds : ℕ → ℕ → ℤ → Type 0
  Holds x y w = Among (Walked E r p.points) Any r p.points x y (λ t. num w) given_steps

  given_among : {x y : ℕ} {w : ℤ} → Given p x y w → Holds x y w
  unfolding given_steps
  given_among (edges.limit {m} k) =
      each_limit al (λ m. Holds m.from m.to m.weight)
      (λ i hi. inl (inl (inr (i, hi, rule_reaches storing (given_rule (edges.limit (al.member i hi))))))) m k
  given_among (edges.start {x} k) = inl (inr (x, k, rule_reaches storing (given_rule (edges.start k))))
  given_among (edges.longest {k} m) =
      each_link ak (λ k. Holds k.act k.con (pos k.long))
      (λ i hi. inr (i, hi, inl (rule_reaches storing (given_rule (edges.longest (ak.links.member i hi)))))) k m
  given_among (edges.shortest {k} m) =
      each_link ak (λ k. Holds k.con k.act (neg_ℤ (pos k.short)))
      (λ i hi. inr (i, hi, inr (rule_reaches storing (given_rule (edges.shortest (ak.links.member i hi)))))) k m

  -- the first strict table
  module _ (t : List ℤ) (room : p.points * p.points ≤ length t) where
    marked : Walked E r p.points (mark_all r (p.points * p.points) t)
    marked = marks_walked E r p.points t room

    -- has its walks
    pub first_taken : Taken (Walked E r p.points) r p.points (mark_all r (p.points * p.points) t)
        (first_strict r p.points limit limits link links t)
    unfolding first_strict
    first_taken = keeps storing given_steps (mark_all r (p.points * p.points) t) marked

    -- is at most each given edge, whose weight is in reach
    pub first_below : (x y : ℕ) (v : ℤ) → Given p x y v → table_of r p.points (first_strict r p.points limit limits link links t) x y ≤ᶜ num v
    unfolding first_strict
    first_below x y v e =
        number_below E r h p.points (given_rule e) given_steps (given_among e) (
          omega (ints, basic_least b (basic_given e), h.holds_weight, neg (pos r.weight), neg (pos r.reach)),
          omega (ints, given_most b x y v e, h.holds_weight),
        ) (mark_all r (p.points * p.points) t) marked

    -- and at most 0 on the diagonal
    pub first_diagonal : (x : ℕ) → x < p.points → table_of r p.points (first_strict r p.points limit limits link links t) x x ≤ᶜ num (pos zero)
    unfolding first_strict given_steps
    first_diagonal x hx =
        number_below E r h p.points (diagonal_rule E r h p.points x hx) given_steps (inl (inl (inl (diagonal_among E r h p.points x hx))))
        (zero_within E r h p.points) (mark_all r (p.points * p.points) t) marked
