-- What rounds of Lower and Upper carry from one to the next, of joined tables: every cell has its walk, every pair that a walk joins has a cell in reach, and a fair table
-- is joined. And how they end: where a round leaves the strict table as it was and both are fair, they are the plan's tables. Over any coherent ranges. Assumes nothing.
use mathlib.Core.Path.{◌≡◌, subst}
use mathlib.Core.Logic.{◌≢◌, inl, inr}
use mathlib.Core.List.{List, Memᴰ}
use Prim.Native.Nat.{ℕ, zero, ◌<◌}
use lib.IntN.{ℤ, pos, ◌+ℤ◌}
use lib.Signed.{≤ℤ_refl}
use Rattle.rules.specs.Plan.{Link, Plan, Ranges}
use Rattle.rules.proofs.Coherence.{Coherent}
use Rattle.rules.specs.Edges as edges
use Rattle.rules.specs.Edges.{Given, Derivable, Open}
use Rattle.rules.specs.Walks.{Walk, stay, step}
use Rattle.rules.specs.Cells.{Cell, num, ◌≤ᶜ◌, lowered, uppered, table_of}
use Rattle.rules.specs.Tables.{Tables}
use Rattle.rules.proofs.Cells.{AtMost, at_most, by_at_most, under, sum, lowered_at_most, uppered_at_most}
use Rattle.rules.proofs.Walks.{single, append, Dominated}
use Rattle.rules.proofs.Points.{Pointed, derivable_ends}
use Rattle.rules.proofs.Justified.{justified_closed}
use Rattle.rules.proofs.Domination.{as_open}
use Rattle.cell.specs.Steps.{clamped}
use Rattle.cell.proofs.StoredCells.{clamped_within}
use Rattle.lowering.specs.Fair.{Fair}
use Rattle.lowering.specs.Spread.{new_edge, lower_edge, lower_edges, lower_round, upper_edge, upper_edges, upper_round, strict_round, case_edge, case_edges, follow_lower, follow_lowers, follow_upper, follow_uppers, follow_link, open_round}
use Rattle.lowering.proofs.Theory.LoweredTables.{lowered_below, fair_before}
use Rattle.lowering.proofs.Theory.WalksKept.{Has, under_walks, Walked, PlanLinks}
use Rattle.lowering.proofs.Theory.StoredNumbers.{exact}
use Rattle.lowering.proofs.Theory.StillSweep.{given_stays, AllLinks, each_link, two_links}
use Rattle.lowering.proofs.Theory.StepsTaken.{Taken, Steps, one, both, each, Among, Rule, Puts, keeps, reached, rule_keeps, rule_reaches, still_obeys}
use Rattle.lowering.proofs.Theory.CellRules.{lower_rule, lower_steps_lem, lower_among, upper_rule, case_rule, lower_cell_lem, upper_cell_lem}
use Rattle.lowering.proofs.Theory.SpreadSteps.{edge_keeps}
use Rattle.lowering.proofs.Theory.SpreadKeepsJoined.{Shut, Full, edge_shut, edge_under}

-- a table over a family of edges, as rounds carry it
pub record Carried (E : ℕ → ℕ → ℤ → Type 0) (p : Plan) (r : Ranges) (t : List ℤ) : Type 0 where
  pub walks : Walked E r p.points t
  pub full : (x z : ℕ) (s : ℤ) → x < p.points → z < p.points → Walk (Open p) x z s → AtMost (table_of r p.points t x z) (pos r.reach)
  pub shut : Fair r p.points t → Shut r p.points t

-- ---- one edge

module _ (E : ℕ → ℕ → ℤ → Type 0) (p : Plan) (r : Ranges) (h : Coherent r) (in_open : (x z : ℕ) (s : ℤ) → Walk E x z s → Walk (Open p) x z s) where
  module _ (a b : ℕ) (c : Cell) (ha : a < p.points) (hb : b < p.points) (k : Has E a b c) (t : List ℤ) (s : Carried E p r t) where
    after : List ℤ
    after = new_edge r p.points a b c t

    taken : Taken (Walked E r p.points) r p.points t after
    unfolding after
    taken = edge_keeps E r h p.points a b c ha hb k t s.walks

    full_after : (x z : ℕ) (v : ℤ) → x < p.points → z < p.points → Walk (Open p) x z v
        → AtMost (table_of r p.points after x z) (pos r.reach)
    full_after x z v hx hz q = under (taken.low.down x z hx hz) (s.full x z v hx hz q)

    -- two cells that are numbers, one after the other: the pair has a walk
    joined_full : Full r h p.points after
    joined_full x y z v₁ v₂ hx hy hz e₁ e₂ =
        let first : Dominated E x y v₁ = subst (Has E x y) e₁ (taken.holds.has x y hx hy) in
        let second : Dominated E y z v₂ = subst (Has E y z) e₂ (taken.holds.has y z hy hz) in
        let v : ℤ = first.total +ℤ second.total in
        full_after x z v hx hz (in_open x z v (append first.walk second.walk))

    shut_before : Fair r p.points after → Shut r p.points t
    shut_before f = s.shut (fair_before s.walks.sound taken.low f)

    -- an edge that has its walk keeps what is carried
    edge_carried : Taken (Carried E p r) r p.points t (new_edge r p.points a b c t)
    unfolding after
    edge_carried =
        record {
          low = taken.low;
          holds = record {
            walks = taken.holds;
            full = full_after;
            shut = λ f. edge_shut r h p.points a b c t s.walks.sound ha hb (shut_before f) joined_full f;
          };
        }

    -- and the cell is at most what is stored of it
    edge_down : Fair r p.points (new_edge r p.points a b c t)
        → table_of r p.points (new_edge r p.points a b c t) a b ≤ᶜ clamped r.reach c
    unfolding after
    edge_down f = edge_under r h p.points a b c t s.walks.sound ha hb (shut_before f) joined_full f

  -- taking edges
  edges_taken : Puts E r p.points (Carried E p r) (Fair r p.points) (new_edge r p.points)
  edges_taken =
      record { walks = λ t s. s.walks; before = λ t u s d f. fair_before s.walks.sound d f; puts = edge_carried; down = edge_down }

module _ (p : Plan) (r : Ranges) (h : Coherent r) where
  pub strict_edges : Puts (Derivable p) r p.points (Carried (Derivable p) p r) (Fair r p.points) (new_edge r p.points)
  strict_edges = edges_taken (Derivable p) p r h (λ x z s k. as_open k)

  pub open_edges : Puts (Open p) r p.points (Carried (Open p) p r) (Fair r p.points) (new_edge r p.points)
  open_edges = edges_taken (Open p) p r h (λ x z s k. k)

-- ---- rounds, whatever taking an edge keeps

module _ (p : Plan) (r : Ranges) (link : ℕ → Link) (count : ℕ) (l : PlanLinks p link count) {P Q : List ℤ → Type 0} where
  -- the strict table: Lower, Upper
  unfoldable pub strict_steps_lem : Puts (Derivable p) r p.points P Q (new_edge r p.points) → Steps P r p.points (strict_round r p.points link count)
  unfolding strict_round lower_round lower_edges lower_edge upper_round upper_edges upper_edge
  strict_steps_lem w =
      both (lower_steps_lem p r link count l w)
      (each count (λ i hi. each p.points (λ x hx. one (rule_keeps w (upper_rule p r link count l x i hx hi)))))

  module _ (w : Puts (Open p) r p.points P Q (new_edge r p.points)) where
    -- the open one, to begin with: the lower-case edges
    unfoldable pub case_steps : Steps P r p.points (case_edges r p.points link count)
    unfolding case_edges case_edge
    case_steps = each count (λ i hi. one (rule_keeps w (case_rule p r link count l i hi)))

    -- and in each round: the strict cells wherever Lower leads, and wherever Upper does
    unfoldable pub open_steps_lem : (strict : List ℤ) → Walked (Derivable p) r p.points strict
        → Steps P r p.points (open_round r p.points strict link count)
    unfolding open_round follow_link follow_lowers follow_lower follow_uppers follow_upper
    open_steps_lem strict k =
        each count (λ i hi.
        both (each count (λ j hj. one (rule_keeps w (lower_cell_lem p r link count l strict k i j hi hj))))
        (each p.points (λ x hx. one (rule_keeps w (upper_cell_lem p r link count l strict k x i hx hi)))))

-- ---- where the rounds stand, and how they end

-- both tables before a round: the open one is under every given and every lower-case edge, and follows the strict one wherever Lower and Upper lead
pub record Rounds (p : Plan) (r : Ranges) (link : ℕ → Link) (count : ℕ) (strict weak : List ℤ) : Type 0 where
  pub strict_carried : Carried (Derivable p) p r strict
  pub open_carried : Carried (Open p) p r weak
  pub strict_given : (x y : ℕ) (w : ℤ) → Given p x y w → table_of r p.points strict x y ≤ᶜ num w
  pub open_given : (x y : ℕ) (w : ℤ) → Given p x y w → table_of r p.points weak x y ≤ᶜ num w
  pub open_cases : Fair r p.points weak → (i : ℕ) → i < count
      → table_of r p.points weak (link i).act (link i).con ≤ᶜ clamped r.reach (num (pos (link i).short))
  pub open_lower : Fair r p.points weak → (i j : ℕ) → i < count → j < count
      → table_of r p.points weak (link i).act (link j).con ≤ᶜ clamped r.reach (table_of r p.points strict (link i).act (link j).con)
  pub open_upper : Fair r p.points weak → (x i : ℕ) → x < p.points → i < count
      → table_of r p.points weak x (link i).act ≤ᶜ clamped r.reach (table_of r p.points strict x (link i).act)

module _ (p : Plan) (r : Ranges) (h : Coherent r) (g : Pointed p) (link : ℕ → Link) (count : ℕ) (l : AllLinks p link count)
    (strict weak : List ℤ) (s : Rounds p r link count strict weak) where
  abbrev at : List ℤ → ℕ → ℕ → Cell
  at t x y = table_of r p.points t x y

  abbrev steps : Steps (Carried (Derivable p) p r) r p.points (strict_round r p.points link count)
  steps = strict_steps_lem p r link count l.links (strict_edges p r h)

  -- a round of both
  pub rounds_on : Rounds p r link count (strict_round r p.points link count strict)
      (open_round r p.points (strict_round r p.points link count strict) link count weak)
  unfolding open_steps_lem
  rounds_on =
      let u : List ℤ = strict_round r p.points link count strict in
      let v : List ℤ = open_round r p.points u link count weak in
      let tu : Taken (Carried (Derivable p) p r) r p.points strict u = keeps (strict_edges p r h) steps strict s.strict_carried in
      let w : Walked (Derivable p) r p.points u = tu.holds.walks in
      let follow : Steps (Carried (Open p) p r) r p.points (open_round r p.points u link count) =
      open_steps_lem p r link count l.links (open_edges p r h) u w in
      let tv : Taken (Carried (Open p) p r) r p.points weak v = keeps (open_edges p r h) follow weak s.open_carried in
      record {
        strict_carried = tu.holds;
        open_carried = tv.holds;
        strict_given = given_stays g tu.low s.strict_given;
        open_given = given_stays g tv.low s.open_given;
        open_cases = λ f i hi.
            lowered_below tv.low (link i).act (link i).con (l.links.points.act_below i hi) (l.links.points.con_below i hi)
            (clamped r.reach (num (pos (link i).short))) (s.open_cases (fair_before s.open_carried.walks.sound tv.low f) i hi);
        open_lower = λ f i j hi hj.
            let o = lower_cell_lem p r link count l.links u w i j hi hj in
            reached (open_edges p r h) o follow (i, hi, inl (j, hj, rule_reaches (open_edges p r h) o)) weak s.open_carried f;
        open_upper = λ f x i hx hi.
            let o = upper_cell_lem p r link count l.links u w x i hx hi in
            reached (open_edges p r h) o follow (i, hi, inr (x, hx, rule_reaches (open_edges p r h) o)) weak s.open_carried f;
      }

  module _ (same : strict_round r p.points link count strict ≡ strict) (fs : Fair r p.points strict) (fw : Fair r p.points weak) where
    js : Shut r p.points strict
    js = s.strict_carried.shut fs

    jw : Shut r p.points weak
    jw = s.open_carried.shut fw

    -- each rule of a round is obeyed
    obeys : {x y : ℕ} {rule : List ℤ → Cell} → Rule (Derivable p) r p.points x y rule
        → Among (Carried (Derivable p) p r) (Fair r p.points) r p.points x y rule steps → at strict x y ≤ᶜ rule strict
    obeys {x} {y} o q =
        still_obeys (strict_edges p r h) o steps q strict s.strict_carried same fs (fs.within x y o.from_below o.to_below)
        (λ v k. s.strict_carried.full x y v o.from_below o.to_below (as_open k))

    lower_strict : (k j : Link) → Memᴰ k p.links → Memᴰ j p.links → j.con ≢ k.con
        → at strict k.act j.con ≤ᶜ lowered k j (at strict k.con j.con)
    unfolding strict_steps_lem
    lower_strict =
        two_links l (λ k j. j.con ≢ k.con → at strict k.act j.con ≤ᶜ lowered k j (at strict k.con j.con))
        (λ i j hi hj ne.
        obeys (lower_rule p r link count l.links i j hi hj ne) (inl (lower_among p r link count l.links (strict_edges p r h) i j hi hj ne)))

    upper_strict : (k : Link) → Memᴰ k p.links → (x : ℕ) → x < p.points → at strict x k.act ≤ᶜ uppered k (at strict x k.con)
    unfolding strict_steps_lem
    upper_strict =
        each_link l (λ k. (x : ℕ) → x < p.points → at strict x k.act ≤ᶜ uppered k (at strict x k.con))
        (λ i hi x hx. let o = upper_rule p r link count l.links x i hx hi in obeys o (inr (i, hi, (x, hx, rule_reaches (strict_edges p r h) o))))

    -- what is stored of a strict cell is the cell
    follows : (x y : ℕ) → x < p.points → y < p.points → at weak x y ≤ᶜ clamped r.reach (at strict x y) → at weak x y ≤ᶜ at strict x y
    follows x y hx hy q = subst (λ (c : Cell). at weak x y ≤ᶜ c) (clamped_within r.reach (at strict x y) (fs.within x y hx hy)) q

    lower_open : (k j : Link) → Memᴰ k p.links → Memᴰ j p.links → at weak k.act j.con ≤ᶜ at strict k.act j.con
    lower_open =
        two_links l (λ k j. at weak k.act j.con ≤ᶜ at strict k.act j.con)
        (λ i j hi hj.
        follows (link i).act (link j).con (l.links.points.act_below i hi) (l.links.points.con_below j hj) (s.open_lower fw i j hi hj))

    upper_open : (k : Link) → Memᴰ k p.links → (x : ℕ) → x < p.points → at weak x k.act ≤ᶜ at strict x k.act
    upper_open =
        each_link l (λ k. (x : ℕ) → x < p.points → at weak x k.act ≤ᶜ at strict x k.act)
        (λ i hi x hx. follows x (link i).act hx (l.links.points.act_below i hi) (s.open_upper fw x i hx hi))

    -- no derivable edge is below its strict cell
    strict_edge : {x y : ℕ} {w : ℤ} → Derivable p x y w → AtMost (at strict x y) w
    strict_edge {x} {y} {w} (edges.given e) = at_most (s.strict_given x y w e)
    strict_edge {x} {y = z} (edges.join {y} a b) =
        under (js.join x y z (derivable_ends p g a).from (derivable_ends p g a).to (derivable_ends p g b).to) (sum (strict_edge a) (strict_edge b))
    strict_edge (edges.lower {k} {r = j} hk hj q d) = under (lower_strict k j hk hj q.other) (lowered_at_most k j q.below (strict_edge d))
    strict_edge (edges.upper {k} {x} hk d) = under (upper_strict k hk x (derivable_ends p g d).from) (uppered_at_most k (strict_edge d))

    -- nor below its open one
    open_edge : {x y : ℕ} {w : ℤ} → Derivable p x y w → AtMost (at weak x y) w
    open_edge {x} {y} {w} (edges.given e) = at_most (s.open_given x y w e)
    open_edge {x} {y = z} (edges.join {y} a b) =
        under (jw.join x y z (derivable_ends p g a).from (derivable_ends p g a).to (derivable_ends p g b).to) (sum (open_edge a) (open_edge b))
    open_edge (edges.lower {k} {r = j} {w} hk hj q d) = under (lower_open k j hk hj) (strict_edge (edges.lower {k = k} {r = j} {w = w} hk hj q d))
    open_edge (edges.upper {k} {x} {v} hk d) = under (upper_open k hk x (derivable_ends p g d).from) (strict_edge (edges.upper {k = k} {x = x} {v = v} hk d))

    open_walk : {x y : ℕ} {w : ℤ} → x < p.points → y < p.points → Walk (Derivable p) x y w → AtMost (at weak x y) w
    open_walk {x} hx hy stay = record { value = pos zero; is = jw.zeros x hx; le = ≤ℤ_refl (pos zero) }
    open_walk {x} {y = z} hx hz (step {y} e k) =
        let hy : y < p.points = (derivable_ends p g e).to in
        under (jw.join x y z hx hy hz) (sum (open_edge e) (open_walk hy hz k))

    -- so the open table is under the strict one
    open_under : (x y : ℕ) → x < p.points → y < p.points → at weak x y ≤ᶜ at strict x y
    open_under x y hx hy =
        under_walks (Derivable p) x y (at weak x y) (at strict x y) (s.strict_carried.walks.has x y hx hy) (λ v k. by_at_most (open_walk hx hy k))

    case_under : (k : Link) → Memᴰ k p.links → at weak k.act k.con ≤ᶜ num (pos k.short)
    case_under =
        each_link l (λ k. at weak k.act k.con ≤ᶜ num (pos k.short))
        (λ i hi.
        let x : ℕ = (link i).act in
        let y : ℕ = (link i).con in
        let hx : x < p.points = l.links.points.act_below i hi in
        let hy : y < p.points = l.links.points.con_below i hi in
        exact r.reach (at weak x y) (num (pos (link i).short)) (fw.within x y hx hy)
        (λ c e. s.open_carried.full x y (pos (link i).short) hx hy (single (edges.lower_case_rule (l.links.member i hi)))) (s.open_cases fw i hi))

    -- a round that left the strict table as it was, and both are fair: these are the plan's tables
    pub rounds_tables : Tables p (table_of r p.points strict) (table_of r p.points weak)
    rounds_tables =
        justified_closed r p (table_of r p.points strict) (table_of r p.points weak) g
        (record {
          strict_walk = λ x y hx hy c e. subst (Has (Derivable p) x y) e (s.strict_carried.walks.has x y hx hy);
          open_walk = λ x y hx hy c e. subst (Has (Open p) x y) e (s.open_carried.walks.has x y hx hy);
        })
        (record {
          strict_within = fs.within;
          open_within = fw.within;
          strict_diagonal = js.zeros;
          open_diagonal = jw.zeros;
          strict_join_rule = js.join;
          open_join_rule = jw.join;
          given = s.strict_given;
          lower = lower_strict;
          upper = upper_strict;
          open_strict = open_under;
          open_lower_case = case_under;
        })
