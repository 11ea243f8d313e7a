-- The parts of the closed test together are the paper's sentence: for a sound file and tables of its n points, every part holds exactly where
-- the tables are closed. Assumes nothing.
use mathlib.Core.Path.{◌≡◌, sym, subst}
use mathlib.Core.Bool.{Bool, true, false}
use mathlib.Core.List.{List, Memᴰ}
use Prim.Native.Nat.{ℕ, ◌*◌, ◌≤◌, ◌<◌}
use lib.ListN.{length}
use lib.IntN.{ℤ}
use Rattle.rules.specs.Plan.{Limit, Link, version1, LimitInRange, LinkInRange}
use Rattle.rules.specs.Edges as edges
use Rattle.rules.specs.Edges.{Given}
use Rattle.rules.specs.Cells.{num, ◌≤ᶜ◌, Table, table_of}
use Rattle.rules.specs.Tables.{Closed}
use Rattle.plan.specs.Layout.{limit_at, link_at, plan_of}
use Rattle.cell.specs.Steps.{Decides}
use Rattle.cell.proofs.CellMethods.{decided_no}
use Rattle.cell.proofs.StoredCells.{within_stored}
use Rattle.lowering.specs.Table.{Sound, Ready}
use Rattle.lowering.proofs.Theory.StillSweep.{AllLinks}
use Rattle.lowering.proofs.Theory.FirstTables.{AllLimits}
use Rattle.lowering.proofs.Laws.FirstAsRead.{limit_read}
use Rattle.lowering.proofs.Laws.LinksAsRead.{link_read}
use Rattle.lowering.proofs.Laws.ReadyFile.{ready_points, ready_limit, ready_link, ready_limits, ready_links}
use Rattle.closed.specs.Parts.{AllWithin, Alone, LimitHeld, LinkHeld, PairLowered, LinkLowered, LinkUppered, CaseHeld, StrictHeld, OpenHeld}

-- a table whose cells are all in range is one in which no sum leaves its type
pub sound_by : {n : ℕ} {t : List ℤ} → n * n ≤ length t → AllWithin version1.reach n (table_of version1 n t) → Sound version1 n t
sound_by {n} {t} h w =
    record {
      room = h;
      stored = λ x y hx hy. within_stored version1.reach (table_of version1 n t x y) (w x hx y hy);
    }

-- a limit and a link that were read are in the range of a table of as many points
pub limit_there : {s : List ℕ} {n m k i w : ℕ} {l : Limit} → l ≡ limit_at s i → i < m → w ≡ n → Ready s n m k → LimitInRange version1 w l
limit_there {i = i} el h e r = rw e (limit_read r i h el)

pub link_there : {s : List ℕ} {n m k i w : ℕ} {l : Link} → l ≡ link_at s m i → i < k → w ≡ n → Ready s n m k → LinkInRange version1 w l
link_there {i = i} el h e r = rw e (link_read r i h el)

module _ {s : List ℕ} {n m k : ℕ} (r : Ready s n m k) where
  -- points below n are the plan's
  there : {x : ℕ} → x < (plan_of s).points → x < n
  there {x} h = subst (λ (c : ℕ). x < c) (ready_points s n m k r) h

  back : {x : ℕ} → x < n → x < (plan_of s).points
  back {x} h = subst (λ (c : ℕ). x < c) (sym (ready_points s n m k r)) h

  -- what holds of every link by its index holds of every link of the plan
  each_link : (P : Link → Type 0) → ((i : ℕ) → i < k → P (link_at s m i)) → (l : Link) → Memᴰ l (plan_of s).links → P l
  each_link P all l h =
      let a : AllLinks (plan_of s) (link_at s m) k = ready_links s n m k r in
      subst P (a.index_is l h) (all (a.index l h) (a.index_below l h))

  each_limit : (P : Limit → Type 0) → ((i : ℕ) → i < m → P (limit_at s i)) → (l : Limit) → Memᴰ l (plan_of s).limits → P l
  each_limit P all l h =
      let a : AllLimits (plan_of s) (limit_at s) m = ready_limits s n m k r in
      subst P (a.index_is l h) (all (a.index l h) (a.index_below l h))

  -- a given edge is a limit, a start edge or one of a link's
  given_held : {strict : Table} → StrictHeld n (limit_at s) m (link_at s m) k strict → (x y : ℕ) (w : ℤ) → Given (plan_of s) x y w → strict x y ≤ᶜ num w
  given_held {strict} t x y w (edges.limit {m = l} h) = each_limit (LimitHeld strict) t.limits l h
  given_held {strict} t x y w (edges.start h) = t.starts x (there h)
  given_held {strict} t x y w (edges.longest {k = l} h) = (each_link (LinkHeld strict) t.links l h).longest
  given_held {strict} t x y w (edges.shortest {k = l} h) = (each_link (LinkHeld strict) t.links l h).shortest

  module _ {strict weak : Table} where
    -- all parts give the sentence
    pub closed_by : Alone version1.reach n strict → Alone version1.reach n weak → StrictHeld n (limit_at s) m (link_at s m) k strict
        → OpenHeld n (link_at s m) k strict weak → Closed version1 (plan_of s) strict weak
    closed_by a b t o =
        record {
          strict_within = λ x y hx hy. a.within x (there hx) y (there hy);
          open_within = λ x y hx hy. b.within x (there hx) y (there hy);
          strict_diagonal = λ x hx. a.diagonal x (there hx);
          open_diagonal = λ x hx. b.diagonal x (there hx);
          strict_join_rule = λ x y z hx hy hz. a.joined y (there hy) x (there hx) z (there hz);
          open_join_rule = λ x y z hx hy hz. b.joined y (there hy) x (there hx) z (there hz);
          given = given_held t;
          lower = λ l j hl hj.
              each_link (PairLowered strict l) (each_link (LinkLowered (link_at s m) k strict) t.lower l hl) j hj;
          upper = λ l hl x hx. each_link (LinkUppered n strict) t.upper l hl x (there hx);
          open_strict = λ x y hx hy. o.under x (there hx) y (there hy);
          open_lower_case = each_link (CaseHeld weak) o.cases;
        }

    -- and the sentence gives each of them
    module _ (c : Closed version1 (plan_of s) strict weak) where
      pub strict_alone : Alone version1.reach n strict
      strict_alone =
          record {
            within = λ x hx y hy. c.strict_within x y (back hx) (back hy);
            diagonal = λ x hx. c.strict_diagonal x (back hx);
            joined = λ y hy x hx z hz. c.strict_join_rule x y z (back hx) (back hy) (back hz);
          }

      pub open_alone : Alone version1.reach n weak
      open_alone =
          record {
            within = λ x hx y hy. c.open_within x y (back hx) (back hy);
            diagonal = λ x hx. c.open_diagonal x (back hx);
            joined = λ y hy x hx z hz. c.open_join_rule x y z (back hx) (back hy) (back hz);
          }

      pub strict_held : StrictHeld n (limit_at s) m (link_at s m) k strict
      strict_held =
          record {
            limits = λ i h.
                let l = limit_at s i in
                c.given l.from l.to l.weight (edges.limit (ready_limit s n m k r i h));
            starts = λ x hx. c.given x _ _ (edges.start (back hx));
            links = λ i h.
                let l = link_at s m i in
                record {
                  longest = c.given l.act l.con _ (edges.longest (ready_link s n m k r i h));
                  shortest = c.given l.con l.act _ (edges.shortest (ready_link s n m k r i h));
                };
            lower = λ i h j g apart.
                c.lower (link_at s m i) (link_at s m j) (ready_link s n m k r i h) (ready_link s n m k r j g) apart;
            upper = λ i h x hx. c.upper (link_at s m i) (ready_link s n m k r i h) x (back hx);
          }

      pub open_held : OpenHeld n (link_at s m) k strict weak
      open_held =
          record {
            under = λ x hx y hy. c.open_strict x y (back hx) (back hy);
            cases = λ i h. c.open_lower_case (link_at s m i) (ready_link s n m k r i h);
          }

  -- ---- the tests of both tables, as they are read

  module _ (a b : List ℤ) {w : ℕ} {c : List ℤ} (one : Alone version1.reach n (table_of version1 n a) × (w ≡ n) × (c ≡ a)) {f : Bool}
      (held : Decides f (StrictHeld w (limit_at s) m (link_at s m) k (table_of version1 w c))) where
    strict_test : Decides f (StrictHeld n (limit_at s) m (link_at s m) k (table_of version1 n a))
    strict_test = rw (one.1, one.2) at held

    -- the strict one failed
    pub not_closed : f ≡ false → Decides f (Closed version1 (plan_of s) (table_of version1 n a) (table_of version1 n b))
    not_closed e = rw e (decided_no (λ h. strict_test.fails e (strict_held h)))

    -- it did not
    pub closed_where : f ≡ true → {v : ℕ} {d : List ℤ} → Alone version1.reach n (table_of version1 n b) × (v ≡ n) × (d ≡ b) → {g : Bool}
        → Decides g (OpenHeld w (link_at s m) k (table_of version1 w c) (table_of version1 v d))
        → Decides g (Closed version1 (plan_of s) (table_of version1 n a) (table_of version1 n b))
    closed_where e two {g} under =
        let u : Decides g (OpenHeld n (link_at s m) k (table_of version1 n a) (table_of version1 n b)) = rw (one.1, one.2, two.1, two.2) at under in
        record {
          holds = λ y. closed_by one.0 two.0 (strict_test.holds e) (u.holds y);
          fails = λ y h. u.fails y (open_held h);
        }
