-- The best lines are at most every given edge, and the open ones at most every lower-case edge, of every list after what is given that has not ended.
-- Assumes nothing.
use mathlib.Core.Path.{◌≡◌, refl, sym, ap, subst, ◌∙◌}
use mathlib.Core.Bool.{Bool, true, false, cond, true≢false}
use mathlib.Core.List.{List, [], ◌∷◌, Memᴰ}
use mathlib.Core.Logic.{◌⊎◌, inl, inr}
use Prim.Native.Nat.{ℕ, zero, ◌<◌}
use native.Mathlib.Omega.{arith}
use lib.ListN.{length}
use lib.IntN.{ℤ, pos, neg_ℤ}
use Rattle.rules.specs.declared.Side.{Side}
use Rattle.rules.specs.declared.Side.TheVariants.{Strict, Open}
use Rattle.rules.specs.Plan.{Plan, Limit, Link}
use Rattle.rules.specs.Edges as edges
use Rattle.rules.specs.Edges.{Given}
use Rattle.rules.proofs.Cells.{AtMost}
use Rattle.chain.specs.Lines.{Line, counts, beats, best, cells, start_line, limit_line, longest_line, shortest_line, lower_case_line}
use Rattle.chain.specs.Reasons.{Offer, line, always, side_of, write, ended, try, each, limit_of, link_of, start_offer, limit_offer, link_offer, starts, limits, links, before_links, given, sweeps}
use Rattle.chain.proofs.Tries.{try_stops, each_stops, going_back}
use Rattle.chain.proofs.Members.{Place, limit_place_lem, link_place_lem}
use Rattle.chain.proofs.BestLines.{neither}
use Rattle.chain.proofs.Keeping.{Keeps, writes, try_keeps, each_keeps, limits_keep, links_keep, sweeps_kept, any_given, any_sweep, limits_stop, links_stop, sweeps_stop, each_brings}
use Rattle.chain.proofs.BestWeights.{unbeaten, falls, covers}

-- a pair's best is at most a weight
abbrev Low : Side → ℕ → ℕ → ℤ → List Line → Type 0
Low s x y w ls = AtMost (cells s ls x y) w

-- it stays so
low_kept : (s : Side) (x y : ℕ) (w : ℤ) (o : List Line → Offer) → Keeps (Low s x y w) (try o)
low_kept s x y w o = try_keeps (Low s x y w) o (λ ls a e l q. falls s x y l ls a)

-- a line that is not written does not beat the best that it competes with
pub unwritten : (l : Line) (ls : List Line) → writes l ls ≡ false → AtMost (cells (side_of l.kind) ls l.from l.to) l.weight
unwritten l ls t =
    unbeaten (best (side_of l.kind) l.from l.to ls)
    (neither (always l.kind) (beats l.weight (best (side_of l.kind) l.from l.to ls)) t).1

-- after the try of a line its pair is at most its weight: it was written, or did not beat what was there
tried : (s : Side) (o : List Line → Offer) (l : Line) → counts s l.kind ≡ true → (always l.kind ≡ true) ⊎ (side_of l.kind ≡ s)
    → (ls : List Line) → o ls ≡ line l → ended (try o ls) ≡ false → AtMost (cells s (try o ls) l.from l.to) l.weight
unfolding try write
tried s o l c k ls q e =
    let n : ended ls ≡ false = going_back (try o) (try_stops o) ls e in
    simp (n, q) (by k (writes l ls) refl)
  where
    by : (always l.kind ≡ true) ⊎ (side_of l.kind ≡ s) → (b : Bool) → writes l ls ≡ b
        → AtMost (cells s (cond b (l ∷ ls) ls) l.from l.to) l.weight
    by k true t = covers s l ls c
    by (inl a) false t =
        absurd (true≢false (sym a ∙ (neither (always l.kind) (beats l.weight (best (side_of l.kind) l.from l.to ls)) t).0))
    by (inr a) false t = rw a at (unwritten l ls t)

module _ (p : Plan) (c : ℕ) (e : ended (sweeps p c) ≡ false) where
  -- what is given has not ended, nor has any part of it
  given_going : ended (given p) ≡ false
  given_going = by (ended (given p)) refl
    where
      by : (b : Bool) → ended (given p) ≡ b → b ≡ false
      by false q = refl
      by true q = absurd (true≢false (sym q ∙ ap ended (sym (sweeps_stop p q c)) ∙ e))

  before_going : ended (before_links p) ≡ false
  unfolding given
  before_going = going_back (links p) (links_stop p) (before_links p) given_going

  starts_going : ended (starts p []) ≡ false
  unfolding before_links
  starts_going = going_back (limits p) (limits_stop p) (starts p []) before_going

  module _ (s : Side) (x y : ℕ) (w : ℤ) where
    -- what is so at some place of what is given is so after all sweeps
    after_given : Low s x y w (given p) → Low s x y w (sweeps p c)
    after_given a = sweeps_kept p (Low s x y w) (any_sweep p (length (before_links p)) (Low s x y w) (low_kept s x y w)) a c

    after_before : Low s x y w (before_links p) → Low s x y w (sweeps p c)
    unfolding given
    after_before a = after_given (links_keep p (Low s x y w) (any_given p (Low s x y w) (low_kept s x y w)) (before_links p) a)

    after_starts : Low s x y w (starts p []) → Low s x y w (sweeps p c)
    unfolding before_links
    after_starts a = after_before (limits_keep p (Low s x y w) (any_given p (Low s x y w) (low_kept s x y w)) (starts p []) a)

  start_best : (x : ℕ) → x < p.points → AtMost (cells Strict (sweeps p c) x 0) (pos zero)
  unfolding starts start_offer
  start_best x h =
      after_starts Strict x 0 (pos zero)
      (each_brings (Low Strict x 0 (pos zero)) (λ x. try (start_offer x)) x p.points h (λ j. try_stops (start_offer j))
      (λ j. low_kept Strict x 0 (pos zero) (start_offer j))
      (λ ls n. tried Strict (start_offer x) (start_line x) refl (inr refl) ls refl n)
      [] starts_going)

  limit_best : (i : ℕ) → i < length p.limits → AtMost (cells Strict (sweeps p c) (limit_of p i).from (limit_of p i).to) (limit_of p i).weight
  unfolding before_links limits limit_offer
  limit_best i h =
      after_before Strict (limit_of p i).from (limit_of p i).to (limit_of p i).weight
      (each_brings (Low Strict (limit_of p i).from (limit_of p i).to (limit_of p i).weight) (λ i. try (limit_offer i (limit_of p i))) i (length p.limits) h
      (λ j. try_stops (limit_offer j (limit_of p j)))
      (λ j. low_kept Strict (limit_of p i).from (limit_of p i).to (limit_of p i).weight (limit_offer j (limit_of p j)))
      (λ ls n. tried Strict (limit_offer i (limit_of p i)) (limit_line i (limit_of p i)) refl (inr refl) ls refl n)
      (starts p []) before_going)

  -- line number a of the three of link i
  link_best : (s : Side) (i a : ℕ) (l : Line) → i < length p.links → a < 3 → counts s l.kind ≡ true → always l.kind ≡ true
      → ((ls : List Line) → link_offer i (link_of p i) a ls ≡ line l) → AtMost (cells s (sweeps p c) l.from l.to) l.weight
  unfolding given links
  link_best s i a l h ha k t q =
      after_given s l.from l.to l.weight
      (each_brings (Low s l.from l.to l.weight) (λ i. each (λ c. try (link_offer i (link_of p i) c)) 3) i (length p.links) h
      (λ j. each_stops (λ c. try (link_offer j (link_of p j) c)) (λ d. try_stops (link_offer j (link_of p j) d)) 3)
      (λ j. each_keeps (Low s l.from l.to l.weight) (λ c. try (link_offer j (link_of p j) c)) 3 (λ d hd. low_kept s l.from l.to l.weight (link_offer j (link_of p j) d)))
      (λ ls n.
      each_brings (Low s l.from l.to l.weight) (λ c. try (link_offer i (link_of p i) c)) a 3 ha (λ d. try_stops (link_offer i (link_of p i) d))
      (λ d. low_kept s l.from l.to l.weight (link_offer i (link_of p i) d))
      (λ ms m. tried s (link_offer i (link_of p i) a) l k (inl t) ms (q ms) m)
      ls n)
      (before_links p) given_going)

  -- "no strict cell exceeds a given edge"
  pub given_best : {x y : ℕ} {w : ℤ} → Given p x y w → AtMost (cells Strict (sweeps p c) x y) w
  unfolding link_offer
  given_best (edges.limit {m} h) =
      let k : Place (limit_of p) (length p.limits) m = limit_place_lem p h in
      subst (λ (m : Limit). AtMost (cells Strict (sweeps p c) m.from m.to) m.weight) k.is (limit_best k.number k.within)
  given_best (edges.start {x} h) = start_best x h
  given_best (edges.longest {k = l} h) =
      let k : Place (link_of p) (length p.links) l = link_place_lem p h in
      subst (λ (l : Link). AtMost (cells Strict (sweeps p c) l.act l.con) (pos l.long)) k.is
      (link_best Strict k.number 0 (longest_line k.number (link_of p k.number)) k.within (omega arith) refl refl (λ ls. refl))
  given_best (edges.shortest {k = l} h) =
      let k : Place (link_of p) (length p.links) l = link_place_lem p h in
      subst (λ (l : Link). AtMost (cells Strict (sweeps p c) l.con l.act) (neg_ℤ (pos l.short))) k.is
      (link_best Strict k.number 1 (shortest_line k.number (link_of p k.number)) k.within (omega arith) refl refl (λ ls. refl))

  -- no open cell exceeds the lower-case edge
  pub lower_case_best : (l : Link) → Memᴰ l p.links → AtMost (cells Open (sweeps p c) l.act l.con) (pos l.short)
  unfolding link_offer
  lower_case_best l h =
      let k : Place (link_of p) (length p.links) l = link_place_lem p h in
      subst (λ (l : Link). AtMost (cells Open (sweeps p c) l.act l.con) (pos l.short)) k.is
      (link_best Open k.number 2 (lower_case_line k.number (link_of p k.number)) k.within (omega arith) refl refl (λ ls. refl))
