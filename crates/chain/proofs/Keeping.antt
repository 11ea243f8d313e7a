-- What every try keeps, every loop of tries keeps, and so does every sweep: said once for any statement about a list so far. Assumes nothing.
use mathlib.Core.Path.{◌≡◌, refl}
use mathlib.Core.Bool.{Bool, true, false, cond, ◌||◌}
use mathlib.Core.List.{List, [], ◌∷◌}
use mathlib.Core.Logic.{◌⊎◌, inl, inr}
use Prim.Native.Nat.{ℕ, zero, suc, ◌<◌}
use native.Mathlib.Nat.{eq-or-lt_of_le}
use native.Mathlib.Omega.{arith}
use lib.ListN.{length}
use Rattle.rules.specs.Plan.{Plan}
use Rattle.chain.specs.Lines.{Line, beats, best}
use Rattle.chain.specs.Reasons.{Offer, nothing, line, always, side_of, write, ended, try, each, limit_of, link_of, start_offer, limit_offer, link_offer, starts, limits, links, before_links, given, longest_at, lower_case_at, strict_offer, open_offer, lower_offer, upper_offer, strict_joins, lowers, uppers, open_joins, sweep, sweeps}
use Rattle.chain.proofs.Tries.{Stops, try_stops, going_back}

-- a step that keeps a statement
abbrev pub Keeps : (List Line → Type 0) → (List Line → List Line) → Type 0
Keeps P f = (ls : List Line) → P ls → P (f ls)

-- "Any other line is written only if it beats the pair's best so far"
abbrev pub writes : Line → List Line → Bool
writes l ls = always l.kind || beats l.weight (best (side_of l.kind) l.from l.to ls)

-- a try keeps what its line keeps where it is written: nothing is written to a list that has ended
pub try_keeps : (P : List Line → Type 0) (o : List Line → Offer)
    → ((ls : List Line) → P ls → ended ls ≡ false → (l : Line) → o ls ≡ line l → P (l ∷ ls)) → Keeps P (try o)
unfolding try write
try_keeps P o more ls h = by (ended ls) refl
  where
    written : (l : Line) → (b : Bool) → P (l ∷ ls) → P (cond b (l ∷ ls) ls)
    written l true k = k
    written l false k = h

    offered : (a : Offer) → o ls ≡ a → ended ls ≡ false → P (write a ls)
    offered nothing q e = h
    offered (line l) q e = written l (writes l ls) (more ls h e l q)

    by : (b : Bool) → ended ls ≡ b → P (cond b ls (write (o ls) ls))
    by true e = h
    by false e = offered (o ls) refl e

pub each_keeps : (P : List Line → Type 0) (f : ℕ → List Line → List Line) (m : ℕ) → ((i : ℕ) → i < m → Keeps P (f i)) → Keeps P (each f m)
each_keeps P f zero k ls h = h
each_keeps P f (suc m) k ls h = k m (omega arith) (each f m ls) (each_keeps P f m (λ i q. k i (omega arith)) ls h)

-- ---- a sweep, and what is given

pub record SweepKeeps (p : Plan) (g : ℕ) (P : List Line → Type 0) : Type 0 where
  pub strict : (y x z : ℕ) → Keeps P (try (strict_offer y x z))
  pub lower : (i j : ℕ) → i < length p.links → j < length p.links → Keeps P (try (lower_offer (lower_case_at g i) (link_of p i) (link_of p j)))
  pub upper : (x i : ℕ) → i < length p.links → Keeps P (try (upper_offer (longest_at g i) x (link_of p i)))
  pub weak : (y x z : ℕ) → Keeps P (try (open_offer y x z))

pub record GivenKeeps (p : Plan) (P : List Line → Type 0) : Type 0 where
  pub start : (x : ℕ) → x < p.points → Keeps P (try (start_offer x))
  pub limit : (i : ℕ) → i < length p.limits → Keeps P (try (limit_offer i (limit_of p i)))
  pub link : (i : ℕ) → i < length p.links → (c : ℕ) → Keeps P (try (link_offer i (link_of p i) c))

module _ (p : Plan) (g : ℕ) (P : List Line → Type 0) (k : SweepKeeps p g P) where
  pub strict_keeps : (n : ℕ) → Keeps P (strict_joins n)
  unfolding strict_joins
  strict_keeps n =
      each_keeps P _ n (λ y hy. each_keeps P _ n (λ x hx. each_keeps P _ n (λ z hz. k.strict y x z)))

  pub lowers_keep : Keeps P (lowers p g)
  unfolding lowers
  lowers_keep = each_keeps P _ (length p.links) (λ i hi. each_keeps P _ (length p.links) (λ j hj. k.lower i j hi hj))

  pub uppers_keep : Keeps P (uppers p g)
  unfolding uppers
  uppers_keep = each_keeps P _ p.points (λ x hx. each_keeps P _ (length p.links) (λ i hi. k.upper x i hi))

  pub open_keeps : (n : ℕ) → Keeps P (open_joins n)
  unfolding open_joins
  open_keeps n =
      each_keeps P _ n (λ y hy. each_keeps P _ n (λ x hx. each_keeps P _ n (λ z hz. k.weak y x z)))

  pub sweep_keeps : Keeps P (sweep p g)
  unfolding sweep
  sweep_keeps ls h =
      open_keeps p.points (uppers p g (lowers p g (strict_joins p.points ls)))
      (uppers_keep (lowers p g (strict_joins p.points ls)) (lowers_keep (strict_joins p.points ls) (strict_keeps p.points ls h)))

module _ (p : Plan) (P : List Line → Type 0) (k : GivenKeeps p P) where
  pub starts_keep : Keeps P (starts p)
  unfolding starts
  starts_keep = each_keeps P _ p.points (λ x hx. k.start x hx)

  pub limits_keep : Keeps P (limits p)
  unfolding limits
  limits_keep = each_keeps P _ (length p.limits) (λ i hi. k.limit i hi)

  pub links_keep : Keeps P (links p)
  unfolding links
  links_keep = each_keeps P _ (length p.links) (λ i hi. each_keeps P _ 3 (λ c hc. k.link i hi c))

  pub before_kept : P [] → P (before_links p)
  unfolding before_links
  before_kept h = limits_keep (starts p []) (starts_keep [] h)

  pub given_kept : P [] → P (given p)
  unfolding given
  given_kept h = links_keep (before_links p) (before_kept h)

pub sweeps_kept : (p : Plan) (P : List Line → Type 0) → SweepKeeps p (length (before_links p)) P → P (given p) → (c : ℕ) → P (sweeps p c)
unfolding sweeps
sweeps_kept p P k h c = each_keeps P _ c (λ i hi. sweep_keeps p (length (before_links p)) P k) (given p) h

-- what every try keeps, whatever it offers
pub any_sweep : (p : Plan) (g : ℕ) (P : List Line → Type 0) → ((o : List Line → Offer) → Keeps P (try o)) → SweepKeeps p g P
any_sweep p g P k = record {
  strict = λ y x z. k (strict_offer y x z);
  lower = λ i j hi hj. k (lower_offer (lower_case_at g i) (link_of p i) (link_of p j));
  upper = λ x i hi. k (upper_offer (longest_at g i) x (link_of p i));
  weak = λ y x z. k (open_offer y x z);
}

pub any_given : (p : Plan) (P : List Line → Type 0) → ((o : List Line → Offer) → Keeps P (try o)) → GivenKeeps p P
any_given p P k = record {
  start = λ x hx. k (start_offer x);
  limit = λ i hi. k (limit_offer i (limit_of p i));
  link = λ i hi c. k (link_offer i (link_of p i) c);
}

-- ---- once the list has ended nothing is added

stays_so : (ls : List Line) → ended ls ≡ true → (o : List Line → Offer) → Keeps (λ ms. ms ≡ ls) (try o)
stays_so ls e o ms q = rw q (try_stops o ls e)

pub limits_stop : (p : Plan) → Stops (limits p)
limits_stop p ls e = limits_keep p (λ ms. ms ≡ ls) (any_given p (λ ms. ms ≡ ls) (stays_so ls e)) ls refl

pub links_stop : (p : Plan) → Stops (links p)
links_stop p ls e = links_keep p (λ ms. ms ≡ ls) (any_given p (λ ms. ms ≡ ls) (stays_so ls e)) ls refl

pub sweeps_stop : (p : Plan) → ended (given p) ≡ true → (c : ℕ) → sweeps p c ≡ given p
sweeps_stop p e =
    sweeps_kept p (λ ms. ms ≡ given p) (any_sweep p (length (before_links p)) (λ ms. ms ≡ given p) (stays_so (given p) e)) refl

-- ---- what one step of a loop brings about, where what it makes has not ended, and every step keeps

pub each_brings : (P : List Line → Type 0) (f : ℕ → List Line → List Line) (i m : ℕ) → i < m → ((j : ℕ) → Stops (f j)) → ((j : ℕ) → Keeps P (f j))
    → ((ls : List Line) → ended (f i ls) ≡ false → P (f i ls)) → (ls : List Line) → ended (each f m ls) ≡ false → P (each f m ls)
each_brings P f i zero h s k b ls e = absurd (omega arith)
each_brings P f i (suc m) h s k b ls e = by (λ q. each_brings P f i m q s k b ls (going_back (f m) (s m) (each f m ls) e)) (eq-or-lt_of_le h)
  where
    by : (i < m → P (each f m ls)) → (suc i ≡ suc m) ⊎ (suc i < suc m) → P (f m (each f m ls))
    by before (inl q) = let n : i ≡ m = omega arith in (rw n at b) (each f m ls) e
    by before (inr q) = k m (each f m ls) (before (omega arith))
