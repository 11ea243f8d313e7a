-- Sweeps one after another: a list only grows, so a sweep that leaves its length leaves it, and that is the whole list. Assumes nothing.
use mathlib.Core.Path.{◌≡◌, refl, sym, ap, subst, ◌∙◌}
use mathlib.Core.Logic.{◌≢◌}
use mathlib.Core.Bool.{Bool, true, false, cond, ◌||◌}
use mathlib.Core.List.{List, [], ◌∷◌}
use Prim.Native.Nat.{ℕ, zero, suc, ◌+◌, ◌*◌, ◌-◌, ◌≤◌, ◌<◌}
use native.Mathlib.Omega.{arith}
use lib.ListN.{length}
use lib.IntN.{ℤ}
use Rattle.rules.specs.Plan.{Plan, version1, InRange}
use Rattle.rules.specs.Calls.{Kept}
use Rattle.cell.specs.Steps.{roomy}
use Rattle.chain.specs.Lines.{Line, beats, best}
use Rattle.chain.specs.Reasons.{Offer, nothing, line, always, side_of, write, ended, each, try, start_offer, limit_offer, limit_of, starts, limits, before_links, given, strict_joins, lowers, uppers, open_joins, sweep, sweeps}
use Rattle.chain.specs.Call.{Lists}
use Rattle.chain.proofs.Keeping.{Keeps, try_keeps, sweep_keeps, any_sweep, links_stop}
use Rattle.offers.specs.Work.{Holds}
use Rattle.std.specs.declared.ops.ControlFlow.{ControlFlow}
use Rattle.reasons.specs.Stands.{through}
use Rattle.reasons.specs.Notes.{laid}
use Rattle.reasons.specs.Working.{lines_of, ended_of, Begun, Begins, Left, SweptTo, Swept, Sweeping, Worked}
use Rattle.reasons.proofs.WorkLaws.{through_rest, kept_trans}
use Rattle.reasons.proofs.FineLaws.{fine_sweep, fine_before, fine_links, sweeps_few, before_through, given_through, sweep_through}

-- ---- a list only grows

pub record Grown (ls ms : List Line) : Type 0 where
  pub longer : length ls ≤ length ms
  pub same : length ms ≡ length ls → ms ≡ ls

grown_kept : (ls : List Line) (o : List Line → Offer) → Keeps (Grown ls) (try o)
grown_kept ls o =
    try_keeps (Grown ls) o
    (λ ms h e l q. record { longer = let k = h.longer in omega (arith, k); same = λ f. let k = h.longer in absurd (omega (arith, k)) })

pub sweep_grows : (p : Plan) (g : ℕ) (ls : List Line) → Grown ls (sweep p g ls)
sweep_grows p g ls =
    sweep_keeps p g (Grown ls) (any_sweep p g (Grown ls) (grown_kept ls)) ls (record { longer = omega arith; same = λ e. refl })

-- ---- a sweep of a list that has ended adds nothing

pub sweep_stops : (p : Plan) (g : ℕ) (ls : List Line) → ended ls ≡ true → sweep p g ls ≡ ls
unfolding sweep strict_joins lowers uppers open_joins
sweep_stops p g ls e = through_rest p g 3 0 4 ls (omega arith) e

-- ---- from sweep to sweep

next_sweep : (p : Plan) (c : ℕ) → sweeps p (suc c) ≡ sweep p (length (before_links p)) (sweeps p c)
unfolding sweeps
next_sweep p c = refl

module _ {p : Plan} {n g room : ℕ} (e : p.points ≡ n) (eg : g ≡ length (before_links p)) (h : InRange version1 p) where
  -- what a sweep begins with
  pub sweep_begun : {c count : ℕ} {first lists : Lists} {work : List ℤ} → SweptTo p room c first count lists work → Begun p g 3 7 room (sweeps p c) first count lists work
  sweep_begun {c} q = rw eg (record { holds = q.holds; counted = q.counted; are = q.are; going = q.going; fine = fine_sweep p h c })

  module _ {c count : ℕ} {first lists lists' : Lists} {work work' : List ℤ} {run : ControlFlow ℕ ℕ} (q : SweptTo p room c first count lists work)
      (l : Left n room (through p g 3 (7 - 3) (sweeps p c)) first run lists' work') where
    -- what it leaves
    swept : Left p.points room (sweeps p (suc c)) first run lists' work'
    swept =
        let all : through p g 3 4 (sweeps p c) ≡ sweeps p (suc c) = rw eg (sweep_through p c) in
        subst (λ (ls : List Line). Left p.points room ls first run lists' work') all (subst (λ (m : ℕ). Left m room (through p g 3 4 (sweeps p c)) first run lists' work') (sym e) l)

    whole : sweep p (length (before_links p)) (sweeps p (suc c)) ≡ sweeps p (suc c) → Worked p room first run lists' work'
    whole s = record { lines = sweeps p (suc c); reasons = record { count = suc c; swept = refl; stays = s }; is = swept }

    pub sweep_ended : ended_of run ≡ true → Worked p room first run lists' work'
    sweep_ended t = whole (sweep_stops p (length (before_links p)) (sweeps p (suc c)) (sym swept.ends ∙ t))

    pub sweep_still : lines_of run ≡ count → Worked p room first run lists' work'
    sweep_still t =
        let lines : length (sweep p (length (before_links p)) (sweeps p c)) ≡ length (sweeps p c) = ap length (sym (next_sweep p c)) ∙ sym swept.counted ∙ t ∙ q.counted in
        let still : sweep p (length (before_links p)) (sweeps p c) ≡ sweeps p c = (sweep_grows p (length (before_links p)) (sweeps p c)).same lines in
        whole (ap (sweep p (length (before_links p))) (next_sweep p c ∙ still) ∙ sym (next_sweep p c))

    pub sweep_more : ended_of run ≡ false → SweptTo p room (suc c) first (lines_of run) lists' work'
    sweep_more t = record { holds = swept.holds; counted = swept.counted; are = swept.are; going = sym swept.ends ∙ t }

    -- the lines get more, and never too many
    pub sweep_longer : ended_of run ≡ false → lines_of run ≢ count → (count < lines_of run) × (lines_of run < roomy.reach)
    sweep_longer t ne =
        let grows : length (sweeps p c) ≤ length (sweep p (length (before_links p)) (sweeps p c)) = (sweep_grows p (length (before_links p)) (sweeps p c)).longer in
        let same : length (sweeps p (suc c)) ≡ length (sweep p (length (before_links p)) (sweeps p c)) = ap length (next_sweep p c) in
        let few : length (sweeps p (suc c)) < roomy.reach = sweeps_few p h (suc c) (sym swept.ends ∙ t) in
        (omega (arith, grows, same, ne, swept.counted, q.counted), omega (arith, few, swept.counted))

-- ---- the loop

pub record SweepingOn (p : Plan) (n room count₀ : ℕ) (lists₀ : Lists) (work₀ : List ℤ) (count : ℕ) (lists : Lists) (work : List ℤ) : Type 0 where
  pub kept : Kept (4 * (n * n)) work₀ work
  pub known : Sweeping p room count lists work
  pub stands : (first : Lists) → Swept p room first count₀ lists₀ work₀ → Swept p room first count lists work

-- ---- what is given

-- a try adds one line at most
try_few : (o : List Line → Offer) (ls : List Line) → length (try o ls) ≤ suc (length ls)
unfolding try write
try_few o ls = by (ended ls) (o ls)
  where
    one : (b : Bool) (l : Line) → length (cond b (l ∷ ls) ls) ≤ suc (length ls)
    one true l = omega arith
    one false l = omega arith

    by : (b : Bool) (f : Offer) → length (cond b ls (write f ls)) ≤ suc (length ls)
    by true f = omega arith
    by false nothing = omega arith
    by false (line l) = one (always l.kind || beats l.weight (best (side_of l.kind) l.from l.to ls)) l

each_few : (f : ℕ → List Line → Offer) (m : ℕ) (ls : List Line) → length (each (λ i. try (f i)) m ls) ≤ length ls + m
each_few f zero ls = omega arith
each_few f (suc m) ls =
    let k = each_few f m ls in
    let one = try_few (f m) (each (λ i. try (f i)) m ls) in
    omega (arith, k, one)

pub before_few : (p : Plan) → InRange version1 p → length (before_links p) ≤ 4096
unfolding before_links starts limits version1
before_few p h =
    let a : length (starts p []) ≤ length {A = Line} [] + p.points = each_few start_offer p.points [] in
    let b : length (limits p (starts p [])) ≤ length (starts p []) + length p.limits = each_few (λ i. limit_offer i (limit_of p i)) (length p.limits) (starts p []) in
    omega (arith, a, b, h.points, h.limits)

-- ---- the loop's turns

module _ {p : Plan} {n g room count₀ : ℕ} {lists₀ : Lists} {work₀ : List ℤ} (e : p.points ≡ n) (eg : g ≡ length (before_links p)) (h : InRange version1 p) where
  module _ {count : ℕ} {lists : Lists} {work : List ℤ} (q : SweepingOn p n room count₀ lists₀ work₀ count lists work) where
    pub sweeping_begins : Begins p g 3 7 room count lists work
    sweeping_begins =
        record {
          base = sweeps p q.known.swept.times;
          first = q.known.first;
          begun = sweep_begun e eg h q.known.swept.is;
        }

    module _ {run : ControlFlow ℕ ℕ} {lists' : Lists} {work' : List ℤ} (k : Kept (4 * (n * n)) work work')
        (left : (base : List Line) (first : Lists) → Begun p g 3 7 room base first count lists work → Left n room (through p g 3 (7 - 3) base) first run lists' work') where
      -- what one sweep leaves
      one : {first : Lists} (t : Swept p room first count lists work) → Left n room (through p g 3 (7 - 3) (sweeps p t.times)) first run lists' work'
      one {first} t = left (sweeps p t.times) first (sweep_begun e eg h t.is)

      pub sweeping_kept : Kept (4 * (n * n)) work₀ work'
      sweeping_kept = kept_trans q.kept k

      pub sweeping_ended : ended_of run ≡ true → (first : Lists) → Swept p room first count₀ lists₀ work₀ → Worked p room first run lists' work'
      sweeping_ended t first f = let w = q.stands first f in sweep_ended e eg h w.is (one w) t

      pub sweeping_still : lines_of run ≡ count → (first : Lists) → Swept p room first count₀ lists₀ work₀ → Worked p room first run lists' work'
      sweeping_still t first f = let w = q.stands first f in sweep_still e eg h w.is (one w) t

      pub sweeping_more : ended_of run ≡ false → SweepingOn p n room count₀ lists₀ work₀ (lines_of run) lists' work'
      sweeping_more t =
          record {
            kept = sweeping_kept;
            known = let w = q.known.swept in record { first = q.known.first; swept = record { times = suc w.times; is = sweep_more e eg h w.is (one w) t } };
            stands = λ first f. let w = q.stands first f in record { times = suc w.times; is = sweep_more e eg h w.is (one w) t };
          }

      pub sweeping_less : ended_of run ≡ false → lines_of run ≢ count → roomy.reach - lines_of run < roomy.reach - count
      sweeping_less t ne = let w = q.known.swept in let l = sweep_longer e eg h w.is (one w) t ne in omega (arith, l.0, l.1)

-- ---- the whole list, from the start

-- where the lines before the links have ended the list, nothing more is given
given_stays : (p : Plan) → ended (before_links p) ≡ true → sweeps p 0 ≡ before_links p
unfolding sweeps given
given_stays p e = links_stop p (before_links p) e

module _ {p : Plan} {n room : ℕ} {lists₀ : Lists} (e : p.points ≡ n) (h : InRange version1 p) where
  -- before any line
  pub begun_none : {work : List ℤ} → Holds n [] work → Begun p 0 0 2 room [] lists₀ 0 lists₀ work
  unfolding laid
  begun_none q = record { holds = rw e q; counted = refl; are = refl; going = refl; fine = fine_before p h 0 }

  -- the lines before those of the links
  module _ {run : ControlFlow ℕ ℕ} {lists : Lists} {work : List ℤ} (l : Left n room (through p 0 0 (2 - 0) []) lists₀ run lists work) where
    before : Left p.points room (before_links p) lists₀ run lists work
    before =
        subst (λ (ls : List Line). Left p.points room ls lists₀ run lists work) (before_through p 0)
        (subst (λ (m : ℕ). Left m room (through p 0 0 2 []) lists₀ run lists work) (sym e) l)

    pub before_counted : lines_of run ≡ length (before_links p)
    before_counted = before.counted

    pub before_ended : ended_of run ≡ true → Worked p room lists₀ run lists work
    before_ended t =
        let stop : ended (before_links p) ≡ true = sym before.ends ∙ t in
        let all : sweeps p 0 ≡ before_links p = given_stays p stop in
        record {
          lines = before_links p;
          reasons = record { count = 0; swept = sym all; stays = sweep_stops p (length (before_links p)) (before_links p) stop };
          is = before;
        }

    pub begun_before : ended_of run ≡ false → Begun p 0 2 3 room (before_links p) lists₀ (lines_of run) lists work
    begun_before t =
        record { holds = before.holds; counted = before.counted; are = before.are; going = sym before.ends ∙ t; fine = fine_links p h 0 }

  -- with those of the links
  module _ {run : ControlFlow ℕ ℕ} {lists : Lists} {work : List ℤ} (l : Left n room (through p 0 2 (3 - 2) (before_links p)) lists₀ run lists work) where
    all_given : Left p.points room (sweeps p 0) lists₀ run lists work
    all_given =
        subst (λ (ls : List Line). Left p.points room ls lists₀ run lists work) (given_through p 0)
        (subst (λ (m : ℕ). Left m room (through p 0 2 1 (before_links p)) lists₀ run lists work) (sym e) l)

    pub given_ended : ended_of run ≡ true → Worked p room lists₀ run lists work
    given_ended t =
        record {
          lines = sweeps p 0;
          reasons = record { count = 0; swept = refl; stays = sweep_stops p (length (before_links p)) (sweeps p 0) (sym all_given.ends ∙ t) };
          is = all_given;
        }

    pub given_swept : ended_of run ≡ false → Swept p room lists₀ (lines_of run) lists work
    given_swept t =
        record {
          times = 0;
          is = record { holds = all_given.holds; counted = all_given.counted; are = all_given.are; going = sym all_given.ends ∙ t };
        }
