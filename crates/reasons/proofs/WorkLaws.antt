-- The parts worked through: what is kept from step to step, and what is left at the end. Assumes nothing.
use mathlib.Core.Path.{◌≡◌, refl, sym, ap, subst, ◌∙◌}
use mathlib.Core.Logic.{◌≢◌, inl, inr, ⊎_elim}
use mathlib.Core.Bool.{true, false, true≢false}
use Rattle.std.specs.Prelude.{Option, Some, None, IfSome, is_some}
use mathlib.Core.List.{List}
use Prim.Native.Nat.{ℕ, zero, suc, ◌+◌, ◌*◌, ◌-◌, ◌≤◌, ◌<◌}
use native.Mathlib.Nat.{add-zero, eq-or-lt_of_le}
use native.Mathlib.Numerals.{add-one}
use native.Mathlib.Omega.{arith}
use lib.ListN.{length}
use lib.IntN.{ℤ}
use Rattle.rules.specs.Plan.{Plan}
use Rattle.rules.specs.Calls.{Kept}
use Rattle.cell.specs.Steps.{roomy}
use Rattle.chain.specs.Lines.{Line}
use Rattle.chain.specs.Reasons.{ended, each}
use Rattle.chain.specs.Places.{Steps, pass, part}
use Rattle.chain.specs.Call.{Lists}
use Rattle.chain.proofs.Tries.{Stops, try_stops, each_stops, each_rest}
use Rattle.offers.specs.declared.Draft.{Draft}
use Rattle.offers.specs.Work.{Holds, Standing, Known}
use Rattle.offers.specs.Drafts.{made_of, added, Notable}
use Rattle.std.specs.declared.ops.ControlFlow.{ControlFlow}
use Rattle.reasons.specs.Stands.{Place, steps_of, outer, middle, inner, through, after, Placed, TryLeft}
use Rattle.reasons.specs.Stepping.{GoesOn, within, beyond, Stepped}
use Rattle.reasons.specs.Notes.{taken_count, taken_work, taken_lists, closes_of, laid}
use Rattle.reasons.specs.Working.{Fine, Begun, Begins, Left, lines_of, ended_of}
use Rattle.reasons.proofs.NoteLaws.{noted, note_beyond}

-- ---- once the list has ended

-- every step adds nothing then
pub steps_stop : (p : Plan) (g q a b c : ℕ) → Stops (steps_of p g q a b c)
steps_stop p g zero a b c = try_stops _
steps_stop p g (suc zero) a b c = try_stops _
steps_stop p g (suc (suc zero)) a b c = try_stops _
steps_stop p g (suc (suc (suc zero))) a b c = try_stops _
steps_stop p g (suc (suc (suc (suc zero)))) a b c = try_stops _
steps_stop p g (suc (suc (suc (suc (suc zero))))) a b c = try_stops _
steps_stop p g (suc (suc (suc (suc (suc (suc q)))))) a b c = try_stops _

module _ (f : Steps) (stops : (a b c : ℕ) → Stops (f a b c)) (A M C : ℕ) where
  rows_stop : (a b : ℕ) → Stops (each (f a b) C)
  rows_stop a b = each_stops (f a b) (stops a b) C

  outers_stop : (a : ℕ) → Stops (each (λ b. each (f a b) C) M)
  outers_stop a = each_stops (λ b. each (f a b) C) (rows_stop a) M

  pub pass_stops : Stops (pass f A M C)
  pass_stops = each_stops (λ a. each (λ b. each (f a b) C) M) outers_stop A

  -- the rest of a part that has ended at a place adds nothing
  pub part_rest : (a b c : ℕ) (ls : List Line) → a < A → b < M → c ≤ C → ended (part f M C a b c ls) ≡ true → pass f A M C ls ≡ part f M C a b c ls
  part_rest a b c ls ha hb hc e =
      let outers : List Line = each (λ a. each (λ b. each (f a b) C) M) a ls in
      let rows : List Line = each (λ b. each (f a b) C) b outers in
      let row : each (f a b) C rows ≡ part f M C a b c ls = each_rest (f a b) (stops a b) c C hc rows e in
      let middle : each (λ b. each (f a b) C) M outers ≡ part f M C a b c ls =
      each_rest (λ b. each (f a b) C) (rows_stop a) (suc b) M hb outers (ap ended row ∙ e) ∙ row in
      each_rest (λ a. each (λ b. each (f a b) C) M) outers_stop (suc a) A ha ls (ap ended middle ∙ e) ∙ middle

-- nor do further parts
pub through_rest : (p : Plan) (g from i j : ℕ) (base : List Line) → i ≤ j → ended (through p g from i base) ≡ true → through p g from j base ≡ through p g from i base
through_rest p g from i zero base h e = let z : zero ≡ i = omega arith in ap (λ (k : ℕ). through p g from k base) z
through_rest p g from i (suc j) base h e =
    ⊎_elim
    (λ (q : i ≡ suc j). ap (λ (k : ℕ). through p g from k base) (sym q))
    (λ (q : i < suc j).
    let r : through p g from j base ≡ through p g from i base = through_rest p g from i j base (omega arith) e in
    pass_stops (steps_of p g (from + j)) (steps_stop p g (from + j)) (outer p (from + j)) (middle p (from + j)) (inner p (from + j)) (through p g from j base) (ap ended r ∙ e)
    ∙ r)
    (eq-or-lt_of_le h)

-- so a list that has ended at a place is what all the parts make
pub ended_through : (p : Plan) (g from until : ℕ) (at : Place) (base : List Line) → from ≤ at.phase → at.phase < until → at.a < outer p at.phase
    → at.b < middle p at.phase → at.c ≤ inner p at.phase → ended (after p g from at base) ≡ true
    → through p g from (until - from) base ≡ after p g from at base
unfolding after
ended_through p g from until at base hf hu ha hb hc e =
    let i : ℕ = at.phase - from in
    let same : from + i ≡ at.phase = omega arith in
    let all : through p g from (suc i) base ≡ after p g from at base =
    rw same (part_rest (steps_of p g at.phase) (steps_stop p g at.phase) (outer p at.phase) (middle p at.phase) (inner p at.phase) at.a at.b at.c (through p g from i base) ha hb hc e) in
    through_rest p g from (suc i) (until - from) base (omega arith) (ap ended all ∙ e) ∙ all

-- ---- cells past the four tables

pub kept_trans : {room : ℕ} {t u v : List ℤ} → Kept room t u → Kept room u v → Kept room t v
kept_trans a b = record { length_same = b.length_same ∙ a.length_same; beyond_same = λ i h. b.beyond_same i h ∙ a.beyond_same i h }

pub kept_refl : (room : ℕ) (t : List ℤ) → Kept room t t
kept_refl room t = record { length_same = refl; beyond_same = λ i h. refl }

pub taken_kept : (n : ℕ) (d : Option Draft) (i : ℕ) (work : List ℤ) → IfSome d (Notable n) → Kept (4 * (n * n)) work (taken_work n d i work)
taken_kept n None i work note = kept_refl (4 * (n * n)) work
taken_kept n (Some d) i work note = note_beyond n (made_of d) i work note.from note.to

-- ---- one draft taken

-- of a list so far: how many lines, the lists, the bests
pub record Holding (n room : ℕ) (ls : List Line) (first : Lists) (count : ℕ) (lists : Lists) (work : List ℤ) : Type 0 where
  pub holds : Holds n ls work
  pub counted : count ≡ length ls
  pub are : lists ≡ laid room ls first

some_line : {d : Draft} → Some d ≢ None
some_line e = true≢false (ap is_some e)

pub taken_holding : {n room : ℕ} {ls : List Line} {first lists : Lists} {count : ℕ} {work : List ℤ} → Holding n room ls first count lists work → (d : Option Draft)
    → IfSome d (Notable n) → (d ≢ None → Fine n ls)
    → Holding n room (added d ls) first (taken_count d count) (taken_lists room d count lists) (taken_work n d count work)
unfolding laid
taken_holding h None note near = h
taken_holding {n} {room} {ls} {first} {lists} {count} {work} h (Some d) note near =
    record {
      holds = rw h.counted (noted n (made_of d) ls work note.from note.to note.number (near some_line).near h.holds);
      counted = rw (add-one count) (ap suc h.counted);
      are = rw (h.counted, h.are);
    }

-- no line closes nothing
closes_none : (d : Option Draft) → d ≡ None → closes_of d ≡ false
closes_none d z = rw z

-- whether the list has ended then
pub closes_is : (d : Option Draft) (ls : List Line) → ended ls ≡ false → ended (added d ls) ≡ closes_of d
closes_is None ls g = g
closes_is (Some d) ls g = refl

-- ---- from step to step

-- the loop over the parts has come to a place
pub record Going (p : Plan) (g from until room count₀ : ℕ) (lists₀ : Lists) (work₀ : List ℤ) (at : Place) (count : ℕ) (lists : Lists) (work : List ℤ) : Type 0 where
  pub placed : Placed p at
  pub low : from ≤ at.phase
  pub high : at.phase ≤ until
  pub fresh : at.phase ≡ until → (at.a ≡ 0) × (at.b ≡ 0) × (at.c ≡ 0)
  pub kept : Kept (4 * (p.points * p.points)) work₀ work
  pub stands : (base : List Line) (first : Lists) → Begun p g from until room base first count₀ lists₀ work₀
      → Holding p.points room (after p g from at base) first count lists work × (ended (after p g from at base) ≡ false)

module _ (p : Plan) (g from until room count₀ : ℕ) (lists₀ : Lists) (work₀ : List ℤ) where
  -- at the first place
  at_first : (base : List Line) → base ≡ after p g from (record { phase = from; a = 0; b = 0; c = 0 }) base
  unfolding after
  at_first base = let z : from - from ≡ 0 = omega arith in rw z

  pub going_none : from ≤ until → Going p g from until room count₀ lists₀ work₀ (record { phase = from; a = 0; b = 0; c = 0 }) count₀ lists₀ work₀
  going_none h =
      record {
        placed = record {
          a_most = omega arith;
          b_most = omega arith;
          c_most = omega arith;
          a_through = λ q. (refl, refl);
          b_through = λ q. refl;
        };
        low = omega arith;
        high = h;
        fresh = λ e. (refl, refl, refl);
        kept = kept_refl (4 * (p.points * p.points)) work₀;
        stands = λ base first b.
            rw (sym (at_first base)) (record { holds = b.holds; counted = b.counted; are = b.are }, b.going);
      }

  module _ {at : Place} {count : ℕ} {lists : Lists} {work : List ℤ} (q : Going p g from until room count₀ lists₀ work₀ at count lists work) (hu : at.phase < until) where
    -- fine where a try is left
    fine_at : {base : List Line} {first : Lists} → Begun p g from until room base first count₀ lists₀ work₀ → TryLeft p at → Fine p.points (after p g from at base)
    fine_at {base} {first} b l = b.fine at q.low hu l.a l.b (omega (arith, l.c)) (q.stands base first b).1

    standing_at : {base : List Line} {first : Lists} → Begun p g from until room base first count₀ lists₀ work₀ → TryLeft p at
        → Standing p.points (after p g from at base) work
    standing_at {base} {first} b l =
        let f = fine_at b l in
        record {
          holds = (q.stands base first b).0.holds;
          near = f.near;
          few = omega (arith, f.few);
          going = (q.stands base first b).1;
          diagonal = f.diagonal;
        }

    pub going_known : Begins p g from until room count₀ lists₀ work₀ → TryLeft p at → Known p.points work
    going_known b l = record { lines = after p g from at b.base; standing = standing_at b.begun l }

    module _ {d : Option Draft} {next : Place} (step : Stepped p g work at d next) where
      -- a line only where a try was left
      left_for : d ≢ None → TryLeft p at × ((next.phase ≡ at.phase) × (next.a ≡ at.a) × (next.b ≡ at.b))
      left_for ne = by step.goes
        where
          by : GoesOn p at d next → TryLeft p at × ((next.phase ≡ at.phase) × (next.a ≡ at.a) × (next.b ≡ at.b))
          by (within e (inl z)) = absurd (ne z)
          by (within e (inr l)) = (l.0, (e, l.1, l.2))
          by (beyond z e) = absurd (ne z)

      -- it is not one too many
      pub going_few : Begins p g from until room count₀ lists₀ work₀ → d ≢ None → count < roomy.reach
      going_few b ne =
          let f = fine_at b.begun (left_for ne).0 in
          omega (arith, f.few, (q.stands b.base b.first b.begun).0.counted)

      next_is : {base : List Line} {first : Lists} → Begun p g from until room base first count₀ lists₀ work₀
          → added d (after p g from at base) ≡ after p g from next base
      next_is {base} {first} b = step.moves (after p g from at base) (λ l. standing_at b l) from q.low base refl

      next_holding : {base : List Line} {first : Lists} → Begun p g from until room base first count₀ lists₀ work₀
          → Holding p.points room (after p g from next base) first (taken_count d count) (taken_lists room d count lists)
          (taken_work p.points d count work)
      next_holding {base} {first} b =
          subst
          (λ (ls : List Line). Holding p.points room ls first (taken_count d count) (taken_lists room d count lists) (taken_work p.points d count work))
          (next_is b)
          (taken_holding (q.stands base first b).0 d step.notable (λ ne. fine_at b (left_for ne).0))

      next_ended : {base : List Line} {first : Lists} → Begun p g from until room base first count₀ lists₀ work₀
          → ended (after p g from next base) ≡ closes_of d
      next_ended {base} {first} b = ap ended (sym (next_is b)) ∙ closes_is d (after p g from at base) (q.stands base first b).1

      pub going_kept : Kept (4 * (p.points * p.points)) work₀ (taken_work p.points d count work)
      going_kept = kept_trans q.kept (taken_kept p.points d count work step.notable)

      -- one step more
      pub going_more : closes_of d ≡ false
          → Going p g from until room count₀ lists₀ work₀ next (taken_count d count) (taken_lists room d count lists)
          (taken_work p.points d count work)
      going_more e =
          record {
            placed = step.placed;
            low = low step.goes;
            high = high step.goes;
            fresh = fresh step.goes;
            kept = going_kept;
            stands = λ base first b. (next_holding b, next_ended b ∙ e);
          }
        where
          low : GoesOn p at d next → from ≤ next.phase
          low (within f l) = omega (arith, q.low)
          low (beyond z f) = let n : next.phase ≡ at.phase + 1 = ap (λ (c : Place). c.phase) f in omega (arith, q.low)

          high : GoesOn p at d next → next.phase ≤ until
          high (within f l) = omega arith
          high (beyond z f) = let n : next.phase ≡ at.phase + 1 = ap (λ (c : Place). c.phase) f in omega arith

          fresh : GoesOn p at d next → next.phase ≡ until → (next.a ≡ 0) × (next.b ≡ 0) × (next.c ≡ 0)
          fresh (within f l) h = absurd (omega arith)
          fresh (beyond z f) h = (ap (λ (c : Place). c.a) f, ap (λ (c : Place). c.b) f, ap (λ (c : Place). c.c) f)

      -- the list has ended
      pub going_ended : (run : ControlFlow ℕ ℕ) → lines_of run ≡ taken_count d count → ended_of run ≡ true → closes_of d ≡ true
          → (base : List Line) (first : Lists) → Begun p g from until room base first count₀ lists₀ work₀
          → Left p.points room (through p g from (until - from) base) first run (taken_lists room d count lists) (taken_work p.points d count work)
      going_ended run el ee e base first b =
          let some : d ≢ None = λ z. true≢false (sym e ∙ closes_none d z) in
          let l = left_for some in
          let h = next_holding b in
          let all : through p g from (until - from) base ≡ after p g from next base =
          ended_through p g from until next base (omega (arith, q.low, l.1.0)) (omega (arith, l.1.0)) (next_a l.1.0 l.1.1 l.0.a) (next_b l.1.0 l.1.2 l.0.b)
          step.placed.c_most (next_ended b ∙ e) in
          rw all (record { holds = h.holds; counted = el ∙ h.counted; ends = ee ∙ sym (next_ended b ∙ e); are = h.are })
        where
          next_a : next.phase ≡ at.phase → next.a ≡ at.a → at.a < outer p at.phase → next.a < outer p next.phase
          next_a f z h = rw (f, z) h

          next_b : next.phase ≡ at.phase → next.b ≡ at.b → at.b < middle p at.phase → next.b < middle p next.phase
          next_b f z h = rw (f, z) h

  -- all the parts done
  module _ {at : Place} {count : ℕ} {lists : Lists} {work : List ℤ} (q : Going p g from until room count₀ lists₀ work₀ at count lists work) (hu : until ≤ at.phase) where
    pub going_done : (run : ControlFlow ℕ ℕ) → lines_of run ≡ count → ended_of run ≡ false → (base : List Line) (first : Lists)
        → Begun p g from until room base first count₀ lists₀ work₀ → Left p.points room (through p g from (until - from) base) first run lists work
    unfolding after
    going_done run el ee base first b =
        let e : at.phase ≡ until = omega (arith, q.high) in
        let z = q.fresh e in
        let h = q.stands base first b in
        let all : after p g from at base ≡ through p g from (until - from) base = rw (z.0, z.1, z.2, e) in
        rw (sym all) (record { holds = h.0.holds; counted = el ∙ h.0.counted; ends = ee ∙ sym h.1; are = h.0.are })

-- ---- the same of a sound file of n points, as the code has it

pub notable_here : {p : Plan} {n g : ℕ} {work : List ℤ} {at : Place} {d : Option Draft} {next : Place} → p.points ≡ n → Stepped p g work at d next → IfSome d (Notable n)
notable_here {d} e step = subst (λ (c : ℕ). IfSome d (Notable c)) e step.notable

module _ {p : Plan} {n g from until room count₀ : ℕ} {lists₀ : Lists} {work₀ : List ℤ} (e : p.points ≡ n) where
  pub known_here : {at : Place} {count : ℕ} {lists : Lists} {work : List ℤ} → Going p g from until room count₀ lists₀ work₀ at count lists work → at.phase < until
      → Begins p g from until room count₀ lists₀ work₀ → TryLeft p at → Known n work
  known_here {work} q hu b l = subst (λ (c : ℕ). Known c work) e (going_known p g from until room count₀ lists₀ work₀ q hu b l)

  pub kept_here : {at : Place} {count : ℕ} {lists : Lists} {work : List ℤ} → Going p g from until room count₀ lists₀ work₀ at count lists work
      → Kept (4 * (n * n)) work₀ work
  kept_here {work} q = subst (λ (c : ℕ). Kept (4 * (c * c)) work₀ work) e q.kept

  module _ {at : Place} {count : ℕ} {lists : Lists} {work : List ℤ} (q : Going p g from until room count₀ lists₀ work₀ at count lists work) (hu : at.phase < until)
      {d : Option Draft} {next : Place} (step : Stepped p g work at d next) (count' : ℕ) (lists' : Lists) (work' : List ℤ) (ec : count' ≡ taken_count d count)
      (ew : work' ≡ taken_work n d count work) (el : lists' ≡ taken_lists room d count lists) where
    pub more_here : closes_of d ≡ false → Going p g from until room count₀ lists₀ work₀ next count' lists' work'
    more_here c = rw (ec, ew, el, ← e) (going_more p g from until room count₀ lists₀ work₀ q hu step c)

    pub kept_after : Kept (4 * (n * n)) work₀ work'
    kept_after = rw (ew, ← e) (going_kept p g from until room count₀ lists₀ work₀ q hu step)

    pub ended_here : {i : ℕ} → until - from ≡ i → (run : ControlFlow ℕ ℕ) → lines_of run ≡ count' → ended_of run ≡ true → closes_of d ≡ true
        → (base : List Line) (first : Lists) → Begun p g from until room base first count₀ lists₀ work₀ → Left n room (through p g from i base) first run lists' work'
    ended_here all run l t c base first b =
        rw (ew, el, ← e, ← all) (going_ended p g from until room count₀ lists₀ work₀ q hu step run (l ∙ ec) t c base first b)

  pub done_here : {at : Place} {count : ℕ} {lists : Lists} {work : List ℤ} → Going p g from until room count₀ lists₀ work₀ at count lists work → until ≤ at.phase
      → {i : ℕ} → until - from ≡ i → (run : ControlFlow ℕ ℕ) → lines_of run ≡ count → ended_of run ≡ false → (base : List Line) (first : Lists)
      → Begun p g from until room base first count₀ lists₀ work₀ → Left n room (through p g from i base) first run lists work
  done_here q hu all run l d base first b = rw (← e, ← all) (going_done p g from until room count₀ lists₀ work₀ q hu run l d base first b)

-- ---- part after part

-- so many parts done, from one on
pub record Done (p : Plan) (g from until room count₀ : ℕ) (lists₀ : Lists) (work₀ : List ℤ) (i count : ℕ) (lists : Lists) (work : List ℤ) : Type 0 where
  pub kept : Kept (4 * (p.points * p.points)) work₀ work
  pub stands : (base : List Line) (first : Lists) → Begun p g from until room base first count₀ lists₀ work₀
      → Holding p.points room (through p g from i base) first count lists work × (ended (through p g from i base) ≡ false)

-- the list at a place of one part is what it is there of all the parts
after_done : (p : Plan) (g from i : ℕ) (at : Place) (base : List Line) → at.phase ≡ from + i → after p g (from + i) at (through p g from i base) ≡ after p g from at base
unfolding after
after_done p g from i at base e =
    let none : at.phase - (from + i) ≡ 0 = omega arith in
    let all : at.phase - from ≡ i = omega arith in
    rw (none, all)

-- one part more
part_more : (p : Plan) (g from i : ℕ) (base : List Line) → through p g (from + i) 1 (through p g from i base) ≡ through p g from (suc i) base
part_more p g from i base = rw (add-zero (from + i))

module _ {p : Plan} {g from until room count₀ : ℕ} {lists₀ : Lists} {work₀ : List ℤ} where
  pub done_none : Done p g from until room count₀ lists₀ work₀ 0 count₀ lists₀ work₀
  done_none =
      record {
        kept = kept_refl (4 * (p.points * p.points)) work₀;
        stands = λ base first b. (record { holds = b.holds; counted = b.counted; are = b.are }, b.going);
      }

  module _ {i count : ℕ} {lists : Lists} {work : List ℤ} (q : Done p g from until room count₀ lists₀ work₀ i count lists work) where
    -- what the next part begins with
    done_begun : from + i < until → {base : List Line} {first : Lists} → Begun p g from until room base first count₀ lists₀ work₀
        → Begun p g (from + i) (from + i + 1) room (through p g from i base) first count lists work
    done_begun hu {base} {first} b =
        let h = q.stands base first b in
        record {
          holds = h.0.holds;
          counted = h.0.counted;
          are = h.0.are;
          going = h.1;
          fine = λ at low high ha hb hc e.
              let same : after p g (from + i) at (through p g from i base) ≡ after p g from at base = after_done p g from i at base (omega arith) in
              rw same (b.fine at (omega arith) (omega arith) ha hb hc (sym (ap ended same) ∙ e));
        }

    pub done_begins : from + i < until → Begins p g from until room count₀ lists₀ work₀ → Begins p g (from + i) (from + i + 1) room count lists work
    done_begins hu b = record { base = through p g from i b.base; first = b.first; begun = done_begun hu b.begun }

    module _ (hu : from + i < until) {n : ℕ} (e : p.points ≡ n) {run : ControlFlow ℕ ℕ} {lists' : Lists} {work' : List ℤ} (k : Kept (4 * (n * n)) work work')
        (left : (base : List Line) (first : Lists) → Begun p g (from + i) (from + i + 1) room base first count lists work
        → Left n room (through p g (from + i) 1 base) first run lists' work') where
      -- what it leaves
      one : {base : List Line} {first : Lists} → Begun p g from until room base first count₀ lists₀ work₀
          → Left p.points room (through p g from (suc i) base) first run lists' work'
      one {base} {first} b =
          subst (λ (ls : List Line). Left p.points room ls first run lists' work') (part_more p g from i base)
          (subst (λ (m : ℕ). Left m room (through p g (from + i) 1 (through p g from i base)) first run lists' work') (sym e)
          (left (through p g from i base) first (done_begun hu b)))

      pub done_kept : Kept (4 * (n * n)) work₀ work'
      done_kept = kept_trans (subst (λ (m : ℕ). Kept (4 * (m * m)) work₀ work) e q.kept) k

      pub done_more : ended_of run ≡ false → Done p g from until room count₀ lists₀ work₀ (i + 1) (lines_of run) lists' work'
      done_more t =
          rw (add-one i)
          record {
            kept = subst (λ (m : ℕ). Kept (4 * (m * m)) work₀ work') (sym e) done_kept;
            stands = λ base first b. let l = one b in (record { holds = l.holds; counted = l.counted; are = l.are }, sym l.ends ∙ t);
          }

      -- no further part adds anything where it has ended the list
      pub done_ended : {j : ℕ} → until - from ≡ j → ended_of run ≡ true → (base : List Line) (first : Lists) → Begun p g from until room base first count₀ lists₀ work₀
          → Left n room (through p g from j base) first run lists' work'
      done_ended {j} all t base first b =
          let l = one b in
          let rest : through p g from j base ≡ through p g from (suc i) base = through_rest p g from (suc i) j base (omega arith) (sym l.ends ∙ t) in
          subst (λ (m : ℕ). Left m room (through p g from j base) first run lists' work') e (rw rest l)

    -- all of them done
    module _ {n : ℕ} (e : p.points ≡ n) where
      pub all_kept : Kept (4 * (n * n)) work₀ work
      all_kept = subst (λ (m : ℕ). Kept (4 * (m * m)) work₀ work) e q.kept

      pub all_done : {j : ℕ} → i ≡ j → (run : ControlFlow ℕ ℕ) → lines_of run ≡ count → ended_of run ≡ false → (base : List Line) (first : Lists)
          → Begun p g from until room base first count₀ lists₀ work₀ → Left n room (through p g from j base) first run lists work
      all_done all run l t base first b =
          let h = q.stands base first b in
          rw (← all, ← e) (record { holds = h.0.holds; counted = l ∙ h.0.counted; ends = t ∙ sym h.1; are = h.0.are })
