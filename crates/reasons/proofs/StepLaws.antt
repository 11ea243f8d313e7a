-- What one step adds: joins passed by and made, and the tries of the other parts. Assumes nothing.
use mathlib.Core.Path.{◌≡◌, refl, sym, ap, subst, ◌∙◌}
use mathlib.Core.Logic.{inl, inr}
use mathlib.Core.Bool.{true, false, true≢false}
use Rattle.std.specs.Prelude.{Option, Some, None, IfSome}
use mathlib.Core.List.{List, ◌∷◌}
use Prim.Native.Nat.{ℕ, zero, suc, ◌+◌, ◌≤◌, ◌<◌}
use native.Mathlib.Nat.{add-zero, zero-add}
use native.Mathlib.Omega.{arith}
use lib.ListN.{get_or}
use lib.IntN.{ℤ, pos}
use Rattle.whole.proofs.Order.{ints}
use Rattle.rules.specs.declared.Side.{Side}
use Rattle.rules.specs.declared.Side.TheVariants.{Strict, Open}
use Rattle.rules.specs.Plan.{Limit, Plan, version1, LimitInRange}
use Rattle.rules.specs.Cells.{Cell, mark, num, ◌+ᶜ◌}
use Rattle.cell.specs.Steps.{adding, belowᶜ}
use Rattle.cell.proofs.CellMethods.{number_is}
use Rattle.plan.specs.Layout.{records, plan_of, limit_at, link_at, head_of}
use Rattle.lowering.specs.Table.{Ready}
use Rattle.lowering.proofs.Laws.ReadyFile.{ready_points, limit_range}
use Rattle.chain.specs.Lines.{Line, start_line, limit_line, best, line_of, cells}
use Rattle.chain.specs.Reasons.{Offer, nothing, line, always, side_of, write, ended, try, joined, strict_offer, open_offer, start_offer, limit_offer, link_offer, limit_of, link_of, lower_offer, upper_offer, lower_case_at, longest_at}
use Rattle.offers.specs.declared.Draft.{Draft}
use Rattle.offers.specs.Kinds.{kind_number, join_number}
use Rattle.offers.specs.Work.{part_of, Standing}
use Rattle.offers.specs.Drafts.{made_of, Offers, Adds, Notable, Plain, lowers_by, NoneBefore, Lowering}
use Rattle.offers.proofs.OfferLaws.{weight_read, join_none, join_some, is_written}
use Rattle.reasons.specs.declared.Turns.{Turns}
use Rattle.reasons.specs.Stands.{Place, place_of, next_of, outer_of, middle_of, inner_of, steps_of, outer, middle, inner, Moves, Placed, TryLeft}
use Rattle.reasons.specs.Stepping.{Tried, within, beyond, Stepped, Joins, strict, weak, join_part}
use Rattle.reasons.proofs.PlaceLaws.{outer_is, middle_is, inner_is, inner_most, bounded, move_step, move_inner, move_middle, move_part, move_passed, left_step, left_inner, left_middle, left_part}

-- ---- a draft and its line

-- the line of an offer
abbrev line_in : Line → Offer → Line
line_in d nothing = d
line_in d (line l) = l

same_offered : {l m : Line} → line l ≡ line m → l ≡ m
same_offered {l} e = ap (line_in l) e

-- a line that is always written
pub always_adds : (l : Line) (o : List Line → Offer) (ls : List Line) → always l.kind ≡ true → o ls ≡ line l → ended ls ≡ false → try o ls ≡ l ∷ ls
unfolding try write
always_adds l o ls a e g = rw (g, e, a)

-- ---- joins

module _ {n : ℕ} {ls : List Line} {work : List ℤ} (t : Standing n ls work) (s : Side) (kind x y z : ℕ) (hx : x < n) (hy : y < n) (hz : z < n) where
  -- the test of the cells is the test of the bests
  lowers_is : lowers_by n work (part_of s) y x z ≡ belowᶜ (cells s ls x y +ᶜ cells s ls y z) (cells s ls x z)
  lowers_is = rw (weight_read t s x y hx hy, weight_read t s y z hy hz, weight_read t s x z hx hz)

  -- one that lowers the cell is written
  written : side_of kind ≡ s → belowᶜ (cells s ls x y +ᶜ cells s ls y z) (cells s ls x z) ≡ true → (d : Draft)
      → joined kind x z (best s x y ls) (best s y z ls) ≡ line (made_of d) → write (joined kind x z (best s x y ls) (best s y z ls)) ls ≡ made_of d ∷ ls
  written o low d e = by (cells s ls x y +ᶜ cells s ls y z) refl
    where
      by : (c : Cell) → cells s ls x y +ᶜ cells s ls y z ≡ c → write (joined kind x z (best s x y ls) (best s y z ls)) ls ≡ made_of d ∷ ls
      by mark q = absurd (true≢false (sym low ∙ ap (λ (c : Cell). belowᶜ c (cells s ls x z)) q))
      by (num w) q =
          let l : Line = record { kind = kind; from = x; to = z; weight = w; first = line_of (best s x y ls); second = line_of (best s y z ls) } in
          let j : joined kind x z (best s x y ls) (best s y z ls) ≡ line l = join_some s kind x y z ls low w (sym q) in
          ap (λ (f : Offer). write f ls) j
          ∙ is_written l ls (cells s ls x z) (ap (λ (v : Side). cells v ls x z) o) (ap (λ (c : Cell). belowᶜ c (cells s ls x z)) (sym q) ∙ low)
          ∙ ap (λ (m : Line). m ∷ ls) (same_offered (sym j ∙ e))

module _ {n : ℕ} {ls : List Line} {work : List ℤ} (t : Standing n ls work) (p : Plan) (g : ℕ) (s : Side) (kind phase x y z : ℕ) (hx : x < n) (hy : y < n) (hz : z < n) where
  -- a join that does not lower its cell adds nothing
  pub join_passes : Joins s kind phase → lowers_by n work (part_of s) y x z ≡ false → steps_of p g phase y x z ls ≡ ls
  unfolding try strict_offer open_offer
  join_passes (strict a b c) low =
      rw (c, t.going) (join_none Strict 6 x y z ls refl refl (sym (lowers_is t Strict 6 x y z hx hy hz) ∙ rw a at low))
  join_passes (weak a b c) low =
      rw (c, t.going) (join_none Open 9 x y z ls refl refl (sym (lowers_is t Open 9 x y z hx hy hz) ∙ rw a at low))

  -- and one that does adds its line
  pub join_adds : Joins s kind phase → lowers_by n work (part_of s) y x z ≡ true → (d : Draft)
      → ((ls : List Line) → Standing n ls work → joined kind x z (best s x y ls) (best s y z ls) ≡ line (made_of d))
      → steps_of p g phase y x z ls ≡ made_of d ∷ ls
  unfolding try strict_offer open_offer
  join_adds (strict a b c) low d made =
      rw (c, t.going)
      (written t Strict 6 x y z hx hy hz refl (sym (lowers_is t Strict 6 x y z hx hy hz) ∙ rw a at low) d
      (subst (λ (k : ℕ). joined k x z (best Strict x y ls) (best Strict y z ls) ≡ line (made_of d)) b
      (subst (λ (q : Side). joined kind x z (best q x y ls) (best q y z ls) ≡ line (made_of d)) a (made ls t))))
  join_adds (weak a b c) low d made =
      rw (c, t.going)
      (written t Open 9 x y z hx hy hz refl (sym (lowers_is t Open 9 x y z hx hy hz) ∙ rw a at low) d
      (subst (λ (k : ℕ). joined k x z (best Open x y ls) (best Open y z ls) ≡ line (made_of d)) b
      (subst (λ (q : Side). joined kind x z (best q x y ls) (best q y z ls) ≡ line (made_of d)) a (made ls t))))

-- ---- a step of joins

-- the joins of a side's bests
pub joins : (s : Side) → Joins s (join_number s) (join_part s)
joins Strict = strict refl refl refl
joins Open = weak refl refl refl

-- the loops of joins go over all points
joins_turn : {s : Side} {kind phase : ℕ} (p : Plan) → Joins s kind phase → (outer p phase ≡ p.points) × (middle p phase ≡ p.points) × (inner p phase ≡ p.points)
joins_turn p (strict a b c) = rw c (refl, refl, refl)
joins_turn p (weak a b c) = rw c (refl, refl, refl)

module _ (p : Plan) (g n : ℕ) (work : List ℤ) (s : Side) (kind : ℕ) (at : Place) (points : p.points ≡ n) (j : Joins s kind at.phase) (ha : at.a < n) (hb : at.b < n)
    (hc : at.c < n) (few : n ≤ 64) where
  here : (ls : List Line) → Standing p.points ls work → Standing n ls work
  here ls t = subst (λ (m : ℕ). Standing m ls work) points t

  placed_at : (r : ℕ) → r ≤ n → Placed p (record { phase = at.phase; a = at.a; b = at.b; c = r })
  placed_at r h =
      let turns = joins_turn p j in
      record {
        a_most = omega (arith, turns.0);
        b_most = omega (arith, turns.1);
        c_most = omega (arith, turns.2);
        a_through = λ q. absurd (omega (arith, turns.0));
        b_through = λ q. absurd (omega (arith, turns.1));
      }

  left : TryLeft p at
  left =
      let turns = joins_turn p j in
      record { a = omega (arith, turns.0); b = omega (arith, turns.1); c = omega (arith, turns.2) }

  passed : (z : ℕ) → at.c ≤ z → z ≤ n → NoneBefore n work (part_of s) at.a at.b at.c z → (ls : List Line) → Standing p.points ls work
      → Moves p g at (record { phase = at.phase; a = at.a; b = at.b; c = z }) ls ls
  passed z from to q ls t =
      move_passed p g at.phase at.a at.b at.c z ls from
      (λ i h k. join_passes (here ls t) p g s kind at.phase at.b at.a i hb ha (omega arith) j (q.stays i h k))

  pub join_none_left : NoneBefore n work (part_of s) at.a at.b at.c n
      → Stepped p g work at None (record { phase = at.phase; a = at.a; b = at.b; c = n })
  join_none_left q =
      record {
        moves = λ ls t. passed n (omega arith) (omega arith) q ls (t left);
        goes = within refl (inl refl);
        notable = tt;
        placed = placed_at n (omega arith);
        falls = left_step at.phase at.a at.b at.c n hc few;
      }

  pub join_one_left : (d : Draft) (z : ℕ) → Lowering n work (part_of s) at.a at.b at.c z
      → ((ls : List Line) → Standing n ls work → joined kind at.b z (best s at.b at.a ls) (best s at.a z ls) ≡ line (made_of d))
      → Notable n d → Stepped p g work at (Some d) (record { phase = at.phase; a = at.a; b = at.b; c = z + 1 })
  join_one_left d z q made note =
      record {
        moves = λ ls t from h base e.
            rw (sym (join_adds (here ls (t left)) p g s kind at.phase at.b at.a z hb ha q.to j q.lowers d made))
            (move_step p g at.phase at.a at.b z ls from h base (passed z q.from (omega (arith, q.to)) q.none_before ls (t left) from h base e));
        goes = within refl (inr (left, refl, refl));
        notable = subst (λ (m : ℕ). Notable m d) (sym points) note;
        placed = placed_at (z + 1) (omega (arith, q.to));
        falls = left_step at.phase at.a at.b at.c (z + 1) (omega (arith, q.from)) (omega (arith, q.to));
      }

-- ---- on from a loop that is through

module _ (p : Plan) (g : ℕ) (work : List ℤ) (at : Place) (q : Placed p at) where
  pub part_through : at.phase < 7 → at.a ≤ 1024 → at.b ≤ 64 → at.c ≤ 64 → outer p at.phase ≤ at.a
      → Stepped p g work at None (record { phase = at.phase + 1; a = 0; b = 0; c = 0 })
  part_through hp la lb lc h =
      let none = q.a_through h in
      let all : outer p at.phase ≡ at.a = omega (arith, q.a_most) in
      record {
        moves = λ ls t. by none.0 none.1 ls all;
        goes = beyond refl refl;
        notable = tt;
        placed = record {
          a_most = omega arith;
          b_most = omega arith;
          c_most = omega arith;
          a_through = λ r. (refl, refl);
          b_through = λ r. refl;
        };
        falls = left_part at.phase at.a at.b at.c hp la lb lc;
      }
    where
      by : at.b ≡ 0 → at.c ≡ 0 → (ls : List Line) → outer p at.phase ≡ at.a → Moves p g at (record { phase = at.phase + 1; a = 0; b = 0; c = 0 }) ls ls
      by eb ec ls all =
          subst (λ (b : ℕ). Moves p g (record { phase = at.phase; a = at.a; b = b; c = at.c }) (record { phase = at.phase + 1; a = 0; b = 0; c = 0 }) ls ls) (sym eb)
          (subst (λ (c : ℕ). Moves p g (record { phase = at.phase; a = at.a; b = 0; c = c }) (record { phase = at.phase + 1; a = 0; b = 0; c = 0 }) ls ls) (sym ec)
          (move_part p g at.phase at.a ls all))

  pub middle_through : at.a ≤ 1024 → at.b ≤ 64 → at.c ≤ 64 → at.a < outer p at.phase → middle p at.phase ≤ at.b
      → Stepped p g work at None (record { phase = at.phase; a = at.a + 1; b = 0; c = 0 })
  middle_through la lb lc ha h =
      let none = q.b_through h in
      let all : middle p at.phase ≡ at.b = omega (arith, q.b_most) in
      record {
        moves = λ ls t. by none ls all;
        goes = within refl (inl refl);
        notable = tt;
        placed = record {
          a_most = omega arith;
          b_most = omega arith;
          c_most = omega arith;
          a_through = λ r. (refl, refl);
          b_through = λ r. refl;
        };
        falls = left_middle at.phase at.a at.b at.c la lb lc;
      }
    where
      by : at.c ≡ 0 → (ls : List Line) → middle p at.phase ≡ at.b → Moves p g at (record { phase = at.phase; a = at.a + 1; b = 0; c = 0 }) ls ls
      by ec ls all =
          subst (λ (c : ℕ). Moves p g (record { phase = at.phase; a = at.a; b = at.b; c = c }) (record { phase = at.phase; a = at.a + 1; b = 0; c = 0 }) ls ls) (sym ec)
          (move_middle p g at.phase at.a at.b ls all)

  pub inner_through : at.b ≤ 64 → at.c ≤ 64 → at.a < outer p at.phase → at.b < middle p at.phase → inner p at.phase ≤ at.c
      → Stepped p g work at None (record { phase = at.phase; a = at.a; b = at.b + 1; c = 0 })
  inner_through lb lc ha hb h =
      let all : inner p at.phase ≡ at.c = omega (arith, q.c_most) in
      record {
        moves = λ ls t. move_inner p g at.phase at.a at.b at.c ls all;
        goes = within refl (inl refl);
        notable = tt;
        placed = record {
          a_most = omega arith;
          b_most = omega arith;
          c_most = omega arith;
          a_through = λ r. absurd (omega arith);
          b_through = λ r. refl;
        };
        falls = left_inner at.phase at.a at.b at.c lb lc;
      }

-- a try
pub try_left : (p : Plan) (g : ℕ) (work : List ℤ) (at : Place) (d : Option Draft) → at.c < 64 → at.a < outer p at.phase → at.b < middle p at.phase
    → at.c < inner p at.phase → Tried p g work at d
    → Stepped p g work at d (record { phase = at.phase; a = at.a; b = at.b; c = at.c + 1 })
try_left p g work at d lc ha hb hc q =
    record {
      moves = λ ls t from h base e.
          rw (sym (q.adds ls (t (record { a = ha; b = hb; c = hc })))) (move_step p g at.phase at.a at.b at.c ls from h base e);
      goes = within refl (inr (record { a = ha; b = hb; c = hc }, refl, refl));
      notable = q.notable;
      placed = record {
        a_most = omega arith;
        b_most = omega arith;
        c_most = omega arith;
        a_through = λ r. absurd (omega arith);
        b_through = λ r. absurd (omega arith);
      };
      falls = left_step at.phase at.a at.b at.c (at.c + 1) (omega arith) (omega arith);
    }

-- ---- the tries of what is given, of Lower and of Upper

-- record i of the records of a file
at_record : {A : Type 0} (f : ℕ → A) (d : A) (i j m : ℕ) → j < m → get_or (records f i m) j d ≡ f (i + j)
at_record f d i j zero h = absurd (omega arith)
at_record f d i zero (suc m) h = ap f (sym (add-zero i))
at_record f d i (suc j) (suc m) h = at_record f d (suc i) j m (omega arith) ∙ ap f (omega arith)

module _ (s : List ℕ) (n m k : ℕ) (r : Ready s n m k) (i : ℕ) where
  pub limit_is : i < m → limit_of (plan_of s) i ≡ limit_at s i
  unfolding plan_of
  limit_is h = subst (λ (j : ℕ). limit_of (plan_of s) i ≡ limit_at s j) (zero-add i) (at_record (limit_at s) (record { from = 0; to = 0; weight = pos zero }) 0 i (head_of s).limits (rw (← r.limits) h))

  pub link_is : i < k → link_of (plan_of s) i ≡ link_at s m i
  unfolding plan_of
  link_is h =
      rw r.limits
      (subst (λ (j : ℕ). link_of (plan_of s) i ≡ link_at s (head_of s).limits j) (zero-add i)
      (at_record (link_at s (head_of s).limits) (record { act = 0; con = 0; short = 0; long = 0 }) 0 i (head_of s).links (rw (← r.links) h)))

-- a start edge and a limit are ordinary lines
pub start_plain : {n x : ℕ} {d : Draft} → x < n → made_of d ≡ start_line x → Plain n d
unfolding adding
start_plain {n} {x} {d} h e =
    let kind : kind_number d.kind ≡ 1 = ap (λ (l : Line). l.kind) e in
    let from : d.from ≡ x = ap (λ (l : Line). l.from) e in
    let to : d.to ≡ 0 = ap (λ (l : Line). l.to) e in
    let weight : d.weight ≡ pos 0 = ap (λ (l : Line). l.weight) e in
    record {
      notable = record { from = omega arith; to = omega arith; number = rw weight (number_is adding.mark (pos 0) (omega ints)) };
      ordinary = rw kind;
      strict = rw kind;
    }

pub limit_plain : {s : List ℕ} {n m k i : ℕ} {d : Draft} → Ready s n m k → i < m → made_of d ≡ limit_line i (limit_at s i) → Plain n d
unfolding adding version1
limit_plain {s} {n} {m} {k} {i} {d} r h e =
    let q : LimitInRange version1 n (limit_at s i) = limit_range s n m k r i h in
    let kind : kind_number d.kind ≡ 2 = ap (λ (l : Line). l.kind) e in
    let from : d.from ≡ (limit_at s i).from = ap (λ (l : Line). l.from) e in
    let to : d.to ≡ (limit_at s i).to = ap (λ (l : Line). l.to) e in
    let weight : d.weight ≡ (limit_at s i).weight = ap (λ (l : Line). l.weight) e in
    record {
      notable = record {
        from = omega (arith, q.from);
        to = omega (arith, q.to);
        number = rw weight (number_is adding.mark (limit_at s i).weight (omega (ints, q.most)));
      };
      ordinary = rw kind;
      strict = rw kind;
    }

-- they offer themselves
pub start_offers : (n : ℕ) (work : List ℤ) (x : ℕ) (d : Draft) → made_of d ≡ start_line x → Offers n work (start_offer x) (Some d)
unfolding start_offer
start_offers n work x d e ls t = ap line (sym e)

pub limit_offers : (n : ℕ) (work : List ℤ) (i : ℕ) (l : Limit) (d : Draft) → made_of d ≡ limit_line i l → Offers n work (limit_offer i l) (Some d)
unfolding limit_offer
limit_offers n work i l d e ls t = ap line (sym e)

-- ---- the try at a place

-- what a plan of a sound file tries, by part, with the work room of w points, as many as the plan has
module _ (s : List ℕ) (w n m k : ℕ) (same : w ≡ n) (r : Ready s n m k) (g : ℕ) (work : List ℤ) (at : Place) (d : Option Draft) (note : IfSome d (Notable w)) where
  here_is : (ls : List Line) → Standing (plan_of s).points ls work → Standing w ls work
  here_is ls t = subst (λ (c : ℕ). Standing c ls work) (ready_points s n m k r ∙ sym same) t

  note_is : IfSome d (Notable (plan_of s).points)
  note_is = subst (λ (c : ℕ). IfSome d (Notable c)) (same ∙ sym (ready_points s n m k r)) note

  pub tried_start : at.phase ≡ 0 → Adds w work (start_offer at.a) d → Tried (plan_of s) g work at d
  tried_start e q = record { adds = λ ls t. rw e (q ls (here_is ls t)); notable = note_is }

  pub tried_limit : at.phase ≡ 1 → at.a < m → Adds w work (limit_offer at.a (limit_at s at.a)) d → Tried (plan_of s) g work at d
  tried_limit e h q = record { adds = λ ls t. rw (e, limit_is s n m k r at.a h) (q ls (here_is ls t)); notable = note_is }

  pub tried_lower : at.phase ≡ 4 → at.a < k → at.b < k → Adds w work (lower_offer (lower_case_at g at.a) (link_at s m at.a) (link_at s m at.b)) d
      → Tried (plan_of s) g work at d
  tried_lower e h l q =
      record { adds = λ ls t. rw (e, link_is s n m k r at.a h, link_is s n m k r at.b l) (q ls (here_is ls t)); notable = note_is }

  pub tried_upper : at.phase ≡ 5 → at.b < k → Adds w work (upper_offer (longest_at g at.b) at.a (link_at s m at.b)) d → Tried (plan_of s) g work at d
  tried_upper e h q = record { adds = λ ls t. rw (e, link_is s n m k r at.b h) (q ls (here_is ls t)); notable = note_is }

-- the lines of a link are always written
pub tried_link : (s : List ℕ) (n m k : ℕ) (r : Ready s n m k) (g : ℕ) (work : List ℤ) (at : Place) (d : Draft) → Notable n d → at.phase ≡ 2 → at.a < k
    → always (kind_number d.kind) ≡ true → ((ls : List Line) → link_offer at.a (link_at s m at.a) at.c ls ≡ line (made_of d)) → Tried (plan_of s) g work at (Some d)
tried_link s n m k r g work at d note e h a q =
    record {
      adds = λ ls t. rw (e, link_is s n m k r at.a h) (always_adds (made_of d) (link_offer at.a (link_at s m at.a) at.c) ls a (q ls) t.going);
      notable = subst (λ (c : ℕ). Notable c d) (sym (ready_points s n m k r)) note;
    }

-- a step of one try, as the code takes it
pub try_step : {s : List ℕ} {n m k : ℕ} (r : Ready s n m k) {g : ℕ} {work : List ℤ} (q : ℕ) (at : Turns) → at.a < outer_of n m k q → at.b < middle_of n k q
    → at.c < inner_of n q → {line d : Option Draft} {next : Option Turns} → (line ≡ d) × (next ≡ Some (record { a = at.a; b = at.b; c = at.c + 1 }))
    → Tried (plan_of s) g work (place_of q at) d → Stepped (plan_of s) g work (place_of q at) line (next_of q next)
try_step {s} {n} {m} {k} r {g} {work} q at ha hb hc {line} {d} is t =
    let most = inner_most n m k q (bounded s n m k r) in
    rw (is.0, is.1)
    (try_left (plan_of s) g work (place_of q at) d (omega (arith, most, hc)) (omega (arith, outer_is s n m k r q, ha)) (omega (arith, middle_is s n m k r q, hb))
    (omega (arith, inner_is s n m k r q, hc)) t)
