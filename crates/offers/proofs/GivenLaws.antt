-- What the walks through limits and links cite: a limit and a link as they were read, what Lower and Upper offer from cells as they were read. Assumes nothing.
use mathlib.Core.Path.{◌≡◌, refl, sym, ap, ◌∙◌}
use mathlib.Core.Bool.{Bool, true, false, cond, true≢false}
use Rattle.std.specs.Prelude.{Some, None}
use mathlib.Core.List.{List}
use Prim.Native.Nat.{ℕ, ◌≤◌, ◌<◌}
use native.Mathlib.Omega.{arith}
use lib.ListN.{get_or}
use lib.IntN.{ℤ, pos, neg_ℤ, ◌+ℤ◌}
use lib.Signed.{lt_z}
use borrow.Author.Tests.{eq-eqb, ne_eqb}
use mir.Syntax.{w32, w64}
use mir.Val.{SFits, of_z, to_z}
use Rattle.whole.proofs.Order.{ints, neg}
use Rattle.whole.proofs.Bits.{signed}
use Rattle.rules.specs.declared.Side.TheVariants.{Strict}
use Rattle.rules.specs.Plan.{Limit, Link, version1, LimitInRange, LinkInRange}
use Rattle.rules.specs.Edges.{spread}
use Rattle.rules.specs.Cells.{mark, num, lowered, uppered}
use Rattle.rules.proofs.Cells.{same_number}
use Rattle.cell.specs.Steps.{adding, cell32, cell64, is_mark}
use Rattle.cell.proofs.CellMethods.{number_is}
use Rattle.cell.proofs.StoredCells.{number_of_lem}
use Rattle.plan.specs.Layout.{limit_at, link_at}
use Rattle.lowering.specs.Table.{Ready}
use Rattle.lowering.proofs.Laws.ReadyFile.{limit_range}
use Rattle.lowering.proofs.Laws.LinksAsRead.{link_read}
use Rattle.lowering.proofs.Laws.FirstAsRead.{weight_cell}
use Rattle.chain.specs.Lines.{Line, by_lower, limit_line, Best, none, still, made, best, weight_of, line_of, cells}
use Rattle.chain.specs.Reasons.{nothing, line, link_offer, lower_from, lower_offer, upper_from, upper_offer}
use Rattle.chain.proofs.BestLines.{still_same}
use Rattle.offers.specs.declared.Draft.{Draft}
use Rattle.offers.specs.declared.kinds.Kind.TheVariants.{Lower, Upper}
use Rattle.offers.specs.Work.{spot_of, Standing}
use Rattle.offers.specs.Drafts.{made_of, Offers}
use Rattle.offers.proofs.OfferLaws.{weight_read}

-- ---- as read

-- the weight of a limit that was read, widened
pub limit_weight : {s : List ℕ} {n m k : ℕ} → Ready s n m k → (i : ℕ) → i < m → {l : Limit} → l ≡ limit_at s i → (v : ℤ)
    → cell64 v ≡ cell32 (to_z w32 (of_z w32 l.weight)) → v ≡ l.weight
limit_weight {s} {n} {m} {k} r i h {l} e v c =
    let q : LimitInRange version1 n l = rw e (limit_range s n m k r i h) in
    number_of_lem adding.mark (c ∙ weight_cell q)

-- a link that was read lies between the points of a work room that has as many
pub link_among : {s : List ℕ} {w n m k : ℕ} → w ≡ n → Ready s n m k → (i : ℕ) → i < k → {a : Link} → a ≡ link_at s m i → LinkInRange version1 w a
link_among same r i h e = rw same (link_read r i h e)

-- the numbers of a link that was read fit a cell
pub record SpansFit (a : Link) : Type 0 where
  pub short : a.short ≤ adding.weight
  pub long : a.long ≤ adding.weight
  pub order : a.short ≤ a.long

pub spans_fit : {n : ℕ} {a : Link} → LinkInRange version1 n a → SpansFit a
unfolding version1 adding
spans_fit q = record { short = omega (arith, q.order, q.most); long = omega (arith, q.most); order = q.order }

pub negation_fits : {l : ℕ} {v : ℤ} → l ≤ adding.weight → v ≡ pos l → SFits w64 (neg_ℤ v)
unfolding adding
negation_fits {l} h e = rw e (omega (signed, neg (pos l)))

-- a span, or its negation, is no mark
pub span_number : {l : ℕ} {v : ℤ} → l ≤ adding.weight → v ≡ pos l → cell64 v ≡ num v
unfolding adding
span_number {l} h e = rw e (number_is adding.mark (pos l) (omega ints))

pub negated_number : (l : ℕ) {v : ℤ} → v ≡ neg_ℤ (pos l) → cell64 v ≡ num v
unfolding adding
negated_number l e = rw e (number_is adding.mark (neg_ℤ (pos l)) (omega (ints, neg (pos l))))

-- the lines of a limit and of a link that were read
pub limit_made : (i : ℕ) (l a : Limit) (v : ℤ) → l ≡ a → v ≡ l.weight
    → record { kind = 2; from = l.from; to = l.to; weight = v; first = i; second = 0 } ≡ limit_line i a
limit_made i l a v e q = rw (q, e)

module _ (i : ℕ) (k a : Link) (v : ℤ) (e : k ≡ a) where
  pub longest_made : v ≡ pos k.long → (ls : List Line)
      → link_offer i a 0 ls ≡ line (record { kind = 3; from = k.act; to = k.con; weight = v; first = i; second = 0 })
  unfolding link_offer
  longest_made q ls = rw (q, e)

  pub shortest_made : v ≡ neg_ℤ (pos k.short) → (ls : List Line)
      → link_offer i a 1 ls ≡ line (record { kind = 4; from = k.con; to = k.act; weight = v; first = i; second = 0 })
  unfolding link_offer
  shortest_made q ls = rw (q, e)

  pub lower_case_made : v ≡ pos k.short → (ls : List Line)
      → link_offer i a 2 ls ≡ line (record { kind = 5; from = k.act; to = k.con; weight = v; first = i; second = 0 })
  unfolding link_offer
  lower_case_made q ls = rw (q, e)

-- ---- Lower

module _ (n : ℕ) (work : List ℤ) (c : ℕ) (a b : Link) where
  pub lower_own : b.con ≡ a.con → Offers n work (lower_offer c a b) None
  unfolding lower_offer
  lower_own e ls t = rw (eq-eqb b.con a.con e)

  module _ (ne : b.con ≡ a.con → ⊥) (ha : a.con < n) (hb : b.con < n) (v w : ℤ) (ev : v ≡ get_or work (spot_of n 0 a.con b.con) (pos 0))
      (ew : cell64 w ≡ lowered a b (cell64 v)) where
    -- what Lower yields from the weight of the best
    yields : (ls : List Line) → Standing n ls work → cell64 w ≡ lowered a b (cells Strict ls a.con b.con)
    yields ls t = ew ∙ ap (lowered a b) (ap cell64 ev ∙ weight_read t Strict a.con b.con ha hb)

    pub lower_none : cell64 w ≡ mark → Offers n work (lower_offer c a b) None
    unfolding lower_offer
    lower_none m ls t = rw (ne_eqb b.con a.con ne) (by (best Strict a.con b.con ls) (sym m ∙ yields ls t))
      where
        by : (q : Best) → mark ≡ lowered a b (weight_of q) → lower_from c a b q ≡ nothing
        by none e = refl
        by still e = refl
        by (made i u) e = at (lt_z u (spread b)) e
          where
            at : (f : Bool) → mark ≡ cond f (num (pos a.short +ℤ u)) mark
                → cond f (line (record { kind = by_lower; from = a.act; to = b.con; weight = pos a.short +ℤ u; first = c; second = i })) nothing ≡ nothing
            at true e = absurd (true≢false (ap is_mark e))
            at false e = refl

    pub lower_some : (d : Draft) → cell64 w ≡ num w → d.weight ≡ w → d.kind ≡ Lower → d.from ≡ a.act → d.to ≡ b.con → d.first ≡ c
        → ((u : ℕ) → get_or work (spot_of n 1 a.con b.con) (pos 0) ≡ pos u → d.second ≡ u) → Offers n work (lower_offer c a b) (Some d)
    unfolding lower_offer
    lower_some d m dw k f o g l ls t =
        rw (ne_eqb b.con a.con ne)
        (by (best Strict a.con b.con ls) refl (sym m ∙ yields ls t) (l (line_of (best Strict a.con b.con ls)) (t.holds.line Strict a.con b.con ha hb)))
      where
        by : (q : Best) → best Strict a.con b.con ls ≡ q → num w ≡ lowered a b (weight_of q) → d.second ≡ line_of q → lower_from c a b q ≡ line (made_of d)
        by none h e u = absurd (true≢false (sym (ap is_mark e)))
        by still h e u = absurd (ne (sym (still_same Strict a.con b.con ls h)))
        by (made i x) h e u = at (lt_z x (spread b)) e
          where
            at : (f : Bool) → num w ≡ cond f (num (pos a.short +ℤ x)) mark
                → cond f (line (record { kind = by_lower; from = a.act; to = b.con; weight = pos a.short +ℤ x; first = c; second = i })) nothing ≡ line (made_of d)
            at true e = rw (k, f, o, g, u, dw, same_number e)
            at false e = absurd (true≢false (sym (ap is_mark e)))

-- ---- Upper

module _ (n : ℕ) (work : List ℤ) (c x : ℕ) (a : Link) where
  pub upper_own : x ≡ a.con → Offers n work (upper_offer c x a) None
  unfolding upper_offer
  upper_own e ls t = rw (e, t.diagonal a.con)

  module _ (ne : x ≡ a.con → ⊥) (hx : x < n) (ha : a.con < n) (v w : ℤ) (ev : v ≡ get_or work (spot_of n 0 x a.con) (pos 0))
      (ew : cell64 w ≡ uppered a (cell64 v)) where
    upper_yields : (ls : List Line) → Standing n ls work → cell64 w ≡ uppered a (cells Strict ls x a.con)
    upper_yields ls t = ew ∙ ap (uppered a) (ap cell64 ev ∙ weight_read t Strict x a.con hx ha)

    pub upper_none : cell64 w ≡ mark → Offers n work (upper_offer c x a) None
    unfolding upper_offer
    upper_none m ls t = (by (best Strict x a.con ls) (sym m ∙ upper_yields ls t))
      where
        by : (q : Best) → mark ≡ uppered a (weight_of q) → upper_from c x a q ≡ nothing
        by none e = refl
        by still e = refl
        by (made i u) e = absurd (true≢false (ap is_mark e))

    pub upper_some : (d : Draft) → cell64 w ≡ num w → d.weight ≡ w → d.kind ≡ Upper → d.from ≡ x → d.to ≡ a.act → d.second ≡ c
        → ((u : ℕ) → get_or work (spot_of n 1 x a.con) (pos 0) ≡ pos u → d.first ≡ u) → Offers n work (upper_offer c x a) (Some d)
    unfolding upper_offer
    upper_some d m dw k f o g l ls t =
        by (best Strict x a.con ls) refl (sym m ∙ upper_yields ls t) (l (line_of (best Strict x a.con ls)) (t.holds.line Strict x a.con hx ha))
      where
        by : (q : Best) → best Strict x a.con ls ≡ q → num w ≡ uppered a (weight_of q) → d.first ≡ line_of q → upper_from c x a q ≡ line (made_of d)
        by none h e u = absurd (true≢false (sym (ap is_mark e)))
        by still h e u = absurd (ne (still_same Strict x a.con ls h))
        by (made i y) h e u = rw (k, f, o, g, u, dw, same_number e)
