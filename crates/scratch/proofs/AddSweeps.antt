-- What the sweeps of both tables keep and how they end. Assumes nothing.
use mathlib.Core.Path.{◌≡◌, refl, sym, ap, ◌∙◌}
use mathlib.Core.Bool.{true, false, true≢false}
use mathlib.Core.Logic.{◌⊎◌, inl, inr, ⊎_elim}
use mathlib.Core.List.{List}
use Prim.Native.Nat.{ℕ, ◌+◌, ◌*◌, ◌≤◌}
use native.Mathlib.Omega.{arith}
use lib.IntN.{ℤ}
use Rattle.plan.specs.Layout.{link_at}
use Rattle.reader.specs.declared.sound.SoundPlan.{SoundPlan}
use Rattle.cell.specs.Steps.{adding}
use Rattle.cell.specs.Widths.{adding_coherent}
use Rattle.cell.specs.contracts.word.I64Word.TheImpl.{ghosts}
use Rattle.lowering.specs.Table.{Sound}
use Rattle.lowering.specs.Sweep.{sweep_strict, sweep_open, heights}
use Rattle.lowering.specs.Fair.{Fair, Unfair}
use Rattle.lowering.proofs.Laws.LinksAsRead.{link_points}
use Rattle.lowering.proofs.Theory.LoweredTables.{Lowered}
use Rattle.lowering.proofs.Theory.SweepSteps.{strict_lowers, open_sweep_lowers}
use Rattle.lowering.proofs.Theory.HeightsFall.{lowered_heights, same_heights}
use Rattle.joining.specs.declared.table.Table.{Table}
use Rattle.joining.specs.Takes.{Takes}
use Rattle.scratch.specs.Swept.{Swept, none, more, Settled}

abbrev pub Lent : Type 0
Lent = Table ℤ ghosts

-- some sweeps done, and the number is how far both tables can still fall
pub record Sweeping (plan : SoundPlan) (strict weak u v : Lent) (last : ℕ) : Type 0 where
  pub strict_list : u.cells.ghost_name ≡ strict.cells.ghost_name
  pub strict_size : plan.n ≡ u.n
  pub open_list : v.cells.ghost_name ≡ weak.cells.ghost_name
  pub open_size : plan.n ≡ v.n
  pub swept : Swept adding plan.n (link_at plan.file.now plan.m) plan.k strict.cells.now weak.cells.now u.cells.now v.cells.now
  pub last_is : last ≡ heights adding (plan.n * plan.n) u.cells.now + heights adding (plan.n * plan.n) v.cells.now

-- none yet
pub sweeping_none : {plan : SoundPlan} {u v : Lent} {i j last : ℕ} {s t : List ℤ} → plan.n ≡ u.n → plan.n ≡ v.n
    → (i ≡ u.n) × (s ≡ u.cells.now) → (j ≡ v.n) × (t ≡ v.cells.now) → last ≡ heights adding (i * i) s + heights adding (j * j) t → Sweeping plan u v u v last
sweeping_none a b f h e =
    record { strict_list = refl; strict_size = a; open_list = refl; open_size = b; swept = none; last_is = cc (e, a, b, f.0, f.1, h.0, h.1) }

module _ {plan : SoundPlan} {strict weak u v u' v' : Lent} {last : ℕ} (g : Sweeping plan strict weak u v last)
    (a : Takes (sweep_strict adding plan.n (link_at plan.file.now plan.m) plan.k) u u')
    (b : Takes (sweep_open adding plan.n (link_at plan.file.now plan.m) plan.k u'.cells.now) v v') where
  strict_sound : Sound adding plan.n u.cells.now
  strict_sound = rw g.strict_size u.sound

  open_sound : Sound adding plan.n v.cells.now
  open_sound = rw g.open_size v.sound

  strict_down : Lowered adding plan.n u.cells.now u'.cells.now
  strict_down = rw a.cells (strict_lowers adding adding_coherent plan.n _ plan.k (link_points plan.ready) u.cells.now strict_sound)

  open_down : Lowered adding plan.n v.cells.now v'.cells.now
  open_down = rw b.cells (open_sweep_lowers adding adding_coherent plan.n _ plan.k (link_points plan.ready) u'.cells.now v.cells.now open_sound)

  strict_fall : heights adding (plan.n * plan.n) u'.cells.now ≤ heights adding (plan.n * plan.n) u.cells.now
  strict_fall = lowered_heights adding plan.n u.cells.now u'.cells.now strict_sound strict_down

  open_fall : heights adding (plan.n * plan.n) v'.cells.now ≤ heights adding (plan.n * plan.n) v.cells.now
  open_fall = lowered_heights adding plan.n v.cells.now v'.cells.now open_sound open_down

  swept_more : Swept adding plan.n (link_at plan.file.now plan.m) plan.k strict.cells.now weak.cells.now u'.cells.now v'.cells.now
  swept_more = more g.swept a.cells b.cells

  -- looks at both tables after the sweep
  module _ {i j : ℕ} {s t : List ℤ} (f : (i ≡ u'.n) × (s ≡ u'.cells.now)) (h : (j ≡ v'.n) × (t ≡ v'.cells.now)) where
    strict_size : plan.n ≡ i
    strict_size = g.strict_size ∙ (sym a.same_size ∙ sym f.0)

    open_size : plan.n ≡ j
    open_size = g.open_size ∙ (sym b.same_size ∙ sym h.0)

    -- one of them speaks against the plan
    pub settled_no : Unfair adding i s ⊎ Unfair adding j t
        → Settled adding plan.n (link_at plan.file.now plan.m) plan.k strict.cells.now weak.cells.now u'.cells.now v'.cells.now false
    settled_no o =
        record {
          swept = swept_more;
          quiet = λ q. absurd (true≢false (sym q));
          against = λ _. ⊎_elim (λ x. inl (rw (strict_size, ← f.1) x)) (λ x. inr (rw (open_size, ← h.1) x)) o;
        }

    module _ {next : ℕ} (e : next ≡ heights adding (i * i) s + heights adding (j * j) t) where
      next_is : next ≡ heights adding (plan.n * plan.n) u'.cells.now + heights adding (plan.n * plan.n) v'.cells.now
      next_is = cc (e, strict_size, open_size, f.1, h.1)

      -- one sweep more
      pub sweeping_more : Sweeping plan strict weak u' v' next
      sweeping_more =
          record {
            strict_list = a.same_list ∙ g.strict_list;
            strict_size = g.strict_size ∙ sym a.same_size;
            open_list = b.same_list ∙ g.open_list;
            open_size = g.open_size ∙ sym b.same_size;
            swept = swept_more;
            last_is = next_is;
          }

      -- the heights fall or stay
      pub sweeping_falls : next ≤ last
      sweeping_falls = omega (arith, strict_fall, open_fall, g.last_is, next_is)

      -- where they stay, a sweep changes nothing
      pub settled_yes : next ≡ last → Fair adding i s → Fair adding j t
          → Settled adding plan.n (link_at plan.file.now plan.m) plan.k strict.cells.now weak.cells.now u'.cells.now v'.cells.now true
      settled_yes k fs fo =
          let us : u'.cells.now ≡ u.cells.now =
          same_heights adding plan.n u.cells.now u'.cells.now strict_sound strict_down (omega (arith, strict_fall, open_fall, g.last_is, next_is)) in
          let uo : v'.cells.now ≡ v.cells.now =
          same_heights adding plan.n v.cells.now v'.cells.now open_sound open_down (omega (arith, strict_fall, open_fall, g.last_is, next_is)) in
          record {
            swept = swept_more;
            quiet = λ _. record {
              strict_same = ap (sweep_strict adding plan.n _ plan.k) us ∙ sym a.cells;
              open_same = ap (sweep_open adding plan.n _ plan.k u'.cells.now) uo ∙ sym b.cells;
              strict_fair = rw (strict_size, ← f.1) fs;
              open_fair = rw (open_size, ← h.1) fo;
            };
            against = λ q. absurd (true≢false q);
          }
