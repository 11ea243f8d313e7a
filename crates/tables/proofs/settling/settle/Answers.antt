-- By the laws of a round: the first tables stand, a fair round leaves them standing and falls, and one that stays or is unfair ends. Assumes nothing.
use Rattle.lowering.proofs.Common.{refl, sym, ◌∙◌, arith, rules, looked_yes, looked_no}
use Rattle.tables.proofs.SettleLoop.{standing_first, round_falls, standing_on, standing_ends, standing_unfair}
use Rattle.tables.proofs.settling.settle.Goals as goal

pub rounds-init : goal.rounds-init
rounds-init c =
    let s = c.joined_strict-strict_table.ensures in
    let o = c.opened-open_table.ensures in
    let opened = rw c.read.ensures.1 at o.opened in
    let height = rw (c.read-2.ensures.0, c.read-2.ensures.1, s.same_size) at c.height_all-last.ensures in (
      standing_first c.args.plan.ready c.args.strict.now c.requires.0 s.cells c.args.«open».now c.requires.1 opened,
      height,
      s.same_size,
      o.same_size,
      refl,
      refl,
    )

pub returns-then-not-both_fair : goal.returns-then-not-both_fair
returns-then-not-both_fair c =
    let i = c.rounds.invariant in
    let s = c.read-in-rounds.ensures in
    let o = c.read-in-rounds-2.ensures in
    let unfair = rw (s.0, s.1, o.0, o.1, i.2, i.3) at (c.both_fair.ensures.fails c.if-not-both_fair.true) in
    looked_no (search (standing_unfair c.args.plan.ready i.0 unfair, rules))

pub returns-then-next-last : goal.returns-then-next-last
returns-then-next-last c =
    let i = c.rounds.invariant in
    let a = c.strict_round.ensures in
    let s = c.read-in-rounds.ensures in
    let o = c.read-in-rounds-2.ensures in
    let fair = rw (s.0, s.1, o.0, o.1, i.2, i.3) at (c.both_fair.ensures.holds c.if-not-both_fair.false) in
    let next = rw (c.read-in-rounds-3.ensures.0, c.read-in-rounds-3.ensures.1, a.same_size, i.2) at c.height_all-next.ensures in
    looked_yes
    (search (standing_ends c.args.plan.ready i.0 (rw i.2 at a.cells) (sym next ∙ (c.if-next-last.true ∙ i.1)) fair.0 fair.1, rules))

pub rounds-smaller : goal.rounds-smaller
rounds-smaller c =
    let i = c.rounds.invariant in
    let a = c.strict_round.ensures in
    let next = rw (c.read-in-rounds-3.ensures.0, c.read-in-rounds-3.ensures.1, a.same_size, i.2) at c.height_all-next.ensures in
    omega (arith, round_falls c.args.plan.ready i.0 (rw i.2 at a.cells), next, i.1)

pub rounds-preserved : goal.rounds-preserved
rounds-preserved c =
    let i = c.rounds.invariant in
    let a = c.strict_round.ensures in
    let b = c.open_round.ensures in
    let next = rw (c.read-in-rounds-3.ensures.0, c.read-in-rounds-3.ensures.1, a.same_size, i.2) at c.height_all-next.ensures in
    let follows = rw (i.3, c.read-in-rounds-4.ensures.1) at b.cells in (
      standing_on c.args.plan.ready i.0 (rw i.2 at a.cells) follows,
      next,
      a.same_size ∙ i.2,
      b.same_size ∙ i.3,
      a.same_list ∙ i.4,
      b.same_list ∙ i.5,
    )
