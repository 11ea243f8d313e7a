-- The cells, then the limit, then the first open table. Assumes nothing.
use Rattle.lowering.proofs.Common.{◌∙◌, rules, first_open}
use Rattle.scratch.proofs.AddBegins.{widened_sound, begun_of}
use Rattle.scratch.proofs.starting.begin.Goals as goal

pub invariant_of-strict : goal.invariant_of-strict
invariant_of-strict c =
    record {
      few = search rules;
      sound = widened_sound c.args.table.now (c.widen.auto.t ∙ c.split_at_mut-strict.ensures.front_len) (search rules) c.requires.4;
    }

pub returns : goal.returns
unfolding first_open
returns c =
    begun_of c.widen.new.t c.limit_cell.new.self.cells.now c.diagonal_all.new.self.cells.now
    (c.widen.auto.t ∙ c.split_at_mut-strict.ensures.front_len) (search rules) (search rules) (cc) (search rules)
