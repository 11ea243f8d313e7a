-- The checker computes the whole table.
use Rattle.cases.proofs.Cases.{paper_holds}
use Rattle.cases.proofs.worked_plans_hold.Goals as goal

pub returns : goal.returns
returns c = paper_holds
