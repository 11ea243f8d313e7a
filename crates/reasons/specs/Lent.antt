-- What is lent for a reason list, before and after a call: the same slices for the same plan. Assumes nothing.
use Rattle.std.specs.Prelude.{◌≡◌}
use Rattle.chain.specs.Call.{Lists as Slices}
use Rattle.reasons.specs.declared.lists.Lists.{Lists}
use Rattle.reasons.specs.declared.work.Work.{Work}
use Rattle.reasons.specs.Notes.{columns}

-- what the six slices hold
abbrev pub lists_of : Lists → Slices
lists_of t = columns t.kinds.now t.froms.now t.tos.now t.weights.now t.firsts.now t.seconds.now

-- the same six
pub record SameLists (t u : Lists) : Type 0 where
  pub kinds : u.kinds.ghost_name ≡ t.kinds.ghost_name
  pub froms : u.froms.ghost_name ≡ t.froms.ghost_name
  pub tos : u.tos.ghost_name ≡ t.tos.ghost_name
  pub weights : u.weights.ghost_name ≡ t.weights.ghost_name
  pub firsts : u.firsts.ghost_name ≡ t.firsts.ghost_name
  pub seconds : u.seconds.ghost_name ≡ t.seconds.ghost_name

-- the same work room, of the same plan
pub record SameWork (t u : Work) : Type 0 where
  pub plan : u.plan ≡ t.plan
  pub cells : u.cells.ghost_name ≡ t.cells.ghost_name
