-- The code's limits and links as the paper's.
-- Assumes nothing.
use Rattle.rules.specs.Plan as paper
use Rattle.plan.specs.declared.Limit.{Limit}
use Rattle.plan.specs.declared.Link.{Link}

-- "from X, to Y, signed weight w"
abbrev pub limit_of : Limit → paper.Limit
limit_of m = record { from = m.from; to = m.to; weight = m.weight }

-- "activation A, contingent point C, shortest l, longest u"
abbrev pub link_of : Link → paper.Link
link_of k = record { act = k.act; con = k.con; short = k.short; long = k.long }
