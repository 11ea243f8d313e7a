-- `faults::limit_answer` meets its contract: the fields are looked at in their order, and a weight is read back from its bits. The returns name their
-- law and its numbers, so that a wrong place is refused there. Assumes nothing.
use Rattle.plan.proofs.Common.{◌≡◌, rules, sfits_of, w32, to_z-of_z, version1}
use Rattle.plan.specs.Values.{limit_of}
use Rattle.plan.specs.File.{weight_fits}
use Rattle.plan.proofs.FirstFault.{from_fault, to_fault, weight_fault, limit_right}
use Rattle.plan.proofs.faults.limit_answer.Statement.{statement}
use Rattle.plan.proofs.faults.limit_answer.Tie as tie

-- what was given, and what the test said of the weight
abbrev given : tie.After-weight_fits-weight → tie.Start
given c = c.before.before.before.before

weighed : (c : tie.After-weight_fits-weight) → c.weight_fits-weight.result ≡ weight_fits version1 (given c).args.limit.weight
weighed c = rw (to_z-of_z w32 _ (sfits_of c.before.struct_told-1.given.1.1.0.1)) at c.weight_fits-weight.ensures

returns : tie.Need-returns-then-not-from
returns c =
    let a = (given c.before).args in
    from_fault version1 a.n a.i (limit_of a.limit) c.if-not-from.true

returns_2 : tie.Need-returns-then-not-to
returns_2 c =
    let a = (given c.before.before).args in
    to_fault version1 a.n a.i (limit_of a.limit) c.before.if-not-from.false c.if-not-to.true

returns_3 : tie.Need-returns-then-not-weight
returns_3 c =
    let tests = c.before.before.before in
    let a = (given tests).args in
    weight_fault version1 a.n a.i (limit_of a.limit) c.before.before.if-not-from.false c.before.if-not-to.false (weighed tests) c.if-not-weight.true

pub limit_answer_spec : {M : Type 1} → statement M
unfolding version1
limit_answer_spec =
    tie.close
    (tie.spec (λ c. search rules) (λ c. search rules) (λ c κs. search rules) returns (λ c. search rules) returns_2 (λ c. search rules) returns_3
    (λ c. search (limit_right, weighed c.before.before.before)))
