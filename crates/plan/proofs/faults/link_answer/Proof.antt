-- `faults::link_answer` meets its contract: the fields are looked at in their order, and then whether the contingent point is new. The returns name
-- their law and its numbers, so that a wrong place or test is refused there. Assumes nothing.
use Rattle.plan.proofs.Common.{rules, version1}
use Rattle.plan.specs.Values.{link_of}
use Rattle.plan.proofs.FirstFault.{act_fault, con_fault, short_fault, long_fault, con_again, link_right}
use Rattle.plan.proofs.faults.link_answer.Statement.{statement}
use Rattle.plan.proofs.faults.link_answer.Tie as tie

-- what was given, from where all tests are made
abbrev given : tie.After-struct_known-7-1 → tie.Start
given c = c.before.before.before.before.before.before.before

returns : tie.Need-returns-then-not-act
unfolding version1
returns c =
    let a = (given c.before).args in
    act_fault version1 a.n a.m a.i a.new (link_of a.link) c.if-not-act.true

returns_2 : tie.Need-returns-then-not-con
unfolding version1
returns_2 c =
    let a = (given c.before.before).args in
    con_fault version1 a.n a.m a.i a.new (link_of a.link) c.before.if-not-act.false c.if-not-con.true

returns_3 : tie.Need-returns-then-not-short
unfolding version1
returns_3 c =
    let a = (given c.before.before.before).args in
    short_fault version1 a.n a.m a.i a.new (link_of a.link) c.before.before.if-not-act.false c.before.if-not-con.false c.if-not-short.true

returns_4 : tie.Need-returns-then-not-long
unfolding version1
returns_4 c =
    let act = c.before.before.before in
    let a = (given act.before).args in
    long_fault version1 a.n a.m a.i a.new (link_of a.link) act.if-not-act.false c.before.before.if-not-con.false c.before.if-not-short.false c.if-not-long.true

returns_5 : tie.Need-returns-then-not-new
unfolding version1
returns_5 c =
    let act = c.before.before.before.before in
    let a = (given act.before).args in
    con_again version1 a.n a.m a.i a.new (link_of a.link) act.if-not-act.false c.before.before.before.if-not-con.false
    c.before.before.if-not-short.false c.before.if-not-long.false c.if-not-new.true

pub link_answer_spec : {M : Type 1} → statement M
unfolding version1
link_answer_spec =
    tie.close
    (tie.spec (λ c. search rules) (λ c. search rules) (λ c. search rules) (λ c. search rules) returns
    (λ c. search rules) returns_2 (λ c. search rules) returns_3 (λ c. search rules) returns_4 (λ c. search rules) returns_5
    (λ c. search link_right))
