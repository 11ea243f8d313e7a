-- `given::link_held` meets its contract: the longest edge, then the shortest. Assumes nothing.
use Rattle.closed.proofs.Common.{arith, decides_all, minus_here, span_here}
use Rattle.closed.proofs.given.link_held.Goals as goal

pub returns-then-at_most : goal.returns-then-at_most
returns-then-at_most c =
    let long = span_here c.of.type_inv c.of.ensures c.requires.most in
    let short =
    minus_here c.of-then-at_most.type_inv c.of-then-at_most.ensures c.negated.type_inv c.negated.ensures (omega (arith, c.requires.order, c.requires.most)) in
    decides_all c.at_most-then-at_most.ensures
    (λ s. record { longest = rw (← long) (c.at_most.ensures.holds c.if-at_most.true); shortest = rw (← short) s })
    (λ h. rw short h.shortest)
