-- The line in each of the six lists, or in none past the room. Assumes nothing.
use mathlib.Core.Path.{◌≡◌, sym}
use mir.Syntax.{w64}
use mir.Val.{to_z, of_z}
use Rattle.std.proofs.Common.{rules}
use Rattle.offers.specs.Drafts.{made_of}
use Rattle.reasons.specs.Lent.{lists_of}
use Rattle.reasons.proofs.ListLaws.{set_out, set_in}
use Rattle.reasons.proofs.lists.Lists.set_line.Goals as goal

pub returns-then-at-self-clause-lists : goal.returns-then-at-self-clause-lists
returns-then-at-self-clause-lists c = sym (set_out c.args.self.now.room c.args.at (made_of c.args.d) (lists_of c.args.self.now) c.if-at-self.true)

pub returns-clause-lists : goal.returns-clause-lists
returns-clause-lists c =
    let fits : to_z w64 (of_z w64 c.args.d.weight) ≡ c.args.d.weight = search rules in
    rw (fits, c.number.ensures) (sym (set_in c.args.self.now.room c.args.at (made_of c.args.d) (lists_of c.args.self.now) c.if-at-self.false))
