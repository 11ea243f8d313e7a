-- The shortest span is a number of a cell. Assumes nothing.
use borrow.Author.Rules.{sfits_of}
use Rattle.lowering.proofs.Common.{arith, back, case_link}
use Rattle.cell.specs.Widths.{room64, adding_weights}
use Rattle.cell.proofs.CellMethods.{weight_is}
use Rattle.wide.proofs.opening.case_link.Goals as goal

pub of-requires : goal.of-requires
of-requires c = omega (arith, adding_weights, c.requires)

pub returns : goal.returns
unfolding case_link
returns c = rw (back (sfits_of c.of.type_inv), weight_is room64 (omega (arith, adding_weights, c.requires)) c.of.ensures) at c.lower_cell.ensures
