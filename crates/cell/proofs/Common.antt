-- What the walks through the code import, from one place: the tactics' sets, the kit's numbers and lists, and the definitions, records and laws that
-- several of them cite. Assumes nothing.
pub use mathlib.Core.Path.{◌≡◌, refl, sym}
pub use native.Mathlib.Omega.{arith}
pub use mir.Syntax.{w32, w64}
unfoldable pub use Rattle.whole.specs.Signed.{larger}
pub use Rattle.whole.proofs.Bits.{back, cast_pos, signed, tested}
pub use Rattle.rules.specs.Cells.{num}
unfoldable pub use Rattle.rules.specs.Plan.{version1}
pub use Rattle.cell.specs.Steps.{cell64}
unfoldable pub use Rattle.cell.specs.Steps.{adding}
pub use Rattle.cell.proofs.CellMethods.{below_flag, cast_cell, is_mark_lem, mark_flag, no_mark, number, room32, room64, upper_is}
