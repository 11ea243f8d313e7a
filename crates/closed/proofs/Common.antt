-- What the answers import, from one place: the tactics' sets, the kit's numbers and lists, and the definitions, records and laws that several of them cite. Assumes nothing.
pub use Prim.Native.Nat.{ℕ, ◌<◌}
pub use borrow.Author.Count.{below_more}
pub use Rattle.cell.specs.Steps.{Decides}
pub use Rattle.cell.proofs.CellMethods.{decided_no}
pub use Rattle.lowering.proofs.Common.{Within, arith, few, limit_at, link_at, link_of, mark-read, pos, read_cell, table_of}
unfoldable pub use Rattle.rules.specs.Plan.{version1}
pub use Rattle.lowering.proofs.Laws.FirstAsRead.{weight_cell}
pub use Rattle.closed.proofs.CellTests.{decides_all, decides_same, lower_decides, minus_here, not_same, read_here, refuted, row_at_mark, row_more, same, span_here}
pub use Rattle.closed.proofs.CellTests.{upper_decides}
pub use Rattle.closed.proofs.ClosedWhole.{closed_where, limit_there, not_closed, open_alone, strict_alone}
