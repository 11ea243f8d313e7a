-- What the walks through the code import, from one place: the tactics' sets, the kit's numbers and lists, and the definitions, records and laws that
-- several of them cite. Assumes nothing.
pub use mathlib.Core.Path.{◌∙◌, ◌≡◌, ap, refl, sym}
pub use mathlib.Core.Logic.{inl}
pub use Prim.Native.Nat.{◌*◌, ◌-◌, ◌≤◌}
pub use native.Mathlib.Omega.{arith}
pub use lib.IntN.{pos}
pub use lib.ListN.{get_or, length}
pub use borrow.Author.Rules.{rules}
pub use borrow.Author.Tests.{not-false, not-true}
pub use mir.Syntax.{w32, w64}
pub use Rattle.whole.proofs.Bits.{back}
pub use Rattle.whole.proofs.Place.{inside, square_le, within}
pub use Rattle.rules.specs.Cells.{Within, ◌≤ᶜ◌, num, table_of}
unfoldable pub use Rattle.rules.specs.Plan.{version1}
pub use Rattle.rules.specs.Answers.{Done}
pub use Rattle.rules.proofs.Demands.{version1_coherent}
pub use Rattle.plan.specs.File.{file_answer}
pub use Rattle.plan.specs.Layout.{limit_at, link_at}
pub use Rattle.plan.specs.Values.{link_of}
pub use Rattle.cell.specs.Steps.{cell32, cell64}
unfoldable pub use Rattle.cell.specs.Steps.{adding}
pub use Rattle.cell.proofs.CellMethods.{is_mark_lem as mark-read, passed}
pub use Rattle.cell.proofs.StoredCells.{number_of_lem, spread_is}
unfoldable pub use Rattle.lowering.specs.Spread.{case_edge, lower_edges, row_by, upper_edges, upper_round}
pub use Rattle.lowering.specs.Sweep.{join_cell, join_row, lower_cell}
unfoldable pub use Rattle.lowering.specs.Sweep.{case_all, case_link, diagonal_all, first_open, heights, join_all, join_middle, limit_all, limit_cell}
unfoldable pub use Rattle.lowering.specs.Sweep.{link_all, lower_all, lower_link, open_row, start_all, upper_all, upper_point}
pub use Rattle.lowering.proofs.Laws.CellsWritten.{Writing, all_marked, writing_all, writing_more, writing_none}
pub use Rattle.lowering.proofs.Laws.FirstAsRead.{span_cell}
pub use Rattle.lowering.proofs.Laws.LinksAsRead.{at_read, few, link_points, link_read, lowering_by}
pub use Rattle.lowering.proofs.Laws.LooksAtCells.{CellWithin, NotNegative, Summing, heights_most, held_read, looked_also, looked_both}
pub use Rattle.lowering.proofs.Laws.LooksAtCells.{looked_failed, looked_no}
pub use Rattle.lowering.proofs.Laws.LooksAtCells.{looked_yes, negative_failed, negative_more, sound_held}
pub use Rattle.lowering.proofs.Laws.LooksAtCells.{summing_all, summing_more, summing_most, summing_none, within_all, within_failed}
pub use Rattle.lowering.proofs.Laws.LooksAtCells.{within_more}
pub use Rattle.lowering.proofs.Laws.LoopTurns.{Stretch, Turns, and_after, before_sound, here_sound, join_cell_is, join_row_is, lowering_is}
pub use Rattle.lowering.proofs.Laws.LoopTurns.{read_cell, read_stored, row_at_mark, stretch_all, stretch_more, stretch_none, turns_all}
pub use Rattle.lowering.proofs.Laws.LoopTurns.{turns_more, turns_none}
pub use Rattle.lowering.proofs.Laws.ReadyFile.{limit_range, link_range}
pub use Rattle.lowering.proofs.Laws.TestLoops.{Passed, passes, all_passed, none_yet, one_failed, one_more, passed_all}
pub use Rattle.lowering.proofs.Theory.SpreadSteps.{spread_row_lowers}
pub use Rattle.lowering.proofs.Theory.SweepSteps.{cell_lowers, diagonal_lowers, middle_lowers, row_lowers}
