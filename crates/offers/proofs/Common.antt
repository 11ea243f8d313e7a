-- What the walks through the code import, from one place. Assumes nothing.
pub use mathlib.Core.Path.{◌∙◌, ◌≡◌, ap, refl, sym}
pub use Rattle.rules.specs.declared.Side.TheVariants.{Strict}
pub use mathlib.Core.Logic.{inl}
pub use Prim.Native.Nat.{suc, ◌*◌, ◌+◌, ◌-◌, ◌≤◌}
pub use native.Mathlib.Numerals.{add-one}
pub use lib.ListN.{get_or}
pub use lib.IntN.{pos}
pub use Rattle.offers.specs.Work.{part_of, spot_of}
pub use native.Mathlib.Omega.{arith}
pub use mir.Syntax.{w64}
pub use mir.Val.{to_z, of_z}
pub use borrow.Author.Rules.{rules}
pub use borrow.Author.Tests.{not-false, not-true}
pub use Rattle.whole.proofs.Place.{inside, square_le}
pub use Rattle.cell.proofs.CellMethods.{is_mark_lem as mark-read}
pub use Rattle.offers.proofs.OfferLaws.{spot_below, part_small, part_next, kept_adds, kept_notable, near_read, line_read, same_line}
pub use Rattle.offers.proofs.OfferLaws.{lowers_read, none_more, none_all, none_by_mark, join_made, sum_number}
pub use Rattle.cell.proofs.CellMethods.{no_mark}
pub use Rattle.cell.specs.Steps.{cell64}
unfoldable pub use Rattle.cell.specs.Steps.{adding}
pub use Rattle.cell.proofs.StoredCells.{spread_is}
pub use Rattle.plan.specs.Values.{limit_of, link_of}
unfoldable pub use Rattle.chain.specs.Reasons.{link_offer}
pub use Rattle.lowering.proofs.Laws.LinksAsRead.{link_read}
pub use Rattle.offers.proofs.GivenLaws.{limit_weight, link_among, limit_made, longest_made, shortest_made, lower_case_made, SpansFit, spans_fit, span_number, negated_number, negation_fits, lower_own, lower_none, lower_some, upper_own, upper_none, upper_some}
