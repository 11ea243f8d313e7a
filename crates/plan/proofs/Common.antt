-- What the walks through the code import, from one place: the tactics' sets, the kit's numbers and lists, and the definitions, records and laws that
-- several of them cite. Assumes nothing.
pub use mathlib.Core.Path.{◌≡◌, refl}
pub use Prim.Native.Nat.{◌-◌}
pub use native.Mathlib.Omega.{arith}
pub use borrow.Author.Rules.{rules, sfits_of}
pub use mir.Syntax.{w32}
pub use mir.ValLaws.{to_z-of_z}
unfoldable pub use Rattle.rules.specs.Plan.{version1}
pub use Rattle.plan.specs.Layout.{earlier, records}
unfoldable pub use Rattle.plan.specs.Layout.{limit_at, link_at}
