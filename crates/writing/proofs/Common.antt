-- What the proofs of the functions import, from one place: the kit's numbers and lists, and the definitions that several of them cite. Assumes nothing.
pub use mathlib.Core.Path.{◌≡◌, refl}
pub use lib.ListN.{length}
pub use native.Mathlib.Omega.{arith}
unfoldable pub use Rattle.rules.specs.Plan.{version1}
pub use Rattle.plan.specs.Layout.{records}
unfoldable pub use Rattle.writing.specs.PlanLists.{limit_in, link_in, listed_plan}
