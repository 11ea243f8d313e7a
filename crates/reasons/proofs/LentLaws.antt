-- The same slices for the same plan, one step after another. Assumes nothing.
use mathlib.Core.Path.{refl, ◌∙◌}
use Rattle.reasons.specs.declared.lists.Lists.{Lists}
use Rattle.reasons.specs.declared.work.Work.{Work}
use Rattle.reasons.specs.Lent.{SameLists, SameWork}

pub lists_refl : {t : Lists} → SameLists t t
lists_refl = record { kinds = refl; froms = refl; tos = refl; weights = refl; firsts = refl; seconds = refl }

pub lists_trans : {t u v : Lists} → SameLists t u → SameLists u v → SameLists t v
lists_trans a b =
    record {
      kinds = b.kinds ∙ a.kinds;
      froms = b.froms ∙ a.froms;
      tos = b.tos ∙ a.tos;
      weights = b.weights ∙ a.weights;
      firsts = b.firsts ∙ a.firsts;
      seconds = b.seconds ∙ a.seconds;
    }

pub work_refl : {t : Work} → SameWork t t
work_refl = record { plan = refl; cells = refl }

pub work_trans : {t u v : Work} → SameWork t u → SameWork u v → SameWork t v
work_trans a b = record { plan = b.plan ∙ a.plan; cells = b.cells ∙ a.cells }
