-- What is promised of the list of reasons, of every plan in range. Assumes nothing.
use mathlib.Core.List.{◌∷◌}
use Rattle.rules.specs.Plan.{Ranges}
use Rattle.chain.specs.Laws.{ReasonLaws}
use Rattle.chain.proofs.SafeSweeps.{safe}
use Rattle.chain.proofs.EveryLineFollows.{reasons_follow}
use Rattle.chain.proofs.FollowingRefutes.{refutes}
use Rattle.chain.proofs.StillIsClosed.{going}
use Rattle.chain.proofs.OneList.{reasons_first, one}

pub reason_laws : (r : Ranges) → ReasonLaws r
reason_laws r = record {
  every_line_follows = λ p ls g l. reasons_follow p ls l;
  following_refutes = λ p ls g f e. refutes p ls f e;
  ended_refused = λ p ls g l e. refutes p ls (reasons_follow p ls l) e;
  going_controllable = λ p ls g l e u. going r p g (safe r p g) ls l e u;
  first_below = λ p l ls k. (reasons_first p (l ∷ ls) k).0;
  one_list = one;
}
