-- Code 0 is Done's alone, and answers that are asked for one after another are Done exactly where each is.
-- Assumes nothing.
use mathlib.Core.Path.{◌≡◌, refl, sym, ap, ◌∙◌}
use mathlib.Core.Bool.{Bool, true, false, false≢true, true≢false}
use lib.Dec.{eqb}
use Rattle.std.specs.Prelude.{Err}
use Rattle.rules.specs.Answers.{Answer, Done, code_of}
use Rattle.rules.specs.declared.Refusal.{Refusal}
use Rattle.rules.specs.declared.Refusal.TheVariants.{FewBytes, BadVersion, BadPoints, BadCounts, BadLayout, BadLimit, BadLink, RepeatedLink, ShortRoom, HasLinks, NotControllable, ReasonsListed, NotClosed}
use Rattle.answers.specs.Order.{◌then◌, unless}

-- no refusal has code 0
pub refusal_code : (r : Refusal) → eqb (code_of (Err r)) 0 ≡ false
refusal_code FewBytes = refl
refusal_code BadVersion = refl
refusal_code BadPoints = refl
refusal_code BadCounts = refl
refusal_code BadLayout = refl
refusal_code (BadLimit i) = refl
refusal_code (BadLink i) = refl
refusal_code (RepeatedLink i) = refl
refusal_code ShortRoom = refl
refusal_code HasLinks = refl
refusal_code NotControllable = refl
refusal_code (ReasonsListed lines) = refl
refusal_code NotClosed = refl

-- a refusal is not Done
pub not_done : {r : Refusal} → Err r ≡ Done → ⊥
not_done {r} e = true≢false (sym (ap (λ (a : Answer). eqb (code_of a) 0) e) ∙ refusal_code r)

pub code_zero : (a : Answer) → eqb (code_of a) 0 ≡ true → a ≡ Done
code_zero Done e = refl
code_zero (Err r) e = absurd (false≢true (sym (refusal_code r) ∙ e))

-- two answers one after the other are Done where both are
pub then_done : (a b : Answer) → (a then b) ≡ Done → (a ≡ Done) × (b ≡ Done)
then_done Done b e = (refl, e)
then_done (Err r) b e = absurd (not_done e)

pub done_then : (a b : Answer) → a ≡ Done → b ≡ Done → (a then b) ≡ Done
done_then a b p q = rw p q

-- three answers one after the other, in whichever brackets
pub then_assoc : (a b c : Answer) → ((a then b) then c) ≡ (a then b then c)
then_assoc Done b c = refl
then_assoc (Err r) b c = refl

-- a refusal that a test guards does not come where the test holds, and only there
pub unless_done : (t : Bool) (a : Answer) → eqb (code_of a) 0 ≡ false → unless t a ≡ Done → t ≡ true
unless_done true a r e = refl
unless_done false a r e = absurd (true≢false (sym (ap (λ (x : Answer). eqb (code_of x) 0) e) ∙ r))

pub done_unless : (t : Bool) (a : Answer) → t ≡ true → unless t a ≡ Done
done_unless t a e = rw e
