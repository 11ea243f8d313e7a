-- The call for the list of reasons has one answer: two that meet its statement are equal, in code, place, every line lent and every cell of the work room.
-- Assumes nothing.
use mathlib.Core.Path.{◌≡◌, refl, sym, ap, subst, ◌∙◌}
use mathlib.Core.Bool.{true, false, false≢true}
use mathlib.Core.List.{List}
use Prim.Native.Nat.{ℕ, ◌≤◌, ◌<◌}
use native.Mathlib.Omega.{arith}
use lib.ListN.{length}
use lib.IntN.{ℤ}
use Rattle.rules.specs.Answers.{Answer, ReasonsListed}
use Rattle.rules.specs.Plan.{Plan}
use Rattle.rules.proofs.Lists.{same_parts, filled_once}
use Rattle.chain.specs.Lines.{Line}
use Rattle.chain.specs.Reasons.{ended, ReasonList}
use Rattle.chain.specs.Call.{Lists, Column, Listed, Reasoned}
use Rattle.chain.proofs.OneList.{one}

-- ---- a list is laid in one way

-- below the list's length a slice holds its part of the lines, from there on what it held before
column_once : {A : Type 0} {d : A} {part : Line → A} {ls : List Line} {before a b : List A} → Column d part ls before a → Column d part ls before b → a ≡ b
column_once {d} {ls} {a} {b} p q =
    same_parts d (length ls) a b (p.length_same ∙ sym q.length_same) (λ i h. p.beyond_same i h ∙ sym (q.beyond_same i h))
    (λ i h. p.listed i h ∙ sym (q.listed i h))

pub listed_once : {ls : List Line} {t u v : Lists} → Listed ls t u → Listed ls t v → u ≡ v
listed_once p q =
    λ i. record {
      kinds = column_once p.kinds q.kinds i;
      froms = column_once p.froms q.froms i;
      tos = column_once p.tos q.tos i;
      weights = column_once p.weights q.weights i;
      firsts = column_once p.firsts q.firsts i;
      seconds = column_once p.seconds q.seconds i;
    }

-- ---- what excludes what: there is one list, so it does not both end below zero and not, nor both fit its room and not

pub going-or-ended {ℓ} : {X : Type ℓ} {p : Plan} {ks ms : List Line} → ReasonList p ks → ReasonList p ms → ended ks ≡ false
    → ended ms ≡ true → X
going-or-ended {p} {ks} {ms} r s g b = absurd (false≢true (sym g ∙ ap ended (one p ks ms r s) ∙ b))

pub long-or-fits {ℓ} : {X : Type ℓ} {p : Plan} {ks ms : List Line} {room : ℕ} → ReasonList p ks → ReasonList p ms
    → room < length ks → length ms ≤ room → X
long-or-fits {p} {ks} {ms} r s f h = let q : length ks ≡ length ms = ap length (one p ks ms r s) in absurd (omega arith)

-- ---- one answer

pub reasoned_once : {file : Answer} {p : Plan} {lists : Lists} {work : List ℤ} {a b : Answer} {l l' : Lists} {w w' : List ℤ}
    → Reasoned file p lists work a l w → Reasoned file p lists work b l' w' → (a ≡ b) × (l ≡ l') × (w ≡ w')
reasoned_once (Reasoned.bad_file n₁) (Reasoned.bad_file n₂) = (refl, refl, refl)
reasoned_once (Reasoned.bad_file n₁) (Reasoned.short_work e₂ s₂) = absurd (n₁ e₂)
reasoned_once (Reasoned.bad_file n₁) (Reasoned.controllable e₂ h₂ r₂ g₂ c₂) = absurd (n₁ e₂)
reasoned_once (Reasoned.bad_file n₁) (Reasoned.too_long e₂ h₂ r₂ b₂ f₂ c₂) = absurd (n₁ e₂)
reasoned_once (Reasoned.bad_file n₁) (Reasoned.listed e₂ h₂ r₂ b₂ f₂ t₂ c₂) = absurd (n₁ e₂)
reasoned_once (Reasoned.short_work e₁ s₁) (Reasoned.bad_file n₂) = absurd (n₂ e₁)
reasoned_once (Reasoned.short_work e₁ s₁) (Reasoned.short_work e₂ s₂) = (refl, refl, refl)
reasoned_once (Reasoned.short_work e₁ s₁) (Reasoned.controllable e₂ h₂ r₂ g₂ c₂) = absurd (omega arith)
reasoned_once (Reasoned.short_work e₁ s₁) (Reasoned.too_long e₂ h₂ r₂ b₂ f₂ c₂) = absurd (omega arith)
reasoned_once (Reasoned.short_work e₁ s₁) (Reasoned.listed e₂ h₂ r₂ b₂ f₂ t₂ c₂) = absurd (omega arith)
reasoned_once (Reasoned.controllable e₁ h₁ r₁ g₁ c₁) (Reasoned.bad_file n₂) = absurd (n₂ e₁)
reasoned_once (Reasoned.controllable e₁ h₁ r₁ g₁ c₁) (Reasoned.short_work e₂ s₂) = absurd (omega arith)
reasoned_once (Reasoned.controllable e₁ h₁ r₁ g₁ c₁) (Reasoned.controllable e₂ h₂ r₂ g₂ c₂) = (refl, refl, filled_once c₁ c₂)
reasoned_once (Reasoned.controllable e₁ h₁ r₁ g₁ c₁) (Reasoned.too_long e₂ h₂ r₂ b₂ f₂ c₂) = going-or-ended r₁ r₂ g₁ b₂
reasoned_once (Reasoned.controllable e₁ h₁ r₁ g₁ c₁) (Reasoned.listed e₂ h₂ r₂ b₂ f₂ t₂ c₂) = going-or-ended r₁ r₂ g₁ b₂
reasoned_once (Reasoned.too_long e₁ h₁ r₁ b₁ f₁ c₁) (Reasoned.bad_file n₂) = absurd (n₂ e₁)
reasoned_once (Reasoned.too_long e₁ h₁ r₁ b₁ f₁ c₁) (Reasoned.short_work e₂ s₂) = absurd (omega arith)
reasoned_once (Reasoned.too_long e₁ h₁ r₁ b₁ f₁ c₁) (Reasoned.controllable e₂ h₂ r₂ g₂ c₂) = going-or-ended r₂ r₁ g₂ b₁
reasoned_once (Reasoned.too_long e₁ h₁ r₁ b₁ f₁ c₁) (Reasoned.too_long e₂ h₂ r₂ b₂ f₂ c₂) = (refl, refl, filled_once c₁ c₂)
reasoned_once (Reasoned.too_long e₁ h₁ r₁ b₁ f₁ c₁) (Reasoned.listed e₂ h₂ r₂ b₂ f₂ t₂ c₂) = long-or-fits r₁ r₂ f₁ f₂
reasoned_once (Reasoned.listed e₁ h₁ r₁ b₁ f₁ t₁ c₁) (Reasoned.bad_file n₂) = absurd (n₂ e₁)
reasoned_once (Reasoned.listed e₁ h₁ r₁ b₁ f₁ t₁ c₁) (Reasoned.short_work e₂ s₂) = absurd (omega arith)
reasoned_once (Reasoned.listed e₁ h₁ r₁ b₁ f₁ t₁ c₁) (Reasoned.controllable e₂ h₂ r₂ g₂ c₂) = going-or-ended r₂ r₁ g₂ b₁
reasoned_once (Reasoned.listed e₁ h₁ r₁ b₁ f₁ t₁ c₁) (Reasoned.too_long e₂ h₂ r₂ b₂ f₂ c₂) = long-or-fits r₂ r₁ f₂ f₁
reasoned_once {p} {lists} (Reasoned.listed {ls = ks} e₁ h₁ r₁ b₁ f₁ t₁ c₁) (Reasoned.listed {ls = ms} {lists' = v} e₂ h₂ r₂ b₂ f₂ t₂ c₂) = (
  ap (λ (ls : List Line). ReasonsListed (length ls)) (one p ks ms r₁ r₂),
  listed_once t₁ (subst (λ (ls : List Line). Listed ls lists v) (one p ms ks r₂ r₁) t₂),
  filled_once c₁ c₂,
)
