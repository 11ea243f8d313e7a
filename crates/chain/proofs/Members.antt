-- The limits and links of a plan by their numbers: what stands at a number is a member, and a member stands at a number. Assumes nothing.
use mathlib.Core.Path.{◌≡◌, refl, sym}
use mathlib.Core.List.{List, [], ◌∷◌, Memᴰ}
use Prim.Native.Nat.{ℕ, zero, suc, ◌<◌}
use native.Mathlib.Omega.{arith}
use lib.ListN.{length, get_or}
use lib.IntN.{pos}
use Rattle.rules.specs.Plan.{Plan, Limit, Link}
use Rattle.chain.specs.Reasons.{limit_of, link_of}

member_at : {A : Type 0} (d : A) (l : List A) (i : ℕ) → i < length l → Memᴰ (get_or l i d) l
member_at d [] i h = absurd (omega arith)
member_at d (x ∷ l) zero h = Memᴰ.head refl
member_at d (x ∷ l) (suc i) h = Memᴰ.tail (member_at d l i (omega arith))

-- a number at which something stands
pub record Place {A : Type 0} (at : ℕ → A) (many : ℕ) (x : A) : Type 0 where
  pub number : ℕ
  pub within : number < many
  pub is : at number ≡ x

member_place : {A : Type 0} (d : A) (l : List A) {x : A} → Memᴰ x l → Place (λ i. get_or l i d) (length l) x
member_place {A = A} d [] {x = x} x3 = elim x3 [ ]
member_place d (y ∷ l) (Memᴰ.head e) = record { number = 0; within = omega arith; is = sym e }
member_place d (y ∷ l) {x} (Memᴰ.tail m) =
    let k : Place (λ i. get_or l i d) (length l) x = member_place d l m in
    record { number = suc k.number; within = omega (arith, k.within); is = k.is }

-- what there is not
abbrev no_limit : Limit
no_limit = record { from = 0; to = 0; weight = pos zero }

abbrev no_link : Link
no_link = record { act = 0; con = 0; short = 0; long = 0 }

module _ (p : Plan) where
  pub limit_member : {i : ℕ} → i < length p.limits → Memᴰ (limit_of p i) p.limits
  limit_member {i} h = member_at no_limit p.limits i h

  pub link_member : {i : ℕ} → i < length p.links → Memᴰ (link_of p i) p.links
  link_member {i} h = member_at no_link p.links i h

  pub limit_place_lem : {m : Limit} → Memᴰ m p.limits → Place (limit_of p) (length p.limits) m
  limit_place_lem h = member_place no_limit p.limits h

  pub link_place_lem : {k : Link} → Memᴰ k p.links → Place (link_of p) (length p.links) k
  link_place_lem h = member_place no_link p.links h
