-- Document 01, "Tables are closed for a plan if ..": the parts of that sentence in the form in which the closed test goes through them,
-- by points and by the index of a limit or a link. Each loop of the test decides one of these. Assumes nothing.
use Rattle.std.specs.Prelude.{◌≡◌, ◌≢◌, List, ℕ, zero, ◌<◌, pos, neg_ℤ}
use Rattle.rules.specs.Plan.{Limit, Link, version1, LimitInRange, LinkInRange}
use Rattle.rules.specs.Cells.{num, ◌+ᶜ◌, ◌≤ᶜ◌, lowered, uppered, Within, Table}
use Rattle.plan.specs.Layout.{limit_at, link_at}

-- "each cell is the mark or lies from -63,000,000 to 63,000,000": a row, and every row
abbrev pub RowWithin : ℕ → ℕ → Table → ℕ → Type 0
RowWithin reach n t x = (y : ℕ) → y < n → Within reach (t x y)

abbrev pub AllWithin : ℕ → ℕ → Table → Type 0
AllWithin reach n t = (x : ℕ) → x < n → RowWithin reach n t x

-- "both diagonals are 0"
abbrev pub Diagonal : ℕ → Table → Type 0
Diagonal n t = (x : ℕ) → x < n → t x x ≡ num (pos zero)

-- "no cell exceeds the sum of two cells along a middle point": row x by the middle y, every row by y, every row by every middle
abbrev pub RowJoined : ℕ → Table → ℕ → ℕ → Type 0
RowJoined n t y x = (z : ℕ) → z < n → t x z ≤ᶜ (t x y +ᶜ t y z)

abbrev pub MiddleJoined : ℕ → Table → ℕ → Type 0
MiddleJoined n t y = (x : ℕ) → x < n → RowJoined n t y x

abbrev pub AllJoined : ℕ → Table → Type 0
AllJoined n t = (y : ℕ) → y < n → MiddleJoined n t y

-- "no strict cell exceeds a given edge": the limits, the start edges, both ordinary edges of a link and of every link
abbrev pub LimitHeld : Table → Limit → Type 0
LimitHeld t m = t m.from m.to ≤ᶜ num m.weight

abbrev pub LimitsHeld : (ℕ → Limit) → ℕ → Table → Type 0
LimitsHeld limit count t = (i : ℕ) → i < count → LimitHeld t (limit i)

abbrev pub StartsHeld : ℕ → Table → Type 0
StartsHeld n t = (x : ℕ) → x < n → t x zero ≤ᶜ num (pos zero)

pub record LinkHeld (t : Table) (k : Link) : Type 0 where
  pub longest : t k.act k.con ≤ᶜ num (pos k.long)
  pub shortest : t k.con k.act ≤ᶜ num (neg_ℤ (pos k.short))

abbrev pub LinksHeld : (ℕ → Link) → ℕ → Table → Type 0
LinksHeld link count t = (i : ℕ) → i < count → LinkHeld t (link i)

-- "or what Lower .. yields from strict cells": of two links, of a link and every other one, of every link
abbrev pub PairLowered : Table → Link → Link → Type 0
PairLowered t k j = j.con ≢ k.con → t k.act j.con ≤ᶜ lowered k j (t k.con j.con)

abbrev pub LinkLowered : (ℕ → Link) → ℕ → Table → Link → Type 0
LinkLowered link count t k = (i : ℕ) → i < count → PairLowered t k (link i)

abbrev pub AllLowered : (ℕ → Link) → ℕ → Table → Type 0
AllLowered link count t = (i : ℕ) → i < count → LinkLowered link count t (link i)

-- "or .. Upper yields from strict cells": of a link and a point, of a link and every point, of every link
abbrev pub PointUppered : Table → Link → ℕ → Type 0
PointUppered t k x = t x k.act ≤ᶜ uppered k (t x k.con)

abbrev pub LinkUppered : ℕ → Table → Link → Type 0
LinkUppered n t k = (x : ℕ) → x < n → PointUppered t k x

abbrev pub AllUppered : ℕ → (ℕ → Link) → ℕ → Table → Type 0
AllUppered n link count t = (i : ℕ) → i < count → LinkUppered n t (link i)

-- "no open cell exceeds the strict cell of its pair": a row, and every row
abbrev pub RowUnder : ℕ → Table → Table → ℕ → Type 0
RowUnder n strict weak x = (y : ℕ) → y < n → weak x y ≤ᶜ strict x y

abbrev pub AllUnder : ℕ → Table → Table → Type 0
AllUnder n strict weak = (x : ℕ) → x < n → RowUnder n strict weak x

-- "or the lower-case edge": of a link, and of every link
abbrev pub CaseHeld : Table → Link → Type 0
CaseHeld t k = t k.act k.con ≤ᶜ num (pos k.short)

abbrev pub CasesHeld : (ℕ → Link) → ℕ → Table → Type 0
CasesHeld link count t = (i : ℕ) → i < count → CaseHeld t (link i)

-- ---- the parts together

-- a table by itself
pub record Alone (reach n : ℕ) (t : Table) : Type 0 where
  pub within : AllWithin reach n t
  pub diagonal : Diagonal n t
  pub joined : AllJoined n t

-- the strict table against the given edges and what Lower and Upper yield, for m limits and k links by their index
pub record StrictHeld (n : ℕ) (limit : ℕ → Limit) (m : ℕ) (link : ℕ → Link) (k : ℕ) (t : Table) : Type 0 where
  pub limits : LimitsHeld limit m t
  pub starts : StartsHeld n t
  pub links : LinksHeld link k t
  pub lower : AllLowered link k t
  pub upper : AllUppered n link k t

-- the open table against the strict one and the lower-case edges
pub record OpenHeld (n : ℕ) (link : ℕ → Link) (k : ℕ) (strict weak : Table) : Type 0 where
  pub under : AllUnder n strict weak
  pub cases : CasesHeld link k weak

-- ---- what is asked of the file

-- its limits and links are in range
abbrev pub LimitsIn : List ℕ → ℕ → ℕ → Type 0
LimitsIn s n m = (i : ℕ) → i < m → LimitInRange version1 n (limit_at s i)

abbrev pub LinksIn : List ℕ → ℕ → ℕ → ℕ → Type 0
LinksIn s n m k = (i : ℕ) → i < k → LinkInRange version1 n (link_at s m i)
