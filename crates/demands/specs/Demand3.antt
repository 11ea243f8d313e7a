-- The third demand: limits added one by one, in any order, repeats allowed, end in the tables that Judge gives one file with all of them, or meet a
-- refusal that changes nothing and stays. Assumes nothing.
use Rattle.std.specs.Prelude.{◌≡◌, ◌≢◌, ◌⊎◌, Bool, false, ◌&&◌, ◌||◌, cond, ℕ, zero, ◌≤◌, ◌<◌, eqb, length, get_or, ℤ, pos}
use mathlib.Core.List.{List, [], ◌∷◌, ◌++◌, Memᴰ}
use Rattle.std.specs.Int.Signed.{le_z}
use Rattle.rules.specs.Answers.{Answer, Done, NotControllable, NotClosed}
use Rattle.rules.specs.Plan.{Limit, LimitInRange, version1}
use Rattle.rules.specs.Walks.{Uncontrollable}
use Rattle.rules.specs.Additions.{with_limits}
use Rattle.rules.specs.Calls.{cells_of, scratch_of, RoomForTables}
use Rattle.rules.specs.Demands.{AllIn}
use Rattle.fields.specs.Bytes.{AllBytes}
use Rattle.plan.specs.Layout.{plan_of}
use Rattle.plan.specs.File.{file_answer}
use Rattle.demands.specs.Programs.{AJudge, AnAdd}

-- A desk's work on one file with any Judge and any Add: Judge, then additions one after the other, "every call lent the same file, .. nothing else writing the
-- tables". The limits taken and those refused so far, the last first, and the two tables now. A call of Add that gives another code (a limit out of range, a short
-- slice) tries nothing.
pub data Desk (Judge : AJudge) (Add : AnAdd) (s : List ℕ) : List Limit → List Limit → List ℤ → List ℤ → Type 0 where
  judged : {strict weak strict' weak' : List ℤ} → Judge s strict weak Done strict' weak' → Desk Judge Add s [] [] strict' weak'
  taken : {ts rs : List Limit} {strict weak scratch strict' weak' scratch' : List ℤ} {m : Limit} → Desk Judge Add s ts rs strict weak
      → Add s m strict weak scratch Done strict' weak' scratch' → Desk Judge Add s (m ∷ ts) rs strict' weak'
  refused : {ts rs : List Limit} {strict weak scratch strict' weak' scratch' : List ℤ} {m : Limit} → Desk Judge Add s ts rs strict weak
      → Add s m strict weak scratch NotControllable strict' weak' scratch' → Desk Judge Add s ts (m ∷ rs) strict' weak'
  nothing : {ts rs : List Limit} {strict weak scratch strict' weak' scratch' : List ℤ} {m : Limit} {a : Answer} → Desk Judge Add s ts rs strict weak
      → Add s m strict weak scratch a strict' weak' scratch' → a ≢ Done → a ≢ NotControllable → Desk Judge Add s ts rs strict' weak'

-- "one file with all of them": a sound file with the same points and links, whose limits are the first file's and these
pub record OneFile (s : List ℕ) (all : List Limit) (one : List ℕ) : Type 0 where
  pub sound : file_answer one ≡ Done
  pub points : (plan_of one).points ≡ (plan_of s).points
  pub links : (plan_of one).links ≡ (plan_of s).links
  pub none_more : AllIn (plan_of one).limits (all ++ (plan_of s).limits)
  pub none_less : AllIn (all ++ (plan_of s).limits) (plan_of one).limits

-- whether two limits have the same from, to and weight
abbrev pub same_limit : Limit → Limit → Bool
same_limit m n = eqb m.from n.from && eqb m.to n.to && le_z m.weight n.weight && le_z n.weight m.weight

-- whether a limit stands in a list
abbrev pub stands_in : Limit → List Limit → Bool
stands_in m [] = false
stands_in m (n ∷ ns) = same_limit m n || stands_in m ns

-- limits with each repeat left out: one that stands again later in the list goes
unfoldable pub different : List Limit → List Limit
different [] = []
different (m ∷ ms) = cond (stands_in m ms) (different ms) (m ∷ different ms)

-- there is such a file
pub record SomeFile (s : List ℕ) (all : List Limit) : Type 0 where
  pub file : List ℕ
  pub bytes : AllBytes file
  pub one : OneFile s all file

-- two tables are, cell for cell, those that Judge gives one file with all of them, whatever it is lent with room, and it gives them
abbrev pub OneFilesTables : AJudge → List ℕ → List Limit → List ℤ → List ℤ → Type 0
OneFilesTables Judge s all strict weak =
    (one : List ℕ) → OneFile s all one → (strict₀ weak₀ strict' weak' : List ℤ) (a : Answer) → RoomForTables (plan_of one) strict₀ weak₀
    → Judge one strict₀ weak₀ a strict' weak'
    → (a ≡ Done) × ((i : ℕ) → i < cells_of (plan_of s) → (get_or strict i (pos zero) ≡ get_or strict' i (pos zero)) × (get_or weak i (pos zero) ≡ get_or weak' i (pos zero)))

-- each of these limits was tried, and taken or refused
abbrev pub AllTried : List Limit → List Limit → List Limit → Type 0
AllTried all ts rs = (m : Limit) → Memᴰ m all → Memᴰ m ts ⊎ Memᴰ m rs

-- what one whole order of additions comes to: none is refused, and where all were tried the tables are those of one file with all of them
pub record WholeOrder (Judge : AJudge) (s : List ℕ) (ts rs all : List Limit) (strict weak : List ℤ) : Type 0 where
  pub none_refused : rs ≡ []
  pub end_tables : AllTried all ts rs → OneFilesTables Judge s all strict weak

pub record Demand3 (Judge : AJudge) (Add : AnAdd) : Type 0 where
  -- if the plan with all of them is controllable, every order of them, repeats allowed, is taken whole and ends in the tables of one file with all of them
  pub whole_order : (s : List ℕ) (ts rs all : List Limit) (strict weak : List ℤ) → Desk Judge Add s ts rs strict weak → AllIn ts all → AllIn rs all
      → (Uncontrollable (with_limits (plan_of s) all) → ⊥) → WholeOrder Judge s ts rs all strict weak
  -- step by step: each addition of one of them, with room in the scratch, is taken
  pub each_taken : (s : List ℕ) (ts rs all : List Limit) (strict weak scratch : List ℤ) → Desk Judge Add s ts rs strict weak → AllIn ts all
      → (Uncontrollable (with_limits (plan_of s) all) → ⊥) → (m : Limit) → Memᴰ m all → LimitInRange version1 (plan_of s).points m → scratch_of (plan_of s) ≤ length scratch
      → (a : Answer) (strict' weak' scratch' : List ℤ) → Add s m strict weak scratch a strict' weak' scratch' → a ≡ Done
  -- and whatever was refused besides, the end tables are those of one file with all that were taken
  pub end_tables : (s : List ℕ) (ts rs all : List Limit) (strict weak : List ℤ) → Desk Judge Add s ts rs strict weak → AllIn ts all → AllIn all ts
      → OneFilesTables Judge s all strict weak
  -- one file with all of them exists, where those added are in range and with the file's own the different ones come to 1,024 at most
  pub one_file : (s : List ℕ) (all : List Limit) → file_answer s ≡ Done
      → ((m : Limit) → Memᴰ m all → LimitInRange version1 (plan_of s).points m)
      → length (different (all ++ (plan_of s).limits)) ≤ version1.limits → SomeFile s all
  -- and only there
  pub one_file_only : (s : List ℕ) (all : List Limit) (one : List ℕ) → OneFile s all one
      → length (different (all ++ (plan_of s).limits)) ≤ version1.limits
  -- if it is not controllable, every order that tries them all meets an 11
  pub some_refused : (s : List ℕ) (ts rs all : List Limit) (strict weak : List ℤ) → Desk Judge Add s ts rs strict weak
      → AllTried all ts rs → Uncontrollable (with_limits (plan_of s) all) → rs ≢ []
  -- a refusal changes no cell
  pub refusal_changes_nothing : (s : List ℕ) (m : Limit) (strict weak scratch strict' weak' scratch' : List ℤ)
      → Add s m strict weak scratch NotControllable strict' weak' scratch' → (strict' ≡ strict) × (weak' ≡ weak)
  -- the same limit tried again at any later time, with room in the scratch, is refused again
  pub refused_again : (s : List ℕ) (ts rs : List Limit) (strict weak scratch : List ℤ) → Desk Judge Add s ts rs strict weak → (m : Limit) → Memᴰ m rs
      → scratch_of (plan_of s) ≤ length scratch
      → (a : Answer) (strict' weak' scratch' : List ℤ) → Add s m strict weak scratch a strict' weak' scratch' → a ≡ NotControllable
  -- "The second sort of 12 never happens on tables that came from Judge and Add with the same file", nor does the first
  pub never_twelve : (s : List ℕ) (ts rs : List Limit) (strict weak scratch : List ℤ) → Desk Judge Add s ts rs strict weak → (m : Limit) (a : Answer)
      (strict' weak' scratch' : List ℤ) → Add s m strict weak scratch a strict' weak' scratch' → a ≢ NotClosed
