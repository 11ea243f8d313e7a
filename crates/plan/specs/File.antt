-- Document 01, "Numbers returned", codes 1 to 8: what the reader answers to any bytes, and what a plan file is.
-- Assumes nothing.
use Rattle.std.specs.Prelude.{◌≡◌, Bool, true, not, ◌&&◌, cond, List, [], ◌∷◌, ℕ, suc, ◌+◌, ◌≤◌, leb, ltb, eqb, length, ℤ, pos, neg_ℤ}
use Rattle.std.specs.Int.Signed.{le_z}
use Rattle.rules.specs.Plan.{Limit, Link, Plan, Ranges, version1, InRange}
use Rattle.rules.specs.Answers.{Answer, Done, FewBytes, BadVersion, BadPoints, BadCounts, BadLayout, BadLimit, BadLink, RepeatedLink}
use Rattle.answers.specs.Order.{◌then◌, unless}
use Rattle.plan.specs.declared.Header.{Header}
use Rattle.plan.specs.Layout.{head_of, limit_offset, link_offset, plan_of}

-- "n 1 to 64"
abbrev pub points_fit : Ranges → ℕ → Bool
points_fit r n = leb 1 n && leb n r.points

-- "m 0 to 1,024; k 0 to 32"
abbrev pub counts_fit : Ranges → ℕ → ℕ → Bool
counts_fit r m k = leb m r.limits && leb k r.links

-- "Limits follow at 24", "Links follow at 24 + 12m", "The file is exactly 24 + 12m + 16k bytes."
abbrev pub laid_out : ℕ → Header → Bool
laid_out size h =
    eqb h.limits_at (limit_offset 0) && eqb h.links_at (limit_offset h.limits) && eqb size (link_offset h.limits h.links)

-- "fewer than 24 bytes", "version not 1": codes 1 and 2 of a file of so many bytes with such a header
abbrev pub form_answer : ℕ → Header → Answer
form_answer size h = unless (leb 24 size) FewBytes then unless (eqb h.version 1) BadVersion

-- codes 3, 4 and 5 of n points, m limits and k links; `laid` says whether the rest is as laid down
unfoldable pub counts_answer : Ranges → ℕ → ℕ → ℕ → Bool → Answer
counts_answer r n m k laid =
    unless (points_fit r n) BadPoints then unless (counts_fit r m k) BadCounts then unless laid BadLayout

-- "w from -1,000,000 to 1,000,000"
abbrev pub weight_fits : Ranges → ℤ → Bool
weight_fits r w = le_z (neg_ℤ (pos r.weight)) w && le_z w (pos r.weight)

-- "every point named is below n", "A differs from C, C is not 0"; document 02, item 5: "A equal to C is blamed on C"
abbrev pub contingent_fits : ℕ → Link → Bool
contingent_fits n k = ltb k.con n && not (eqb k.act k.con) && not (eqb k.con 0)

-- "u <= 1,000,000"; document 02, item 2: "From now on 1 <= l <= u.", and item 5: "a wrong order of l and u on u"
abbrev pub longest_fits : Ranges → Link → Bool
longest_fits r k = leb k.short k.long && leb k.long r.weight

-- Whether each field of a limit is right, in the record's order: from, to, weight. "every point named is below n"
abbrev pub limit_tests : Ranges → ℕ → Limit → List Bool
limit_tests r n m = ltb m.from n ∷ ltb m.to n ∷ weight_fits r m.weight ∷ []

-- The same of a link: A, C, l, u, "and l only when it is 0".
abbrev pub link_tests : Ranges → ℕ → Link → List Bool
link_tests r n k = ltb k.act n ∷ contingent_fits n k ∷ leb 1 k.short ∷ longest_fits r k ∷ []

-- whether every field is right
abbrev pub all_right : List Bool → Bool
all_right [] = true
all_right (t ∷ ts) = t && all_right ts

-- "the first bad one": how far into its record it begins, past the four bytes of each field before it
abbrev pub first_bad : List Bool → ℕ
first_bad [] = 0
first_bad (t ∷ ts) = cond t (4 + first_bad ts) 0

-- a limit in range
unfoldable pub limit_fits : Ranges → ℕ → Limit → Bool
limit_fits r n m = all_right (limit_tests r n m)

-- a link in range
unfoldable pub link_fits : Ranges → ℕ → Link → Bool
link_fits r n k = all_right (link_tests r n k)

-- whether a point is the contingent point of none of these links
abbrev pub fresh : ℕ → List Link → Bool
fresh c [] = true
fresh c (k ∷ ks) = not (eqb k.con c) && fresh c ks

-- Document 02, item 5: "the offset in the file of the field at fault": of the limit at index i, "the first bad one of from, to, weight"
abbrev pub limit_place : Ranges → ℕ → ℕ → Limit → ℕ
limit_place r n i m = limit_offset i + first_bad (limit_tests r n m)

-- of the link at index i after m limits, the first bad one "of A, C, l, u"
abbrev pub link_place : Ranges → ℕ → ℕ → ℕ → Link → ℕ
link_place r n m i k = link_offset m i + first_bad (link_tests r n k)

-- "for code 8 the C field"
abbrev pub repeat_place : ℕ → ℕ → ℕ
repeat_place m i = link_offset m i + 4

-- the answer to one limit, at index i
abbrev pub limit_answer : Ranges → ℕ → ℕ → Limit → Answer
limit_answer r n i m = unless (limit_fits r n m) (BadLimit (limit_place r n i m))

-- "limits in file order": the answer to limits from index i on
abbrev pub limits_answer : Ranges → ℕ → ℕ → List Limit → Answer
limits_answer r n i [] = Done
limits_answer r n i (m ∷ ms) = limit_answer r n i m then limits_answer r n (suc i) ms

-- the answer to one link, at index i after m limits: "tested for 7 and then 8"; `new` says whether no earlier link has its contingent point
abbrev pub link_answer : Ranges → ℕ → ℕ → ℕ → Bool → Link → Answer
link_answer r n m i new k = unless (link_fits r n k) (BadLink (link_place r n m i k)) then unless new (RepeatedLink (repeat_place m i))

-- "links in file order": the answer to links from index i on, after m limits and the earlier links
abbrev pub links_answer : Ranges → ℕ → ℕ → ℕ → List Link → List Link → Answer
links_answer r n m i earlier [] = Done
links_answer r n m i earlier (k ∷ ks) =
    link_answer r n m i (fresh k.con earlier) k then links_answer r n m (suc i) (k ∷ earlier) ks

-- codes 3 to 6 of a plan: ".. 5; limits in file order"
unfoldable pub front_answer : Ranges → Bool → Plan → Answer
front_answer r laid p =
    counts_answer r p.points (length p.limits) (length p.links) laid then limits_answer r p.points 0 p.limits

-- codes 7 and 8 of a plan: "links in file order, each tested for 7 and then 8"
abbrev pub back_answer : Ranges → Plan → Answer
back_answer r p = links_answer r p.points (length p.limits) 0 [] p.links

-- codes 3 to 8 of a plan, whether a file holds it or lists do
unfoldable pub plan_answer : Ranges → Bool → Plan → Answer
plan_answer r laid p = front_answer r laid p then back_answer r p

-- codes 1 to 6 of a file
unfoldable pub file_front : List ℕ → Answer
file_front s = form_answer (length s) (head_of s) then front_answer version1 (laid_out (length s) (head_of s)) (plan_of s)

-- codes 1 to 8 of a file
unfoldable pub file_answer : List ℕ → Answer
file_answer s = form_answer (length s) (head_of s) then plan_answer version1 (laid_out (length s) (head_of s)) (plan_of s)

-- codes 1 to 8 of Add: "limits in file order, then Add's limit; links in file order"; document 02, item 5: "A bad limit handed to Add reports offset
-- 24 + 12m plus the field's offset in a record."
unfoldable pub add_answer : List ℕ → Limit → Answer
add_answer s added =
    file_front s
    then limit_answer version1 (plan_of s).points (head_of s).limits added
    then back_answer version1 (plan_of s)

-- what a plan file is: "Plan file" of the paper, sentence by sentence
pub record PlanFile (s : List ℕ) : Type 0 where
  -- "The header .., 24 bytes: version (1)"
  pub header : 24 ≤ length s
  pub version : (head_of s).version ≡ 1
  -- "Limits follow at 24", "Links follow at 24 + 12m"
  pub limits_at : (head_of s).limits_at ≡ limit_offset 0
  pub links_at : (head_of s).links_at ≡ limit_offset (head_of s).limits
  -- "The file is exactly 24 + 12m + 16k bytes."
  pub size : length s ≡ link_offset (head_of s).limits (head_of s).links
  -- "Ranges: .."
  pub ranges : InRange version1 (plan_of s)
