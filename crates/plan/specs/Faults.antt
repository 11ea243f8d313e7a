-- Document 02, item 5: what a place with 6, 7 or 8 says of a file, in the item's words and with no test of the code.
-- Assumes nothing.
use Rattle.std.specs.Prelude.{◌≡◌, ◌≢◌, List, ℕ, ◌+◌, ◌≤◌, ◌<◌, length, pos, neg_ℤ, ◌≤ℤ◌}
use Rattle.rules.specs.Plan.{Limit, Link, Ranges, version1, LimitInRange, LinkInRange}
use Rattle.rules.specs.Answers.{code_of, place_of, Answer, Done, BadLimit, BadLink, RepeatedLink}
use Rattle.plan.specs.Layout.{head_of, limit_offset, link_offset, limit_at, link_at}
use Rattle.plan.specs.File.{file_front, file_answer, add_answer}

-- "w from -1,000,000 to 1,000,000"
abbrev pub WeightRight : Ranges → Limit → Type 0
WeightRight r m = (neg_ℤ (pos r.weight) ≤ℤ m.weight) × (m.weight ≤ℤ pos r.weight)

-- "for a limit the first bad one of from, to, weight": how far into its record the field at fault begins
pub data LimitFault (r : Ranges) (n : ℕ) (m : Limit) : ℕ → Type 0 where
  bad_from : n ≤ m.from → LimitFault r n m 0
  bad_to : m.from < n → n ≤ m.to → LimitFault r n m 4
  bad_weight : m.from < n → m.to < n → (WeightRight r m → ⊥) → LimitFault r n m 8

-- "every point named is below n", "A differs from C, C is not 0": "A equal to C is blamed on C"
abbrev pub ContingentRight : ℕ → Link → Type 0
ContingentRight n k = (k.con < n) × (k.act ≢ k.con) × (k.con ≢ 0)

-- "l <= u", "u <= 1,000,000": "a wrong order of l and u on u"
abbrev pub LongestRight : Ranges → Link → Type 0
LongestRight r k = (k.short ≤ k.long) × (k.long ≤ r.weight)

-- "for a link of A, C, l, u, .. and l only when it is 0"
pub data LinkFault (r : Ranges) (n : ℕ) (k : Link) : ℕ → Type 0 where
  bad_act : n ≤ k.act → LinkFault r n k 0
  bad_con : k.act < n → (ContingentRight n k → ⊥) → LinkFault r n k 4
  bad_short : k.act < n → ContingentRight n k → k.short ≡ 0 → LinkFault r n k 8
  bad_long : k.act < n → ContingentRight n k → k.short ≢ 0 → (LongestRight r k → ⊥) → LinkFault r n k 12

-- The refusal of limits: "limits in file order", so those before are in range.
pub data LimitBlamed (r : Ranges) (n : ℕ) (limit : ℕ → Limit) (m : ℕ) : Answer → Type 0 where
  at_limit : {i field : ℕ} → i < m → ((j : ℕ) → j < i → LimitInRange r n (limit j)) → LimitFault r n (limit i) field
      → LimitBlamed r n limit m (BadLimit (limit_offset i + field))

-- links before index i with nothing to refuse: in range, and "no two links share a contingent point"
pub record LinksBefore (r : Ranges) (n : ℕ) (link : ℕ → Link) (i : ℕ) : Type 0 where
  pub in_range : (j : ℕ) → j < i → LinkInRange r n (link j)
  pub apart : (j h : ℕ) → j < i → h < j → (link h).con ≢ (link j).con

-- The refusal of links, after m limits: "links in file order, each tested for 7 and then 8"; "for code 8 the C field", of the later link.
pub data LinkBlamed (r : Ranges) (n m : ℕ) (link : ℕ → Link) (k : ℕ) : Answer → Type 0 where
  at_link : {i field : ℕ} → i < k → LinksBefore r n link i → LinkFault r n (link i) field
      → LinkBlamed r n m link k (BadLink (link_offset m i + field))
  at_repeat : {i j : ℕ} → i < k → LinksBefore r n link i → LinkInRange r n (link i) → j < i → (link j).con ≡ (link i).con
      → LinkBlamed r n m link k (RepeatedLink (link_offset m i + 4))

-- The refusal of a file with 6, 7 or 8.
pub data FileBlamed (s : List ℕ) : Answer → Type 0 where
  by_limit : {a : Answer} → LimitBlamed version1 (head_of s).points (limit_at s) (head_of s).limits a → FileBlamed s a
  by_link : {a : Answer} → ((j : ℕ) → j < (head_of s).limits → LimitInRange version1 (head_of s).points (limit_at s j))
      → LinkBlamed version1 (head_of s).points (head_of s).limits (link_at s (head_of s).limits) (head_of s).links a → FileBlamed s a

pub record Places : Type 0 where
  -- "the offset in the file of the field at fault": which one that is
  pub blamed : (s : List ℕ) → 6 ≤ code_of (file_answer s) → FileBlamed s (file_answer s)
  -- the field lies in the file, behind the header: a byte viewer finds its four bytes there
  pub in_the_file : (s : List ℕ) → 6 ≤ code_of (file_answer s)
      → (24 ≤ place_of (file_answer s)) × (place_of (file_answer s) + 4 ≤ length s)
  -- "A bad limit handed to Add reports offset 24 + 12m plus the field's offset in a record."
  pub handed_to_add : (s : List ℕ) (added : Limit) {field : ℕ} → file_front s ≡ Done → LimitFault version1 (head_of s).points added field
      → add_answer s added ≡ BadLimit (limit_offset (head_of s).limits + field)
