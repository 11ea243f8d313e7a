-- Document 01, "Plan file": "A post reads records where they lie, with the file lent and never copied." What a reader of a file is, and what limit i and link i are, for every i.
-- Assumes nothing.
use Rattle.std.specs.Prelude.{◌≡◌, List, ℕ, ◌≤◌, ◌<◌, length, get_or, pos}
use Rattle.std.specs.Borrow.{Bor}
use Rattle.rules.specs.Plan.{Limit, Link, Plan}
use Rattle.plan.specs.Layout.{head_of, limit_offset, link_offset, limit_at, link_at, plan_of}
use Rattle.reader.specs.declared.PlanReader.{PlanReader}

-- "a thin reader struct holding the plan slice with n, m, k": the file itself, and the counts at hand
abbrev pub holding : Bor (List ℕ) → ℕ → ℕ → ℕ → PlanReader
holding file n m k = record { file = file; n = n; m = m; k = k }

-- "The header holds counts and offsets": a file's own reader, with the counts of its header
abbrev pub ReaderOf : Bor (List ℕ) → PlanReader → Type 0
ReaderOf file r = r ≡ holding file (head_of file.now).points (head_of file.now).limits (head_of file.now).links

-- "points n, limits m, links k": a reader's counts are a plan's
pub record Counts (p : Plan) (r : PlanReader) : Type 0 where
  pub points : r.n ≡ p.points
  pub limits : r.m ≡ length p.limits
  pub links : r.k ≡ length p.links

-- the records of which every byte lies past the end
abbrev pub no_limit : Limit
no_limit = record { from = 0; to = 0; weight = pos 0 }

abbrev pub no_link : Link
no_link = record { act = 0; con = 0; short = 0; long = 0 }

-- "giving limit i": where it lies, for every i; the plan's, below the number of limits; all 0 past the end of the file
pub record IsLimit (s : List ℕ) (i : ℕ) (x : Limit) : Type 0 where
  pub lies : x ≡ limit_at s i
  pub plan : i < length (plan_of s).limits → (other : Limit) → x ≡ get_or (plan_of s).limits i other
  pub past : length s ≤ limit_offset i → x ≡ no_limit

-- "or link i": the same for links, which follow the header's number of limits
pub record IsLink (s : List ℕ) (i : ℕ) (x : Link) : Type 0 where
  pub lies : x ≡ link_at s (head_of s).limits i
  pub plan : i < length (plan_of s).links → (other : Link) → x ≡ get_or (plan_of s).links i other
  pub past : length s ≤ link_offset (head_of s).limits i → x ≡ no_link
