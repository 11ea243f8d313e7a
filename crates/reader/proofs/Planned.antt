-- Limit i and link i of a reader are the plan's, and are fixed for every other i too: what `made`, `limit` and `link` promise gives `Counts`, `IsLimit` and `IsLink`.
-- What `counted` gives with a file's own counts is the same reader.
-- Of a sound file each below its count is a member of the plan's list and in range, and every link past the last is all 0.
-- Assumes nothing.
use mathlib.Core.Path.{◌≡◌, refl, sym, ap, subst, ◌∙◌}
use mathlib.Core.List.{List, Memᴰ}
use Prim.Native.Nat.{ℕ, zero, suc, ◌+◌, ◌≤◌, ◌<◌}
use native.Mathlib.Omega.{arith}
use lib.ListN.{length, get_or, get_or-eq_default}
use lib.IntN.{pos}
use denote.Ref.{Bor}
use Rattle.rules.specs.Plan.{Limit, Link, version1, LimitInRange, LinkInRange}
use Rattle.rules.specs.Answers.{Done}
use Rattle.fields.specs.Bytes.{word_at, signed_at, signed_of}
use Rattle.plan.specs.Layout.{head_of, limit_offset, link_offset, limit_at, link_at, records, plan_of}
use Rattle.plan.specs.File.{file_answer}
use Rattle.plan.proofs.SoundFile.{good, limits_length, links_length, points_is, limit_ranged, link_ranged}
use Rattle.reader.specs.declared.PlanReader.{PlanReader}
use Rattle.reader.specs.Reads.{holding, ReaderOf, Counts, no_limit, no_link, IsLimit, IsLink}

-- the record at index i of a list of records
at_index : {A : Type 0} (f : ℕ → A) (from n i : ℕ) (other : A) → i < n → f (from + i) ≡ get_or (records f from n) i other
at_index f from zero i other l = absurd (omega arith)
at_index f from (suc n) zero other l = ap f (omega arith)
at_index f from (suc n) (suc i) other l = ap f (omega arith) ∙ at_index f (suc from) n i other (omega arith)

-- a field past the end is 0
word_past : (s : List ℕ) (at : ℕ) → length s ≤ at → word_at s at ≡ 0
unfolding word_at
word_past s at l =
    simp (get_or-eq_default s 0 {n = at} l, get_or-eq_default s 0 {n = at + 1} (omega arith), get_or-eq_default s 0 {n = at + 2} (omega arith), get_or-eq_default s 0 {n = at + 3} (omega arith))

signed_past : (s : List ℕ) (at : ℕ) → length s ≤ at → signed_at s at ≡ pos 0
unfolding signed_at signed_of
signed_past s at l = ap signed_of (word_past s at l)

-- ---- of any bytes

limit_past : (s : List ℕ) (i : ℕ) → length s ≤ limit_offset i → limit_at s i ≡ no_limit
unfolding limit_at
limit_past s i l =
    simp (word_past s (limit_offset i) l, word_past s (limit_offset i + 4) (omega arith), signed_past s (limit_offset i + 8) (omega arith))

link_past : (s : List ℕ) (m i : ℕ) → length s ≤ link_offset m i → link_at s m i ≡ no_link
unfolding link_at
link_past s m i l =
    simp (word_past s (link_offset m i) l, word_past s (link_offset m i + 4) (omega arith), word_past s (link_offset m i + 8) (omega arith), word_past s (link_offset m i + 12) (omega arith))

planned_limit : (s : List ℕ) (i : ℕ) → i < length (plan_of s).limits → (other : Limit) → limit_at s i ≡ get_or (plan_of s).limits i other
unfolding plan_of
planned_limit s i l other = ap (limit_at s) (omega arith) ∙ at_index (limit_at s) 0 (head_of s).limits i other (rw limits_length at l)

planned_link : (s : List ℕ) (i : ℕ) → i < length (plan_of s).links → (other : Link) → link_at s (head_of s).limits i ≡ get_or (plan_of s).links i other
unfolding plan_of
planned_link s i l other = ap (link_at s (head_of s).limits) (omega arith) ∙ at_index (link_at s (head_of s).limits) 0 (head_of s).links i other (rw links_length at l)

pub limit_is : (s : List ℕ) (i : ℕ) {x : Limit} → x ≡ limit_at s i → IsLimit s i x
limit_is s i e = record { lies = e; plan = λ l other. e ∙ planned_limit s i l other; past = λ l. e ∙ limit_past s i l }

pub link_is : (s : List ℕ) (m i : ℕ) {x : Link} → m ≡ (head_of s).limits → x ≡ link_at s m i → IsLink s i x
link_is s m i {x} counts e = record { lies = lies; plan = λ l other. lies ∙ planned_link s i l other; past = λ l. lies ∙ link_past s (head_of s).limits i l }
  where
    lies : x ≡ link_at s (head_of s).limits i
    lies = e ∙ ap (λ (c : ℕ). link_at s c i) counts

-- ---- through a reader: what `made` or `counted` promises of r, with what `limit` and `link` promise of x

-- with a file's own counts `counted` gives the reader that `made` gives
pub own_counts : (file : Bor (List ℕ)) (n m k : ℕ) {r : PlanReader} → n ≡ (head_of file.now).points → m ≡ (head_of file.now).limits → k ≡ (head_of file.now).links → r ≡ holding file n m k → ReaderOf file r
own_counts file n m k points limits links e = cc

pub counts_are : (file : Bor (List ℕ)) (r : PlanReader) → ReaderOf file r → Counts (plan_of file.now) r
counts_are file r e = subst (Counts (plan_of file.now)) (sym e) record { points = sym (points_is file.now); limits = sym (limits_length file.now); links = sym (links_length file.now) }

pub reader_limit : (file : Bor (List ℕ)) (r : PlanReader) (i : ℕ) {x : Limit} → ReaderOf file r → x ≡ limit_at r.file.now i → IsLimit file.now i x
reader_limit file r i e said = limit_is file.now i (said ∙ ap (λ (q : PlanReader). limit_at q.file.now i) e)

pub reader_link : (file : Bor (List ℕ)) (r : PlanReader) (i : ℕ) {x : Link} → ReaderOf file r → x ≡ link_at r.file.now r.m i → IsLink file.now i x
reader_link file r i e said = link_is file.now (head_of file.now).limits i refl (said ∙ ap (λ (q : PlanReader). link_at q.file.now q.m i) e)

-- ---- of a sound file

-- below its count each is a member of the plan's list and in range
pub sound_limit : (s : List ℕ) (i : ℕ) {x : Limit} → file_answer s ≡ Done → IsLimit s i x → i < (head_of s).limits → Memᴰ x (plan_of s).limits × LimitInRange version1 (head_of s).points x
sound_limit s i sound is l = (rw is.lies ((good s sound).limit_in_lem i l), rw is.lies (limit_ranged s (good s sound) i l))

pub sound_link : (s : List ℕ) (i : ℕ) {x : Link} → file_answer s ≡ Done → IsLink s i x → i < (head_of s).links → Memᴰ x (plan_of s).links × LinkInRange version1 (head_of s).points x
sound_link s i sound is l = (rw is.lies ((good s sound).link_in_lem i l), rw is.lies (link_ranged s (good s sound) i l))

-- the links end where the file ends, so every link past the last is all 0
pub sound_past : (s : List ℕ) (i : ℕ) {x : Link} → file_answer s ≡ Done → IsLink s i x → (head_of s).links ≤ i → x ≡ no_link
sound_past s i sound is l = is.past (omega (arith, (good s sound).head.exact))
