-- What a sound file gives: the reader's answer is Done exactly for the paper's plan files, and then one record holds all that
-- later proofs need of the bytes. With Add's limit it is Done exactly where both the file and the limit are in range.
-- Assumes nothing.
use mathlib.Core.Path.{◌≡◌, refl, sym, ap, ◌∙◌}
use mathlib.Core.Logic.{◌↔◌}
use mathlib.Core.Bool.{true, ◌&&◌}
use mathlib.Core.List.{List, Memᴰ}
use Prim.Native.Nat.{ℕ, ◌*◌, ◌≤◌, ◌<◌}
use native.Mathlib.Nat.{zero-add}
use native.Mathlib.Omega.{arith}
use lib.Dec.{leb, eqb}
use lib.ListN.{length}
use borrow.Author.Tests.{leb-true, eqb-true, le-leb, eq-eqb}
use Rattle.rules.specs.Plan.{Limit, Link, version1, LimitInRange, LinkInRange, InRange}
use Rattle.rules.specs.Answers.{Answer, Done, FewBytes, BadVersion}
use Rattle.plan.specs.declared.Header.{Header}
use Rattle.plan.specs.Layout.{head_of, limit_offset, link_offset, limit_at, link_at, plan_of}
use Rattle.answers.specs.Order.{◌then◌, unless}
use Rattle.answers.proofs.CodeZero.{then_done, done_then, unless_done}
use Rattle.plan.specs.File.{laid_out, form_answer, limit_answer, back_answer, plan_answer, file_front, file_answer, add_answer, PlanFile}
use Rattle.plan.proofs.TestsMade.{both, and}
use Rattle.plan.proofs.FileParts.{file_parts}
pub use Rattle.plan.proofs.FileParts.{limits_length, links_length, points_is}
use Rattle.plan.proofs.Records.{Listed, record_in, in_records}
use Rattle.plan.proofs.TestsDecide.{limit_taken, take_limit}
use Rattle.plan.proofs.PlanExactly.{plan_exactly}

-- ---- the header

-- what a Done answer to the file says of its header
pub record HeadOk (size : ℕ) (h : Header) : Type 0 where
  pub room : 24 ≤ size
  pub version : h.version ≡ 1
  pub some_point : 1 ≤ h.points
  pub points : h.points ≤ version1.points
  pub limits : h.limits ≤ version1.limits
  pub links : h.links ≤ version1.links
  pub limits_at : h.limits_at ≡ limit_offset 0
  pub links_at : h.links_at ≡ limit_offset h.limits
  pub exact : size ≡ link_offset h.limits h.links

-- 1 and 2 are not answered exactly where there are 24 bytes and the version is 1
pub form_exactly : (size : ℕ) (h : Header) → (form_answer size h ≡ Done) ↔ ((24 ≤ size) × (h.version ≡ 1))
form_exactly size h = (there, back)
  where
    there : form_answer size h ≡ Done → (24 ≤ size) × (h.version ≡ 1)
    there e =
        let p = then_done (unless (leb 24 size) FewBytes) (unless (eqb h.version 1) BadVersion) e in (
          leb-true 24 size (unless_done (leb 24 size) FewBytes refl p.0),
          eqb-true h.version 1 (unless_done (eqb h.version 1) BadVersion refl p.1),
        )

    back : (24 ≤ size) × (h.version ≡ 1) → form_answer size h ≡ Done
    back (l, v) = simp (le-leb 24 size l, eq-eqb h.version 1 v)

-- a header's offsets and the file's length
pub record Laid (size : ℕ) (h : Header) : Type 0 where
  pub limits_at : h.limits_at ≡ limit_offset 0
  pub links_at : h.links_at ≡ limit_offset h.limits
  pub exact : size ≡ link_offset h.limits h.links

pub laid_exactly : (size : ℕ) (h : Header) → (laid_out size h ≡ true) ↔ Laid size h
laid_exactly size h = (there, back)
  where
    there : laid_out size h ≡ true → Laid size h
    there e =
        let a = eqb h.limits_at (limit_offset 0) in
        let b = eqb h.links_at (limit_offset h.limits) in
        let l = both (a && b) (eqb size (link_offset h.limits h.links)) e in
        let o = both a b l.0 in
        record {
          limits_at = eqb-true h.limits_at (limit_offset 0) o.0;
          links_at = eqb-true h.links_at (limit_offset h.limits) o.1;
          exact = eqb-true size (link_offset h.limits h.links) l.1;
        }

    back : Laid size h → laid_out size h ≡ true
    back g =
        let o = and (eq-eqb h.limits_at (limit_offset 0) g.limits_at) (eq-eqb h.links_at (limit_offset h.limits) g.links_at) in
        and o (eq-eqb size (link_offset h.limits h.links) g.exact)

-- ---- the whole file

-- Done exactly for a plan file
pub sound_exactly : (s : List ℕ) → (file_answer s ≡ Done) ↔ PlanFile s
unfolding file_answer
sound_exactly s = (there, back)
  where
    size : ℕ
    size = length s

    h : Header
    h = head_of s

    form : Answer
    form = form_answer (length s) (head_of s)

    plan : Answer
    plan = plan_answer version1 (laid_out (length s) (head_of s)) (plan_of s)

    there : file_answer s ≡ Done → PlanFile s
    there e =
        let p = then_done form plan e in
        let f = (form_exactly size h).0 p.0 in
        let q = (plan_exactly version1 (laid_out size h) (plan_of s)).0 p.1 in
        let l = (laid_exactly size h).0 q.0 in
        record {
          header = f.0;
          version = f.1;
          limits_at = l.limits_at;
          links_at = l.links_at;
          size = l.exact;
          ranges = q.1;
        }

    back : PlanFile s → file_answer s ≡ Done
    back f =
        done_then form plan ((form_exactly size h).1 (f.header, f.version))
        ((plan_exactly version1 (laid_out size h) (plan_of s)).1 (
          (laid_exactly size h).1 (record { limits_at = f.limits_at; links_at = f.links_at; exact = f.size }),
          f.ranges,
        ))

-- What a sound file gives.
pub record Good (s : List ℕ) : Type 0 where
  -- the header's fields, their bounds and the file's exact length
  pub head : HeadOk (length s) (head_of s)
  -- every range of the paper
  pub ranges : InRange version1 (plan_of s)
  -- the plan has as many points, limits and links as the header says
  pub points : (plan_of s).points ≡ (head_of s).points
  pub limits : length (plan_of s).limits ≡ (head_of s).limits
  pub links : length (plan_of s).links ≡ (head_of s).links
  -- limit i and link i are the plan's, and the plan has no others
  pub limit_in_lem : (i : ℕ) → i < (head_of s).limits → Memᴰ (limit_at s i) (plan_of s).limits
  pub limit_is : (m : Limit) → Memᴰ m (plan_of s).limits → Listed (limit_at s) (head_of s).limits m
  pub link_in_lem : (i : ℕ) → i < (head_of s).links → Memᴰ (link_at s (head_of s).limits i) (plan_of s).links
  pub link_is : (k : Link) → Memᴰ k (plan_of s).links → Listed (link_at s (head_of s).limits) (head_of s).links k

pub good : (s : List ℕ) → file_answer s ≡ Done → Good s
unfolding plan_of
good s e =
    let f = (sound_exactly s).0 e in
    let m = (head_of s).limits in
    let k = (head_of s).links in
    record {
      head = record {
        room = f.header;
        version = f.version;
        some_point = f.ranges.some_point;
        points = f.ranges.points;
        limits = rw limits_length at f.ranges.limits;
        links = rw links_length at f.ranges.links;
        limits_at = f.limits_at;
        links_at = f.links_at;
        exact = f.size;
      };
      ranges = f.ranges;
      points = points_is s;
      limits = limits_length s;
      links = links_length s;
      limit_in_lem = λ i l. record_in (limit_at s) 0 m i (omega arith) (omega arith);
      limit_is = λ x l. rw (zero-add m) at (in_records (limit_at s) 0 m x l);
      link_in_lem = λ i l. record_in (link_at s m) 0 k i (omega arith) (omega arith);
      link_is = λ x l. rw (zero-add k) at (in_records (link_at s m) 0 k x l);
    }

-- ---- with Add's limit

pub add_exactly : (s : List ℕ) (added : Limit)
    → (add_answer s added ≡ Done) ↔ ((file_answer s ≡ Done) × LimitInRange version1 (plan_of s).points added)
unfolding add_answer
add_exactly s added = (there, back)
  where
    own : Answer
    own = limit_answer version1 (plan_of s).points (head_of s).limits added

    there : add_answer s added ≡ Done → (file_answer s ≡ Done) × LimitInRange version1 (plan_of s).points added
    there e =
        let p = then_done (file_front s) (own then back_answer version1 (plan_of s)) e in
        let q = then_done own (back_answer version1 (plan_of s)) p.1 in (
          rw file_parts (done_then (file_front s) (back_answer version1 (plan_of s)) p.0 q.1),
          limit_taken version1 (plan_of s).points (head_of s).limits added q.0,
        )

    back : (file_answer s ≡ Done) × LimitInRange version1 (plan_of s).points added → add_answer s added ≡ Done
    back g =
        let p = then_done (file_front s) (back_answer version1 (plan_of s)) (rw file_parts at g.0) in
        let taken = take_limit version1 (plan_of s).points (head_of s).limits added g.1 in
        done_then (file_front s) (own then back_answer version1 (plan_of s)) p.0 (done_then own (back_answer version1 (plan_of s)) taken p.1)

-- the header that was read says how many points and cells there are
pub header_points : (s : List ℕ) {h : Header} → h ≡ head_of s → (plan_of s).points ≡ h.points
header_points s e = points_is s ∙ ap (λ (h : Header). h.points) (sym e)

pub header_cells : (s : List ℕ) {h : Header} → h ≡ head_of s → (plan_of s).points * (plan_of s).points ≡ h.points * h.points
header_cells s e = ap (λ (n : ℕ). n * n) (header_points s e)

-- ---- what later proofs ask by index

-- limit i and link i are in range for the n that the header names
pub limit_ranged : (s : List ℕ) → Good s → (i : ℕ) → i < (head_of s).limits → LimitInRange version1 (head_of s).points (limit_at s i)
limit_ranged s g i l = rw points_is at (g.ranges.limit (limit_at s i) (g.limit_in_lem i l))

pub link_ranged : (s : List ℕ) → Good s → (i : ℕ) → i < (head_of s).links → LinkInRange version1 (head_of s).points (link_at s (head_of s).limits i)
link_ranged s g i l = rw points_is at (g.ranges.link (link_at s (head_of s).limits i) (g.link_in_lem i l))
