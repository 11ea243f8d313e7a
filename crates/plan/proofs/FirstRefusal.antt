-- The order of the answers: one after another, the first refusal stands. The laws take what the calls ensure as it comes: h is
-- the header that was read, a and b are answers. Assumes nothing.
use mathlib.Core.Path.{◌≡◌, sym, ◌∙◌}
use mathlib.Core.Bool.{Bool, true, false}
use mathlib.Core.List.{List, []}
use Prim.Native.Nat.{ℕ, ◌≤◌, ◌<◌}
use Rattle.std.specs.Prelude.{Err}
use lib.ListN.{length}
use borrow.Author.Tests.{le-leb, lt-leb, eq-eqb, ne_eqb}
use Rattle.rules.specs.Plan.{Limit, Ranges, version1}
use Rattle.rules.specs.Answers.{Answer, Done, FewBytes, BadVersion, BadPoints, BadCounts, BadLayout}
use Rattle.rules.specs.declared.Refusal.{Refusal}
use Rattle.plan.specs.declared.Header.{Header}
use Rattle.plan.specs.Layout.{head_of, limit_at, link_at, records, plan_of}
use Rattle.plan.specs.File.{points_fit, counts_fit, laid_out, form_answer, counts_answer, limit_answer, limits_answer, links_answer, file_front, file_answer, add_answer}
use Rattle.answers.proofs.CodeZero.{then_done}
use Rattle.plan.proofs.FileParts.{limits_length, head_answer, to_limits, front_parts, file_parts}
use Rattle.plan.proofs.TestsMade.{failed, passed}
use Rattle.plan.proofs.TestsDecide.{CountsOk, counts_ok}

-- ---- n, m and k

module _ (r : Ranges) (n m k : ℕ) {p : Bool} (e : p ≡ points_fit r n) (laid : Bool) where
  pub bad_points : p ≡ false → BadPoints ≡ counts_answer r n m k laid
  unfolding counts_answer
  bad_points u = simp (failed e u)

  module _ (u : p ≡ true) {c : Bool} (f : c ≡ counts_fit r m k) where
    pub bad_counts : c ≡ false → BadCounts ≡ counts_answer r n m k laid
    unfolding counts_answer
    bad_counts v = simp (passed e u, failed f v)

    pub bad_layout : c ≡ true → laid ≡ false → BadLayout ≡ counts_answer r n m k laid
    unfolding counts_answer
    bad_layout v w = simp (passed e u, passed f v, w)

    pub counts_done : c ≡ true → laid ≡ true → Done ≡ counts_answer r n m k laid
    unfolding counts_answer
    counts_done v w = simp (passed e u, passed f v, w)

-- ---- the file's size and version, then those

module _ (size : ℕ) (h : Header) where
  pub few_bytes : size < 24 → FewBytes ≡ head_answer size h
  few_bytes l = simp (lt-leb 24 size l)

  module _ (room : 24 ≤ size) where
    pub bad_version : (h.version ≡ 1 → ⊥) → BadVersion ≡ head_answer size h
    bad_version d = simp (le-leb 24 size room, ne_eqb h.version 1 d)

    pub head_next : h.version ≡ 1
        → {l : Bool} → l ≡ laid_out size h
        → {b : Answer} → b ≡ counts_answer version1 h.points h.limits h.links l
        → b ≡ head_answer size h
    head_next v e q = rw (le-leb 24 size room, eq-eqb h.version 1 v) (q ∙ rw e)

-- past those tests n, m and k are in range
pub head_counts : (size : ℕ) (h : Header) → head_answer size h ≡ Done → CountsOk version1 h.points h.limits h.links (laid_out size h)
head_counts size h e =
    let laid = laid_out size h in
    counts_ok version1 h.points h.limits h.links laid
    (then_done (form_answer size h) (counts_answer version1 h.points h.limits h.links laid) e).1

module _ (s : List ℕ) {a : Answer} where
  -- ---- the header, then the limits

  module _ {h : Header} (q : h ≡ head_of s) (p : a ≡ head_answer (length s) h) where
    pub front_stop : {r : Refusal} → a ≡ Err r → Err r ≡ file_front s
    front_stop u = rw (front_parts s, ← q, ← p, u)

    pub past_head : a ≡ Done → h.limits ≤ version1.limits
    past_head u = (head_counts (length s) h (sym p ∙ u)).limits

    pub front_next : a ≡ Done
        → {b : Answer}
        → b ≡ limits_answer version1 h.points 0 (records (limit_at s) 0 h.limits)
        → b ≡ file_front s
    unfolding plan_of
    front_next u r = rw (front_parts s, ← q, ← p, u) r

  -- ---- those, then the links

  module _ (p : a ≡ file_front s) where
    pub file_stop : {r : Refusal} → a ≡ Err r → Err r ≡ file_answer s
    file_stop u = rw (file_parts s, ← p, u)

    pub add_stop : (added : Limit) {r : Refusal} → a ≡ Err r → Err r ≡ add_answer s added
    unfolding add_answer
    add_stop added u = rw (← p, u)

    module _ (u : a ≡ Done) {h : Header} (q : h ≡ head_of s) where
      past_front : CountsOk version1 h.points h.limits h.links (laid_out (length s) h)
      past_front =
          let d = rw front_parts at (sym p ∙ u) in
          rw q (head_counts (length s) (head_of s) (then_done (head_answer (length s) (head_of s)) (to_limits s) d).0)

      pub past_front_limits : h.limits ≤ version1.limits
      past_front_limits = past_front.limits

      pub past_front_links : h.links ≤ version1.links
      past_front_links = past_front.links

      pub file_next : {b : Answer}
          → b ≡ links_answer version1 h.points h.limits 0 [] (records (link_at s h.limits) 0 h.links)
          → b ≡ file_answer s
      unfolding plan_of
      file_next r = rw (file_parts s, ← p, u, limits_length s, ← q) r

      -- ---- Add's limit between them: o is its answer
      module _ (added : Limit) {o : Answer} (f : o ≡ limit_answer version1 h.points h.limits added) where
        pub add_own : {r : Refusal} → o ≡ Err r → Err r ≡ add_answer s added
        unfolding add_answer plan_of
        add_own v = rw (← p, u, ← q, ← f, v)

        pub add_next : o ≡ Done
            → {b : Answer}
            → b ≡ links_answer version1 h.points h.limits 0 [] (records (link_at s h.limits) 0 h.links)
            → b ≡ add_answer s added
        unfolding add_answer plan_of
        add_next v r = rw (← p, u, limits_length s, ← q, ← f, v) r
