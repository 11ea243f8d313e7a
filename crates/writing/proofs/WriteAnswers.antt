-- What `write` answers, from what the calls ensure: l are the lists.
-- Assumes nothing.
use mathlib.Core.Path.{◌≡◌, refl, sym, ap, ◌∙◌}
use mathlib.Core.Bool.{Bool, true, false}
use mathlib.Core.List.{List, [], ◌++◌, flat_map}
use Prim.Native.Nat.{ℕ, ◌+◌, ◌*◌, ◌≤◌, ◌<◌}
use native.Mathlib.Omega.{arith}
use Rattle.std.proofs.lemmas.Bool.Decides.{nat_tests}
use lib.Dec.{leb}
use lib.ListN.{length, drop, length-append}
use borrow.Author.Tests.{le-leb, lt-leb}
use Rattle.rules.specs.Plan.{version1}
use Rattle.std.specs.Prelude.{Err}
use Rattle.rules.specs.Answers.{Answer, Done, ShortRoom}
use Rattle.rules.specs.declared.Refusal.{Refusal}
use Rattle.answers.specs.Order.{◌then◌, unless}
use Rattle.answers.proofs.CodeZero.{not_done}
use Rattle.plan.specs.Layout.{limit_offset, records, head_fields, limit_fields, link_fields, plan_fields, plan_bytes}
use Rattle.plan.specs.File.{counts_answer, limits_answer, links_answer, front_answer, plan_answer}
use Rattle.plan.proofs.Records.{records_length}
use Rattle.plan.proofs.TestsDecide.{counts_ok}
use Rattle.plan.proofs.Stretches.{flat_length}
use Rattle.plan.proofs.BytesOfPlans.{bytes_size}
use Rattle.writing.specs.PlanLists.{Lists, limit_in, link_in, listed_plan, even_lists}
use Rattle.writing.specs.Puts.{ListsOk, lists_answer, put_fields}
use Rattle.writing.specs.RoundTrips.{size_of}
use Rattle.writing.specs.Wrote.{file_of, write_answer, Wrote}
use Rattle.writing.proofs.FieldsPut.{more, put_start}

-- ---- codes 3 to 8

module _ (l : Lists) where
  -- codes 3, 4 and 5 of the lists, 6, and 7 and 8
  abbrev counts : Answer
  counts = counts_answer version1 l.points (length l.from) (length l.act) (even_lists l)

  abbrev limits : Answer
  limits = limits_answer version1 l.points 0 (records (limit_in l.from l.to l.weight) 0 (length l.from))

  abbrev links : Answer
  links = links_answer version1 l.points (length l.from) 0 [] (records (link_in l.act l.con l.short l.long) 0 (length l.act))

  parts : lists_answer l ≡ ((counts then limits) then links)
  unfolding plan_answer front_answer listed_plan
  parts = rw (records_length (limit_in l.from l.to l.weight) 0 (length l.from), records_length (link_in l.act l.con l.short l.long) 0 (length l.act))

  -- a, b and c are what the calls answer
  module _ {laid : Bool} (g : laid ≡ even_lists l) {a : Answer} (p : a ≡ counts_answer version1 l.points (length l.from) (length l.act) laid) where
    counted : counts ≡ a
    counted = rw (p, g)

    pub counts_stop : {r : Refusal} → a ≡ Err r → lists_answer l ≡ Err r
    counts_stop u = rw (parts, counted, u)

    module _ (u : a ≡ Done) where
      pub counts_passed : ListsOk l
      counts_passed =
          let c = counts_ok version1 l.points (length l.from) (length l.act) (even_lists l) (counted ∙ u) in
          record {
            limits = c.limits;
            links = c.links;
            to = grind (arith, nat_tests, c.as_laid);
            weight = grind (arith, nat_tests, c.as_laid);
            con = grind (arith, nat_tests, c.as_laid);
            short = grind (arith, nat_tests, c.as_laid);
            long = grind (arith, nat_tests, c.as_laid);
          }

      module _ {b : Answer} (q : b ≡ limits) where
        pub limits_stop : {r : Refusal} → b ≡ Err r → lists_answer l ≡ Err r
        limits_stop w = rw (parts, counted, u, ← q, w)

        pub links_all : b ≡ Done → {c : Answer} → c ≡ links → lists_answer l ≡ c
        links_all w r = rw (parts, counted, u, ← q, w, ← r)

-- ---- the buffer

-- the file of lists is as long as their lengths say
pub file_size : (l : Lists) → length (file_of l) ≡ size_of l
unfolding listed_plan
file_size l =
    let m = records_length (limit_in l.from l.to l.weight) 0 (length l.from) in
    let k = records_length (link_in l.act l.con l.short l.long) 0 (length l.act) in
    omega (arith, bytes_size (listed_plan l), m, k)

-- header, limits and links, one after the other from the start on: the file, and then what was there
pub laid_down : (l : Lists) (before : List ℕ) → size_of l ≤ length before → {t₁ t₂ t₃ : List ℕ}
    → t₁ ≡ put_fields before 0 (head_fields l.points (length l.from) (length l.act))
    → t₂ ≡ put_fields t₁ (limit_offset 0) (flat_map limit_fields (listed_plan l).limits)
    → t₃ ≡ put_fields t₂ (limit_offset (length l.from)) (flat_map link_fields (listed_plan l).links)
    → t₃ ≡ file_of l ++ drop (length (file_of l)) before
unfolding plan_bytes plan_fields listed_plan
laid_down l before room q r s =
    let m = length l.from in
    let k = length l.act in
    let f = limit_in l.from l.to l.weight in
    let g = link_in l.act l.con l.short l.long in
    let head = head_fields l.points m k in
    let limits = flat_map limit_fields (records f 0 m) in
    let links = flat_map link_fields (records g 0 k) in
    let size : length (head ++ limits) ≡ 6 + 3 * m =
    length-append head limits ∙ omega (arith, flat_length limit_fields 3 (λ x. refl) (records f 0 m), records_length f 0 m) in
    let same : plan_fields (listed_plan l) ≡ head ++ limits ++ links = rw (records_length f 0 m, records_length g 0 k) in
    more before 0 (head ++ limits) links (limit_offset m) (more before 0 head limits 24 q (omega arith) r) (omega (arith, size)) s
    ∙ ap (put_fields before 0) (sym same)
    ∙ put_start before (plan_fields (listed_plan l)) (omega (arith, file_size l))

module _ (l : Lists) (before : List ℕ) where
  pub refused : {r : Refusal} → lists_answer l ≡ Err r → Wrote l before (Err r) before
  unfolding write_answer
  refused e = record { answer = rw e; written = λ d. absurd (not_done d); refused = λ d. refl }

  module _ (e : lists_answer l ≡ Done) where
    -- the file fits or not
    fits : (f : Bool) → leb (length (file_of l)) (length before) ≡ f → write_answer l (length before) ≡ unless f ShortRoom
    unfolding write_answer
    fits f h = rw (e, h)

    pub short : length before < size_of l → Wrote l before ShortRoom before
    short h =
        record {
          answer = sym (fits false (lt-leb (length (file_of l)) (length before) (omega (arith, file_size l))));
          written = λ d. absurd (not_done d);
          refused = λ d. refl;
        }

    pub wrote : size_of l ≤ length before → {after : List ℕ}
        → after ≡ file_of l ++ drop (length (file_of l)) before → Wrote l before Done after
    wrote room q =
        record {
          answer = sym (fits true (le-leb (length (file_of l)) (length before) (omega (arith, file_size l))));
          written = λ d. q;
          refused = λ d. absurd (d refl);
        }
