-- What a place with 6, 7 or 8 says: the first field at fault of the first record that is refused. Assumes nothing.
use mathlib.Core.Path.{◌≡◌, refl, sym, ap, ◌∙◌}
use mathlib.Core.Logic.{◌≢◌}
use mathlib.Core.Bool.{Bool, true, false, not, true≢false}
use mathlib.Core.List.{List, []}
use Prim.Native.Nat.{ℕ, zero, suc, ◌+◌, ◌≤◌, ◌<◌}
use native.Mathlib.Nat.{zero-add}
use native.Mathlib.Omega.{arith}
use lib.Dec.{leb, ltb, eqb}
use lib.ListN.{length}
use borrow.Author.Tests.{ltb-true, ltb-false, leb-true, leb-false, eqb-true, lt-ltb, le-ltb}
use borrow.Author.Count.{below_none, below_more}
use Rattle.rules.specs.Plan.{Limit, Link, Ranges, version1, LimitInRange, LinkInRange}
use Rattle.rules.specs.Answers.{code_of, place_of, Answer, Done, FewBytes, BadVersion, BadLimit}
use Rattle.answers.specs.Order.{◌then◌, unless}
use Rattle.answers.proofs.CodeZero.{not_done}
use Rattle.std.specs.Prelude.{Err}
use Rattle.plan.specs.declared.Header.{Header}
use Rattle.plan.specs.Layout.{head_of, limit_offset, link_offset, limit_at, link_at, records, earlier, plan_of}
use Rattle.plan.specs.File.{laid_out, form_answer, counts_answer, weight_fits, contingent_fits, longest_fits, limit_tests, link_tests, limit_fits, link_fits}
use Rattle.plan.specs.File.{fresh, first_bad, limit_answer, limits_answer, links_answer, file_front, file_answer, add_answer}
use Rattle.plan.specs.Faults.{LimitFault, LinkFault, LimitBlamed, LinksBefore, LinkBlamed, FileBlamed, Places}
use Rattle.plan.proofs.TestsMade.{both, and}
use Rattle.plan.proofs.TestsDecide.{differ, weight_ok, ok_weight, contingent_ok, ok_contingent, ok_longest, limit_ok, limits_ok, link_ok}
use Rattle.plan.proofs.Records.{record_in}
use Rattle.plan.proofs.FileParts.{limits_length, points_is, head_answer, to_limits, front_parts, file_parts}
use Rattle.plan.proofs.PlanCodes.{then_holds, unless_holds, counts_hold}
use Rattle.plan.proofs.SoundFile.{laid_exactly}
use Rattle.plan.proofs.FirstRefusal.{head_counts}

-- ---- one record

-- what a test that failed refutes
refuted : {t : Bool} {P : Type 0} → (P → t ≡ true) → t ≡ false → P → ⊥
refuted h e p = true≢false (sym (h p) ∙ e)

-- a test that cannot have passed failed
not_passed : (t : Bool) → (t ≡ true → ⊥) → t ≡ false
not_passed true h = absurd (h refl)
not_passed false h = refl

limit_fault : (r : Ranges) (n : ℕ) (m : Limit) → limit_fits r n m ≡ false → LimitFault r n m (first_bad (limit_tests r n m))
unfolding limit_fits
limit_fault r n m e = by (ltb m.from n) refl (ltb m.to n) refl (weight_fits r m.weight) refl
  where
    by : (a : Bool) → ltb m.from n ≡ a → (b : Bool) → ltb m.to n ≡ b → (c : Bool) → weight_fits r m.weight ≡ c
        → LimitFault r n m (first_bad (limit_tests r n m))
    by false p b q c s = rw p (LimitFault.bad_from (ltb-false m.from n p))
    by true p false q c s = rw (p, q) (LimitFault.bad_to (ltb-true m.from n p) (ltb-false m.to n q))
    by true p true q false s =
        rw (p, q, s) (LimitFault.bad_weight (ltb-true m.from n p) (ltb-true m.to n q) (refuted (ok_weight r m) s))
    by true p true q true s = absurd (true≢false (sym (and p (and q (and s refl))) ∙ e))

-- and back: a limit with that field at fault is refused for it
fault_limit : (i : ℕ) {r : Ranges} {n : ℕ} {m : Limit} {field : ℕ} → LimitFault r n m field → limit_answer r n i m ≡ BadLimit (limit_offset i + field)
unfolding limit_fits
fault_limit i {r} {n} {m} (LimitFault.bad_from a) = simp (le-ltb m.from n a)
fault_limit i {r} {n} {m} (LimitFault.bad_to a b) = simp (lt-ltb m.from n a, le-ltb m.to n b)
fault_limit i {r} {n} {m} (LimitFault.bad_weight a b c) =
    let bad = not_passed (weight_fits r m.weight) (λ e. c (weight_ok r m e)) in
    simp (lt-ltb m.from n a, lt-ltb m.to n b, bad)

link_fault : (r : Ranges) (n : ℕ) (k : Link) → link_fits r n k ≡ false → LinkFault r n k (first_bad (link_tests r n k))
unfolding link_fits
link_fault r n k e = by (ltb k.act n) refl (contingent_fits n k) refl (leb 1 k.short) refl (longest_fits r k) refl
  where
    by : (a : Bool) → ltb k.act n ≡ a → (b : Bool) → contingent_fits n k ≡ b → (c : Bool) → leb 1 k.short ≡ c → (d : Bool) → longest_fits r k ≡ d
        → LinkFault r n k (first_bad (link_tests r n k))
    by false p b q c s d t = rw p (LinkFault.bad_act (ltb-false k.act n p))
    by true p false q c s d t = rw (p, q) (LinkFault.bad_con (ltb-true k.act n p) (refuted (ok_contingent n k) q))
    by true p true q false s d t =
        let none : k.short ≡ 0 = omega (arith, leb-false 1 k.short s) in
        rw (p, q, s) (LinkFault.bad_short (ltb-true k.act n p) (contingent_ok n k q) none)
    by true p true q true s false t =
        let some : k.short ≢ 0 = λ z. omega (arith, leb-true 1 k.short s) in
        rw (p, q, s, t) (LinkFault.bad_long (ltb-true k.act n p) (contingent_ok n k q) some (refuted (ok_longest r k) t))
    by true p true q true s true t = absurd (true≢false (sym (and p (and q (and s (and t refl)))) ∙ e))

-- ---- records in file order

-- what holds of the records below an index and of that one holds of those below the next
below_next : (P : ℕ → Type 0) (i : ℕ) → ((j : ℕ) → j < i → P j) → P i → (j : ℕ) → j < suc i → P j
below_next P i h p j l = below_more P i h p j (omega arith)

-- the limits from index i on are refused, those before being in range
abbrev LimitsFound : Ranges → ℕ → (ℕ → Limit) → ℕ → ℕ → Type 0
LimitsFound r n f i left =
    ((j : ℕ) → j < i → LimitInRange r n (f j))
    → limits_answer r n i (records f i left) ≢ Done
    → LimitBlamed r n f (i + left) (limits_answer r n i (records f i left))

limits_found : (r : Ranges) (n : ℕ) (f : ℕ → Limit) (i left : ℕ) → LimitsFound r n f i left
limits_found r n f i zero before d = absurd (d refl)
limits_found r n f i (suc left) before d = by (limits_found r n f (suc i) left) (limit_fits r n (f i)) refl
  where
    by : LimitsFound r n f (suc i) left → (t : Bool) → limit_fits r n (f i) ≡ t
        → LimitBlamed r n f (i + suc left) (limits_answer r n i (records f i (suc left)))
    by rest false e = rw e (LimitBlamed.at_limit {i = i} (omega arith) before (limit_fault r n (f i) e))
    by rest true e =
        let more = below_next (λ j. LimitInRange r n (f j)) i before (limit_ok r n (f i) e) in
        let step : suc i + left ≡ i + suc left = omega arith in
        rw (e, ← step) (rest more (λ z. d (rw e z)))

-- a point that is new is no earlier link's, and one that is not is some earlier link's
fresh_apart : (c : ℕ) (f : ℕ → Link) (i : ℕ) → fresh c (earlier f i) ≡ true → (j : ℕ) → j < i → (f j).con ≢ c
fresh_apart c f zero e = below_none _
fresh_apart c f (suc i) e =
    let p = both (not (eqb (f i).con c)) (fresh c (earlier f i)) e in
    below_next (λ j. (f j).con ≢ c) i (fresh_apart c f i p.1) (differ (f i).con c p.0)

record Repeats (c : ℕ) (f : ℕ → Link) (i : ℕ) : Type 0 where
  index : ℕ
  below : index < i
  same : (f index).con ≡ c

fresh_repeats : (c : ℕ) (f : ℕ → Link) (i : ℕ) → fresh c (earlier f i) ≡ false → Repeats c f i
fresh_repeats c f zero e = absurd (true≢false e)
fresh_repeats c f (suc i) e = by (fresh_repeats c f i) (eqb (f i).con c) refl
  where
    by : (fresh c (earlier f i) ≡ false → Repeats c f i) → (t : Bool) → eqb (f i).con c ≡ t → Repeats c f (suc i)
    by rest true q = record { index = i; below = omega arith; same = eqb-true (f i).con c q }
    by rest false q =
        let o = rest (rw q at e) in
        record { index = o.index; below = omega arith; same = o.same }

-- the links from index i on are refused, those before having nothing to refuse
abbrev LinksFound : Ranges → ℕ → ℕ → (ℕ → Link) → ℕ → ℕ → Type 0
LinksFound r n m f i left =
    LinksBefore r n f i
    → links_answer r n m i (earlier f i) (records f i left) ≢ Done
    → LinkBlamed r n m f (i + left) (links_answer r n m i (earlier f i) (records f i left))

links_found : (r : Ranges) (n m : ℕ) (f : ℕ → Link) (i left : ℕ) → LinksFound r n m f i left
links_found r n m f i zero before d = absurd (d refl)
links_found r n m f i (suc left) before d =
    by (links_found r n m f (suc i) left) (link_fits r n (f i)) refl (fresh (f i).con (earlier f i)) refl
  where
    by : LinksFound r n m f (suc i) left → (t : Bool) → link_fits r n (f i) ≡ t → (new : Bool) → fresh (f i).con (earlier f i) ≡ new
        → LinkBlamed r n m f (i + suc left) (links_answer r n m i (earlier f i) (records f i (suc left)))
    by rest false e new q = rw e (LinkBlamed.at_link {i = i} (omega arith) before (link_fault r n (f i) e))
    by rest true e false q =
        let o = fresh_repeats (f i).con f i q in
        rw (e, q) (LinkBlamed.at_repeat {i = i} (omega arith) before (link_ok r n (f i) e) o.below o.same)
    by rest true e true q =
        let more : LinksBefore r n f (suc i) = record {
          in_range = below_next (λ j. LinkInRange r n (f j)) i before.in_range (link_ok r n (f i) e);
          apart =
              λ j h l g. below_next (λ j. (h : ℕ) → h < j → (f h).con ≢ (f j).con) i (λ j l h g. before.apart j h l g)
              (fresh_apart (f i).con f i q) j l h g;
        } in
        let step : suc i + left ≡ i + suc left = omega arith in
        rw (e, q, ← step) (rest more (λ z. d (rw (e, q) z)))

-- ---- a file

-- codes 1 to 5 come before all that
head_code : (size : ℕ) (h : Header) → code_of (head_answer size h) ≤ 5
head_code size h =
    let Low : Answer → Type 0 = λ a. code_of a ≤ 5 in
    let laid = laid_out size h in
    then_holds Low (form_answer size h) (counts_answer version1 h.points h.limits h.links laid)
    (then_holds Low (unless (leb 24 size) FewBytes) (unless (eqb h.version 1) BadVersion)
    (unless_holds Low (leb 24 size) FewBytes (omega arith) (omega arith))
    (unless_holds Low (eqb h.version 1) BadVersion (omega arith) (omega arith)))
    (counts_hold Low (omega arith) (omega arith) (omega arith) (omega arith) version1 h.points h.limits h.links laid)

-- the answer to the links of a file
abbrev to_links : List ℕ → Answer
to_links s = links_answer version1 (head_of s).points (head_of s).limits 0 [] (records (link_at s (head_of s).limits) 0 (head_of s).links)

-- the three parts of a file's answer, one after the other
parts : (s : List ℕ) → file_answer s ≡ ((head_answer (length s) (head_of s) then to_limits s) then to_links s)
unfolding plan_of
parts s = rw (file_parts s, front_parts s, limits_length s)

-- which of the three it is with a code of at least 6, and that those before are Done
file_faults : (s : List ℕ) → 6 ≤ code_of (file_answer s) → (head_answer (length s) (head_of s) ≡ Done) × FileBlamed s (file_answer s)
unfolding plan_of
file_faults s h = by head refl (to_limits s) refl
  where
    head : Answer
    head = head_answer (length s) (head_of s)

    n : ℕ
    n = (head_of s).points

    m : ℕ
    m = (head_of s).limits

    by : (a : Answer) → head ≡ a → (b : Answer) → to_limits s ≡ b → (head ≡ Done) × FileBlamed s (file_answer s)
    by (Err r) e b f =
        let is : file_answer s ≡ head = parts s ∙ simp e in
        absurd (omega (arith, head_code (length s) (head_of s), ap code_of is))
    by Done e (Err r) f =
        let is : file_answer s ≡ to_limits s = parts s ∙ simp (e, f) in
        let refused : to_limits s ≢ Done = λ d. not_done (sym f ∙ d) in
        (e, rw is (FileBlamed.by_limit (rw zero-add at (limits_found version1 n (limit_at s) 0 m (below_none _) refused))))
    by Done e Done f =
        let is : file_answer s ≡ to_links s = parts s ∙ simp (e, f) in
        let refused : to_links s ≢ Done = λ d. omega (arith, ap code_of (is ∙ d)) in
        let none : LinksBefore version1 n (link_at s m) 0 =
        record { in_range = below_none _; apart = λ j h l g. absurd (omega arith) } in
        let ranged : (j : ℕ) → j < m → LimitInRange version1 n (limit_at s j) =
        λ j l. limits_ok version1 n 0 (records (limit_at s) 0 m) f (limit_at s j) (record_in (limit_at s) 0 m j (omega arith) (omega arith)) in
        (e, rw is (FileBlamed.by_link ranged (rw zero-add at (links_found version1 n m (link_at s m) 0 (head_of s).links none refused))))

-- a field at fault lies in its record
limit_inside : {r : Ranges} {n : ℕ} {m : Limit} {field : ℕ} → LimitFault r n m field → field + 4 ≤ 12
limit_inside (LimitFault.bad_from a) = omega arith
limit_inside (LimitFault.bad_to a b) = omega arith
limit_inside (LimitFault.bad_weight a b c) = omega arith

link_inside : {r : Ranges} {n : ℕ} {k : Link} {field : ℕ} → LinkFault r n k field → field + 4 ≤ 16
link_inside (LinkFault.bad_act a) = omega arith
link_inside (LinkFault.bad_con a b) = omega arith
link_inside (LinkFault.bad_short a b c) = omega arith
link_inside (LinkFault.bad_long a b c d) = omega arith

inside : {s : List ℕ} {a : Answer} → length s ≡ link_offset (head_of s).limits (head_of s).links → FileBlamed s a
    → (24 ≤ place_of a) × (place_of a + 4 ≤ length s)
inside e (FileBlamed.by_limit (LimitBlamed.at_limit l before fault)) = let w = limit_inside fault in (omega arith, omega arith)
inside e (FileBlamed.by_link ranged (LinkBlamed.at_link l before fault)) = let w = link_inside fault in (omega arith, omega arith)
inside e (FileBlamed.by_link ranged (LinkBlamed.at_repeat l before right below same)) = (omega arith, omega arith)

add_faults : (s : List ℕ) (added : Limit) {field : ℕ} → file_front s ≡ Done → LimitFault version1 (head_of s).points added field
    → add_answer s added ≡ BadLimit (limit_offset (head_of s).limits + field)
unfolding add_answer
add_faults s added e fault = rw (e, points_is s, fault_limit (head_of s).limits fault)

pub places : Places
places =
    record {
      blamed = λ s h. (file_faults s h).1;
      in_the_file =
          λ s h. let f = file_faults s h in
          let laid = (head_counts (length s) (head_of s) f.0).as_laid in
          inside ((laid_exactly (length s) (head_of s)).0 laid).exact f.1;
      handed_to_add = add_faults;
    }
