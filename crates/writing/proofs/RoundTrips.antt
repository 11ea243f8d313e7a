-- The round trips: reading what was written gives the same plan, writing what was read gives the same bytes, lists hold every plan, and a plan
-- file is exactly the bytes of a plan in range. Assumes nothing.
use mathlib.Core.Path.{◌≡◌, refl, sym, ap, ◌∙◌, fun_ext}
use mathlib.Core.Bool.{true}
use mathlib.Core.List.{List, ◌++◌, map}
use Prim.Native.Nat.{ℕ, ◌≤◌}
use lib.Dec.{leb, eqb}
use lib.ListN.{length, get_or, take, drop, length-map, get_or-map}
use lib.Seq.{take_at}
use lib.IntN.{pos}
use borrow.Author.Tests.{le-leb, eq-eqb}
use Rattle.rules.specs.Plan.{Limit, Link, Plan, version1, InRange}
use Rattle.rules.specs.Answers.{Answer, Done, ShortRoom}
use Rattle.answers.specs.Order.{◌then◌, unless}
use Rattle.answers.proofs.CodeZero.{then_done, done_then, done_unless}
use Rattle.fields.specs.Bytes.{AllBytes}
use Rattle.plan.specs.Layout.{records, plan_of, FitsFields}
use Rattle.plan.specs.File.{plan_answer, file_answer, PlanFile}
use Rattle.plan.proofs.TestsMade.{and}
use Rattle.plan.proofs.SoundFile.{sound_exactly}
use Rattle.plan.proofs.Stretches.{stretch_all}
use Rattle.plan.proofs.BytesOfPlans.{bytes_bytes, version1_narrow, range_fits, bytes_read, bytes_answer, bytes_plan_file, bytes_sound, read_bytes}
use Rattle.writing.specs.PlanLists.{Lists, limit_in, link_in, listed_plan, even_lists, Hold, lists_of}
use Rattle.writing.specs.Wrote.{file_of, write_answer, Wrote}
use Rattle.writing.specs.RoundTrips.{Reads, size_of, RoundTrips}
use Rattle.plan.proofs.PlanExactly.{plan_exactly}
use Rattle.writing.proofs.WriteAnswers.{file_size}

-- ---- lists of a plan

-- two fields of the same records have lists of one length
even_fields : {A B C : Type 0} (f : A → B) (g : A → C) (l : List A) → eqb (length (map f l)) (length (map g l)) ≡ true
even_fields f g l = eq-eqb (length (map f l)) (length (map g l)) (length-map l f ∙ sym (length-map l g))

-- the lists of a plan hold its limits and its links
limits_listed : (p : Plan) → (listed_plan (lists_of p)).limits ≡ p.limits
unfolding limit_in listed_plan lists_of
limits_listed p =
    let l = lists_of p in
    let ms = p.limits in
    let none : Limit = record { from = 0; to = 0; weight = pos 0 } in
    let each : (j : ℕ) → limit_in l.from l.to l.weight j ≡ get_or ms j none =
    λ j. rw (
      get_or-map (λ (m : Limit). m.from) ms j none,
      get_or-map (λ (m : Limit). m.to) ms j none,
      get_or-map (λ (m : Limit). m.weight) ms j none,
    ) in
    rw (length-map ms (λ (m : Limit). m.from)) (ap (λ (f : ℕ → Limit). records f 0 (length ms)) (fun_ext each) ∙ stretch_all none ms)

links_listed : (p : Plan) → (listed_plan (lists_of p)).links ≡ p.links
unfolding link_in listed_plan lists_of
links_listed p =
    let l = lists_of p in
    let ks = p.links in
    let none : Link = record { act = 0; con = 0; short = 0; long = 0 } in
    let each : (j : ℕ) → link_in l.act l.con l.short l.long j ≡ get_or ks j none =
    λ j. rw (
      get_or-map (λ (k : Link). k.act) ks j none,
      get_or-map (λ (k : Link). k.con) ks j none,
      get_or-map (λ (k : Link). k.short) ks j none,
      get_or-map (λ (k : Link). k.long) ks j none,
    ) in
    rw (length-map ks (λ (k : Link). k.act)) (ap (λ (f : ℕ → Link). records f 0 (length ks)) (fun_ext each) ∙ stretch_all none ks)

lists_hold : (p : Plan) → Hold (lists_of p) p
unfolding listed_plan lists_of
lists_hold p =
    let ms = p.limits in
    let ks = p.links in
    let limits = and (even_fields (λ (m : Limit). m.to) (λ m. m.from) ms) (even_fields (λ (m : Limit). m.weight) (λ m. m.from) ms) in
    let con = and limits (even_fields (λ (k : Link). k.con) (λ k. k.act) ks) in
    let short = and con (even_fields (λ (k : Link). k.short) (λ k. k.act) ks) in
    record {
      even = and short (even_fields (λ (k : Link). k.long) (λ k. k.act) ks);
      plan = rw (limits_listed p, links_listed p);
    }

-- ---- what is written

-- with 0 the lists are even and their plan is in range; and with those and room in the buffer it is 0
written_ranges : (l : Lists) (room : ℕ) → write_answer l room ≡ Done → (even_lists l ≡ true) × InRange version1 (listed_plan l)
unfolding write_answer
written_ranges l room e =
    let laid = plan_answer version1 (even_lists l) (listed_plan l) in
    (plan_exactly version1 (even_lists l) (listed_plan l)).0 (then_done laid (unless (leb (length (file_of l)) room) ShortRoom) e).0

ranges_written : (l : Lists) (room : ℕ) → even_lists l ≡ true → InRange version1 (listed_plan l) → length (file_of l) ≤ room → write_answer l room ≡ Done
unfolding write_answer
ranges_written l room e g h =
    let fits = leb (length (file_of l)) room in
    done_then (plan_answer version1 (even_lists l) (listed_plan l)) (unless fits ShortRoom)
    ((plan_exactly version1 (even_lists l) (listed_plan l)).1 (e, g)) (done_unless fits ShortRoom (le-leb (length (file_of l)) room h))

-- "It refuses what the reader refuses, with the same codes"
read_refused : (l : Lists) (room : ℕ) → FitsFields (listed_plan l) → even_lists l ≡ true
    → write_answer l room ≡ (file_answer (file_of l) then unless (leb (length (file_of l)) room) ShortRoom)
unfolding write_answer
read_refused l room fit e = rw (bytes_answer (listed_plan l) fit, e)

-- "Reading what was written gives the same plan"
written_read : (l : Lists) (before after : List ℕ) → Wrote l before Done after → Reads (take (size_of l) after) (listed_plan l)
written_read l before after w =
    let p = listed_plan l in
    let g : InRange version1 p = (written_ranges l (length before) (sym w.answer)).1 in
    rw (w.written refl, take_at (file_of l) (drop (length (file_of l)) before) (size_of l) (file_size l))
    (record { sound = bytes_sound p g; plan = bytes_read p (range_fits version1 version1_narrow p g) })

-- "writing what was read gives the same bytes"
read_written : (s : List ℕ) → AllBytes s → file_answer s ≡ Done → (l : Lists) → Hold l (plan_of s)
    → (before : List ℕ) (a : Answer) (after : List ℕ) → length s ≤ length before → Wrote l before a after
    → (a ≡ Done) × (after ≡ s ++ drop (length s) before)
read_written s b e l h before a after room w =
    let f : PlanFile s = (sound_exactly s).0 e in
    let same : file_of l ≡ s = rw h.plan (read_bytes s b f) in
    let done : a ≡ Done = w.answer ∙ ranges_written l (length before) h.even (rw h.plan f.ranges) (rw same room) in
    (done, rw same at (w.written done))

pub round_trips : RoundTrips
round_trips =
    record {
      refuses_what_the_reader_refuses = read_refused;
      reading_what_was_written = written_read;
      writing_what_was_read = read_written;
      lists_of_a_plan = lists_hold;
      plan_files_exactly = λ s. (
        λ (b, f). record { plan = plan_of s; ranges = f.ranges; bytes = sym (read_bytes s b f) },
        λ o. rw o.bytes (bytes_bytes o.plan, bytes_plan_file o.plan o.ranges),
      );
    }
