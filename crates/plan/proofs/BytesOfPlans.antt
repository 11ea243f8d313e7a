-- A plan's bytes: how many they are, that reading them gives the plan back, and that no other file holds the plan.
-- A file's bytes make its fields, and its fields the header, the limits and the links: each time records that lie one after another.
-- Assumes nothing.
use mathlib.Core.Path.{◌≡◌, refl, sym, ap, ◌∙◌}
use mathlib.Core.Logic.{⊎_elim}
use mathlib.Core.Bool.{true}
use mathlib.Core.List.Memᴰ
use mathlib.Core.List.{List, [], ◌∷◌, ◌++◌, flat_map, Memᴰ}
use Prim.Native.Nat.{ℕ, zero, suc, ◌+◌, ◌*◌, ◌≤◌, ◌<◌}
use native.Mathlib.Nat.{zero-add}
use native.Mathlib.Numerals.{towards_suc}
use native.Mathlib.Omega.{arith}
use lib.Dec.{leb→le}
use lib.ListN.{length, get_or, length-append}
use lib.IntN.{ℤ, pos, negsuc, neg_ℤ}
use lib.Signed.{mag, ◌≤ℤ◌}
use Rattle.fields.specs.Bytes.{byte_at, word_at, signed_of, signed_at, AllBytes, word_bytes, bits_of}
use Rattle.fields.proofs.FieldBytes.{bytes_injective, bytes_at, word_fits, words_bytes, bits_fit, signed_bits, bits_at}
use Rattle.rules.specs.Plan.{Limit, Link, Plan, Ranges, version1, InRange}
use Rattle.rules.specs.Answers.{Done}
use Rattle.plan.specs.declared.Header.{Header}
use Rattle.plan.specs.Layout.{head_of, limit_offset, link_offset, limit_at, link_at, records, plan_of}
use Rattle.plan.specs.Layout.{head_fields, limit_fields, link_fields, plan_fields, plan_bytes, FitsFields}
use Rattle.plan.specs.File.{laid_out, form_answer, plan_answer, PlanFile, file_answer}
use Rattle.plan.proofs.Records.{records_length}
use Rattle.plan.proofs.Stretches.{three_parts, stretch_join, stretch_all, flat_length, flat_records, flat_read}
use Rattle.plan.proofs.PlanExactly.{plan_exactly}
use Rattle.plan.proofs.SoundFile.{form_exactly, laid_exactly, sound_exactly}

-- ---- how many bytes

-- the fields of a plan's header
abbrev head_part : Plan → List ℕ
head_part p = head_fields p.points (length p.limits) (length p.links)

fields_length : (p : Plan) → length (plan_fields p) ≡ 6 + 3 * length p.limits + 4 * length p.links
unfolding plan_fields
fields_length p =
    rw (length-append, length-append)
    (omega (arith, flat_length limit_fields 3 (λ m. refl) p.limits, flat_length link_fields 4 (λ k. refl) p.links))

pub words_length : (ws : List ℕ) → length (flat_map word_bytes ws) ≡ 4 * length ws
unfolding word_bytes
words_length ws = flat_length word_bytes 4 (λ w. refl) ws

-- "The file is exactly 24 + 12m + 16k bytes."
pub bytes_size : (p : Plan) → length (plan_bytes p) ≡ link_offset (length p.limits) (length p.links)
unfolding plan_bytes
bytes_size p = omega (arith, words_length (plan_fields p), fields_length p)

pub bytes_bytes : (p : Plan) → AllBytes (plan_bytes p)
unfolding plan_bytes
bytes_bytes p = words_bytes (plan_fields p)

-- ---- a file's fields, and where its parts lie among them

-- field j of a file
abbrev word : List ℕ → ℕ → ℕ
word s j = word_at s (4 * j)

module _ (s : List ℕ) (bytes : AllBytes s) where
  word_part : (j : ℕ) → word_bytes (word s j) ≡ records (byte_at s) (0 + 4 * j) 4
  word_part j = rw (zero-add (4 * j)) (simp towards_suc at (bytes_at s bytes (4 * j)))

  limit_part : (i : ℕ) → limit_fields (limit_at s i) ≡ records (word s) (6 + 3 * i) 3
  unfolding limit_at
  limit_part i =
      let at = 6 + 3 * i in
      let a : 4 * at ≡ limit_offset i = omega arith in
      let b : 4 * suc at ≡ limit_offset i + 4 = omega arith in
      let c : 4 * suc (suc at) ≡ limit_offset i + 8 = omega arith in
      rw (a, b, c, bits_at s bytes (limit_offset i + 8))

  -- the bits of its weight are read as the weight
  limit_bits : (i : ℕ) → signed_of (bits_of (limit_at s i).weight) ≡ (limit_at s i).weight
  unfolding limit_at signed_at
  limit_bits i = ap signed_of (bits_at s bytes (limit_offset i + 8))

  link_part : (m i : ℕ) → link_fields (link_at s m i) ≡ records (word s) (6 + 3 * m + 4 * i) 4
  unfolding link_at
  link_part m i =
      let at = 6 + 3 * m + 4 * i in
      let a : 4 * at ≡ link_offset m i = omega arith in
      let b : 4 * suc at ≡ link_offset m i + 4 = omega arith in
      let c : 4 * suc (suc at) ≡ link_offset m i + 8 = omega arith in
      let d : 4 * suc (suc (suc at)) ≡ link_offset m i + 12 = omega arith in
      rw (a, b, c, d)

-- header, limits and links follow one another
in_order : (w : ℕ → ℕ) (m k : ℕ)
    → records w 0 6 ++ records w (6 + 3 * 0) (3 * m) ++ records w (6 + 3 * m + 4 * 0) (4 * k) ≡ records w 0 (6 + 3 * m + 4 * k)
in_order w m k =
    let e : 6 + 3 * m + 4 * 0 ≡ 0 + (6 + 3 * m) = omega arith in
    rw e (ap (λ (l : List ℕ). l ++ records w (0 + (6 + 3 * m)) (4 * k)) (stretch_join w 0 6 (3 * m)) ∙ stretch_join w 0 (6 + 3 * m) (4 * k))

-- a header, a limit and a link are known by their fields; a limit's weight must be one that its bits are read as
abbrev header_of : List ℕ → Header
header_of l =
    record {
      version = get_or l 0 0;
      points = get_or l 1 0;
      limits = get_or l 2 0;
      links = get_or l 3 0;
      limits_at = get_or l 4 0;
      links_at = get_or l 5 0;
    }

limit_known : (a b : Limit) → signed_of (bits_of a.weight) ≡ a.weight → signed_of (bits_of b.weight) ≡ b.weight
    → limit_fields a ≡ limit_fields b → a ≡ b
limit_known a b p q e = rw (p, q) at (ap limit_of e)
  where
    limit_of : List ℕ → Limit
    limit_of l = record { from = get_or l 0 0; to = get_or l 1 0; weight = signed_of (get_or l 2 0) }

link_known : (a b : Link) → link_fields a ≡ link_fields b → a ≡ b
link_known a b e = ap link_of e
  where
    link_of : List ℕ → Link
    link_of l = record { act = get_or l 0 0; con = get_or l 1 0; short = get_or l 2 0; long = get_or l 3 0 }

-- ---- numbers that fit into fields

-- ranges whose numbers do
pub record Narrow (r : Ranges) : Type 0 where
  pub points : r.points < 4_294_967_296
  pub limits : limit_offset r.limits < 4_294_967_296
  pub links : r.links < 4_294_967_296
  pub weight : r.weight < 2_147_483_648

pub version1_narrow : Narrow version1
unfolding version1
version1_narrow = omega arith

-- a weight is at most as far from zero as the ranges say
weight_within : (w : ℕ) (z : ℤ) → neg_ℤ (pos w) ≤ℤ z → z ≤ℤ pos w → mag z ≤ w
weight_within w (pos n) l h = leb→le n w h.le
weight_within zero (negsuc n) l h = absurd l.le
weight_within (suc w) (negsuc n) l h = omega (arith, leb→le n w l.le)

pub range_fits : (r : Ranges) → Narrow r → (p : Plan) → InRange r p → FitsFields p
range_fits r narrow p h =
    record {
      points = omega arith;
      limits = omega arith;
      links = omega arith;
      limit = λ m i. omega (arith, h.limit m i, weight_within r.weight m.weight (h.limit m i).least (h.limit m i).most);
      link = λ k i. omega (arith, h.link k i);
    }

-- every number of a list fits
abbrev Words : List ℕ → Type 0
Words [] = Unit {0}
Words (w ∷ ws) = (w < 4_294_967_296) × Words ws

words_in : (ws : List ℕ) → Words ws → (w : ℕ) → Memᴰ w ws → w < 4_294_967_296
words_in [] h w m = absurd (Memᴰ.not-nil m)
words_in (v ∷ ws) h w m = ⊎_elim (λ (e : w ≡ v). omega arith) (λ n. words_in ws h.1 w n) (Memᴰ.cases_cons m)

words_append : (a b : List ℕ) → Words a → Words b → Words (a ++ b)
words_append [] b h k = k
words_append (w ∷ a) b h k = (h.0, words_append a b h.1 k)

words_flat : {A : Type 0} (f : A → List ℕ) (xs : List A) → ((x : A) → Memᴰ x xs → Words (f x)) → Words (flat_map f xs)
unfolding flat_map
words_flat f [] h = tt
words_flat f (x ∷ xs) h =
    words_append (f x) (flat_map f xs) (h x (Memᴰ.head refl)) (words_flat f xs (λ y m. h y (Memᴰ.tail m)))

-- and then the fields of the list's bytes are the list
words_read : (ws : List ℕ) → Words ws → records (word (flat_map word_bytes ws)) 0 (length ws) ≡ ws
unfolding word_bytes
words_read ws fit =
    let s = flat_map word_bytes ws in
    let bytes = words_bytes ws in
    flat_read word_bytes 4 (word s) (byte_at s) 0 (word_part s bytes) (λ w. refl) ws
    (λ w m j e. bytes_injective (word_fits s bytes (4 * j)) (words_in ws fit w m) e)
    0
    (rw (← words_length ws) (sym (stretch_all 0 s)))

-- ---- a plan's bytes are read as the plan

module _ (p : Plan) (fit : FitsFields p) where
  plan_words : Words (plan_fields p)
  unfolding plan_fields
  plan_words =
      words_append (head_part p ++ flat_map limit_fields p.limits) (flat_map link_fields p.links)
      (words_append (head_part p) (flat_map limit_fields p.limits) (omega arith)
      (words_flat limit_fields p.limits (λ m i. omega (arith, fit.limit m i, bits_fit m.weight (omega (arith, (fit.limit m i).2))))))
      (words_flat link_fields p.links (λ k i. omega (arith, fit.link k i)))

  -- header, limits and links lie where they are read
  plan_parts : (head_part p ≡ records (word (plan_bytes p)) 0 6)
      × (flat_map limit_fields p.limits ≡ records (word (plan_bytes p)) (6 + 3 * 0) (3 * length p.limits))
      × (flat_map link_fields p.links ≡ records (word (plan_bytes p)) (6 + 3 * length p.limits + 4 * 0) (4 * length p.links))
  unfolding plan_bytes plan_fields
  plan_parts =
      let m = length p.limits in
      let k = length p.links in
      let w = word (plan_bytes p) in
      three_parts (head_part p) (flat_map limit_fields p.limits) (flat_map link_fields p.links)
      (records w 0 6) (records w (6 + 3 * 0) (3 * m)) (records w (6 + 3 * m + 4 * 0) (4 * k))
      refl
      (flat_length limit_fields 3 (λ x. refl) p.limits ∙ sym (records_length w (6 + 3 * 0) (3 * m)))
      (sym (words_read (plan_fields p) plan_words) ∙ ap (records w 0) (fields_length p) ∙ sym (in_order w m k))

  bytes_head : head_of (plan_bytes p) ≡ header_of (head_part p)
  unfolding head_of
  bytes_head = ap header_of (sym plan_parts.0)

  limits_read : records (limit_at (plan_bytes p)) 0 (length p.limits) ≡ p.limits
  limits_read =
      let s = plan_bytes p in
      flat_read limit_fields 3 (limit_at s) (word s) 6 (limit_part s (bytes_bytes p)) (λ x. refl) p.limits
      (λ x i j e. limit_known (limit_at s j) x (limit_bits s (bytes_bytes p) j) (signed_bits x.weight (fit.limit x i).2) e)
      0
      plan_parts.1

  links_read : records (link_at (plan_bytes p) (length p.limits)) 0 (length p.links) ≡ p.links
  links_read =
      let s = plan_bytes p in
      let m = length p.limits in
      flat_read link_fields 4 (link_at s m) (word s) (6 + 3 * m) (link_part s (bytes_bytes p) m) (λ x. refl) p.links
      (λ x i j e. link_known (link_at s m j) x e)
      0
      plan_parts.2

-- reading a plan's bytes gives the plan
pub bytes_read : (p : Plan) → FitsFields p → plan_of (plan_bytes p) ≡ p
unfolding plan_of
bytes_read p fit = rw (bytes_head p fit, limits_read p fit, links_read p fit)

-- and what is answered to them is codes 3 to 8 of the plan
pub bytes_answer : (p : Plan) → FitsFields p → file_answer (plan_bytes p) ≡ plan_answer version1 true p
unfolding file_answer
bytes_answer p fit =
    let s = plan_bytes p in
    let h = head_of s in
    let e = bytes_head p fit in
    let room : 24 ≤ length s = omega (arith, bytes_size p) in
    let form : form_answer (length s) h ≡ Done = (form_exactly (length s) h).1 (room, rw e) in
    let laid : laid_out (length s) h ≡ true =
    (laid_exactly (length s) h).1 (record { limits_at = rw e; links_at = rw e; exact = rw e (bytes_size p) }) in
    rw (form, laid, bytes_read p fit)

-- a plan in range has a plan file's bytes
pub bytes_sound : (p : Plan) → InRange version1 p → file_answer (plan_bytes p) ≡ Done
bytes_sound p h = bytes_answer p (range_fits version1 version1_narrow p h) ∙ (plan_exactly version1 true p).1 (refl, h)

pub bytes_plan_file : (p : Plan) → InRange version1 p → PlanFile (plan_bytes p)
bytes_plan_file p h = (sound_exactly (plan_bytes p)).0 (bytes_sound p h)

-- ---- a plan file is the bytes of its plan

module _ (s : List ℕ) (bytes : AllBytes s) (f : PlanFile s) where
  file_head : head_fields (head_of s).points (head_of s).limits (head_of s).links ≡ records (word s) 0 6
  unfolding head_of
  file_head = rw (f.version, f.limits_at, f.links_at)

  file_fields : plan_fields (plan_of s) ≡ records (word s) 0 (6 + 3 * (head_of s).limits + 4 * (head_of s).links)
  unfolding plan_fields plan_of
  file_fields =
      let m = (head_of s).limits in
      let k = (head_of s).links in
      let w = word s in
      let limits = flat_records limit_fields 3 (limit_at s) w 6 (limit_part s bytes) 0 m in
      let links = flat_records link_fields 4 (link_at s m) w (6 + 3 * m) (link_part s bytes m) 0 k in
      rw (records_length (limit_at s) 0 m, records_length (link_at s m) 0 k, limits, links)
      (ap (λ (l : List ℕ). l ++ records w 6 (3 * m) ++ records w (6 + 3 * m + 4 * 0) (4 * k)) file_head ∙ in_order w m k)

-- the bytes of the plan that a plan file holds are the file
pub read_bytes : (s : List ℕ) → AllBytes s → PlanFile s → plan_bytes (plan_of s) ≡ s
unfolding plan_bytes
read_bytes s bytes f =
    let q = 6 + 3 * (head_of s).limits + 4 * (head_of s).links in
    let size : 4 * q ≡ length s = omega (arith, f.size) in
    rw (file_fields s bytes f, flat_records word_bytes 4 (word s) (byte_at s) 0 (word_part s bytes) 0 q, size) (stretch_all 0 s)
