-- Document 01, "Plan file": where the header's fields and the records lie, the plan that the bytes hold, and the bytes of a plan.
-- Assumes nothing.
use mathlib.Core.List.{List, [], ◌∷◌, ◌++◌, flat_map, Memᴰ}
use Rattle.std.specs.Prelude.{ℕ, zero, suc, ◌+◌, ◌*◌, ◌<◌, length}
use Rattle.std.specs.Int.Signed.{mag}
use Rattle.rules.specs.Plan.{Limit, Link, Plan}
use Rattle.plan.specs.declared.Header.{Header}
use Rattle.fields.specs.Bytes.{word_at, signed_at, word_bytes, bits_of}

-- "The header holds counts and offsets, 24 bytes: version (1), points n, limits m, links k, offset of the limits, offset of the links."
unfoldable pub head_of : List ℕ → Header
head_of s =
    record {
      version = word_at s 0;
      points = word_at s 4;
      limits = word_at s 8;
      links = word_at s 12;
      limits_at = word_at s 16;
      links_at = word_at s 20;
    }

-- "Limits follow at 24, twelve bytes each": where limit i begins
abbrev pub limit_offset : ℕ → ℕ
limit_offset i = 24 + 12 * i

-- "Links follow at 24 + 12m, sixteen bytes each": where link i begins, after m limits
abbrev pub link_offset : ℕ → ℕ → ℕ
link_offset m i = 24 + 12 * m + 16 * i

-- "from X, to Y, signed weight w": the limit at index i
unfoldable pub limit_at : List ℕ → ℕ → Limit
limit_at s i =
    record {
      from = word_at s (limit_offset i);
      to = word_at s (limit_offset i + 4);
      weight = signed_at s (limit_offset i + 8);
    }

-- "activation A, contingent point C, shortest l, longest u, all unsigned": the link at index i, after m limits
unfoldable pub link_at : List ℕ → ℕ → ℕ → Link
link_at s m i =
    record {
      act = word_at s (link_offset m i);
      con = word_at s (link_offset m i + 4);
      short = word_at s (link_offset m i + 8);
      long = word_at s (link_offset m i + 12);
    }

-- as many records as `left`, in their order, from index i on
abbrev pub records : {A : Type 0} → (ℕ → A) → ℕ → ℕ → List A
records f i zero = []
records f i (suc left) = f i ∷ records f (suc i) left

-- the records before index i, the last first
abbrev pub earlier : {A : Type 0} → (ℕ → A) → ℕ → List A
earlier f zero = []
earlier f (suc i) = f i ∷ earlier f i

-- the plan that the bytes hold: its points, its m limits and its k links
unfoldable pub plan_of : List ℕ → Plan
plan_of s =
    record {
      points = (head_of s).points;
      limits = records (limit_at s) 0 (head_of s).limits;
      links = records (link_at s (head_of s).limits) 0 (head_of s).links;
    }

-- "version (1), points n, limits m, links k, offset of the limits, offset of the links"
abbrev pub head_fields : ℕ → ℕ → ℕ → List ℕ
head_fields n m k = 1 ∷ n ∷ m ∷ k ∷ limit_offset 0 ∷ limit_offset m ∷ []

-- "from X, to Y, signed weight w"
abbrev pub limit_fields : Limit → List ℕ
limit_fields m = m.from ∷ m.to ∷ bits_of m.weight ∷ []

-- "activation A, contingent point C, shortest l, longest u"
abbrev pub link_fields : Link → List ℕ
link_fields k = k.act ∷ k.con ∷ k.short ∷ k.long ∷ []

-- "The file's fields in order" of a plan: "header, limits and links in the order given" (document 02, item 1)
unfoldable pub plan_fields : Plan → List ℕ
plan_fields p =
    head_fields p.points (length p.limits) (length p.links)
    ++ flat_map limit_fields p.limits
    ++ flat_map link_fields p.links

-- the bytes of a plan: "All fields are 32-bit, little-endian."
unfoldable pub plan_bytes : Plan → List ℕ
plan_bytes p = flat_map word_bytes (plan_fields p)

-- "All fields are 32-bit": a plan whose numbers fit into them, with a sign for a weight
pub record FitsFields (p : Plan) : Type 0 where
  pub points : p.points < 4_294_967_296
  -- the header holds the offset of the links, and so the number of limits
  pub limits : limit_offset (length p.limits) < 4_294_967_296
  pub links : length p.links < 4_294_967_296
  pub limit : (m : Limit) → Memᴰ m p.limits → (m.from < 4_294_967_296) × (m.to < 4_294_967_296) × (mag m.weight < 2_147_483_648)
  pub link : (k : Link) → Memᴰ k p.links
      → (k.act < 4_294_967_296) × (k.con < 4_294_967_296) × (k.short < 4_294_967_296) × (k.long < 4_294_967_296)
