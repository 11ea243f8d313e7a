-- A field and its bytes, a signed number and its bits: writing one and reading it back gives what was there, both ways round.
-- Assumes nothing.
use mathlib.Core.Path.{◌≡◌, refl, sym, ap, ◌∙◌}
use mathlib.Core.List.{List, [], ◌∷◌, flat_map}
use Prim.Native.Nat.{ℕ, ◌+◌, ◌-◌, ◌<◌}
use native.Mathlib.Omega.{arith}
use lib.IntN.{ℤ, pos, negsuc}
use lib.Signed.{mag}
use Rattle.fields.specs.Bytes.{byte_at, word_of, word_at, signed_of, signed_at, AllBytes, word_bytes, bits_of}
use Rattle.std.proofs.lemmas.Int.{ints}
use Rattle.std.proofs.lemmas.Bool.Decides.{nat_tests}

-- ---- bytes

-- a number of 32 bits is what its bytes are read as
pub word_read : (w : ℕ) → w < 4_294_967_296 → word_at (word_bytes w) 0 ≡ w
unfolding word_at word_bytes
word_read w h = omega arith

-- so two of them with the same bytes are one
pub bytes_injective : {v w : ℕ} → v < 4_294_967_296 → w < 4_294_967_296 → word_bytes v ≡ word_bytes w → v ≡ w
bytes_injective {v} {w} h k e = sym (word_read v h) ∙ ap (λ (s : List ℕ). word_at s 0) e ∙ word_read w k

-- four bytes are those of the number that they are read as
pub of_bytes : {a b c d : ℕ} → a < 256 → b < 256 → c < 256 → d < 256 → word_bytes (word_of a b c d) ≡ a ∷ b ∷ c ∷ d ∷ []
unfolding word_bytes
of_bytes {a} {b} {c} {d} h k l m = grind arith

-- the bytes of the field at a position are the four from there on
pub bytes_at : (s : List ℕ) → AllBytes s → (at : ℕ)
    → word_bytes (word_at s at) ≡ byte_at s at ∷ byte_at s (at + 1) ∷ byte_at s (at + 2) ∷ byte_at s (at + 3) ∷ []
unfolding word_at
bytes_at s h at = of_bytes (h at) (h (at + 1)) (h (at + 2)) (h (at + 3))

-- and that field is a number of 32 bits
pub word_fits : (s : List ℕ) → AllBytes s → (at : ℕ) → word_at s at < 4_294_967_296
unfolding word_at
word_fits s h at = omega (arith, h at, h (at + 1), h (at + 2), h (at + 3))

-- the bytes of fields are bytes
pub words_bytes : (ws : List ℕ) → AllBytes (flat_map word_bytes ws)
unfolding flat_map word_bytes
words_bytes [] i = omega arith
words_bytes (w ∷ ws) i = grind (arith, words_bytes ws)

-- ---- bits

-- the bits of a number are 32
pub bits_fit : (z : ℤ) → mag z < 4_294_967_296 → bits_of z < 4_294_967_296
unfolding bits_of
bits_fit (pos n) h = omega arith
bits_fit (negsuc n) h = omega arith

-- and those of a number from -2^31 to 2^31 - 1 are read as it
pub signed_bits : (z : ℤ) → mag z < 2_147_483_648 → signed_of (bits_of z) ≡ z
unfolding signed_of bits_of
signed_bits (pos n) h = grind (arith, ints, nat_tests)
signed_bits (negsuc n) h =
    let e : 4_294_967_295 - (4_294_967_295 - n) ≡ n = omega arith in
    grind (arith, ints, nat_tests)

-- 32 bits are those of the number that they are read as
pub bits_signed : (w : ℕ) → w < 4_294_967_296 → bits_of (signed_of w) ≡ w
unfolding signed_of bits_of
bits_signed w h = grind (arith, ints, nat_tests)

-- the bits of the signed field at a position are the unsigned one there
pub bits_at : (s : List ℕ) → AllBytes s → (at : ℕ) → bits_of (signed_at s at) ≡ word_at s at
unfolding signed_at
bits_at s h at = bits_signed (word_at s at) (word_fits s h at)

-- exact at both ends of the 32 bits, at zero and one below it
corners : List ℤ
corners =
    signed_at (0 ∷ 0 ∷ 0 ∷ 128 ∷ []) 0
    ∷ signed_at (255 ∷ 255 ∷ 255 ∷ 255 ∷ []) 0
    ∷ signed_at (0 ∷ 0 ∷ 0 ∷ 0 ∷ []) 0
    ∷ signed_at (255 ∷ 255 ∷ 255 ∷ 127 ∷ []) 0
    ∷ []

corners_are : corners ≡ negsuc 2_147_483_647 ∷ negsuc 0 ∷ pos 0 ∷ pos 2_147_483_647 ∷ []
unfolding corners signed_at signed_of word_at
corners_are = refl
