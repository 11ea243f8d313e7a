-- Document 01, "Plan file": "All fields are 32-bit, little-endian." A field of a list of bytes, at any position, and the bytes of a field.
-- Assumes nothing.
use Rattle.std.specs.Prelude.{cond, List, [], ◌∷◌, ℕ, ◌+◌, ◌*◌, ◌-◌, ◌/◌, ◌%◌, ◌<◌, ltb, get_or, ℤ, pos, negsuc, neg_ℤ}

-- the byte at a position; past the end it counts as 0
abbrev pub byte_at : List ℕ → ℕ → ℕ
byte_at s at = get_or s at 0

-- the unsigned number of four bytes, the lowest first
abbrev pub word_of : ℕ → ℕ → ℕ → ℕ → ℕ
word_of a b c d = a + 256 * b + 65_536 * c + 16_777_216 * d

-- the unsigned field at a position
unfoldable pub word_at : List ℕ → ℕ → ℕ
word_at s at = word_of (byte_at s at) (byte_at s (at + 1)) (byte_at s (at + 2)) (byte_at s (at + 3))

-- the signed number that 32 bits stand for: below 2^31 itself, else it less 2^32
unfoldable pub signed_of : ℕ → ℤ
signed_of w = cond (ltb w 2_147_483_648) (pos w) (neg_ℤ (pos (4_294_967_296 - w)))

-- the signed field at a position
unfoldable pub signed_at : List ℕ → ℕ → ℤ
signed_at s at = signed_of (word_at s at)

-- every number of a list is a byte
abbrev pub AllBytes : List ℕ → Type 0
AllBytes s = (i : ℕ) → byte_at s i < 256

-- the four bytes of an unsigned number, the lowest first
unfoldable pub word_bytes : ℕ → List ℕ
word_bytes w = w % 256 ∷ w / 256 % 256 ∷ w / 65_536 % 256 ∷ w / 16_777_216 % 256 ∷ []

-- the 32 bits that stand for a signed number: from 0 on itself, else it and 2^32
unfoldable pub bits_of : ℤ → ℕ
bits_of (pos n) = n
bits_of (negsuc n) = 4_294_967_295 - n
