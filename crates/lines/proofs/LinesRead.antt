-- Line i of six lists of fields: within the shortest, and past it. Assumes nothing.
use mathlib.Core.Path.{◌≡◌}
use mathlib.Core.List.{List}
use Prim.Native.Nat.{ℕ, zero, ◌≤◌, ◌<◌}
use lib.ListN.{get_or}
use lib.IntN.{ℤ, pos}
use borrow.Author.Tests.{lt-ltb, le-ltb}
use Rattle.lines.specs.declared.Line.{Line}
use Rattle.lines.specs.Reads.{no_line, line_count, listed}

module _ (kinds froms tos : List ℕ) (weights : List ℤ) (firsts seconds : List ℕ) (i : ℕ) where
  pub listed_past : line_count kinds froms tos weights firsts seconds ≤ i → listed kinds froms tos weights firsts seconds i ≡ no_line
  unfolding listed
  listed_past h = rw (le-ltb i (line_count kinds froms tos weights firsts seconds) h)

  pub listed_within : i < line_count kinds froms tos weights firsts seconds
      → ◌≡◌ {A = Line} (record { kind = get_or kinds i 0; from = get_or froms i 0; to = get_or tos i 0; weight = get_or weights i (pos zero); first = get_or firsts i 0; second = get_or seconds i 0 }) (listed kinds froms tos weights firsts seconds i)
  unfolding listed
  listed_within h = rw (lt-ltb i (line_count kinds froms tos weights firsts seconds) h)
