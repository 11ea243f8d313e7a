-- The paper's numbers of the kinds of lines. Assumes nothing.
use Rattle.std.specs.Prelude.{ℕ}
use Rattle.rules.specs.declared.Side.{Side}
use Rattle.rules.specs.declared.Side.TheVariants.{Strict, Open}
use Rattle.offers.specs.declared.kinds.Kind.{Kind}
use Rattle.offers.specs.declared.kinds.Kind.TheVariants.{Start, Limit, Longest, Shortest, LowerCase, Join, Lower, Upper, OpenJoin}

abbrev pub kind_number : Kind → ℕ
kind_number Start = 1
kind_number Limit = 2
kind_number Longest = 3
kind_number Shortest = 4
kind_number LowerCase = 5
kind_number Join = 6
kind_number Lower = 7
kind_number Upper = 8
kind_number OpenJoin = 9

-- of joins of a side's bests
abbrev pub join_number : Side → ℕ
join_number Strict = 6
join_number Open = 9
