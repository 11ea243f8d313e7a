-- What the tests before a call let through. Assumes nothing.
use mathlib.Core.Path.{◌≡◌}
use Prim.Native.Nat.{ℕ}
use native.Mathlib.Omega.{arith}
use Rattle.std.proofs.lemmas.Bool.Decides.{nat_tests}
use Rattle.rules.specs.Answers.{Done}
use Rattle.rules.specs.Plan.{version1}
use Rattle.words.specs.Calls.{room_answer, asked_answer, Room, Asked}

module _ {n x y words : ℕ} where
  pub asked_done : asked_answer n x y words ≡ Done → Asked n x y words
  unfolding asked_answer version1
  asked_done e = record {
    some = grind (arith, nat_tests);
    few = grind (arith, nat_tests);
    first = grind (arith, nat_tests);
    second = grind (arith, nat_tests);
    room = grind (arith, nat_tests);
  }

  pub done_asked : Asked n x y words → asked_answer n x y words ≡ Done
  unfolding asked_answer version1
  done_asked a = grind (arith, nat_tests)

module _ {n cells words : ℕ} where
  pub room_done : room_answer n cells words ≡ Done → Room n cells words
  unfolding room_answer version1
  room_done e = record {
    some = grind (arith, nat_tests);
    few = grind (arith, nat_tests);
    table = grind (arith, nat_tests);
    room = grind (arith, nat_tests);
  }

  pub done_room : Room n cells words → room_answer n cells words ≡ Done
  unfolding room_answer version1
  done_room r = grind (arith, nat_tests)
