-- What one more read put behind what was read is what the input gave after it.
use Rattle.std.proofs.Common.{◌≡◌, ℕ, ◌+◌, ◌≤◌, List, ◌++◌, rules, refl, sym, subst, length, take, length-take-le}
use Rattle.std.proofs.Math.Seq.{take-append-add}
use Rattle.std.proofs.lemmas.List.{take-append-le}
use Rattle.std.specs.Io.KnownBytes.{Consumes}
use Rattle.std.proofs.KnownBytes.{Consumes-trans}
use Rattle.console.proofs.read_full.Goals as goal

-- a front, and the beginning of the part behind it
grown : (a n : ℕ) (front part rest : List ℕ) → length front ≡ a → n ≤ length part → take (a + n) (front ++ (part ++ rest)) ≡ front ++ take n part
grown a n front part rest long fits = rw (← long, take-append-add, take-append-le) refl

pub loop-done-preserved : goal.loop-done-preserved
loop-done-preserved g c =
    let from = c.loop-done.done in
    let read = c.in_ok-got.ensures in
    let more = grown from c.in_ok-got.got (take from c.loop-done.bytes) c.read.new.buf _ (length-take-le _ _ c.loop-done.invariant.1) read.bound.0 in
    (search rules, search rules, search rules, subst (Consumes _ _) (sym more) (Consumes-trans _ _ _ _ _ c.loop-done.invariant.3 read.bytes.0))
