-- What the rules come to for links of a fixed length. Assumes nothing.
use mathlib.Core.Path.{◌≡◌, sym}
use mathlib.Core.List.{Memᴰ}
use Prim.Native.Nat.{ℕ, zero, ◌<◌}
use lib.IntN.{ℤ, pos, neg_ℤ, ◌+ℤ◌, ◌-ℤ◌}
use lib.Signed.{◌≤ℤ◌}
use Rattle.whole.proofs.Order.{ints, plus, neg}
use Rattle.whole.proofs.Larger.{larger_left}
use Rattle.rules.specs.Plan.{Link, Plan}
use Rattle.rules.specs.Edges.{Given, longest, Derivable, given, Open, ordinary, lower_case_rule, spread, upper_weight}
use Rattle.rules.specs.Walks.{Walk}
use Rattle.rules.specs.Cells.{Table}
use Rattle.rules.specs.Tables.{Tables}
use Rattle.rules.specs.FixedLength.{Fixed, FixedLength}
use Rattle.rules.proofs.Walks.{single, replaced, exactly}
use Rattle.rules.proofs.Domination.{as_open, least_moves}
use Rattle.rules.proofs.Justified.{least_unique}

spread_zero : (k : Link) → Fixed k → spread k ≡ pos zero
spread_zero k e = omega (ints, plus (pos k.long) (neg_ℤ (pos k.short)), neg (pos k.short), e)

lower_case_given : (p : Plan) (k : Link) → Memᴰ k p.links → Fixed k → Given p k.act k.con (pos k.short)
lower_case_given p k h e = rw e (longest h)

upper_no_less : (k : Link) (v : ℤ) → Fixed k → (v +ℤ neg_ℤ (pos k.short)) ≤ℤ upper_weight k v
upper_no_less k v e = rw e (larger_left (v -ℤ pos k.long) (neg_ℤ (pos k.long)))

module _ (p : Plan) (fixed : (k : Link) → Memᴰ k p.links → Fixed k) where
  -- every edge is an ordinary one
  derivable : (x y : ℕ) (w : ℤ) → Open p x y w → Walk (Derivable p) x y w
  derivable x y w (ordinary d) = single d
  derivable x y w (lower_case_rule {k} h) = single (given (lower_case_given p k h (fixed k h)))

  one_table : (strict weak : Table) → Tables p strict weak → (x y : ℕ) → x < p.points → y < p.points → strict x y ≡ weak x y
  one_table strict weak t x y hx hy =
      least_unique (Open p) x y (strict x y) (weak x y)
      (least_moves (Derivable p) (Open p) x y (strict x y)
      (λ t k. exactly (as_open k)) (λ t k. exactly (replaced derivable k)) (t.strict_least x y hx hy))
      (t.open_least x y hx hy)

pub fixed_length : FixedLength
fixed_length = record {
  lower_asks = λ k r w e l. rw (sym (spread_zero r e)) l.below;
  lower_takes = λ k r w e other below. record { other = other; below = rw (spread_zero r e) below };
  lower_case_given = lower_case_given;
  upper_no_less = upper_no_less;
  one_table = λ p strict weak fixed t. one_table p fixed strict weak t;
}
