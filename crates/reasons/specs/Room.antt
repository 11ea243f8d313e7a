-- For how many lines six lists have room. Assumes nothing.
use Rattle.std.specs.Prelude.{ℕ, ◌≤◌, length}
use Rattle.std.specs.Coded.{le_prop}
use Rattle.chain.specs.Call.{Lists}

-- so many lines fit into each of the six
pub record Roomy (room : ℕ) (t : Lists) : Type 0 where
  pub place : room ≤ 4_294_967_295
  pub kinds : room ≤ length t.kinds
  pub froms : room ≤ length t.froms
  pub tos : room ≤ length t.tos
  pub weights : room ≤ length t.weights
  pub firsts : room ≤ length t.firsts
  pub seconds : room ≤ length t.seconds

-- in one way only, as a ghost field needs it
pub Roomy-prop : (room : ℕ) (t : Lists) → IsProp (Roomy room t)
Roomy-prop room t a b =
    λ i. record {
      place = le_prop a.place b.place i;
      kinds = le_prop a.kinds b.kinds i;
      froms = le_prop a.froms b.froms i;
      tos = le_prop a.tos b.tos i;
      weights = le_prop a.weights b.weights i;
      firsts = le_prop a.firsts b.firsts i;
      seconds = le_prop a.seconds b.seconds i;
    }
