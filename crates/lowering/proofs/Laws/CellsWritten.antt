-- A loop that writes the first cells of a list one by one: what holds of each cell written, and that no other changed. Assumes nothing.
use mathlib.Core.Path.{◌≡◌, refl, sym, subst, ◌∙◌}
use mathlib.Core.List.{List}
use Prim.Native.Nat.{ℕ, zero, ◌+◌, ◌≤◌, ◌<◌}
use native.Mathlib.Omega.{arith}
use borrow.Author.Count.{below_none, below_more}
use lib.ListN.{length, get_or, set, length-set}
use lib.Seq.{get_or-set_same, get_or-set_other}
use lib.IntN.{ℤ, pos}
use Rattle.rules.specs.Plan.{Ranges}
use Rattle.rules.specs.Calls.{Kept, Filled}
use Rattle.rules.proofs.Lists.{filled_once}
use Rattle.lowering.specs.Sweep.{mark_all}
use Rattle.lowering.proofs.Theory.FirstTables.{marks}

-- i of the m cells written
pub record Writing (m : ℕ) (P : ℕ → ℤ → Type 0) (i : ℕ) (start now : List ℤ) : Type 0 where
  pub bound : i ≤ m
  pub written : (j : ℕ) → j < i → P j (get_or now j (pos zero))
  pub kept : Kept i start now

module _ {m : ℕ} {P : ℕ → ℤ → Type 0} where
  -- none yet
  pub writing_none : {t : List ℤ} → Writing m P 0 t t
  writing_none = record { bound = omega arith; written = below_none _; kept = record { length_same = refl; beyond_same = λ j h. refl } }

  module _ {i : ℕ} {start now : List ℤ} (c : Writing m P i start now) where
    -- one more
    pub writing_more : {next : List ℤ} (v : ℤ) → i < m → m ≤ length start → P i v → next ≡ set now i v → Writing m P (i + 1) start next
    writing_more v h room p e =
        let inside : i < length now = omega (arith, c.kept.length_same) in
        rw e
        (record {
          bound = omega arith;
          written =
              below_more _ i
              (λ j k. subst (P j) (sym (get_or-set_other now i j v (pos zero) (omega arith))) (c.written j k))
              (subst (P i) (sym (get_or-set_same now i v (pos zero) inside)) p);
          kept = record {
            length_same = length-set now i v ∙ c.kept.length_same;
            beyond_same = λ j k. get_or-set_other now i j v (pos zero) (omega arith) ∙ c.kept.beyond_same j (omega arith);
          };
        })

    -- all of them
    pub writing_all : m ≤ i → Writing m P m start now
    writing_all h =
        let e : i ≡ m = omega (arith, c.bound) in
        subst (λ (k : ℕ). Writing m P k start now) e c

-- all of them the mark
pub all_marked : (r : Ranges) {m i : ℕ} {start now : List ℤ} → Writing m (λ j v. v ≡ pos r.mark) i start now → m ≤ i → m ≤ length start
    → now ≡ mark_all r m start
all_marked r {m} {start = start} {now} c h room =
    let w = writing_all c h in
    let a = marks r m start room in
    let here : Filled m (pos r.mark) start now = record { kept = w.kept; all_same = w.written } in
    filled_once here (record { kept = record { length_same = a.same_length; beyond_same = a.beyond }; all_same = a.all })
