-- What a line is that follows: an ordinary line is a derivable edge, any line a walk over open edges. So a list whose lines all follow and whose newest closes
-- below zero refutes the plan. Assumes nothing.
use mathlib.Core.Path.{◌≡◌, sym, subst}
use mathlib.Core.Bool.{true, false≢true}
use mathlib.Core.List.{List, [], ◌∷◌}
use mathlib.Core.Logic.{◌⊎◌, inl, inr}
use Prim.Native.Nat.{ℕ, zero, suc, ◌<◌}
use native.Mathlib.Nat.{eq-or-lt_of_le}
use native.Mathlib.Omega.{arith}
use lib.Dec.{eqb}
use lib.ListN.{length}
use lib.IntN.{pos}
use lib.Signed.{lt_z, lt_z_yes}
use borrow.Author.Tests.{eqb-true}
use Rattle.rules.specs.declared.Side.TheVariants.{Strict}
use Rattle.rules.specs.Plan.{Plan}
use Rattle.rules.specs.Edges as edges
use Rattle.rules.specs.Edges.{Derivable, Open}
use Rattle.rules.specs.Walks.{Walk, Uncontrollable}
use Rattle.rules.proofs.Walks.{single, append}
use Rattle.chain.specs.Lines.{Line, line_at, counts}
use Rattle.chain.specs.Reasons.{ended}
use Rattle.chain.specs.Follows.{Follows, start, limit, longest, shortest, lower_case_rule, join, lower, upper, open_join_rule, Followed}
use Rattle.chain.proofs.Members.{limit_member, link_member}
use Rattle.chain.proofs.BestLines.{both, newest, older}

-- what a line stands for
record Meant (p : Plan) (l : Line) : Type 0 where
  edge : counts Strict l.kind ≡ true → Derivable p l.from l.to l.weight
  walk : Walk (Open p) l.from l.to l.weight

-- an ordinary line
ordinary_meant : {p : Plan} {l : Line} → Derivable p l.from l.to l.weight → Meant p l
ordinary_meant d = record { edge = λ c. d; walk = single (edges.ordinary d) }

line_meant : (p : Plan) {ls : List Line} {l : Line} → ((i : ℕ) → i < length ls → Meant p (line_at ls i)) → Follows p ls l → Meant p l
line_meant p b (start h e) = subst (λ (l : Line). Meant p l) (sym e) (ordinary_meant (edges.given (edges.start h)))
line_meant p b (limit h e) = subst (λ (l : Line). Meant p l) (sym e) (ordinary_meant (edges.given (edges.limit (limit_member p h))))
line_meant p b (longest h e) = subst (λ (l : Line). Meant p l) (sym e) (ordinary_meant (edges.given (edges.longest (link_member p h))))
line_meant p b (shortest h e) = subst (λ (l : Line). Meant p l) (sym e) (ordinary_meant (edges.given (edges.shortest (link_member p h))))
line_meant p b (lower_case_rule h e) =
    subst (λ (l : Line). Meant p l) (sym e) (record { edge = λ c. absurd (false≢true c); walk = single (edges.lower_case_rule (link_member p h)) })
line_meant p b (join {i} {j} {a} {b = c} oa oc t e) =
    let ma : Meant p a = subst (λ (l : Line). Meant p l) oa.earlier.is (b i oa.earlier.before) in
    let mc : Meant p c = subst (λ (l : Line). Meant p l) oc.earlier.is (b j oc.earlier.before) in
    subst (λ (l : Line). Meant p l) (sym e)
    (ordinary_meant (edges.join (rw t at (ma.edge oa.strict)) (mc.edge oc.strict)))
line_meant p b (lower {j} {h} {s} {b = c} hh hs k oc f t w e) =
    let mc : Meant p c = subst (λ (l : Line). Meant p l) oc.earlier.is (b j oc.earlier.before) in
    subst (λ (l : Line). Meant p l) (sym e)
    (ordinary_meant (edges.lower (link_member p hh) (link_member p hs) w (rw (f, t) at (mc.edge oc.strict))))
line_meant p b (upper {i} {h} {a} hh oa k t e) =
    let ma : Meant p a = subst (λ (l : Line). Meant p l) oa.earlier.is (b i oa.earlier.before) in
    subst (λ (l : Line). Meant p l) (sym e)
    (ordinary_meant (edges.upper (link_member p hh) (rw t at (ma.edge oa.strict))))
line_meant p b (open_join_rule {i} {j} {a} {b = c} ea ec t e) =
    let ma : Meant p a = subst (λ (l : Line). Meant p l) ea.is (b i ea.before) in
    let mc : Meant p c = subst (λ (l : Line). Meant p l) ec.is (b j ec.before) in
    subst (λ (l : Line). Meant p l) (sym e)
    (record { edge = λ c. absurd (false≢true c); walk = append (rw t at ma.walk) mc.walk })

all_meant : (p : Plan) (ls : List Line) → Followed p ls → (i : ℕ) → i < length ls → Meant p (line_at ls i)
all_meant p [] f i h = absurd (omega arith)
all_meant p (l ∷ ls) f i h = by (all_meant p ls f.1) (eq-or-lt_of_le h)
  where
    by : ((j : ℕ) → j < length ls → Meant p (line_at ls j)) → (suc i ≡ suc (length ls)) ⊎ (suc i < suc (length ls)) → Meant p (line_at (l ∷ ls) i)
    by b (inl q) =
        let n : length ls ≡ i = omega arith in
        subst (λ (j : ℕ). Meant p (line_at (l ∷ ls) j)) n (rw (newest l ls) (line_meant p b f.0))
    by b (inr q) = let n : i < length ls = omega arith in rw (older l ls i n) (b i n)

pub refutes : (p : Plan) (ls : List Line) → Followed p ls → ended ls ≡ true → Uncontrollable p
refutes p [] f e = absurd (false≢true e)
refutes p (l ∷ ls) f e =
    let m : Meant p l = line_meant p (all_meant p ls f.1) f.0 in
    let t : (eqb l.from l.to ≡ true) × (lt_z l.weight (pos zero) ≡ true) = both (eqb l.from l.to) (lt_z l.weight (pos zero)) e in
    let q : l.from ≡ l.to = eqb-true l.from l.to t.0 in
    record { at = l.to; total = l.weight; walk = rw q at m.walk; negative = lt_z_yes (rw t.1 tt) }
