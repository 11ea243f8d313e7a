-- What the statement of Check rules out, and that it fixes its answer. Assumes nothing.
use mathlib.Core.Path.{◌≡◌, sym, ap, ◌∙◌}
use mathlib.Core.Logic.{◌≢◌}
use mathlib.Core.List.{List}
use Prim.Native.Nat.{ℕ}
use native.Mathlib.Omega.{arith}
use lib.IntN.{ℤ}
use borrow.Author.Tests.{eq-eqb}
use Rattle.rules.specs.Plan.{Plan, Ranges, version1}
use Rattle.rules.specs.Answers.{code_of, Answer, Done}
use Rattle.rules.specs.Cells.{table_of}
use Rattle.rules.specs.Walks.{Uncontrollable}
use Rattle.rules.specs.Tables.{Tables, Closed}
use Rattle.rules.specs.Calls as calls
use Rattle.rules.specs.Calls.{Checked}
use Rattle.rules.proofs.Bound.{closed_controllable}
use Rattle.rules.proofs.Points.{in_range_pointed}
use Rattle.rules.proofs.OneAnswer.{checked_once}
use Rattle.rules.proofs.Demands.{version1_coherent, demand2_of_plans}
use Rattle.answers.proofs.CodeZero.{code_zero}
use Rattle.plan.specs.Layout.{plan_of}
use Rattle.plan.specs.File.{file_answer}
use Rattle.plan.proofs.SoundFile.{good}
use Rattle.post.specs.Faces.{packed_of, Packed}

-- what code 0 says: the file is sound, and the tables are closed
pub record Accepted (r : Ranges) (file : Answer) (p : Plan) (strict weak : List ℤ) : Type 0 where
  pub sound : file ≡ Done
  pub closed : Closed r p (table_of r p.points strict) (table_of r p.points weak)

pub accepted : {r : Ranges} {file : Answer} {p : Plan} {strict weak : List ℤ} {a : Answer} → Checked r file p strict weak a → code_of a ≡ 0
    → Accepted r file p strict weak
accepted {file = file} (calls.Checked.bad_file n) e = absurd (n (code_zero file (eq-eqb (code_of file) 0 e)))
accepted (calls.Checked.short_room d s) e = absurd (omega arith)
accepted (calls.Checked.not_closed d q n) e = absurd (omega arith)
accepted (calls.Checked.closed d q c) e = record { sound = d; closed = c }

-- no tables are accepted for an uncontrollable plan
pub uncontrollable_not_accepted : (s : List ℕ) (strict weak : List ℤ) (a : Answer) → Uncontrollable (plan_of s)
    → Checked version1 (file_answer s) (plan_of s) strict weak a → code_of a ≢ 0
uncontrollable_not_accepted s strict weak a u c e =
    let k : Accepted version1 (file_answer s) (plan_of s) strict weak = accepted c e in
    closed_controllable version1 (plan_of s) (table_of version1 (plan_of s).points strict) (table_of version1 (plan_of s).points weak)
    k.closed (in_range_pointed (good s k.sound).ranges) u

-- two answers that meet Check's statement are equal
pub check_once : (s : List ℕ) (strict weak : List ℤ) (a b : Answer) → Checked version1 (file_answer s) (plan_of s) strict weak a
    → Checked version1 (file_answer s) (plan_of s) strict weak b → a ≡ b
check_once s strict weak a b c d = checked_once version1 (file_answer s) (plan_of s) (λ e. (good s e).ranges) c d

-- and so are two numbers that C gets
pub packed_once : (s : List ℕ) (strict weak : List ℤ) (v w : ℕ) → Packed (Checked version1 (file_answer s) (plan_of s) strict weak) v
    → Packed (Checked version1 (file_answer s) (plan_of s) strict weak) w → v ≡ w
packed_once s strict weak v w c d =
    c.is ∙ ap packed_of (check_once s strict weak c.answer d.answer c.meets d.meets) ∙ sym d.is

-- the tables of a sound file's plan are accepted, where there is room for them: a Check that refuses everything does not meet the statement
pub tables_accepted : (s : List ℕ) (strict weak : List ℤ) (a : Answer) → file_answer s ≡ Done → calls.RoomForTables (plan_of s) strict weak
    → Tables (plan_of s) (table_of version1 (plan_of s).points strict) (table_of version1 (plan_of s).points weak)
    → Checked version1 (file_answer s) (plan_of s) strict weak a → a ≡ Done
tables_accepted s strict weak a d q t c =
    let k : Closed version1 (plan_of s) (table_of version1 (plan_of s).points strict) (table_of version1 (plan_of s).points weak) =
    (demand2_of_plans version1 version1_coherent).tables_are_closed (plan_of s) (table_of version1 (plan_of s).points strict)
    (table_of version1 (plan_of s).points weak) (good s d).ranges t in
    check_once s strict weak a Done c (calls.Checked.closed d q k)
