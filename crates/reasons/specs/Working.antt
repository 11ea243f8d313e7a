-- What the working-out of a reason list begins with and what it leaves. Assumes nothing.
use Rattle.std.specs.Prelude.{◌≡◌, Bool, true, false, List, ℕ, ◌≤◌, ◌<◌, length, ℤ}
use Rattle.std.specs.declared.ops.ControlFlow.{ControlFlow}
use Rattle.std.specs.declared.ops.ControlFlow.TheVariants.{Continue, Break}
use Rattle.rules.specs.declared.Side.{Side}
use Rattle.rules.specs.declared.Side.TheVariants.{Strict}
use Rattle.rules.specs.Plan.{Plan}
use Rattle.rules.specs.Cells.{Within}
use Rattle.cell.specs.Steps.{roomy}
use Rattle.chain.specs.Lines.{Line, still, best, cells}
use Rattle.chain.specs.Reasons.{ended, sweeps, ReasonList}
use Rattle.chain.specs.Call.{Lists}
use Rattle.offers.specs.Work.{Holds}
use Rattle.reasons.specs.Stands.{Place, outer, middle, inner, after}
use Rattle.reasons.specs.Notes.{laid}

-- a list so far from which the working-out can go on: its weights and its lines are not too many, and no line leads from a point to itself
pub record Fine (n : ℕ) (ls : List Line) : Type 0 where
  pub near : (s : Side) (x y : ℕ) → x < n → y < n → Within roomy.reach (cells s ls x y)
  pub few : length ls < roomy.reach
  pub diagonal : (x : ℕ) → best Strict x x ls ≡ still

-- at every place where a try is left, from one part on and before another
abbrev pub FineWithin : Plan → ℕ → ℕ → ℕ → List Line → Type 0
FineWithin p g from until base =
    (at : Place) → from ≤ at.phase → at.phase < until → at.a < outer p at.phase → at.b < middle p at.phase → at.c ≤ inner p at.phase
    → ended (after p g from at base) ≡ false → Fine p.points (after p g from at base)

-- what the parts from one on and before another begin with
pub record Begun (p : Plan) (g from until room : ℕ) (base : List Line) (first : Lists) (count : ℕ) (lists : Lists) (work : List ℤ) : Type 0 where
  pub holds : Holds p.points base work
  pub counted : count ≡ length base
  pub are : lists ≡ laid room base first
  pub going : ended base ≡ false
  pub fine : FineWithin p g from until base

-- some list so far that they begin with
pub record Begins (p : Plan) (g from until room count : ℕ) (lists : Lists) (work : List ℤ) : Type 0 where
  pub base : List Line
  pub first : Lists
  pub begun : Begun p g from until room base first count lists work

-- how many lines were worked out, and whether that has ended the list: a run breaks off at the line that ends it
abbrev pub lines_of : ControlFlow ℕ ℕ → ℕ
lines_of (Continue lines) = lines
lines_of (Break lines) = lines

abbrev pub ended_of : ControlFlow ℕ ℕ → Bool
ended_of (Continue lines) = false
ended_of (Break lines) = true

-- what is left of a list: how many lines, whether it has ended, the lines that there was room for, and the bests
pub record Left (n room : ℕ) (ls : List Line) (first : Lists) (run : ControlFlow ℕ ℕ) (lists : Lists) (work : List ℤ) : Type 0 where
  pub holds : Holds n ls work
  pub counted : lines_of run ≡ length ls
  pub ends : ended_of run ≡ ended ls
  pub are : lists ≡ laid room ls first

-- after so many sweeps, which have not ended the list
pub record SweptTo (p : Plan) (room c : ℕ) (first : Lists) (count : ℕ) (lists : Lists) (work : List ℤ) : Type 0 where
  pub holds : Holds p.points (sweeps p c) work
  pub counted : count ≡ length (sweeps p c)
  pub are : lists ≡ laid room (sweeps p c) first
  pub going : ended (sweeps p c) ≡ false

pub record Swept (p : Plan) (room : ℕ) (first : Lists) (count : ℕ) (lists : Lists) (work : List ℤ) : Type 0 where
  pub times : ℕ
  pub is : SweptTo p room times first count lists work

pub record Sweeping (p : Plan) (room count : ℕ) (lists : Lists) (work : List ℤ) : Type 0 where
  pub first : Lists
  pub swept : Swept p room first count lists work

-- the whole list
pub record Worked (p : Plan) (room : ℕ) (first : Lists) (run : ControlFlow ℕ ℕ) (lists : Lists) (work : List ℤ) : Type 0 where
  pub lines : List Line
  pub reasons : ReasonList p lines
  pub is : Left p.points room lines first run lists work
