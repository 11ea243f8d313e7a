-- Document 01, "Earliest gives the earliest timetable of a plan without links": timetables, what they meet, and the earliest.
-- Assumes nothing.
use Rattle.std.specs.Prelude.{◌≡◌, ℕ, zero, ◌<◌, ℤ, pos, ◌+ℤ◌, ◌≤ℤ◌}
use mathlib.Core.List.{Memᴰ}
use Rattle.rules.specs.Plan.{Limit, Plan}

-- "Times .. are whole numbers of seconds."
abbrev pub Timetable : Type 0
Timetable = ℕ → ℤ

-- "The limit X, Y, w says: Y is at most X + w."; "Point 0 is the start of the night, at time 0."; "nothing precedes the start"
pub record Meets (p : Plan) (t : Timetable) : Type 0 where
  pub limit : (m : Limit) → Memᴰ m p.limits → t m.to ≤ℤ (t m.from +ℤ m.weight)
  pub start : t zero ≡ pos zero
  pub none_before : (x : ℕ) → x < p.points → pos zero ≤ℤ t x

-- a timetable that meets the plan, and no such timetable has an earlier time at any point
pub record EarliestTimes (p : Plan) (t : Timetable) : Type 0 where
  pub meets : Meets p t
  pub earliest : (u : Timetable) → Meets p u → (x : ℕ) → x < p.points → t x ≤ℤ u x
