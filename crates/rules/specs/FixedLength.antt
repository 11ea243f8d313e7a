-- Document 02, item 2, "Restart of a fixed length": "Rules and demands 2 and 3 read the same with it." No rule has a case for such links; this is what
-- the rules come to for them, of every plan, whatever its ranges. Assumes nothing.
use Rattle.std.specs.Prelude.{◌≡◌, ◌≢◌, ℕ, zero, ◌<◌, ℤ, pos, neg_ℤ, ◌+ℤ◌, ◌≤ℤ◌, ◌<ℤ◌}
use mathlib.Core.List.{Memᴰ}
use Rattle.rules.specs.Plan.{Link, Plan}
use Rattle.rules.specs.Edges.{Given, Lowers, upper_weight}
use Rattle.rules.specs.Cells.{Table}
use Rattle.rules.specs.Tables.{Tables}

-- "shortest equals longest"
abbrev pub Fixed : Link → Type 0
Fixed k = k.short ≡ k.long

pub record FixedLength : Type 0 where
  -- D(R) is 0: Lower to the end of such a link asks w < 0, and no more than that
  pub lower_asks : (k r : Link) (w : ℤ) → Fixed r → Lowers k r w → w <ℤ pos zero
  pub lower_takes : (k r : Link) (w : ℤ) → Fixed r → r.con ≢ k.con → w <ℤ pos zero → Lowers k r w
  -- its lower-case edge is also an ordinary one
  pub lower_case_given : (p : Plan) (k : Link) → Memᴰ k p.links → Fixed k → Given p k.act k.con (pos k.short)
  -- Upper yields no less than a join with its edge from C to A
  pub upper_no_less : (k : Link) (v : ℤ) → Fixed k → (v +ℤ neg_ℤ (pos k.short)) ≤ℤ upper_weight k v
  -- where every link is such, the two tables are one: "both tables 0 40; -40 0"
  pub one_table : (p : Plan) (strict weak : Table) → ((k : Link) → Memᴰ k p.links → Fixed k) → Tables p strict weak
      → (x y : ℕ) → x < p.points → y < p.points → strict x y ≡ weak x y
