-- What the functions inside ask of the lists and leave in the buffer. Serves their contracts alone. Assumes nothing.
use Rattle.std.specs.Prelude.{◌≡◌, ℕ, ◌≤◌, length}
use mathlib.Core.List.{List, flat_map}
use Rattle.std.proofs.lemmas.List.Edits.{sets}
use Rattle.rules.specs.Plan.{version1}
use Rattle.fields.specs.Bytes.{word_bytes}
use Rattle.rules.specs.Answers.{Answer}
use Rattle.plan.specs.File.{plan_answer}
use Rattle.writing.specs.PlanLists.{Lists, lists, listed_plan, even_lists}
use Rattle.writing.specs.declared.lists.PlanLists.{PlanLists}

-- the lists that the struct holds
abbrev pub lent : PlanLists → Lists
lent p = lists p.n p.from.now p.to.now p.weight.now p.act.now p.con.now p.short.now p.long.now

-- codes 3 to 8 of the plan that lists hold
abbrev pub lists_answer : Lists → Answer
lists_answer l = plan_answer version1 (even_lists l) (listed_plan l)

-- m and k in range, and even lists: what is known of lists past codes 4 and 5
pub record ListsOk (l : Lists) : Type 0 where
  pub limits : length l.from ≤ version1.limits
  pub links : length l.act ≤ version1.links
  pub to : length l.to ≡ length l.from
  pub weight : length l.weight ≡ length l.from
  pub con : length l.con ≡ length l.act
  pub short : length l.short ≡ length l.act
  pub long : length l.long ≡ length l.act

-- bytes with fields written over them, one after the other, from a position on
abbrev pub put_fields : List ℕ → ℕ → List ℕ → List ℕ
put_fields s at ws = sets s at (flat_map word_bytes ws)
