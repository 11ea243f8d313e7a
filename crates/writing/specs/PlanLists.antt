-- Document 02, item 1: "Each field is lent as a list, m and k being the lengths of the from and A lists". The plan that such lists hold.
-- Assumes nothing.
use Rattle.std.specs.Prelude.{◌≡◌, Bool, true, ◌&&◌, List, map, ℕ, eqb, length, get_or, ℤ, pos}
use Rattle.rules.specs.Plan.{Limit, Link, Plan}
use Rattle.plan.specs.Layout.{records}

-- the number of points, and a list for each field of a limit and of a link
pub record Lists : Type 0 where
  pub points : ℕ
  pub from : List ℕ
  pub to : List ℕ
  pub weight : List ℤ
  pub act : List ℕ
  pub con : List ℕ
  pub short : List ℕ
  pub long : List ℕ

-- the lists by their names, in the order in which they are lent
abbrev pub lists : ℕ → List ℕ → List ℕ → List ℤ → List ℕ → List ℕ → List ℕ → List ℕ → Lists
lists n from to weight act con short long =
    record { points = n; from = from; to = to; weight = weight; act = act; con = con; short = short; long = long }

-- the limit at index i of three lists; past a list's end a field counts as 0
unfoldable pub limit_in : List ℕ → List ℕ → List ℤ → ℕ → Limit
limit_in from to weight i = record { from = get_or from i 0; to = get_or to i 0; weight = get_or weight i (pos 0) }

-- the link at index i of four lists
unfoldable pub link_in : List ℕ → List ℕ → List ℕ → List ℕ → ℕ → Link
link_in act con short long i = record { act = get_or act i 0; con = get_or con i 0; short = get_or short i 0; long = get_or long i 0 }

-- the plan that lists hold, "m and k being the lengths of the from and A lists"
unfoldable pub listed_plan : Lists → Plan
listed_plan l =
    record {
      points = l.points;
      limits = records (limit_in l.from l.to l.weight) 0 (length l.from);
      links = records (link_in l.act l.con l.short l.long) 0 (length l.act);
    }

-- "another length gets 5": whether the other lists have these lengths
abbrev pub even_lists : Lists → Bool
even_lists l =
    eqb (length l.to) (length l.from)
    && eqb (length l.weight) (length l.from)
    && eqb (length l.con) (length l.act)
    && eqb (length l.short) (length l.act)
    && eqb (length l.long) (length l.act)

-- lists that hold a plan, each of them whole
pub record Hold (l : Lists) (p : Plan) : Type 0 where
  pub even : even_lists l ≡ true
  pub plan : listed_plan l ≡ p

-- the lists of a plan
unfoldable pub lists_of : Plan → Lists
lists_of p =
    record {
      points = p.points;
      from = map (λ (m : Limit). m.from) p.limits;
      to = map (λ (m : Limit). m.to) p.limits;
      weight = map (λ (m : Limit). m.weight) p.limits;
      act = map (λ (k : Link). k.act) p.links;
      con = map (λ (k : Link). k.con) p.links;
      short = map (λ (k : Link). k.short) p.links;
      long = map (λ (k : Link). k.long) p.links;
    }
