-- Document 02, item 4: "The list is fixed". A try offers at most one line, made of the best lines so far; a sweep does its tries in the item's order; the list is
-- where sweeps add nothing more. Assumes nothing.
use Rattle.std.specs.Prelude.{◌≡◌, Bool, false, cond, ◌&&◌, ◌||◌, List, [], ◌∷◌, ℕ, zero, suc, ◌+◌, ◌*◌, eqb, length, get_or, pos, ◌+ℤ◌}
use Rattle.std.specs.Int.Signed.{lt_z}
use Rattle.rules.specs.declared.Side.{Side}
use Rattle.rules.specs.declared.Side.TheVariants.{Strict, Open}
use Rattle.rules.specs.Plan.{Limit, Link, Plan}
use Rattle.rules.specs.Edges.{spread, upper_weight}
use Rattle.chain.specs.Lines.{Line, link_longest, link_shortest, lower_case, strict_join, by_lower, by_upper, open_join, start_line, limit_line, longest_line, shortest_line, lower_case_line, Best, none, still, made, beats, best}

-- ---- a line is written, or not

-- what a try offers
pub data Offer : Type 0 where
  nothing : Offer
  line : Line → Offer

-- "for each link its longest, shortest and lower-case line, these three always written"
abbrev pub always : ℕ → Bool
always kind = eqb kind link_longest || (eqb kind link_shortest || eqb kind lower_case)

-- the pairs among which a line competes: an open join among the open ones
abbrev pub side_of : ℕ → Side
side_of kind = cond (eqb kind open_join) Open Strict

-- "Any other line is written only if it beats the pair's best so far"
unfoldable pub write : Offer → List Line → List Line
write nothing ls = ls
write (line l) ls = cond (always l.kind || beats l.weight (best (side_of l.kind) l.from l.to ls)) (l ∷ ls) ls

-- whether the list has come to a "line below zero from a point to itself"
abbrev pub ended : List Line → Bool
ended [] = false
ended (l ∷ ls) = eqb l.from l.to && lt_z l.weight (pos zero)

-- a try: "It stops at the first line below zero from a point to itself."
unfoldable pub try : (List Line → Offer) → List Line → List Line
try offer ls = cond (ended ls) ls (write (offer ls) ls)

-- a step for each number below m, in their order
abbrev pub each : (ℕ → List Line → List Line) → ℕ → List Line → List Line
each f zero ls = ls
each f (suc m) ls = f m (each f m ls)

-- ---- what is given

-- limit i and link i, in file order
abbrev pub limit_of : Plan → ℕ → Limit
limit_of p i = get_or p.limits i (record { from = 0; to = 0; weight = pos zero })

abbrev pub link_of : Plan → ℕ → Link
link_of p i = get_or p.links i (record { act = 0; con = 0; short = 0; long = 0 })

-- their offers; of a link's three lines the longest (0), the shortest (1) and the lower-case line (2)
unfoldable pub start_offer : ℕ → List Line → Offer
start_offer x ls = line (start_line x)

unfoldable pub limit_offer : ℕ → Limit → List Line → Offer
limit_offer i m ls = line (limit_line i m)

unfoldable pub link_offer : ℕ → Link → ℕ → List Line → Offer
link_offer i k zero ls = line (longest_line i k)
link_offer i k (suc zero) ls = line (shortest_line i k)
link_offer i k (suc (suc c)) ls = line (lower_case_line i k)

-- "start edges by point, limits in file order, then for each link its longest, shortest and lower-case line"
unfoldable pub starts : Plan → List Line → List Line
starts p ls = each (λ x. try (start_offer x)) p.points ls

unfoldable pub limits : Plan → List Line → List Line
limits p ls = each (λ i. try (limit_offer i (limit_of p i))) (length p.limits) ls

unfoldable pub links : Plan → List Line → List Line
links p ls = each (λ i. each (λ c. try (link_offer i (link_of p i) c)) 3) (length p.links) ls

-- the lines before those of the links
unfoldable pub before_links : Plan → List Line
before_links p = limits p (starts p [])

unfoldable pub given : Plan → List Line
given p = links p (before_links p)

-- where the longest and the lower-case line of link i stand, with g lines before those of the links
abbrev pub longest_at : ℕ → ℕ → ℕ
longest_at g i = g + 3 * i

abbrev pub lower_case_at : ℕ → ℕ → ℕ
lower_case_at g i = g + 3 * i + 2

-- ---- joins and rules

-- "a join its two lines in path order"; the 0 of a point to itself is no line, and none is made from it
abbrev pub joined : ℕ → ℕ → ℕ → Best → Best → Offer
joined kind x z (made i v) (made j w) = line (record { kind = kind; from = x; to = z; weight = v +ℤ w; first = i; second = j })
joined kind x z (made i v) none = nothing
joined kind x z (made i v) still = nothing
joined kind x z none b = nothing
joined kind x z still b = nothing

-- "strict joins by middle, from, to": the middle y, from x, to z
unfoldable pub strict_offer : ℕ → ℕ → ℕ → List Line → Offer
strict_offer y x z ls = joined strict_join x z (best Strict x y ls) (best Strict y z ls)

-- "only an open join may refer to open joins"
unfoldable pub open_offer : ℕ → ℕ → ℕ → List Line → Offer
open_offer y x z ls = joined open_join x z (best Open x y ls) (best Open y z ls)

-- "Lower its lower-case line, then its edge": for the link k, whose lower-case line has the number c, and the second link r, from the best edge from the one's
-- contingent point to the other's, if another
abbrev pub lower_from : ℕ → Link → Link → Best → Offer
lower_from c k r (made i w) =
    cond (lt_z w (spread r))
    (line (record { kind = by_lower; from = k.act; to = r.con; weight = pos k.short +ℤ w; first = c; second = i }))
    nothing
lower_from c k r none = nothing
lower_from c k r still = nothing

unfoldable pub lower_offer : ℕ → Link → Link → List Line → Offer
lower_offer c k r ls = cond (eqb r.con k.con) nothing (lower_from c k r (best Strict k.con r.con ls))

-- "Upper its edge, then its link's longest line": from the point x for the link k, whose longest line has the number c
abbrev pub upper_from : ℕ → ℕ → Link → Best → Offer
upper_from c x k (made i v) = line (record { kind = by_upper; from = x; to = k.act; weight = upper_weight k v; first = i; second = c })
upper_from c x k none = nothing
upper_from c x k still = nothing

unfoldable pub upper_offer : ℕ → ℕ → Link → List Line → Offer
upper_offer c x k ls = upper_from c x k (best Strict x k.con ls)

-- ---- a sweep

-- "strict joins by middle, from, to"
unfoldable pub strict_joins : ℕ → List Line → List Line
strict_joins n ls = each (λ y. each (λ x. each (λ z. try (strict_offer y x z)) n) n) n ls

-- "Lower by link and then by second link"
unfoldable pub lowers : Plan → ℕ → List Line → List Line
lowers p g ls =
    each (λ i. each (λ j. try (lower_offer (lower_case_at g i) (link_of p i) (link_of p j))) (length p.links)) (length p.links) ls

-- "Upper by P and then link"
unfoldable pub uppers : Plan → ℕ → List Line → List Line
uppers p g ls = each (λ x. each (λ i. try (upper_offer (longest_at g i) x (link_of p i))) (length p.links)) p.points ls

-- "open joins by middle, from, to"
unfoldable pub open_joins : ℕ → List Line → List Line
open_joins n ls = each (λ y. each (λ x. each (λ z. try (open_offer y x z)) n) n) n ls

-- "A sweep does strict joins ..; Lower ..; Upper ..; open joins .."
unfoldable pub sweep : Plan → ℕ → List Line → List Line
sweep p g ls = open_joins p.points (uppers p g (lowers p g (strict_joins p.points ls)))

-- so many sweeps after what is given
unfoldable pub sweeps : Plan → ℕ → List Line
sweeps p c = each (λ i. sweep p (length (before_links p))) c (given p)

-- "The list is fixed": sweeps, until one adds nothing
pub record ReasonList (p : Plan) (ls : List Line) : Type 0 where
  pub count : ℕ
  pub swept : ls ≡ sweeps p count
  pub stays : sweep p (length (before_links p)) ls ≡ ls
