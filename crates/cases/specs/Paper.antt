-- Cases a to k of document 01, in its order and its words: "A link is written (A, l, u, C), a limit X>Y w." Then the new case of document 02, item 2, and
-- its neighbour. Assumes nothing.
use Rattle.std.specs.Prelude.{List, [], ◌∷◌, ℕ, ℤ, pos, neg_ℤ}
use Rattle.rules.specs.Plan.{Limit, Link, Plan}
use Rattle.cases.specs.Case.{Verdict, refused, controllable, settled, takes, declines, Case}

-- the limit X>Y w
abbrev pub limit : ℕ → ℕ → ℤ → Limit
limit x y w = record { from = x; to = y; weight = w }

-- the link (A, l, u, C)
abbrev pub link : ℕ → ℕ → ℕ → ℕ → Link
link a l u c = record { act = a; con = c; short = l; long = u }

abbrev pub plan : ℕ → List Link → List Limit → Plan
plan n ks ms = record { points = n; limits = ms; links = ks }

-- minus a number
abbrev pub minus : ℕ → ℤ
minus n = neg_ℤ (pos n)

abbrev pub say : Plan → Verdict → Case
say p v = record { plan = p; verdict = v }

-- the plan of e, and its tables
abbrev pub plan_e : Plan
plan_e = plan 2 (link 0 2 5 1 ∷ []) []

abbrev pub strict_e : List ℤ
strict_e = pos 0 ∷ pos 5 ∷ minus 2 ∷ pos 0 ∷ []

abbrev pub open_e : List ℤ
open_e = pos 0 ∷ pos 2 ∷ minus 2 ∷ pos 0 ∷ []

-- "a. n 1, nothing else: both tables 0." and so on
abbrev pub paper : List Case
paper =
    -- a
    say (plan 1 [] []) (settled (pos 0 ∷ []) (pos 0 ∷ []) [])
    -- b
    ∷ say (plan 2 [] (limit 0 1 (pos 10) ∷ []))
    (settled (pos 0 ∷ pos 10 ∷ pos 0 ∷ pos 0 ∷ []) (pos 0 ∷ pos 10 ∷ pos 0 ∷ pos 0 ∷ []) (pos 0 ∷ pos 0 ∷ []))
    -- c
    ∷ say (plan 2 [] (limit 0 1 (pos 10) ∷ limit 1 0 (minus 10) ∷ []))
    (settled (pos 0 ∷ pos 10 ∷ minus 10 ∷ pos 0 ∷ []) (pos 0 ∷ pos 10 ∷ minus 10 ∷ pos 0 ∷ []) [])
    ∷ say (plan 2 [] (limit 0 1 (pos 10) ∷ limit 1 0 (minus 11) ∷ [])) refused
    -- d
    ∷ say (plan 3 [] (limit 0 2 (pos 12) ∷ limit 1 0 (minus 4) ∷ limit 1 2 (pos 6) ∷ limit 2 1 (minus 3) ∷ []))
    (settled (pos 0 ∷ pos 9 ∷ pos 12 ∷ minus 4 ∷ pos 0 ∷ pos 6 ∷ minus 7 ∷ minus 3 ∷ pos 0 ∷ [])
    (pos 0 ∷ pos 9 ∷ pos 12 ∷ minus 4 ∷ pos 0 ∷ pos 6 ∷ minus 7 ∷ minus 3 ∷ pos 0 ∷ []) (pos 0 ∷ pos 4 ∷ pos 7 ∷ []))
    -- e
    ∷ say plan_e (settled strict_e open_e [])
    -- f: "Add 0>1 5 to e: taken, nothing changes. Add 0>1 4: 11. Add 1>0 -3: 11."
    ∷ say plan_e (takes (limit 0 1 (pos 5)) strict_e open_e strict_e open_e)
    ∷ say plan_e (declines (limit 0 1 (pos 4)) strict_e open_e)
    ∷ say plan_e (declines (limit 1 0 (minus 3)) strict_e open_e)
    -- g
    ∷ say (plan 3 (link 0 2 5 1 ∷ []) (limit 2 1 (pos 0) ∷ limit 1 2 (pos 1) ∷ []))
    (settled (pos 0 ∷ pos 5 ∷ pos 6 ∷ minus 2 ∷ pos 0 ∷ pos 1 ∷ minus 2 ∷ pos 0 ∷ pos 0 ∷ [])
    (pos 0 ∷ pos 2 ∷ pos 3 ∷ minus 2 ∷ pos 0 ∷ pos 1 ∷ minus 2 ∷ pos 0 ∷ pos 0 ∷ []) [])
    -- h
    ∷ say (plan 3 (link 0 2 5 1 ∷ []) (limit 1 2 (minus 1) ∷ limit 2 1 (pos 4) ∷ []))
    (settled (pos 0 ∷ pos 5 ∷ pos 4 ∷ minus 2 ∷ pos 0 ∷ minus 1 ∷ minus 1 ∷ pos 4 ∷ pos 0 ∷ [])
    (pos 0 ∷ pos 2 ∷ pos 1 ∷ minus 2 ∷ pos 0 ∷ minus 1 ∷ minus 1 ∷ pos 1 ∷ pos 0 ∷ []) [])
    -- i
    ∷ say (plan 3 (link 0 2 5 1 ∷ []) (limit 1 2 (minus 1) ∷ limit 2 1 (pos 3) ∷ [])) refused
    -- j
    ∷ say (plan 3 (link 0 1 3 1 ∷ link 0 1 2 2 ∷ []) (limit 1 2 (pos 0) ∷ [])) refused
    ∷ say (plan 3 (link 0 1 3 1 ∷ link 0 1 2 2 ∷ []) (limit 1 2 (pos 1) ∷ [])) controllable
    -- k
    ∷ say (plan 2 [] (limit 1 1 (minus 1) ∷ [])) refused
    ∷ say (plan 2 [] (limit 1 1 (pos 0) ∷ [])) controllable
    -- document 02, item 2: "n 2, (0,40,40,1) gives both tables 0 40; -40 0."
    ∷ say (plan 2 (link 0 40 40 1 ∷ []) [])
    (settled (pos 0 ∷ pos 40 ∷ minus 40 ∷ pos 0 ∷ []) (pos 0 ∷ pos 40 ∷ minus 40 ∷ pos 0 ∷ []) [])
    -- a second more, and the two tables differ
    ∷ say (plan 2 (link 0 40 41 1 ∷ []) [])
    (settled (pos 0 ∷ pos 41 ∷ minus 40 ∷ pos 0 ∷ []) (pos 0 ∷ pos 40 ∷ minus 40 ∷ pos 0 ∷ []) [])
    ∷ []
