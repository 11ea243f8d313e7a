-- Where the working-out of a reason list may stand: so many of the outermost steps done, then so many of the middle ones of the next, then so many of the
-- innermost ones. Assumes nothing.
use Rattle.std.specs.Prelude.{List, ℕ}
use Rattle.rules.specs.Plan.{Plan}
use Rattle.chain.specs.Lines.{Line}
use Rattle.chain.specs.Reasons.{try, each, limit_of, link_of, start_offer, limit_offer, link_offer, longest_at, lower_case_at, strict_offer, open_offer, lower_offer, upper_offer}

-- steps in three loops, one within the other
abbrev pub Steps : Type 0
Steps = ℕ → ℕ → ℕ → List Line → List Line

abbrev pub pass : Steps → ℕ → ℕ → ℕ → List Line → List Line
pass f A B C ls = each (λ a. each (λ b. each (f a b) C) B) A ls

-- a of the outermost, b of the middle ones after them, c of the innermost ones after those
abbrev pub part : Steps → ℕ → ℕ → ℕ → ℕ → ℕ → List Line → List Line
part f B C a b c ls = each (f a b) c (each (λ b. each (f a b) C) b (each (λ a. each (λ b. each (f a b) C) B) a ls))

-- the steps of each part of the working-out
abbrev pub start_steps : Steps
start_steps x b c = try (start_offer x)

abbrev pub limit_steps : Plan → Steps
limit_steps p i b c = try (limit_offer i (limit_of p i))

abbrev pub link_steps : Plan → Steps
link_steps p i b c = try (link_offer i (link_of p i) c)

abbrev pub strict_steps : Steps
strict_steps y x z = try (strict_offer y x z)

abbrev pub lower_steps : Plan → ℕ → Steps
lower_steps p g i j c = try (lower_offer (lower_case_at g i) (link_of p i) (link_of p j))

abbrev pub upper_steps : Plan → ℕ → Steps
upper_steps p g x i c = try (upper_offer (longest_at g i) x (link_of p i))

abbrev pub open_steps : Steps
open_steps y x z = try (open_offer y x z)
