-- Add, answer by answer: from what its calls ensure to its statement. Assumes nothing.
use mathlib.Core.Path.{◌≡◌, refl, sym, ap, subst, subst⁻¹, ◌∙◌}
use mathlib.Core.Bool.{Bool, true, false}
use Rattle.std.specs.Prelude.{◌⊎◌, Err}
use mathlib.Core.Logic.{inl, inr}
use mathlib.Core.List.{List}
use Prim.Native.Nat.{ℕ, ◌+◌, ◌*◌, ◌≤◌, ◌<◌}
use native.Mathlib.Omega.{arith}
use lib.ListN.{length}
use lib.IntN.{ℤ, pos}
use Rattle.rules.specs.Plan.{Limit, version1, LimitInRange}
use Rattle.rules.specs.Answers.{Answer, Done, ShortRoom, NotControllable, NotClosed}
use Rattle.rules.specs.Cells.{table_of}
use Rattle.rules.specs.Tables.{Tables, Closed}
use Rattle.rules.specs.Additions.{with_cells}
use Rattle.rules.specs.Calls as calls
use Rattle.rules.specs.Calls.{Added, Kept, Filled, RoomForTables, scratch_of}
use Rattle.rules.specs.declared.Refusal.{Refusal}
use Rattle.plan.specs.Layout.{link_at, plan_of}
use Rattle.plan.specs.File.{add_answer}
use Rattle.plan.proofs.SoundFile.{add_exactly}
use Rattle.answers.proofs.CodeZero.{not_done}
use Rattle.cell.specs.Steps.{adding}
use Rattle.lowering.specs.Table.{Ready}
use Rattle.lowering.specs.Fair.{AllWithin}
use Rattle.lowering.proofs.Laws.ReadyFile.{ready_points, ready_in_range, ready_links}
use Rattle.lowering.proofs.Theory.SweepsEnd.{kept_trans}
use Rattle.scratch.specs.Swept.{strict_part, open_part, Both, Ended}
use Rattle.scratch.specs.Begun.{Begun}
use Rattle.scratch.specs.Copies.{Narrowed, InReach, OutOfReach}
use Rattle.scratch.proofs.AddEnds.{start_both, ends_against, ends_tables, ends_kept, out_beyond, tables_written, none_beyond}
use Rattle.adding.specs.Lent.{Lent}

-- cells cleared after others changed
kept_filled : {a : ℕ} {c : ℤ} {t u v : List ℤ} → Kept a t u → Filled a c u v → Filled a c t v
kept_filled k f = record { kept = kept_trans k f.kept; all_same = f.all_same }

module _ {s : List ℕ} {n m k : ℕ} {l : Limit} {strict weak t : List ℤ} (rd : Ready s n m k) (v : Lent s n l strict weak t) where
  e : (plan_of s).points ≡ n
  e = ready_points s n m k rd

  square : (plan_of s).points * (plan_of s).points ≡ n * n
  square = ap (λ (c : ℕ). c * c) e

  tables_room : RoomForTables (plan_of s) strict weak
  tables_room = record { strict_room = omega (arith, square, v.strict_room); open_room = omega (arith, square, v.open_room) }

  room : scratch_of (plan_of s) ≤ length t
  room = omega (arith, square, v.scratch_room)

  -- the room that is cleared is the paper's
  filled : {t' : List ℤ} → Filled (n * n + n * n) (pos 0) t t' → Filled (scratch_of (plan_of s)) (pos 0) t t'
  filled {t'} f =
      let same : n * n + n * n ≡ scratch_of (plan_of s) = omega (arith, square) in
      subst (λ (c : ℕ). Filled c (pos 0) t t') same f

  -- tables that are not closed
  pub are_not : {t' : List ℤ} → (Closed version1 (plan_of s) (table_of version1 n strict) (table_of version1 n weak) → ⊥)
      → Filled (n * n + n * n) (pos 0) t t' → Added version1 (add_answer s l) (plan_of s) l strict weak t NotClosed strict weak t'
  are_not bad f =
      calls.Added.not_closed v.done tables_room room
      (λ c. bad (subst (λ (o : ℕ). Closed version1 (plan_of s) (table_of version1 o strict) (table_of version1 o weak)) e c)) (filled f)

  module _ (c : Closed version1 (plan_of s) (table_of version1 n strict) (table_of version1 n weak)) where
    closed_there : Closed version1 (plan_of s) (table_of version1 (plan_of s).points strict) (table_of version1 (plan_of s).points weak)
    closed_there = subst⁻¹ (λ (o : ℕ). Closed version1 (plan_of s) (table_of version1 o strict) (table_of version1 o weak)) e c

    -- the cells that the sweeps start from are in reach
    pub start_within : AllWithin version1 n strict
    start_within =
        subst (λ (o : ℕ). AllWithin version1 o strict) e closed_there.strict_within

    limit_there : LimitInRange version1 (plan_of s).points l
    limit_there = subst⁻¹ (λ (o : ℕ). LimitInRange version1 o l) e v.limit

    room_there : (plan_of s).points * (plan_of s).points + (plan_of s).points * (plan_of s).points ≤ length t
    room_there = omega (arith, square, v.scratch_room)

    module _ {t₁ : List ℤ} (b : Begun n l strict t t₁) (eb : length t₁ ≡ length t) where
      begun_there : Begun (plan_of s).points l strict t t₁
      begun_there = subst⁻¹ (λ (o : ℕ). Begun o l strict t t₁) e b

      -- there are both tables in the scratch
      pub started : Both adding n t₁
      started =
          subst (λ (o : ℕ). Both adding o t₁) e
          (start_both (plan_of s) (ready_in_range s n m k rd) (link_at s m) k (ready_links s n m k rd) l limit_there strict weak
          closed_there t t₁ room_there begun_there eb)

      module _ (t₂ : List ℤ) (r : Bool) (d : Ended adding n (link_at s m) k t₁ t₂ r) (ed : length t₂ ≡ length t₁) where
        ended_there : Ended adding (plan_of s).points (link_at s m) k t₁ t₂ r
        ended_there = subst⁻¹ (λ (o : ℕ). Ended adding o (link_at s m) k t₁ t₂ r) e d

        -- cleared, past both parts nothing changed
        cleared : {t₃ : List ℤ} → Filled (n * n + n * n) (pos 0) t₂ t₃ → Filled (scratch_of (plan_of s)) (pos 0) t t₃
        cleared {t₃} f =
            let both : Kept ((plan_of s).points * (plan_of s).points + (plan_of s).points * (plan_of s).points) t t₂ =
            ends_kept (plan_of s) (ready_in_range s n m k rd) (link_at s m) k (ready_links s n m k rd) l limit_there strict weak
            closed_there t t₁ room_there begun_there t₂ ended_there (ed ∙ eb) in
            filled (kept_filled (subst (λ (o : ℕ). Kept (o * o + o * o) t t₂) e both) f)

        tables : r ≡ true → Tables (with_cells (plan_of s) (table_of version1 (plan_of s).points strict) l)
            (table_of adding (plan_of s).points (strict_part (plan_of s).points t₂)) (table_of adding (plan_of s).points (open_part (plan_of s).points t₂))
        tables q =
            ends_tables (plan_of s) (ready_in_range s n m k rd) (link_at s m) k (ready_links s n m k rd) l limit_there strict weak
            closed_there t t₁ room_there begun_there t₂ ended_there q

        -- 11
        pub refused : {t₃ : List ℤ} → r ≡ false → Filled (n * n + n * n) (pos 0) t₂ t₃
            → Added version1 (add_answer s l) (plan_of s) l strict weak t NotControllable strict weak t₃
        refused q f =
            calls.Added.uncontrollable v.done tables_room room closed_there
            (ends_against (plan_of s) (ready_in_range s n m k rd) (link_at s m) k (ready_links s n m k rd) l limit_there strict weak
            closed_there t t₁ room_there begun_there t₂ ended_there q)
            (cleared f)

        -- 12 for a result out of range
        pub out : {t₃ : List ℤ} → r ≡ true → OutOfReach (n * n + n * n) t₂ → Filled (n * n + n * n) (pos 0) t₂ t₃
            → Added version1 (add_answer s l) (plan_of s) l strict weak t NotClosed strict weak t₃
        out q o f =
            calls.Added.beyond v.done tables_room room closed_there (tables q)
            (out_beyond (plan_of s) t₂ (subst⁻¹ (λ (i : ℕ). OutOfReach (i * i + i * i) t₂) e o)) (cleared f)

        -- 0
        pub taken : {strict' weak' t₃ : List ℤ} → r ≡ true → InReach (n * n + n * n) t₂ → Narrowed (n * n) t₂ strict strict'
            → Narrowed (n * n) (open_part n t₂) weak weak' → Filled (n * n + n * n) (pos 0) t₂ t₃
            → Added version1 (add_answer s l) (plan_of s) l strict weak t Done strict' weak' t₃
        taken {strict'} {weak'} q i a o f =
            let a' : Narrowed ((plan_of s).points * (plan_of s).points) t₂ strict strict' =
            subst⁻¹ (λ (j : ℕ). Narrowed (j * j) t₂ strict strict') e a in
            let o' : Narrowed ((plan_of s).points * (plan_of s).points) (open_part (plan_of s).points t₂) weak weak' =
            subst⁻¹ (λ (j : ℕ). Narrowed (j * j) (open_part j t₂) weak weak') e o in
            calls.Added.added v.done tables_room room closed_there
            (record {
              strict_kept = a'.kept;
              open_kept = o'.kept;
              tables =
                  tables_written (plan_of s) t₂ a' o' (with_cells (plan_of s) (table_of version1 (plan_of s).points strict) l) refl (tables q);
            })
            (none_beyond (plan_of s) t₂ a' o' (subst⁻¹ (λ (j : ℕ). InReach (j * j + j * j) t₂) e i)) (cleared f)

module _ (s : List ℕ) (l : Limit) (strict weak t : List ℤ) where
  -- the file's answer with the limit: a refusal stands
  pub file_refused : {a : Answer} {r : Refusal} → a ≡ add_answer s l → a ≡ Err r
      → Added version1 (add_answer s l) (plan_of s) l strict weak t (Err r) strict weak t
  file_refused e q =
      subst (λ (x : Answer). Added version1 (add_answer s l) (plan_of s) l strict weak t x strict weak t) (sym e ∙ q)
      (calls.Added.bad_file (λ d. not_done (sym q ∙ e ∙ d)))

  -- and past it, by the counts that the file has
  module _ (d : add_answer s l ≡ Done) {n m k : ℕ} (rd : Ready s n m k) where
    square_is : (plan_of s).points * (plan_of s).points ≡ n * n
    square_is = ap (λ (c : ℕ). c * c) (ready_points s n m k rd)

    -- 9
    pub short : (length strict < n * n) ⊎ ((length weak < n * n) ⊎ (length t < n * n + n * n))
        → Added version1 (add_answer s l) (plan_of s) l strict weak t ShortRoom strict weak t
    short (inl q) = calls.Added.short_room d (inl (inl (omega (arith, square_is))))
    short (inr (inl q)) = calls.Added.short_room d (inl (inr (omega (arith, square_is))))
    short (inr (inr q)) = calls.Added.short_room d (inr (omega (arith, square_is)))

    -- there is room
    pub lent : n * n ≤ length strict → n * n ≤ length weak → n * n + n * n ≤ length t → Lent s n l strict weak t
    lent a b c =
        record {
          done = d;
          limit = subst (λ (o : ℕ). LimitInRange version1 o l) (ready_points s n m k rd) ((add_exactly s l).0 d).1;
          strict_room = a;
          open_room = b;
          scratch_room = c;
        }
