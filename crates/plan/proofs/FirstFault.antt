-- The first field at fault, as the code tests the fields in their order: which answer the first test that fails, or none, makes of a record.
-- Assumes nothing.
use mathlib.Core.Path.{◌≡◌}
use mathlib.Core.Bool.{Bool, true, false}
use Prim.Native.Nat.{ℕ, ◌+◌, ◌<◌, ◌≤◌}
use native.Mathlib.Nat.{add-zero}
use lib.Dec.{leb, ltb}
use Rattle.std.proofs.lemmas.Bool.{le-ltb, lt-ltb, le-leb, lt-leb}
use Rattle.rules.specs.Plan.{Limit, Link, Ranges}
use Rattle.rules.specs.Answers.{Done, BadLimit, BadLink, RepeatedLink}
use Rattle.plan.specs.Layout.{limit_offset, link_offset}
use Rattle.plan.specs.File.{weight_fits, contingent_fits, longest_fits, limit_fits, link_fits, limit_answer, link_answer}
use Rattle.plan.proofs.TestsMade.{failed, passed}

-- ---- from, to and weight of the limit at index i; t is what a call said of the weight

module _ (r : Ranges) (n i : ℕ) (x : Limit) where
  pub from_fault : n ≤ x.from → BadLimit (limit_offset i) ≡ limit_answer r n i x
  unfolding limit_fits
  from_fault u = simp (le-ltb x.from n u, add-zero)

  module _ (from : x.from < n) where
    from_right : ltb x.from n ≡ true
    from_right = lt-ltb x.from n from

    pub to_fault : n ≤ x.to → BadLimit (limit_offset i + 4) ≡ limit_answer r n i x
    unfolding limit_fits
    to_fault u = simp (from_right, le-ltb x.to n u)

    module _ (to : x.to < n) {t : Bool} (e : t ≡ weight_fits r x.weight) where
      to_right : ltb x.to n ≡ true
      to_right = lt-ltb x.to n to

      pub weight_fault : t ≡ false → BadLimit (limit_offset i + 8) ≡ limit_answer r n i x
      unfolding limit_fits
      weight_fault u = simp (from_right, to_right, failed e u)

      pub limit_right : t ≡ true → Done ≡ limit_answer r n i x
      unfolding limit_fits
      limit_right u = simp (from_right, to_right, passed e u)

-- ---- A, C, l and u of the link at index i after m limits, and whether C is new

module _ (r : Ranges) (n m i : ℕ) (new : Bool) (k : Link) where
  pub act_fault : n ≤ k.act → BadLink (link_offset m i) ≡ link_answer r n m i new k
  unfolding link_fits
  act_fault u = simp (le-ltb k.act n u, add-zero)

  module _ (act : k.act < n) where
    act_right : ltb k.act n ≡ true
    act_right = lt-ltb k.act n act

    pub con_fault : contingent_fits n k ≡ false → BadLink (link_offset m i + 4) ≡ link_answer r n m i new k
    unfolding link_fits
    con_fault u = simp (act_right, u)

    module _ (con : contingent_fits n k ≡ true) where
      con_right : contingent_fits n k ≡ true
      con_right = con

      pub short_fault : k.short < 1 → BadLink (link_offset m i + 8) ≡ link_answer r n m i new k
      unfolding link_fits
      short_fault u = simp (act_right, con_right, lt-leb 1 k.short u)

      module _ (short : 1 ≤ k.short) where
        short_right : leb 1 k.short ≡ true
        short_right = le-leb 1 k.short short

        pub long_fault : longest_fits r k ≡ false → BadLink (link_offset m i + 12) ≡ link_answer r n m i new k
        unfolding link_fits
        long_fault u = simp (act_right, con_right, short_right, u)

        module _ (long : longest_fits r k ≡ true) where
          long_right : longest_fits r k ≡ true
          long_right = long

          pub con_again : new ≡ false → RepeatedLink (link_offset m i + 4) ≡ link_answer r n m i new k
          unfolding link_fits
          con_again u = simp (act_right, con_right, short_right, long_right, u)

          pub link_right : new ≡ true → Done ≡ link_answer r n m i new k
          unfolding link_fits
          link_right u = simp (act_right, con_right, short_right, long_right, u)
