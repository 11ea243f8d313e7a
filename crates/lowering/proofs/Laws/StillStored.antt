-- What each part of a round and of the first tables leaves is again a table of stored cells: stated of the list that the
-- code left, at version 1's ranges. Assumes nothing.
use mathlib.Core.Path.{◌≡◌, refl}
use mathlib.Core.List.{List}
use Prim.Native.Nat.{ℕ, zero, ◌*◌, ◌≤◌, ◌<◌}
use lib.ListN.{length}
use lib.IntN.{ℤ, pos}
use Rattle.rules.specs.Plan.{version1}
use Rattle.rules.specs.Cells.{num}
use Rattle.rules.proofs.Demands.{version1_coherent}
use Rattle.plan.specs.Layout.{limit_at, link_at}
use Rattle.lowering.specs.Table.{Sound, Ready}
use Rattle.lowering.specs.Sweep.{lower_cell, mark_all, diagonal_all, limit_cell, limit_all, start_all, link_edges, link_all, first_strict}
use Rattle.lowering.specs.Spread.{lower_round, follow_lowers}
use Rattle.lowering.proofs.Theory.LoweredTables.{Lowers, iter_lowered}
use Rattle.lowering.proofs.Theory.SweepSteps.{diagonal_lowers, start_lowers, limit_lowers, edges_lowers}
use Rattle.lowering.proofs.Theory.SpreadSteps.{lower_round_lowered, follow_lowers_lowers}
use Rattle.lowering.proofs.Laws.ReadyFile.{limit_range}
use Rattle.lowering.proofs.Laws.LinksAsRead.{link_points}
use Rattle.lowering.proofs.Laws.FirstAsRead.{marks_sound}

pub sound_marks : {n : ℕ} (t : List ℤ) {u : List ℤ} → n * n ≤ length t → u ≡ mark_all version1 (n * n) t → Sound version1 n u
sound_marks {n} t h e = rw e (marks_sound version1 n t h)

-- every limit's cell and every link's edges are steps that lower
module _ {s : List ℕ} {n m k : ℕ} (r : Ready s n m k) where
  pub limit_cells_lower : Lowers version1 n m (λ i. limit_cell version1 n (limit_at s i))
  limit_cells_lower =
      limit_lowers version1 version1_coherent n (limit_at s) m (λ i q. (limit_range s n m k r i q).from) (λ i q. (limit_range s n m k r i q).to)

  pub link_edges_lower : Lowers version1 n k (λ i. link_edges version1 n (link_at s m i))
  link_edges_lower = edges_lowers version1 version1_coherent n (link_at s m) k (link_points r)

module _ {n : ℕ} {t u : List ℤ} where
  pub sound_diagonal : Sound version1 n t → u ≡ diagonal_all version1 n t → Sound version1 n u
  unfolding diagonal_all
  sound_diagonal s e =
      rw e
      (iter_lowered version1 n n (λ x. lower_cell version1 n x x (num (pos zero))) (diagonal_lowers version1 version1_coherent n) t s).sound

  pub sound_starts : Sound version1 n t → u ≡ start_all version1 n t → Sound version1 n u
  unfolding start_all
  sound_starts s e =
      rw e
      (iter_lowered version1 n n (λ x. lower_cell version1 n x zero (num (pos zero))) (start_lowers version1 version1_coherent n) t s).sound

  module _ {s : List ℕ} {m k : ℕ} (r : Ready s n m k) where
    pub sound_lower_round : Sound version1 n t → u ≡ lower_round version1 n (link_at s m) k t → Sound version1 n u
    sound_lower_round h e = rw e (lower_round_lowered version1 version1_coherent n (link_at s m) k (link_points r) t h).sound

    pub sound_follow_lowers : (strict : List ℤ) {i : ℕ} → i < k → Sound version1 n t
        → u ≡ follow_lowers version1 n strict (link_at s m) k (link_at s m i) t → Sound version1 n u
    sound_follow_lowers strict {i} q h e =
        rw e (follow_lowers_lowers version1 version1_coherent n (link_at s m) k (link_points r) strict i q t h).sound

    pub sound_links : Sound version1 n t → u ≡ link_all version1 n (link_at s m) k t → Sound version1 n u
    unfolding link_all
    sound_links h e = rw e (iter_lowered version1 n k (λ i. link_edges version1 n (link_at s m i)) (link_edges_lower r) t h).sound

    pub sound_limits : Sound version1 n t → u ≡ limit_all version1 n (limit_at s) m t → Sound version1 n u
    unfolding limit_all
    sound_limits h e = rw e (iter_lowered version1 n m (λ i. limit_cell version1 n (limit_at s i)) (limit_cells_lower r) t h).sound

pub sound_first : {n : ℕ} {s : List ℕ} {m k : ℕ} → Ready s n m k → (t : List ℤ) {u : List ℤ} → n * n ≤ length t
    → u ≡ first_strict version1 n (limit_at s) m (link_at s m) k t → Sound version1 n u
unfolding first_strict
sound_first r t h e = sound_links r (sound_starts (sound_limits r (sound_diagonal (sound_marks t h refl) refl) refl) refl) e
