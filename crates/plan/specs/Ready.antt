-- A sound file with its counts, which every function that reads a plan is lent. Assumes nothing.
use Rattle.std.specs.Prelude.{◌≡◌, List, ℕ}
use Rattle.rules.specs.Answers.{Done}
use Rattle.plan.specs.Layout.{head_of}
use Rattle.plan.specs.File.{file_answer}

-- the bytes are a plan file of n points, m limits and k links
pub record Ready (s : List ℕ) (n m k : ℕ) : Type 0 where
  pub sound : file_answer s ≡ Done
  pub points : n ≡ (head_of s).points
  pub limits : m ≡ (head_of s).limits
  pub links : k ≡ (head_of s).links
