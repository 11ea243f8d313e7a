-- A link of a plan, as a table of its points has it. Assumes nothing.
use mathlib.Core.Path.{◌≡◌}
use Prim.Native.Nat.{ℕ, ◌<◌}
use Rattle.rules.specs.Plan.{Link, version1, LinkInRange}
use Rattle.plan.specs.Layout.{link_at}
use Rattle.reader.specs.declared.sound.SoundPlan.{SoundPlan}
use Rattle.lowering.proofs.Laws.LinksAsRead.{link_read}

-- one that was read is in range
pub link_there : (plan : SoundPlan) {n i : ℕ} → plan.n ≡ n → i < plan.k → {a : Link} → a ≡ link_at plan.file.now plan.m i → LinkInRange version1 n a
link_there plan {i = i} e h k = rw (← e) (link_read plan.ready i h k)
