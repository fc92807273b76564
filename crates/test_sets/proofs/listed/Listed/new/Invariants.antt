use Rattle.std.proofs.Common.{ℕ, ◌<◌}
use Rattle.tree.specs.Region.{Fits}
use Rattle.test_sets.specs.Members.{region_at}
use Rattle.test_sets.proofs.listed.Listed.new.Given as goal

-- each so far fits
abbrev pub invariant-loop-k : goal.invariant-loop-k
invariant-loop-k l = (j : ℕ) → j < l.k → Fits (region_at l.members) j
