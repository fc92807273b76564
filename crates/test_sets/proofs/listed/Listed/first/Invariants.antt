use Rattle.std.proofs.Common.{◌≡◌}
use Rattle.test_sets.specs.Members.{listed}
use Rattle.test_sets.proofs.listed.Listed.first.Given as goal

-- none is in list i so far
abbrev pub invariant-loop-k : goal.invariant-loop-k
invariant-loop-k l = listed l.self.members.now l.i l.from ≡ listed l.self.members.now l.i l.k
