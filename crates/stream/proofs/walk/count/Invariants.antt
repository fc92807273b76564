use Rattle.std.proofs.Common.{◌≡◌, ◌+◌, [], length}
use Rattle.stream.specs.Lists.{update}
use Rattle.stream.proofs.walk.count.Given as goal

abbrev pub invariant-loop-set : goal.invariant-loop-set
invariant-loop-set g l =
    let m = g.S.StreamSet in
    (l.n + length (m.lists l.set l.i) ≡ length (m.lists l.initial.set l.i)) ×
    (update l.i (λ _. []) (m.lists l.set) ≡ update l.i (λ _. []) (m.lists l.initial.set)) ×
    (m.book l.set ≡ m.book l.initial.set)

abbrev pub decreases-loop-set : goal.decreases-loop-set
decreases-loop-set g l = length (g.S.StreamSet.lists l.set l.i)
