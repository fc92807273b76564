use Rattle.std.proofs.Common.{◌≡◌, get_or, None}
use Rattle.chain.specs.Chains.{chains}
use Rattle.chain.proofs.Follow.{steps}
use Rattle.chain.proofs.chain.Chains.first.Given as goal

abbrev pub invariant-loop-k : goal.invariant-loop-k
invariant-loop-k g l =
    let selects = g.M.Select.selects in
    (chains l.self.view.bytes.now (selects l.self.select) l.self.heads ≡ chains l.initial.self.view.bytes.now (selects l.initial.self.select) l.initial.self.heads) ×
    (l.self.view ≡ l.initial.self.view) ×
    (l.self.select ≡ l.initial.self.select)

abbrev pub decreases-loop-k : goal.decreases-loop-k
decreases-loop-k g l = steps l.self.view.bytes.now (get_or l.self.heads l.i None)
