use Rattle.std.proofs.Common.{◌<◌, ◌≤◌, ⊎_elim, arith}
use Rattle.std.proofs.lemmas.Bool.{cases_lt}
use Rattle.pattern.specs.Table.{items, vertices}
use Rattle.pattern.proofs.Asked.{no_more_children}
use Rattle.pattern.proofs.Props.{every}
use Rattle.pattern.proofs.twig.Twig.next_child.Goals as goal

pub returns-then-parent-i-2 : goal.returns-then-parent-i-2
returns-then-parent-i-2 c d l D =
    ⊎_elim (λ (q : d < c.loop-c.c). c.loop-c.invariant d l q D)
    (λ (q : c.loop-c.c ≤ d). no_more_children (vertices (items c.args.self.now.nodes)) (every c.args.self.now) c.args.i c.in_ok-parent.parent c.loop-c.c (omega arith) c.in_ok-parent.ensures.0 c.if-parent-i-2.true d q D)
    (cases_lt d c.loop-c.c)
