use Rattle.std.proofs.Common.{◌<◌, subst}
use Rattle.pattern.specs.Table.{items}
use Rattle.pattern.proofs.Asked.{child}
use Rattle.pattern.proofs.Props.{every}
use Rattle.pattern.proofs.twig.Twig.parent.Goals as goal

pub returns : goal.returns
returns c =
    let n = c.in_ok-node.ensures in
    let h = child (items c.args.self.now.nodes) c.args.i _ _ n.hung n.item.3.0 n.item.1 c.in_ok-branch.was in
    (h, subst (λ p. p < c.args.i) h.hangs ((every c.args.self.now).lower c.args.i h.other h.there))
