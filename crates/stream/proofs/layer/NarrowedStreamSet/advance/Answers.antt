use Rattle.std.proofs.Common.{ap, ◌∙◌}
use Rattle.stream.specs.Lists.{update, rest}
use Rattle.stream.proofs.Calls.{advanced}
use Rattle.stream.proofs.layer.NarrowedStreamSet.advance.Goals as goal

pub returns-clause-less : goal.returns-clause-less
returns-clause-less g c =
    let h = c.first_kept.ensures in
    advanced _ _ _ c.args.i c.advance.ensures.less h.passes ∙ ap (update c.args.i rest) h.same
