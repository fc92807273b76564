use Rattle.std.proofs.Common.{sym, ap, ◌∙◌}
use Rattle.stream.specs.Lists.{first}
use Rattle.stream.proofs.Narrow.{first_kept}
use Rattle.stream.proofs.layer.NarrowedStreamSet.tell.Goals as goal

pub returns-clause-told : goal.returns-clause-told
returns-clause-told g c =
    let h = c.first_kept.ensures in
    h.told ∙ sym (first_kept _ _ h.passes) ∙ ap (λ lists. first (lists c.args.i)) h.same
