use Rattle.std.proofs.Common.{◌∙◌}
use Rattle.std.proofs.lemmas.Result.{err_from_is_err_and}
use Rattle.pattern.proofs.Exact.{reading_short}
use Rattle.pattern.proofs.Trees.{grammar, not_derived}
use Rattle.pattern.proofs.twig.Twig.read.Goals as goal

pub returns-in_err-self-clause-grammar : goal.returns-in_err-self-clause-grammar
returns-in_err-self-clause-grammar c =
    let p = err_from_is_err_and c.from_residual.result c.from_residual.ensures.1 in
    rw p.1 (not_derived _ _ (reading_short _ c.if-text-gt-MOST_BYTES.false ∙ c.in_err-self.ensures))

pub returns-clause-grammar : goal.returns-clause-grammar
returns-clause-grammar c = (grammar _ _).0 (reading_short _ c.if-text-gt-MOST_BYTES.false ∙ c.in_ok-self.ensures)
