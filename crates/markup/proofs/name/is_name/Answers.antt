use Rattle.std.proofs.Common.{sym, ◌∙◌, arith}
use Rattle.std.proofs.lemmas.Bool.{eqb-true, eq-eqb}
use Rattle.markup.proofs.Names.{name_run, name_from_run}
use Rattle.markup.proofs.name.is_name.Goals as goal

pub returns-then-starts_name : goal.returns-then-starts_name
returns-then-starts_name c =
    let bytes = c.args.bytes.now in (
      λ e. name_from_run bytes (omega arith) (sym c.if-starts_name.ensures) (sym c.run.ensures.value ∙ eqb-true _ _ e),
      λ l. eq-eqb _ _ (c.run.ensures.value ∙ name_run bytes l),
    )
