use Rattle.std.proofs.Common.{not, length, ap, ◌∙◌, rules, tests}
use Rattle.std.proofs.lemmas.Iterator.{YieldsList-from_slice}
use Rattle.std.proofs.lemmas.Iterator.Search.{position_from_yields_List}
use Rattle.std.specs.Option.{unwrap_or}
use Rattle.markup.proofs.Runs.{run_of_position}
use Rattle.markup.proofs.scan.run.Goals as goal

pub returns-clause-value : goal.returns-clause-value
returns-clause-value g c =
    let bs = c.args.bytes.now in
    let ends = position_from_yields_List (λ b. not (g.C.Class.member b)) _ _ c.position.result c.position.ensures.ran (YieldsList-from_slice bs cc) (λ x b q k. search (rules, tests)) in
    c.unwrap_or.ensures ∙ (ap (λ r. unwrap_or r (length bs)) ends ∙ run_of_position g.C.Class.member bs)
