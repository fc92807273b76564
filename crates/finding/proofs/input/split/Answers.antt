use Rattle.std.proofs.Common.{rules, tests, sym, ◌∙◌}
use Rattle.std.specs.Prelude.{◌==◌}
use Rattle.std.proofs.lemmas.Iterator.{YieldsList-from_slice}
use Rattle.std.proofs.lemmas.Iterator.Search.{position_from_yields_List}
use Rattle.finding.proofs.Splitting.{pattern_before, text_behind, pattern_all, text_none}
use Rattle.finding.proofs.input.split.Goals as goal

pub returns-in-Some-clause-pattern : goal.returns-in-Some-clause-pattern
returns-in-Some-clause-pattern c =
    let p = position_from_yields_List (λ b. b == 10) _ _ c.position.result c.position.ensures.ran (YieldsList-from_slice c.args.input.now cc) (λ x b q k. search (rules, tests)) in
    pattern_before c.args.input.now c.in-Some.end (sym p ∙ c.in-Some.is)

pub returns-in-Some-clause-text : goal.returns-in-Some-clause-text
returns-in-Some-clause-text c =
    let p = position_from_yields_List (λ b. b == 10) _ _ c.position.result c.position.ensures.ran (YieldsList-from_slice c.args.input.now cc) (λ x b q k. search (rules, tests)) in
    text_behind c.args.input.now c.in-Some.end (sym p ∙ c.in-Some.is)

pub returns-in-None-clause-pattern : goal.returns-in-None-clause-pattern
returns-in-None-clause-pattern c =
    let p = position_from_yields_List (λ b. b == 10) _ _ c.position.result c.position.ensures.ran (YieldsList-from_slice c.args.input.now cc) (λ x b q k. search (rules, tests)) in
    pattern_all c.args.input.now (sym p ∙ c.in-None.is)

pub returns-in-None-clause-text : goal.returns-in-None-clause-text
returns-in-None-clause-text c =
    let p = position_from_yields_List (λ b. b == 10) _ _ c.position.result c.position.ensures.ran (YieldsList-from_slice c.args.input.now cc) (λ x b q k. search (rules, tests)) in
    text_none c.args.input.now (sym p ∙ c.in-None.is)
