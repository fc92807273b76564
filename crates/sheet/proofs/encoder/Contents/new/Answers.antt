use Rattle.std.proofs.Common.{length, rules, tests, sym, ◌∙◌, arith}
use Rattle.std.proofs.lemmas.Iterator.{YieldsList-from_slice}
use Rattle.std.proofs.lemmas.Iterator.Search.{position_from_yields_List}
use Rattle.sheet.proofs.Fields.{misnumbered, long, number_refused, name_refused, none_refused}
use Rattle.sheet.proofs.encoder.Contents.new.Goals as goal

pub returns-in-Some-clause-fits : goal.returns-in-Some-clause-fits
returns-in-Some-clause-fits c =
    let es = c.args.elements.now in
    let xs = c.args.names.now in
    let p = position_from_yields_List (misnumbered (length xs)) _ _ c.position.result c.position.ensures.ran (YieldsList-from_slice es cc) (λ x b q k. search (rules, tests)) in
    rw c.at-in-Some.ensures (sym (number_refused es xs (omega arith) (omega arith) c.in-Some.k (sym p ∙ c.in-Some.is)))

pub returns-in-Some-position-clause-fits : goal.returns-in-Some-position-clause-fits
returns-in-Some-position-clause-fits c =
    let es = c.args.elements.now in
    let xs = c.args.names.now in
    let p = position_from_yields_List (misnumbered (length xs)) _ _ c.position.result c.position.ensures.ran (YieldsList-from_slice es cc) (λ x b q k. search (rules, tests)) in
    let q = position_from_yields_List long _ _ c.position-2.result c.position-2.ensures.ran (YieldsList-from_slice xs cc) (λ x b q k. search (rules, tests)) in
    rw c.at-in-Some-position.ensures
    (sym (name_refused es xs (omega arith) (omega arith) (sym p ∙ c.in_default.is) c.in-Some-position.j (sym q ∙ c.in-Some-position.is)))

pub returns-clause-fits : goal.returns-clause-fits
returns-clause-fits c =
    let es = c.args.elements.now in
    let xs = c.args.names.now in
    let p = position_from_yields_List (misnumbered (length xs)) _ _ c.position.result c.position.ensures.ran (YieldsList-from_slice es cc) (λ x b q k. search (rules, tests)) in
    let q = position_from_yields_List long _ _ c.position-2.result c.position-2.ensures.ran (YieldsList-from_slice xs cc) (λ x b q k. search (rules, tests)) in
    sym (none_refused es xs (omega arith) (omega arith) (sym p ∙ c.in_default.is) (sym q ∙ c.in_default-position.is))
