use Rattle.std.proofs.Common.{◌≡◌, ◌<◌, arith, rules, tests}
use Rattle.std.proofs.lemmas.Iterator.{serves_from_Range, first_from_Range}
use Rattle.layout.specs.Layout.{name_count, name_text}
use Rattle.sheet.proofs.Sizes.{lawful_text}
use Rattle.sheet.proofs.Viewed.{find_name}
use Rattle.sheet.proofs.view.SheetView.find.Goals as goal

pub find-requires-clause-callable : goal.find-requires-clause-callable
find-requires-clause-callable c =
    serves_from_Range (λ x q k. search rules)
    (λ x a b.
    let within : x < name_count c.args.self.now.bytes.now = omega arith in
    let t = lawful_text c.args.self.now.bytes.now c.args.self.now.lawful x within in
    search rules)

pub returns : goal.returns
returns c =
    let bs = c.args.self.now.bytes.now in
    let text = c.args.text.now in
    find_name bs text c.name_count.result c.find.result c.name_count.ensures
    (first_from_Range _ _ _ c.find.result (λ j. name_text bs j ≡ text) (λ j. name_text bs j ≡ text → ⊥) c.find.ensures.ran (λ j q k. search (rules, tests))
    (λ j q k. (search rules, λ e. search (rules, tests))))
