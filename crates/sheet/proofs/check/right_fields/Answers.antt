use Rattle.std.proofs.Common.{ap, rules, tests}
use Rattle.sheet.specs.declared.header.Header.{Header}
use Rattle.sheet.proofs.Headers.{right_fields}
use Rattle.sheet.proofs.check.right_fields.Goals as goal

pub returns : goal.returns
returns c =
    let h = c.read-header.ensures in
    let version = ap (λ (x : Header). x.version) h in
    let elements = ap (λ (x : Header). x.elements) h in
    let names = ap (λ (x : Header). x.names) h in
    let element_table = ap (λ (x : Header). x.element_table) h in
    let name_table = ap (λ (x : Header). x.name_table) h in
    let texts = ap (λ (x : Header). x.texts) h in
    let name_bytes = ap (λ (x : Header). x.name_bytes) h in
    let total = ap (λ (x : Header). x.total) h in
    right_fields c.args.bytes.now _ _ _ _ _ _ _ _ (search (rules, tests)) (search (rules, tests)) (search (rules, tests)) (search (rules, tests)) (search (rules, tests)) (search (rules, tests))
    (search (rules, tests)) (search (rules, tests))
