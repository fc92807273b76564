use Rattle.std.proofs.Common.{◌≡◌, ◌<◌, ◌≤◌, ◌+◌, length, get_or, refl, sym, ap, ◌∙◌, arith, rules, tests}
use Rattle.std.proofs.lemmas.Iterator.{serves_from_Range, YieldsList-from_range, cases_from_any}
use Rattle.layout.specs.Layout.{name_count, byte_count, name_at, name_text}
use Rattle.sheet.specs.Links.{key_of}
use Rattle.sheet.proofs.Naming.{any_below}
use Rattle.sheet.proofs.Props.{checked_of}
use Rattle.sheet.proofs.names.Names.has.Goals as goal

pub any-requires-clause-callable : goal.any-requires-clause-callable
any-requires-clause-callable c =
    let bs = c.args.self.now.records.now.bytes.now in
    let checked = checked_of bs _ _ _ c.args.self.now.checked in
    serves_from_Range (λ x q k. search rules)
    (λ x a b.
    let here : x < length c.args.self.now.keys.items = omega arith in
    let right = checked.right x here in
    let few = checked.few in
    let within : x < name_count bs = omega arith in
    let fits : (name_at bs x).offset + (name_at bs x).length ≤ byte_count bs = right.within in
    search rules)

pub returns : goal.returns
returns c =
    let bs = c.args.self.now.records.now.bytes.now in
    let text = c.args.text.now in
    let keys = c.args.self.now.keys.items in
    let checked = checked_of bs _ _ _ c.args.self.now.checked in
    let n = c.len.result in
    let any = cases_from_any _ _ c.any.result (λ i. name_text bs i ≡ text) (λ i. i < n → name_text bs i ≡ text → ⊥) c.any.ensures.ran (YieldsList-from_range 0 n n refl (omega arith))
    (λ i q k. search (rules, tests))
    (λ i q k. (
      search rules,
      λ l e.
          let keyed : get_or keys i 0 ≡ c.key-own.result = checked.keyed i (omega arith) ∙ (ap key_of e ∙ sym c.key-own.ensures) in
          search (rules, tests),
    )) in
    let r = any_below (λ i. name_text bs i ≡ text) n c.any.result any in
    rw (c.len.ensures.value) at r
