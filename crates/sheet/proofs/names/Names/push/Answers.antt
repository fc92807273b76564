use Rattle.std.proofs.Common.{◌≡◌, ℕ, length, ◌∙◌, ap, arith, lit<}
use Rattle.layout.specs.declared.record.NameRecord.{NameRecord}
use Rattle.layout.specs.Layout.{name_at}
use Rattle.sheet.specs.Links.{key_of}
use Rattle.sheet.proofs.Props.{checked_of}
use Rattle.sheet.proofs.Sizes.{sized_names, sized_bytes}
use Rattle.sheet.proofs.Naming.{checked_more}
use Rattle.sheet.proofs.names.Names.push.Goals as goal

pub push-requires : goal.push-requires
push-requires c = let few = sized_names _ c.args.self.now.records.now.sized in (lit< tt, omega arith)

pub overflow_add-self : goal.overflow_add-self
overflow_add-self c =
    let bs = c.args.self.now.records.now.bytes.now in
    let few = sized_bytes bs c.args.self.now.records.now.sized in
    let n = c.requires.right in
    let checked = checked_of bs _ _ _ c.args.self.now.checked in
    let size : c.name.result.length ≡ (name_at bs (length c.args.self.now.keys.items)).length =
    ap (λ (x : NameRecord). x.length) c.name.ensures ∙ ap (λ (j : ℕ). (name_at bs j).length) c.len-j.ensures.value in
    omega (arith, n.follows, n.within, checked.ends)

pub invariant_of-self : goal.invariant_of-self
invariant_of-self c =
    let bs = c.args.self.now.records.now.bytes.now in
    let first = c.args.self.now.first.now in
    let keys = c.args.self.now.keys.items in
    let end = c.args.self.now.end in
    let key = c.key.ensures ∙ ap key_of c.text.ensures in
    let size = ap (λ (x : NameRecord). x.length) c.name.ensures in
    let more = checked_more bs first keys end c.len-j.result c.key.result c.name.result.length (checked_of bs first keys end c.args.self.now.checked) c.len-j.ensures.value c.requires.within c.requires.right key size in
    record { checked = ∣ rw c.push.ensures.items more ∣₁ }
