use Rattle.std.proofs.Common.{◌<◌, ap, arith}
use Rattle.tree.specs.declared.element.Element.{Element}
use Rattle.layout.specs.Layout.{element_at, name_count}
use Rattle.sheet.proofs.Sizes.{sized_names}
use Rattle.sheet.proofs.Links.{right_numbers}
use Rattle.sheet.proofs.elements.has_right_numbers.Goals as goal

pub returns-then-name-name_count : goal.returns-then-name-name_count
returns-then-name-name_count c =
    let bs = c.args.records.now.bytes.now in
    let k = c.args.k in
    let name = ap (λ (r : Element). r.name) c.element-name.ensures in
    let few = sized_names bs c.args.records.now.sized in
    let named : (element_at bs k).name < name_count bs = omega arith in
    right_numbers bs k c.element-name.result.name c.args.seen name c.requires.seen named (c.requires.linked (omega arith) (omega arith))
