use Rattle.std.proofs.Common.{refl, arith, rules}
use Rattle.sheet.proofs.Props.{checked_of}
use Rattle.sheet.proofs.Sizes.{sized_names}
use Rattle.sheet.proofs.Naming.{right_name, right_first}
use Rattle.sheet.proofs.names.Names.next_is_right.Goals as goal

pub returns-then-n-element_count : goal.returns-then-n-element_count
returns-then-n-element_count c right =
    let bs = c.args.self.now.records.now.bytes.now in
    let keys = c.args.self.now.keys.items in
    let few = sized_names bs c.args.self.now.records.now.sized in
    let checked = checked_of bs c.args.self.now.first.now keys c.args.self.now.end c.args.self.now.checked in
    let first = right_first bs c.args.self.now.first.now keys c.args.self.now.end c.len-j.result c.name-n.result checked c.len-j.ensures.value (omega arith) c.name-n.ensures right in
    search rules

pub returns-then-is_name : goal.returns-then-is_name
returns-then-is_name c =
    let bs = c.args.self.now.records.now.bytes.now in
    let keys = c.args.self.now.keys.items in
    let few = sized_names bs c.args.self.now.records.now.sized in
    let checked = checked_of bs c.args.self.now.first.now keys c.args.self.now.end c.args.self.now.checked in
    right_name bs c.args.self.now.first.now keys c.args.self.now.end c.len-j.result c.name-n.result c.text-text.result.now c.has.result checked c.len-j.ensures.value (omega arith)
    c.name-n.ensures c.if-n-self.false (omega arith) (omega arith) c.if-n-self-2.false c.text-text.ensures (c.if-is_name.ensures.0 refl) c.has.ensures
