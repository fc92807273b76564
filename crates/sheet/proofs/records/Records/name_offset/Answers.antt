use Rattle.std.proofs.Common.{ap, arith}
use Rattle.sheet.specs.declared.header.Header.{Header}
use Rattle.sheet.proofs.Sizes.{sized_name_table}
use Rattle.sheet.proofs.records.Records.name_offset.Goals as goal

pub returns : goal.returns
returns c =
    let bs = c.args.self.now.bytes.now in
    let table = sized_name_table bs c.args.self.now.sized in
    omega (arith, ap (λ (h : Header). h.name_table) c.header.ensures)
