use Rattle.std.proofs.Common.{◌∙◌, ap}
use Rattle.sheet.specs.declared.header.Header.{Header}
use Rattle.sheet.proofs.Sizes.{sized_texts}
use Rattle.sheet.proofs.records.Records.bytes_offset.Goals as goal

pub returns : goal.returns
returns c =
    let bs = c.args.self.now.bytes.now in
    ap (λ (h : Header). h.texts) c.header.ensures ∙ sized_texts bs c.args.self.now.sized
