use Rattle.std.proofs.Common.{get_or}
use Rattle.sheet.proofs.Parts.{sheet_of_parts}
use Rattle.sheet.proofs.encoder.Contents.put.Goals as goal

pub returns : goal.returns
returns c =
    let s = c.args.self.now in
    sheet_of_parts s.elements.now s.names.now (λ j. get_or c.put_elements-first.result j 0) c.put_header.new.out c.put_elements-first.new.table c.put_names.new.table c.put_names.new.text
    s.few_names c.put_elements-first.ensures.first c.put_header.ensures c.put_elements-first.ensures.puts c.put_names.ensures.table c.put_names.ensures.text
