use Rattle.std.proofs.Common.{[], arith, get_or, Bor, List, ℕ}
use Rattle.sheet.proofs.Parts.{offset_more, offset_within, text_more, names_more}
use Rattle.sheet.proofs.encoder.Contents.put_names.Goals as goal

pub loop-j-preserved : goal.loop-j-preserved
loop-j-preserved c =
    let xs = c.args.self.now.names.now in
    let i = c.loop-j.invariant in
    let j = c.loop-j.j in
    let o = c.loop-j.offset in
    let d : Bor (List ℕ) = record { ref_ptr = (0, 0); now = [] } in
    record {
      offset = offset_more xs j o d c.loop-j-test.true i.offset;
      table = names_more xs j o d c.loop-j-test.true i.offset (λ i. get_or c.args.first.now i 0) c.loop-j.table c.put_name.new.out (omega arith) c.put_name.ensures i.table;
      text = text_more xs j o d c.loop-j-test.true i.offset c.loop-j.text c.copy_from_slice.new.self (omega (arith, offset_within xs j o d c.loop-j-test.true i.offset)) c.copy_from_slice.ensures.after i.text;
    }
