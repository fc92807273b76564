use Rattle.std.proofs.Common.{◌≡◌, ◌*◌, length, get_or, take}
use Rattle.layout.specs.Encoding.{name_table, joint}
use Rattle.tree.specs.Tree.{bytes_of}
use Rattle.sheet.proofs.encoder.Contents.put_names.Given as goal

-- the first j names are written
abbrev pub invariant-loop-j : goal.invariant-loop-j
invariant-loop-j l =
    let ts = take l.j (bytes_of l.self.names.now) in
    record {
      offset : l.offset ≡ length (joint ts);
      table : take (12 * l.j) l.table ≡ name_table (λ i. get_or l.first i 0) ts 0 0;
      text : take l.offset l.text ≡ joint ts;
    }
