use Rattle.std.proofs.Common.{◌≡◌, ℕ, ◌*◌, ◌<◌, ◌≤◌, length, get_or, take, drop}
use Rattle.layout.specs.Encoding.{element_table, seek}
use Rattle.sheet.proofs.encoder.Contents.put_elements.Given as goal

-- the first m elements are left
abbrev pub invariant-loop-k : goal.invariant-loop-k
invariant-loop-k l =
    let m = length l.k-iterator.iter.iter.rest.now in
    let es = l.self.elements.now in
    record {
      counted : l.k-iterator.iter.count ≡ 0;
      within : m ≤ length es;
      left : take m es ≡ l.k-iterator.iter.iter.rest.now;
      numbers : length l.nearest ≡ 1024;
      written : drop (16 * m) l.table ≡ element_table (drop m es) m;
      nearest : (n : ℕ) → n < 1024 → get_or l.nearest n 0 ≡ seek n (drop m es) m;
    }
