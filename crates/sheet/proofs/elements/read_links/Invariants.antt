use Rattle.std.proofs.Common.{◌≡◌, length}
use Rattle.sheet.specs.Links.{LinkedFrom, Firsts}
use Rattle.sheet.proofs.elements.read_links.Given as goal

abbrev pub invariant-loop-k : goal.invariant-loop-k
invariant-loop-k l = (length l.first ≡ 1024) × LinkedFrom l.records.bytes.now l.k l.wrong × Firsts l.records.bytes.now l.k l.first
