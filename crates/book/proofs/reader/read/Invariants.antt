use Rattle.std.proofs.Common.{◌≡◌, ◌-◌, length}
use Rattle.book.proofs.Runs.{Sofar}
use Rattle.book.proofs.reader.read.Given as goal

abbrev pub invariant-loop-reader : goal.invariant-loop-reader
invariant-loop-reader l = (l.lexer.text.now ≡ l.text) × Sofar l.text l.lexer.at l.reader

abbrev pub decreases-loop-reader : goal.decreases-loop-reader
decreases-loop-reader l = length l.text - l.lexer.at
