use Rattle.std.proofs.Common.{◌≡◌, length}
use Rattle.sheet.proofs.names.check_names.Given as goal

abbrev pub invariant-loop-j : goal.invariant-loop-j
invariant-loop-j l = (l.names.records.now.bytes.now ≡ l.fn.records.bytes.now) × (length l.names.keys.items ≡ l.j)
