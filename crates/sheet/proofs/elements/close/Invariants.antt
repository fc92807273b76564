use Rattle.std.proofs.Common.{length}
use Rattle.layout.specs.Layout.{region_at}
use Rattle.sheet.specs.Stack.{Stack}
use Rattle.sheet.proofs.elements.close.Given as goal

abbrev pub invariant-loop-top : goal.invariant-loop-top
invariant-loop-top l = Stack (region_at l.records.bytes.now) l.k (region_at l.records.bytes.now l.k).start l.stack.items

abbrev pub decreases-loop-top : goal.decreases-loop-top
decreases-loop-top l = length l.stack.items
