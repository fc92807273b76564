use Rattle.std.proofs.Common.{◌≡◌, ◌≤◌, IfSome}
use Rattle.layout.specs.Layout.{region_at}
use Rattle.layout.specs.Lawful.{RightElement, used}
use Rattle.sheet.specs.Opening.{Each}
use Rattle.sheet.specs.Stack.{Stack, last_start}
use Rattle.sheet.proofs.elements.check_elements.Given as goal

abbrev pub invariant-loop-k : goal.invariant-loop-k
invariant-loop-k l =
    Each (RightElement l.records.bytes.now) l.k × Stack (region_at l.records.bytes.now) l.k (last_start (region_at l.records.bytes.now) l.k) l.stack.items
    × (l.seen ≡ used l.records.bytes.now l.k) × IfSome l.wrong (λ w. l.k ≤ w)
