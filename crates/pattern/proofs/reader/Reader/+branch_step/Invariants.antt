use Rattle.std.proofs.Common.{◌+◌, ◌*◌, length, Ok}
use Rattle.pattern.specs.Moves.{Next, Stepped}
use Rattle.pattern.proofs.reader.Reader.+branch_step.Given as goal

abbrev pub decreases-branch : goal.decreases-branch
decreases-branch l = 2 * length l.self.now.cursor.rest + 1

abbrev pub decreases-step : goal.decreases-step
decreases-step l = 2 * length l.self.now.cursor.rest

abbrev pub invariant-branch-loop-self : goal.invariant-branch-loop-self
invariant-branch-loop-self l = Stepped l.fn.hook l.fn.depth l.fn.self l.self (Ok l.last) × (Next l.self.cursor 91 → ⊥)

abbrev pub decreases-branch-loop-self : goal.decreases-branch-loop-self
decreases-branch-loop-self l = length l.self.cursor.rest

abbrev pub invariant-step-loop-self : goal.invariant-step-loop-self
invariant-step-loop-self l = Stepped l.fn.hook l.fn.depth l.fn.self l.self (Ok l.node)

abbrev pub decreases-step-loop-self : goal.decreases-step-loop-self
decreases-step-loop-self l = length l.self.cursor.rest
