use Rattle.std.proofs.Common.{ℕ, ◌<◌}
use Rattle.pattern.specs.Shape.{IsChild}
use Rattle.pattern.specs.Table.{items, vertices}
use Rattle.pattern.proofs.twig.Twig.next_child.Given as goal

-- none so far
abbrev pub invariant-loop-c : goal.invariant-loop-c
invariant-loop-c l = (d : ℕ) → l.after < d → d < l.c → IsChild (vertices (items l.self.nodes)) l.i d → ⊥
