use Rattle.std.proofs.Common.{◌≡◌, ◌-◌, ◌*◌, ◌≤◌, ◌++◌, length, drop}
use Rattle.pattern.specs.Spelling.{spelling}
use Rattle.pattern.specs.Table.{items, vertices}
use Rattle.pattern.specs.Twig.{shape_of}
use Rattle.pattern.proofs.Spell.{to_write}
use Rattle.pattern.proofs.twig.Twig.spelled.Given as goal

abbrev pub invariant-loop-number : goal.invariant-loop-number
invariant-loop-number l =
    (l.out.items ++ to_write l.self.mark l.number (drop l.number (vertices (items l.self.nodes))) ≡ spelling (shape_of l.self))
    × (length l.out.items ≤ 37 * l.number - 3)
