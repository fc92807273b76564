use Rattle.std.proofs.Common.{◌≡◌, take, vec_items}
use Rattle.layout.specs.Layout.{elements_of, names_of}
use Rattle.report.specs.Outline.{element_lines}
use Rattle.report.proofs.outline.view_lines.Given as goal

-- the lines of the elements so far
abbrev pub invariant-loop-k : goal.invariant-loop-k
invariant-loop-k l = vec_items l.lines ≡ element_lines (names_of l.view.bytes.now) (take l.k (elements_of l.view.bytes.now))
