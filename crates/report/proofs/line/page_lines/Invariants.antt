use Rattle.std.proofs.Common.{◌≡◌, take, flat_map, vec_items}
use Rattle.report.specs.Lines.{place_line}
use Rattle.report.proofs.line.page_lines.Given as goal

-- the lines of the places so far
abbrev pub invariant-loop-place : goal.invariant-loop-place
invariant-loop-place l = vec_items l.lines ≡ flat_map (place_line l.nodes) (take l.place-index l.place-items)
