use Rattle.std.proofs.Common.{◌≡◌, ◌∷◌, ◌++◌, take, flat_map, vec_items, decimal}
use Rattle.report.proofs.line.append_place.Given as goal

-- before each start so far a space
abbrev pub invariant-loop-start : goal.invariant-loop-start
invariant-loop-start l = vec_items l.lines ≡ vec_items l.initial.lines ++ flat_map (λ n. 32 ∷ decimal n) (take l.start-index l.rest)
