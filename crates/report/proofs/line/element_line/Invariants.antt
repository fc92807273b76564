use Rattle.std.proofs.Common.{◌≡◌, [], ◌∷◌, ◌++◌, take, flat_map, vec_items, decimal}
use Rattle.report.proofs.line.element_line.Given as goal

-- each number so far, and a space
abbrev pub invariant-loop-n : goal.invariant-loop-n
invariant-loop-n l = vec_items l.line ≡ flat_map (λ n. decimal n ++ 32 ∷ []) (take l.n-index l.n-items)
