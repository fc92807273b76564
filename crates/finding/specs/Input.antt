-- The input of the finder.
use Rattle.std.specs.Prelude.{ℕ, List, ◌==◌}
use Rattle.std.specs.List.{before_first, after_first}

-- the pattern: up to the first LF, or all
abbrev pub pattern_in : List ℕ → List ℕ
pattern_in input = before_first (λ b. b == 10) input

-- the book text: behind the first LF, or empty
abbrev pub text_in : List ℕ → List ℕ
text_in input = after_first (λ b. b == 10) input
