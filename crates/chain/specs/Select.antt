-- Which elements a set takes, by their numbers.
use Rattle.std.specs.Prelude.{ℕ, Bool, true, false, not, List, nat_eq, slice_get}
use Rattle.std.specs.Option.{option_map_or}

-- every element
abbrev pub every : ℕ → Bool
every k = true

-- the mark byte of element k is there and not 0
abbrev pub marked : List ℕ → ℕ → Bool
marked marks k = option_map_or (λ mark. not (nat_eq mark 0)) (slice_get marks k) false
