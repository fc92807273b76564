-- The bytes of each line; LF (10) ends it.
use Rattle.std.specs.Prelude.{ℕ, List, [], ◌∷◌, ◌++◌, take, flat_map, codes, decimal}
use Rattle.std.specs.List.{join_by}
use Rattle.markup.specs.declared.fault.Fault.{Fault}
use Rattle.markup.specs.Number.{number_of}
use Rattle.tree.specs.declared.element.Element.{Element}
use Rattle.listing.specs.declared.place.Place.{Place}

-- `start end level name`
abbrev pub element_line : Element → List ℕ → List ℕ
element_line e name = decimal e.start ++ (32 ∷ decimal e.«end» ++ (32 ∷ decimal e.level ++ (32 ∷ name ++ 10 ∷ [])))

-- `end`
abbrev pub end_line : List ℕ
end_line = 101 ∷ 110 ∷ 100 ∷ 10 ∷ []

-- `refused N at P`
abbrev pub refusal_line : Fault → List ℕ
refusal_line f = codes "refused " ++ (decimal (number_of f.refusal) ++ (codes " at " ++ (decimal f.place ++ 10 ∷ [])))

-- the starts of the first nodes, with one space between
abbrev pub place_line : ℕ → Place → List ℕ
place_line nodes p = join_by decimal (32 ∷ []) (take nodes p.starts) ++ 10 ∷ []

-- the lines of the first places of a table
abbrev pub page_lines : ℕ → ℕ → List Place → List ℕ
page_lines nodes count table = flat_map (place_line nodes) (take count table)
