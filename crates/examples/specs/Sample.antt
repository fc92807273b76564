-- The sample book.
use Rattle.std.specs.Prelude.{ℕ, List, [], ◌∷◌, codes}
use Rattle.tree.specs.declared.element.Element.{Element}
use Rattle.tree.specs.Tree.{Tree}

abbrev pub sample : List ℕ
sample = codes "<b><p><n/></p><p></p></b>"

-- an element: its start, end and level, and the number of its name
abbrev pub element : ℕ → ℕ → ℕ → ℕ → Element
element start last level name = record { start = start; «end» = last; level = level; name = name }

-- its elements, and its names by first use
abbrev pub sample_tree : Tree
sample_tree = record {
  elements = element 0 21 0 0 ∷ element 3 10 1 1 ∷ element 6 8 2 2 ∷ element 14 17 1 1 ∷ [];
  names = codes "b" ∷ codes "p" ∷ codes "n" ∷ [];
}
