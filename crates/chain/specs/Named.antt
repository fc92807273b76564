-- The lists of a pattern's nodes in a tree.
use Rattle.std.specs.Prelude.{ℕ, Bool, cond, List, [], map, length, filter, nat_lt, slice_index_or}
use Rattle.std.specs.List.{range_with_len}
use Rattle.std.specs.Str.{bytes_eq}
use Rattle.tree.specs.declared.element.Element.{Element}
use Rattle.tree.specs.Tree.{Tree}
use Rattle.layout.specs.Layout.{element_count, element_at, tree_of}
use Rattle.pattern.specs.Shape.{Vertex, node_at}
use Rattle.stream.specs.declared.region.Region.{Region}
use Rattle.stream.specs.Regions.{region_of}

-- the element has these bytes as its name
abbrev pub has_name : Tree → List ℕ → Element → Bool
has_name t text e = bytes_eq (slice_index_or t.names e.name []) text

-- list i: the elements with the name of node i, and none past the last node
abbrev pub lists_of : Tree → List Vertex → ℕ → List Region
lists_of t nodes i = cond (nat_lt i (length nodes)) (map region_of (filter (has_name t (node_at nodes i).name) t.elements)) []

-- the numbers of a sheet's elements with the name of node i, and none past the last node
abbrev pub numbers_of : List ℕ → List Vertex → ℕ → List ℕ
numbers_of bs nodes i = cond (nat_lt i (length nodes)) (filter (λ k. has_name (tree_of bs) (node_at nodes i).name (element_at bs k)) (range_with_len 0 (element_count bs))) []
