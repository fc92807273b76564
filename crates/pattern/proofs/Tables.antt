-- The nodes of a twig, by their numbers.
use Rattle.std.proofs.Common.{◌≡◌, ℕ, ◌<◌, List, length, get_or}
use Rattle.std.proofs.lemmas.List.{get_or-map, length-map}
use Rattle.pattern.specs.declared.node.Node.{Node}
use Rattle.pattern.specs.Shape.{Vertex}
use Rattle.pattern.specs.Table.{vertex_of, vertices}

pub length-vertices : (ns : List Node) → length (vertices ns) ≡ length ns
length-vertices ns = length-map ns vertex_of

pub get_or-vertices : (ns : List Node) (j : ℕ) (d : Node) (e : Vertex) → j < length ns → get_or (vertices ns) j e ≡ vertex_of (get_or ns j d)
get_or-vertices ns j d e h = get_or-map vertex_of ns j d e h
