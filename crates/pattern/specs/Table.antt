-- The nodes that a twig holds, as vertices.
use Rattle.std.specs.Prelude.{ℕ, List, map, take, Some, None, Option}
use Rattle.pattern.specs.declared.node.Edge.{Edge}
use Rattle.pattern.specs.declared.node.Edge.TheVariants.{Child}
use Rattle.pattern.specs.declared.node.Hook.{Hook}
use Rattle.pattern.specs.declared.name.Name.{Name}
use Rattle.pattern.specs.declared.node.Node.{Node}
use Rattle.pattern.specs.declared.nodes.Nodes.{Nodes}
use Rattle.pattern.specs.Shape.{Vertex, node}

-- the number of the parent; that of the root is 0
abbrev pub parent_of : Option Hook → ℕ
parent_of None = 0
parent_of (Some h) = h.parent

-- the edge to the parent; that of the root is Child
abbrev pub edge_of : Option Hook → Edge
edge_of None = Child
edge_of (Some h) = h.edge

-- the bytes of a name
abbrev pub name_of : Name → List ℕ
name_of a = take a.len a.bytes

-- a node of the table
abbrev pub vertex_of : Node → Vertex
vertex_of n = node (name_of n.name) (parent_of n.hook) (edge_of n.hook)

-- the nodes by their numbers
abbrev pub items : Nodes → List Node
items ns = take ns.len ns.table

abbrev pub vertices : List Node → List Vertex
vertices nodes = map vertex_of nodes
