-- What a twig is: the root's mark, and the nodes numbered from 0 as their names come in the text.
use Rattle.std.specs.Prelude.{◌≡◌, ℕ, ◌<◌, ◌≤◌, List, [], ◌∷◌, length, slice_index_or}
use Rattle.std.specs.List.{AllByRecursion as Every}
use Rattle.markup.specs.Name.{LawfulName}
use Rattle.pattern.specs.declared.node.Edge.{Edge}
use Rattle.pattern.specs.declared.node.Edge.TheVariants.{Child}
use Rattle.pattern.specs.declared.node.Mark.{Mark}

-- a node: its name, the number of its parent and the edge to it (the root's are 0 and Child, and mean nothing)
pub record Vertex : Type 0 where
  pub name : List ℕ
  pub parent : ℕ
  pub edge : Edge

-- a twig
pub record Shape : Type 0 where
  pub mark : Mark
  pub nodes : List Vertex

-- a node with this name on node `parent`
abbrev pub node : List ℕ → ℕ → Edge → Vertex
node name parent edge = record { name = name; parent = parent; edge = edge }

-- a twig with this mark and these nodes
abbrev pub shape : Mark → List Vertex → Shape
shape mark nodes = record { mark = mark; nodes = nodes }

-- the only node of `//a`
abbrev pub root_a : Vertex
root_a = node (97 ∷ []) 0 Child

-- node i, and past the last node that of `//a`
abbrev pub node_at : List Vertex → ℕ → Vertex
node_at nodes i = slice_index_or nodes i root_a

-- node c is a child of node p, by either edge
pub record IsChild (nodes : List Vertex) (p c : ℕ) : Type 0 where
  pub other : 0 < c
  pub there : c < length nodes
  pub hangs : (node_at nodes c).parent ≡ p

-- node k is node i or stands below it
pub data Under (nodes : List Vertex) (i : ℕ) : ℕ → Type 0 where
  self : Under nodes i i
  below : (p c : ℕ) → IsChild nodes p c → Under nodes i p → Under nodes i c

-- A lawful twig has 1 to 16 nodes with lawful names. Node 0 is its root, and every other node has a parent of lower number. The nodes
-- under a node are a run of numbers: none that stands between a node and its parent hangs on a node before that parent.
pub record LawfulTwig (nodes : List Vertex) : Type 0 where
  pub some : 1 ≤ length nodes
  pub few : length nodes ≤ 16
  pub named : Every (λ (v : Vertex). LawfulName v.name) nodes
  pub root : (node_at nodes 0).parent ≡ 0
  pub root_edge : (node_at nodes 0).edge ≡ Child
  pub lower : (c : ℕ) → 0 < c → c < length nodes → (node_at nodes c).parent < c
  pub runs : (b c : ℕ) → c < length nodes → (node_at nodes c).parent < b → b < c → (node_at nodes c).parent ≤ (node_at nodes b).parent
