-- What the lists of a set stand for: elements of a tree by the nodes of a pattern.
use Rattle.std.specs.Prelude.{◌≡◌, ℕ, ◌+◌, ◌<◌, ◌≤◌, Bool, cond, ◌&&◌, List, [], ◌∷◌, map, length}
use Rattle.tree.specs.declared.element.Element.{Element}
use Rattle.tree.specs.Tree.{Tree}
use Rattle.pattern.specs.Shape.{Vertex, node_at}
use Rattle.stream.specs.declared.region.Region.{Region}
use Rattle.stream.specs.Regions.{region_of}
use Rattle.stream.specs.Narrowing.{narrowed}
use Rattle.chain.specs.Named.{has_name}

-- the elements of a list that pass, where they are numbered from k on
abbrev pub passing : (ℕ → Element → Bool) → ℕ → List Element → List Element
passing p k [] = []
passing p k (e ∷ es) = cond (p k e) (e ∷ passing p (k + 1) es) (passing p (k + 1) es)

-- The book is that of the tree, and list i has the elements with the name of node i that are let through there, in the tree's order.
-- Elements are numbered from 0, and `lets i k e` says whether element k, which is e, is let through at position i.
pub record StandsFor (t : Tree) (nodes : List Vertex) (lets : ℕ → ℕ → Element → Bool) (book : List Region) (lists : ℕ → List Region) : Type 0 where
  pub elements : book ≡ map region_of t.elements
  pub named : (i : ℕ) → i < length nodes → lists i ≡ map region_of (passing (λ k e. has_name t (node_at nodes i).name e && lets i k e) 0 t.elements)
  -- there is none past the last node
  pub past : (i : ℕ) → length nodes ≤ i → lists i ≡ []

-- A layer lets through what its rule keeps of what is let through below.
abbrev pub LayersAddACondition : Type 0
LayersAddACondition =
    (t : Tree) (nodes : List Vertex) (lets : ℕ → ℕ → Element → Bool) (book : List Region) (lists : ℕ → List Region) (keep : ℕ → Region → Bool)
    → StandsFor t nodes lets book lists → StandsFor t nodes (λ i k e. lets i k e && keep i (region_of e)) book (narrowed keep lists)
