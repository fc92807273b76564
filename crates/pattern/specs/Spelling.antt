-- The standard spelling of a twig: each node's last child follows by its edge, and the others stand in brackets.
use Rattle.std.specs.Prelude.{ℕ, ◌+◌, Bool, true, false, cond, List, [], ◌∷◌, ◌++◌, ◌==◌}
use Rattle.std.specs.List.{list_any}
use Rattle.pattern.specs.declared.node.Edge.{Edge}
use Rattle.pattern.specs.declared.node.Edge.TheVariants.{Child, Descendant}
use Rattle.pattern.specs.declared.node.Mark.{Mark}
use Rattle.pattern.specs.declared.node.Mark.TheVariants.{Top, Any}
use Rattle.pattern.specs.Shape.{Vertex, Shape}

-- the lead, `/` or `//`
abbrev pub lead_text : Mark → List ℕ
lead_text Top = 47 ∷ []
lead_text Any = 47 ∷ 47 ∷ []

-- what stands before a name: `/` or `//`, or in brackets `[` or `[.//`
abbrev pub open_text : Bool → Edge → List ℕ
open_text false Child = 47 ∷ []
open_text false Descendant = 47 ∷ 47 ∷ []
open_text true Child = 91 ∷ []
open_text true Descendant = 91 ∷ 46 ∷ 47 ∷ 47 ∷ []

-- `]`, unless the node is a child of the node before it
abbrev pub close_text : ℕ → ℕ → List ℕ
close_text parent before = cond (parent == before) [] (93 ∷ [])

-- one of these nodes is a child of node p
abbrev pub later : ℕ → List Vertex → Bool
later p vs = list_any (λ (v : Vertex). v.parent == p) vs

-- the node v, which follows node k, with vs to come: it stands in brackets if its parent has a later child
abbrev pub piece : ℕ → Vertex → List Vertex → List ℕ
piece k v vs = close_text v.parent k ++ open_text (later v.parent vs) v.edge ++ v.name

-- all that stands after the name of node k
abbrev pub rest : ℕ → List Vertex → List ℕ
rest k [] = []
rest k (v ∷ vs) = piece k v vs ++ rest (k + 1) vs

abbrev spell_nodes : Mark → List Vertex → List ℕ
spell_nodes m [] = []
spell_nodes m (v ∷ vs) = (lead_text m ++ v.name) ++ rest 0 vs

-- the standard spelling of a twig
abbrev pub spelling : Shape → List ℕ
spelling w = spell_nodes w.mark w.nodes
