-- What a `Twig` stands for, and what the calls on it answer.
use Rattle.std.specs.Prelude.{◌≡◌, ℕ, ◌<◌, ◌≤◌, List, ◌++◌, length, drop, Some, None, Ok, Err, Option, Result}
use Rattle.std.specs.Borrow.{Bor}
use Rattle.markup.specs.declared.fault.Fault.{Fault}
use Rattle.markup.specs.declared.fault.Refusal.TheVariants.{SpellingWontFit}
use Rattle.markup.specs.Faults.{fault}
use Rattle.pattern.specs.declared.node.Edge.{Edge}
use Rattle.pattern.specs.declared.twig.Twig.{Twig}
use Rattle.pattern.specs.Shape.{Vertex, Shape, shape, node_at, IsChild}
use Rattle.pattern.specs.Table.{items, vertices}
use Rattle.pattern.specs.Reading.{limits, run_in, start, read_pattern}
use Rattle.pattern.specs.Grammar.{Derives}

-- the twig that a `Twig` stands for
abbrev pub shape_of : Twig → Shape
shape_of w = shape w.mark (vertices (items w.nodes))

-- the name of node i: none past the last node
abbrev pub NameOf : List Vertex → ℕ → Option (Bor (List ℕ)) → Type 0
NameOf nodes i (Some a) = (i < length nodes) × (a.now ≡ (node_at nodes i).name)
NameOf nodes i None = length nodes ≤ i

-- the parent of node i, which has a lower number: none for the root, and none past the last node
abbrev pub ParentOf : List Vertex → ℕ → Option ℕ → Type 0
ParentOf nodes i (Some p) = IsChild nodes p i × (p < i)
ParentOf nodes i None = (p : ℕ) → IsChild nodes p i → ⊥

-- the edge from node i to its parent: none for the root, and none past the last node
abbrev pub EdgeOf : List Vertex → ℕ → Option Edge → Type 0
EdgeOf nodes i (Some e) = (0 < i) × (i < length nodes) × ((node_at nodes i).edge ≡ e)
EdgeOf nodes i None = 0 < i → length nodes ≤ i

-- the first child of node p with a number above `after`
abbrev pub NextChild : List Vertex → ℕ → ℕ → Option ℕ → Type 0
NextChild nodes p after (Some c) = IsChild nodes p c × (after < c) × ((b : ℕ) → after < b → b < c → IsChild nodes p b → ⊥)
NextChild nodes p after None = (c : ℕ) → after < c → IsChild nodes p c → ⊥

-- what a text was parsed to, whatever its length
abbrev pub Parsed : List ℕ → Result Twig Fault → Type 0
Parsed t (Ok w) = run_in limits start 0 t ≡ Ok (shape_of w)
Parsed t (Err f) = run_in limits start 0 t ≡ Err f

-- The twig a was turned to the text t, and is now b; a refusal leaves it.
abbrev pub TurnedTo : {A : Type 0} → List ℕ → Twig → Twig → Result A Fault → Type 0
TurnedTo t a b (Ok _) = read_pattern t ≡ Ok (shape_of b)
TurnedTo t a b (Err f) = (read_pattern t ≡ Err f) × (b ≡ a)

-- The grammar derives the text t, which has at most 1,024 bytes, within the limits, and w is the twig of the derivation; or it derives
-- no twig by it.
abbrev pub Grammatical : {A : Type 0} → List ℕ → Twig → Result A Fault → Type 0
Grammatical t w (Ok _) = (length t ≤ 1024) × Derives limits t (shape_of w)
Grammatical t w (Err f) = (v : Shape) → length t ≤ 1024 → Derives limits t v → ⊥

-- The text t was written over the bytes a, which are now b; or it does not fit, and they are as they were.
abbrev pub Written : List ℕ → List ℕ → List ℕ → Result ℕ Fault → Type 0
Written t a b (Ok n) = (n ≡ length t) × (b ≡ t ++ drop (length t) a)
Written t a b (Err f) = (f ≡ fault SpellingWontFit (length t)) × (length a < length t) × (b ≡ a)
