-- A grammar of one type, tails, which the proofs go by: what stands after a name.
use Rattle.std.proofs.Common.{◌≡◌, ℕ, ◌+◌, ◌<◌, true, false, List, [], ◌∷◌, ◌++◌}
use Rattle.pattern.specs.declared.node.Edge.{Edge}
use Rattle.pattern.specs.declared.node.Edge.TheVariants.{Child}
use Rattle.pattern.specs.declared.node.Mark.{Mark}
use Rattle.pattern.specs.Shape.{Vertex, node}
use Rattle.pattern.specs.Reading.{Limits}
use Rattle.pattern.specs.Spelling.{lead_text, open_text}
use Rattle.markup.specs.Name.{NameWithin}

-- What stands after a step's name: nothing; or an edge, a name and what stands after it; or a branch, which is `[`, a name and what
-- stands after it, `]`, and then what stands after the branch.
pub data Tail : Type 0 where
  end : Tail
  onward : Edge → List ℕ → Tail → Tail
  branch : Edge → List ℕ → Tail → Tail → Tail

-- its text: `/` or `//` before a step that follows, `[` or `[.//` before one in a branch
abbrev pub text_of : Tail → List ℕ
text_of end = []
text_of (onward e a t) = open_text false e ++ (a ++ text_of t)
text_of (branch e a t u) = open_text true e ++ (a ++ (text_of t ++ 93 ∷ text_of u))

-- the number of its names
abbrev pub size : Tail → ℕ
size end = 0
size (onward e a t) = size t + 1
size (branch e a t u) = size t + size u + 1

-- its nodes, numbered from n as their names come: what follows a name hangs on it, and what follows a branch on
-- the node h that holds the branch
abbrev pub nodes_of_tail : ℕ → ℕ → Tail → List Vertex
nodes_of_tail h n end = []
nodes_of_tail h n (onward e a t) = node a h e ∷ nodes_of_tail n (n + 1) t
nodes_of_tail h n (branch e a t u) = node a h e ∷ (nodes_of_tail n (n + 1) t ++ nodes_of_tail h (n + 1 + size t) u)

-- It keeps the limits, where d brackets are open and n names came before.
abbrev pub Within : Limits → ℕ → ℕ → Tail → Type 0
Within l d n end = Unit {0}
Within l d n (onward e a t) = (n < l.names) × NameWithin l.bytes a × Within l d (n + 1) t
Within l d n (branch e a t u) = (d < l.brackets) × (n < l.names) × NameWithin l.bytes a × Within l (d + 1) (n + 1) t × Within l d (n + 1 + size t) u

-- in standard form each node's last child follows by an edge, so a branch is never the last of its node
abbrev pub Standard : Tail → Type 0
Standard end = Unit {0}
Standard (onward e a t) = Standard t
Standard (branch e a t u) = (0 < size u) × Standard t × Standard u

-- `Derives` over tails: a lead, the root's name and what stands after it.
pub record DerivesTail (l : Limits) (t : List ℕ) (m : Mark) (vs : List Vertex) : Type 0 where
  pub name : List ℕ
  pub tail : Tail
  pub one : 0 < l.names
  pub lawful : NameWithin l.bytes name
  pub within : Within l 0 1 tail
  pub text : t ≡ lead_text m ++ (name ++ text_of tail)
  pub nodes : vs ≡ node name 0 Child ∷ nodes_of_tail 0 1 tail
