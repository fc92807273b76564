-- The outline of a book text: a line for each element and then `end`, or only the refusal's line.
use Rattle.std.specs.Prelude.{◌≡◌, ℕ, List, [], ◌++◌, flat_map, slice_index_or}
use Rattle.markup.specs.declared.fault.Fault.{Fault}
use Rattle.markup.specs.declared.fault.Error.{Error}
use Rattle.markup.specs.declared.fault.Error.TheVariants.{Refused, Memory}
use Rattle.tree.specs.declared.element.Element.{Element}
use Rattle.tree.specs.Tree.{Tree}
use Rattle.book.specs.Refusing.{Refuses}
use Rattle.book.specs.Answer.{Grants}
use Rattle.report.specs.Lines.{element_line, end_line, refusal_line}

-- the lines of these elements, whose names are numbers among `names`
abbrev pub element_lines : List (List ℕ) → List Element → List ℕ
element_lines names es = flat_map (λ e. element_line e (slice_index_or names e.name [])) es

abbrev pub tree_lines : Tree → List ℕ
tree_lines t = element_lines t.names t.elements ++ end_line

-- the line of an error: only a refusal has one
abbrev pub Tells : Error → List ℕ → Type 0
Tells (Refused f) lines = lines ≡ refusal_line f
Tells Memory lines = ⊥

-- what is printed for a text: the lines of its tree, or its refusal
pub data Outlined (text lines : List ℕ) : Type 0 where
  granted : (t : Tree) → Grants text t → lines ≡ tree_lines t → Outlined text lines
  refused : (f : Fault) → Refuses text f → lines ≡ refusal_line f → Outlined text lines
