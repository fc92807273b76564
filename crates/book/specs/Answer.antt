-- What reading a book text answers, in the words of the subject.
use Rattle.std.specs.Prelude.{ℕ, List, [], map, Ok, Err, Result, slice_index_or}
use Rattle.markup.specs.declared.fault.Error.{Error}
use Rattle.markup.specs.declared.fault.Error.TheVariants.{Refused, Memory}
use Rattle.tree.specs.declared.element.Element.{Element}
use Rattle.tree.specs.Tree.{Tree, LawfulTree}
use Rattle.book.specs.declared.book.Book.{Book}
use Rattle.book.specs.Document.{Node, Document, Within}
use Rattle.book.specs.Refusing.{Refuses}
use Rattle.book.specs.Views.{tree_of}

-- an element of a tree with the bytes of its name
abbrev pub node_of : List (List ℕ) → Element → Node
node_of names e = record { start = e.start; end = e.«end»; level = e.level; name = slice_index_or names e.name [] }

abbrev pub nodes_of : Tree → List Node
nodes_of t = map (node_of t.names) t.elements

-- the grammar derives the text within the limits, with the elements of this tree, and the tree is lawful
pub record Grants (text : List ℕ) (t : Tree) : Type 0 where
  pub document : Document text (nodes_of t)
  pub within : Within text (nodes_of t)
  pub lawful : LawfulTree t

abbrev pub Denies : List ℕ → Error → Type 0
Denies text (Refused f) = Refuses text f
Denies text Memory = Unit {0}

-- granted with its tree, or refused by the first item that is not allowed; of want of memory nothing is said
abbrev pub ReadsBook : List ℕ → Result Book Error → Type 0
ReadsBook text (Ok b) = Grants text (tree_of b)
ReadsBook text (Err e) = Denies text e
