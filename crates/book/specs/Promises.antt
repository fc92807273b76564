-- What is promised of reading, as statements.
use Rattle.std.specs.Prelude.{◌≡◌, ℕ, ◌⊎◌, ◌↔◌, List, Ok, Err}
use Rattle.markup.specs.declared.fault.Fault.{Fault}
use Rattle.tree.specs.Tree.{Tree, LawfulTree}
use Rattle.book.specs.Document.{Node, Document, Within, indexed}
use Rattle.book.specs.Reading.{read_book}
use Rattle.book.specs.Refusing.{Refuses}
use Rattle.book.specs.Answer.{nodes_of, Grants}

-- A text is granted exactly if the grammar derives it within the limits, and then with the elements of the derivation.
abbrev pub GrantedExactly : Type 0
GrantedExactly = (text : List ℕ) (t : Tree) → (read_book text ≡ Ok t) ↔ ((ns : List Node) × Document text ns × Within text ns × (t ≡ indexed ns))

-- A text is refused exactly by the first item that is not allowed, with its number and place.
abbrev pub RefusedExactly : Type 0
RefusedExactly = (text : List ℕ) (f : Fault) → (read_book text ≡ Err f) ↔ Refuses text f

-- The elements of a granted text are a lawful book, and its names are lawful, different and numbered by first use.
abbrev pub TreesAreLawful : Type 0
TreesAreLawful = (text : List ℕ) (t : Tree) → read_book text ≡ Ok t → LawfulTree t

-- Numbering the names loses nothing: an element's number leads to the bytes of its name.
abbrev pub NamesAreNumbered : Type 0
NamesAreNumbered = (ns : List Node) → nodes_of (indexed ns) ≡ ns

-- Each text has one answer, a tree or a refusal.
pub record OneAnswer (text : List ℕ) : Type 0 where
  pub some : ((t : Tree) × Grants text t) ⊎ ((f : Fault) × Refuses text f)
  pub one_tree : (t u : Tree) → Grants text t → Grants text u → t ≡ u
  pub one_refusal : (f g : Fault) → Refuses text f → Refuses text g → f ≡ g
  pub never_both : (t : Tree) (f : Fault) → Grants text t → Refuses text f → ⊥

abbrev pub EveryTextHasOneAnswer : Type 0
EveryTextHasOneAnswer = (text : List ℕ) → OneAnswer text
