-- The laws that tie lawful sheets to lawful trees.
use Rattle.std.specs.Prelude.{◌≡◌, ℕ, ◌<◌, ◌↔◌, List, slice_index}
use Rattle.tree.specs.Tree.{Tree, LawfulTree}
use Rattle.layout.specs.Layout.{tree_of}
use Rattle.layout.specs.Lawful.{LawfulSheet}
use Rattle.layout.specs.Encoding.{sheet_of}

-- each is a byte
abbrev pub Bytes : List ℕ → Type 0
Bytes bs = (i : ℕ) → slice_index bs i < 256

-- The sheet of a lawful tree is lawful and shows that tree.
abbrev pub SheetReadsBack : Type 0
SheetReadsBack = (t : Tree) → LawfulTree t → LawfulSheet (sheet_of t) × (tree_of (sheet_of t) ≡ t)

-- What a lawful sheet shows is a lawful tree.
abbrev pub SheetShowsATree : Type 0
SheetShowsATree = (bs : List ℕ) → LawfulSheet bs → LawfulTree (tree_of bs)

-- A lawful sheet is the sheet of the tree that it shows.
abbrev pub SheetOfItsTree : Type 0
SheetOfItsTree = (bs : List ℕ) → Bytes bs → LawfulSheet bs → bs ≡ sheet_of (tree_of bs)

-- Two lawful sheets that show the same tree are the same bytes.
abbrev pub OneSheetForATree : Type 0
OneSheetForATree =
    (xs ys : List ℕ) → Bytes xs → Bytes ys → LawfulSheet xs → LawfulSheet ys → tree_of xs ≡ tree_of ys → xs ≡ ys

-- The lawful sheets are exactly the sheets of lawful trees.
abbrev pub SheetsOfLawfulTrees : Type 0
SheetsOfLawfulTrees = (bs : List ℕ) → Bytes bs → LawfulSheet bs ↔ ((t : Tree) × LawfulTree t × (bs ≡ sheet_of t))
