-- The items that a book text is a row of, and how they are written.
use Rattle.std.specs.Prelude.{ℕ, List, [], ◌∷◌, ◌++◌}
use Rattle.markup.specs.Name.{LawfulName}

-- a start, end or empty tag with its name, or a text run with its bytes
pub data Item : Type 0 where
  start : List ℕ → Item
  end : List ℕ → Item
  empty : List ℕ → Item
  text : List ℕ → Item

-- `<name>`, `</name>`, `<name/>`, or the run
abbrev pub spelling : Item → List ℕ
spelling (start name) = 60 ∷ name ++ 62 ∷ []
spelling (end name) = 60 ∷ 47 ∷ name ++ 62 ∷ []
spelling (empty name) = 60 ∷ name ++ 47 ∷ 62 ∷ []
spelling (text run) = run

-- a tag with a lawful name
abbrev pub Tag : Item → Type 0
Tag (start name) = LawfulName name
Tag (end name) = LawfulName name
Tag (empty name) = LawfulName name
Tag (text run) = ⊥
