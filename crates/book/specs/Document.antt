-- The grammar of book texts: blanks, one element, blanks. An element is an empty tag, or a start tag, content and the end tag of the same
-- name; content is text and elements.
use Rattle.std.specs.Prelude.{◌≡◌, ℕ, suc, ◌+◌, ◌≤◌, true, cond, not, List, [], ◌∷◌, ◌++◌, length, ◌==◌}
use Rattle.std.specs.List.{prefix_len}
use Rattle.std.specs.Str.{bytes_eq}
use Rattle.markup.specs.Name.{LawfulName}
use Rattle.tree.specs.declared.element.Element.{Element}
use Rattle.tree.specs.Tree.{Tree}
use Rattle.lexer.specs.Bytes.{text_byte, blank_byte}
use Rattle.lexer.specs.Item.{Item.start, Item.end, Item.empty, spelling}

-- a row of text bytes and elements
pub data Content : Type 0 where
  -- nothing more
  none : Content
  -- a byte of text, and then the rest
  byte : ℕ → Content → Content
  -- an empty tag, and then the rest
  bare : List ℕ → Content → Content
  -- a start tag, the content, the end tag of the same name, and then the rest
  full : List ℕ → Content → Content → Content

-- how it is written
abbrev pub spell : Content → List ℕ
spell none = []
spell (byte b rest) = b ∷ spell rest
spell (bare name rest) = spelling (empty name) ++ spell rest
spell (full name inner rest) = spelling (start name) ++ (spell inner ++ (spelling (end name) ++ spell rest))

-- names are lawful, and no byte of text is a `<`
abbrev pub Lawful : Content → Type 0
Lawful none = Unit {0}
Lawful (byte b rest) = (text_byte b ≡ true) × Lawful rest
Lawful (bare name rest) = LawfulName name × Lawful rest
Lawful (full name inner rest) = LawfulName name × Lawful inner × Lawful rest

-- only blanks
abbrev pub Blank : Content → Type 0
Blank none = Unit {0}
Blank (byte b rest) = (blank_byte b ≡ true) × Blank rest
Blank (bare name rest) = ⊥
Blank (full name inner rest) = ⊥

-- one element with blanks around it
abbrev pub Single : Content → Type 0
Single none = ⊥
Single (byte b rest) = (blank_byte b ≡ true) × Single rest
Single (bare name rest) = Blank rest
Single (full name inner rest) = Blank rest

-- an element of a derivation: its region and the bytes of its name
pub record Node : Type 0 where
  pub start : ℕ
  pub end : ℕ
  pub level : ℕ
  pub name : List ℕ

-- the elements of a row that is written from p on, at this level, by their starts; an element starts at the `<` of its tag and ends at the
-- `<` of its end tag, an empty one at its `/`
abbrev pub nodes_at : ℕ → ℕ → Content → List Node
nodes_at p level none = []
nodes_at p level (byte b rest) = nodes_at (p + 1) level rest
nodes_at p level (bare name rest) =
    record { start = p; end = p + 1 + length name; level = level; name = name }
    ∷ nodes_at (p + length (spelling (empty name))) level rest
nodes_at p level (full name inner rest) =
    let from : ℕ = p + length (spelling (start name)) in
    let to : ℕ = from + length (spell inner) in
    record { start = p; end = to; level = level; name = name }
    ∷ nodes_at from (suc level) inner ++ nodes_at (to + length (spelling (end name))) level rest

-- the grammar derives the text, with these elements
pub record Document (text : List ℕ) (nodes : List Node) : Type 0 where
  pub row : Content
  pub lawful : Lawful row
  pub single : Single row
  pub spelled : text ≡ spell row
  pub elements : nodes ≡ nodes_at 0 0 row

-- the number of the first name that is equal, or how many there are
abbrev pub position : List (List ℕ) → List ℕ → ℕ
position names name = prefix_len (λ n. not (bytes_eq n name)) names

-- a new name comes behind the others
abbrev pub intern : List (List ℕ) → List ℕ → List (List ℕ)
intern names name = cond (position names name == length names) (names ++ name ∷ []) names

-- the elements with their names' numbers, where these names came before
abbrev pub numbered : List (List ℕ) → List Node → List Element
numbered names [] = []
numbered names (n ∷ ns) =
    record { start = n.start; «end» = n.end; level = n.level; name = position names n.name }
    ∷ numbered (intern names n.name) ns

-- the names by first use, behind those that came before
abbrev pub named : List (List ℕ) → List Node → List (List ℕ)
named names [] = names
named names (n ∷ ns) = named (intern names n.name) ns

-- the tree of these elements
abbrev pub indexed : List Node → Tree
indexed ns = record { elements = numbered [] ns; names = named [] ns }

abbrev pub Shallow : List Node → Type 0
Shallow [] = Unit {0}
Shallow (n ∷ ns) = (n.level ≤ 63) × Shallow ns

-- the limits: 16,777,216 bytes, levels up to 63, 65,535 elements, 1,024 names
pub record Within (text : List ℕ) (nodes : List Node) : Type 0 where
  pub short : length text ≤ 16777216
  pub shallow : Shallow nodes
  pub few : length nodes ≤ 65535
  pub names : length (named [] nodes) ≤ 1024
