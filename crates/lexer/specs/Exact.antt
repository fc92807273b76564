-- The lexer's definition in the words of the subject.
use Rattle.std.specs.Prelude.{◌≡◌, ℕ, ◌≤◌, true, ◌↔◌, List, [], ◌∷◌, ◌++◌, length, Some, None, Ok, Err}
use Rattle.std.specs.List.{AllByRecursion as Every}
use Rattle.markup.specs.declared.fault.Fault.{Fault}
use Rattle.markup.specs.Name.{LawfulName}
use Rattle.lexer.specs.Bytes.{text_byte}
use Rattle.lexer.specs.Item.{Item, Item.start, Item.end, Item.empty, Item.text, spelling}
use Rattle.lexer.specs.Lex.{lex}
use Rattle.lexer.specs.BadTag.{BadTag}

-- nothing, or a `<`
abbrev pub NoText : List ℕ → Type 0
NoText [] = Unit {0}
NoText (b ∷ bs) = b ≡ 60

-- an item that may stand before `rest`: a tag has a lawful name; a text run has a byte or more, no `<`, and goes on to the next `<` or the end
abbrev pub LawfulItem : Item → List ℕ → Type 0
LawfulItem (start name) rest = LawfulName name
LawfulItem (end name) rest = LawfulName name
LawfulItem (empty name) rest = LawfulName name
LawfulItem (text run) rest = (1 ≤ length run) × Every (λ b. text_byte b ≡ true) run × NoText rest

-- a text is an item and a rest
abbrev pub Begins : List ℕ → Item → Type 0
Begins bs i = (rest : List ℕ) × LawfulItem i rest × (bs ≡ spelling i ++ rest)

-- Of what is left of a text, the lexer gives an item exactly if the text begins with it, nothing exactly at the end, and a refusal exactly
-- where a tag's bytes go wrong.
pub record LexingIsExact : Type 0 where
  pub items : (p : ℕ) (bs : List ℕ) (i : Item) → (lex p bs ≡ Ok (Some i)) ↔ Begins bs i
  pub ended : (p : ℕ) (bs : List ℕ) → (lex p bs ≡ Ok None) ↔ (bs ≡ [])
  pub refused : (p : ℕ) (bs : List ℕ) (f : Fault) → (lex p bs ≡ Err f) ↔ ((more : List ℕ) × (bs ≡ 60 ∷ more) × BadTag bs p f)
