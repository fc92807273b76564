-- What the lexer's tokens show of the text.
use Rattle.std.specs.Prelude.{◌≡◌, ℕ, ◌+◌, List, length, take, drop, Some, None, Ok, Err, Option, Result}
use Rattle.markup.specs.declared.fault.Fault.{Fault}
use Rattle.lexer.specs.declared.token.Part.{Part}
use Rattle.lexer.specs.declared.token.Token.{Token}
use Rattle.lexer.specs.declared.token.Token.TheVariants.{Start, End, Empty, Text}
use Rattle.lexer.specs.Item.{Item, Item.start, Item.end, Item.empty, Item.text, spelling}

-- the kind of a token, with the bytes of its name or run
abbrev pub item_of : Token → Item
item_of (Start t) = start t.name.bytes.now
item_of (End t) = end t.name.bytes.now
item_of (Empty t) = empty t.name.bytes.now
item_of (Text run) = text run.bytes.now

abbrev pub whole_of : Token → Part
whole_of (Start t) = t.whole
whole_of (End t) = t.whole
whole_of (Empty t) = t.whole
whole_of (Text run) = run

-- a tag's name stands behind the `<` or `</` of the tag at p
abbrev pub NamePlaced : ℕ → Token → Type 0
NamePlaced p (Start t) = t.name.place ≡ p + 1
NamePlaced p (End t) = t.name.place ≡ p + 2
NamePlaced p (Empty t) = t.name.place ≡ p + 1
NamePlaced p (Text run) = Unit {0}

-- a token of the item at p: the whole of it, as it is written, and a tag's name
pub record Written (p : ℕ) (t : Token) : Type 0 where
  pub place : (whole_of t).place ≡ p
  pub whole : (whole_of t).bytes.now ≡ spelling (item_of t)
  pub name : NamePlaced p t

-- a part holds the bytes that stand in the text at its place
abbrev pub Cut : List ℕ → Part → Type 0
Cut bs part = take (length part.bytes.now) (drop part.place bs) ≡ part.bytes.now

abbrev pub NameCut : List ℕ → Token → Type 0
NameCut bs (Start t) = Cut bs t.name
NameCut bs (End t) = Cut bs t.name
NameCut bs (Empty t) = Cut bs t.name
NameCut bs (Text run) = Unit {0}

-- a token hands out the item at p, and a tag its name, as parts of the text bs
pub record HandsOut (bs : List ℕ) (p : ℕ) (t : Token) : Type 0 where
  pub written : Written p t
  pub whole : Cut bs (whole_of t)
  pub name : NameCut bs t

-- a token for the item that the definition gives, or its refusal
abbrev pub Finds : ℕ → Result Item Fault → Result Token Fault → Type 0
Finds p d (Ok t) = (d ≡ Ok (item_of t)) × Written p t
Finds p d (Err f) = d ≡ Err f

-- an answer of the lexer, by the items that its tokens stand for
abbrev pub answered : Result (Option Token) Fault → Result (Option Item) Fault
answered (Ok (Some t)) = Ok (Some (item_of t))
answered (Ok None) = Ok None
answered (Err f) = Err f

-- what is handed out with an answer
abbrev pub Parts : List ℕ → ℕ → Result (Option Token) Fault → Type 0
Parts bs p (Ok (Some t)) = HandsOut bs p t
Parts bs p (Ok None) = Unit {0}
Parts bs p (Err f) = Unit {0}
