-- When and where a book text is refused: items are read in order, and the first refused one decides.
use Rattle.std.specs.Prelude.{◌≡◌, ℕ, suc, ◌<◌, ◌≤◌, true, false, ◌⊎◌, List, [], ◌∷◌, ◌++◌, length, drop}
use Rattle.markup.specs.declared.fault.Fault.{Fault}
use Rattle.markup.specs.declared.fault.Refusal.TheVariants.{BookTooLong, Stray, WrongEndTag, Unclosed, TopElement, TooDeep, TooMany}
use Rattle.markup.specs.Faults.{fault}
use Rattle.markup.specs.Name.{LawfulName}
use Rattle.lexer.specs.Bytes.{text_byte, blank_byte}
use Rattle.lexer.specs.Item.{Item.start, Item.end, Item.empty, spelling}
use Rattle.lexer.specs.BadTag.{BadTag}
use Rattle.book.specs.Document.{position, intern}

-- what has been read, item by item (and text byte by byte)
pub data History : Type 0 where
  begin : History
  byte : History → ℕ → History
  bare : History → List ℕ → History
  opening : History → List ℕ → History
  closing : History → List ℕ → History

-- the text so far
abbrev pub written : History → List ℕ
written begin = []
written (byte h b) = written h ++ b ∷ []
written (bare h name) = written h ++ spelling (empty name)
written (opening h name) = written h ++ spelling (start name)
written (closing h name) = written h ++ spelling (end name)

-- the open elements, innermost first: the place of the `<` and the name
abbrev pub opens_of : History → List (ℕ × List ℕ)
opens_of begin = []
opens_of (byte h b) = opens_of h
opens_of (bare h name) = opens_of h
opens_of (opening h name) = (length (written h), name) ∷ opens_of h
opens_of (closing h name) = drop 1 (opens_of h)

-- the count of elements
abbrev pub count_of : History → ℕ
count_of begin = 0
count_of (byte h b) = count_of h
count_of (bare h name) = suc (count_of h)
count_of (opening h name) = suc (count_of h)
count_of (closing h name) = count_of h

-- their names by first use
abbrev pub names_of : History → List (List ℕ)
names_of begin = []
names_of (byte h b) = names_of h
names_of (bare h name) = intern (names_of h) name
names_of (opening h name) = intern (names_of h) name
names_of (closing h name) = names_of h

-- the innermost open element has this name
abbrev pub Innermost : List (ℕ × List ℕ) → List ℕ → Type 0
Innermost [] name = ⊥
Innermost (o ∷ os) name = o.1 ≡ name

-- a further element would be a second top element; at level 64; the 65,536th, or have the 1,025th name
abbrev pub Second : History → Type 0
Second h = (length (opens_of h) ≡ 0) × (0 < count_of h)

abbrev pub Deep : History → Type 0
Deep h = 64 ≤ length (opens_of h)

abbrev pub Many : History → List ℕ → Type 0
Many h name = (65535 ≤ count_of h) ⊎ (1024 ≤ position (names_of h) name)

-- a further element of this name is allowed
pub record Fit (h : History) (name : List ℕ) : Type 0 where
  pub lawful : LawfulName name
  pub first : Second h → ⊥
  pub shallow : Deep h → ⊥
  pub few : Many h name → ⊥

-- each item was allowed where it stands
abbrev pub Allowed : History → Type 0
Allowed begin = Unit {0}
Allowed (byte h b) = Allowed h × (text_byte b ≡ true) × ((0 < length (opens_of h)) ⊎ (blank_byte b ≡ true))
Allowed (bare h name) = Allowed h × Fit h name
Allowed (opening h name) = Allowed h × Fit h name
Allowed (closing h name) = Allowed h × LawfulName name × Innermost (opens_of h) name

-- the refusal of the tag of a further element
pub data Unfit (h : History) (name : List ℕ) (f : Fault) : Type 0 where
  second : Second h → f ≡ fault TopElement (length (written h)) → Unfit h name f
  deep : (Second h → ⊥) → Deep h → f ≡ fault TooDeep (length (written h)) → Unfit h name f
  many : (Second h → ⊥) → (Deep h → ⊥) → Many h name → f ≡ fault TooMany (length (written h)) → Unfit h name f

-- the refusal of what comes next
pub data Wrong (h : History) (rest : List ℕ) (f : Fault) : Type 0 where
  -- a byte outside the top element that is no blank
  outside : (b : ℕ) (more : List ℕ) → rest ≡ b ∷ more → text_byte b ≡ true → blank_byte b ≡ false → length (opens_of h) ≡ 0
      → f ≡ fault Stray (length (written h)) → Wrong h rest f
  -- a tag's bytes
  bytes : (more : List ℕ) → rest ≡ 60 ∷ more → BadTag rest (length (written h)) f → Wrong h rest f
  -- an end tag
  astray : (name more : List ℕ) → LawfulName name → rest ≡ spelling (end name) ++ more → (Innermost (opens_of h) name → ⊥)
      → f ≡ fault WrongEndTag (length (written h)) → Wrong h rest f
  -- a start tag, an empty tag
  unfit : (name more : List ℕ) → LawfulName name → (rest ≡ spelling (start name) ++ more) ⊎ (rest ≡ spelling (empty name) ++ more)
      → Unfit h name f → Wrong h rest f
  -- the end of the text
  missing : rest ≡ [] → count_of h ≡ 0 → f ≡ fault TopElement (length (written h)) → Wrong h rest f
  unclosed : (o : ℕ × List ℕ) (os : List (ℕ × List ℕ)) → rest ≡ [] → 0 < count_of h → opens_of h ≡ o ∷ os → f ≡ fault Unclosed o.0 → Wrong h rest f

-- the text is what was read, each item allowed, and then what is refused
pub record Stops (text : List ℕ) (f : Fault) : Type 0 where
  pub read : History
  pub rest : List ℕ
  pub allowed : Allowed read
  pub cut : text ≡ written read ++ rest
  pub wrong : Wrong read rest f

-- the refusal of a text: its length decides first
abbrev pub Refuses : List ℕ → Fault → Type 0
Refuses text f = ((16777216 < length text) × (f ≡ fault BookTooLong 16777216)) ⊎ ((length text ≤ 16777216) × Stops text f)
