-- Where the bytes of a tag go wrong.
use Rattle.std.specs.Prelude.{◌≡◌, ℕ, ◌+◌, true, ◌⊎◌, List, [], ◌∷◌, ◌++◌, length}
use Rattle.markup.specs.declared.fault.Fault.{Fault}
use Rattle.markup.specs.declared.fault.Refusal.TheVariants.{Stray, BookNameTooLong}
use Rattle.markup.specs.Faults.{fault}
use Rattle.markup.specs.Name.{name_byte, LawfulName}
use Rattle.lexer.specs.Item.{Item, Tag, spelling}

-- these bytes are the front of some tag
abbrev pub TagFront : List ℕ → Type 0
TagFront xs = (i : Item) × Tag i × (more : List ℕ) × (spelling i ≡ xs ++ more)

-- and not the whole of it
abbrev pub Opens : List ℕ → Type 0
Opens xs = (i : Item) × Tag i × (c : ℕ) × (more : List ℕ) × (spelling i ≡ xs ++ c ∷ more)

-- c is the 33rd byte of a name
abbrev pub Overlong : List ℕ → ℕ → Type 0
Overlong xs c = (n : List ℕ) × LawfulName n × (length n ≡ 32) × (name_byte c ≡ true) × ((xs ≡ 60 ∷ n) ⊎ (xs ≡ 60 ∷ 47 ∷ n))

-- what stands from p on begins with `<` and with no tag: the text ends within one, or a byte is the first that fits none, or is the
-- 33rd of a name
pub data BadTag (bs : List ℕ) (p : ℕ) (f : Fault) : Type 0 where
  ends : Opens bs → f ≡ fault Stray (p + length bs) → BadTag bs p f
  stray : (xs : List ℕ) (c : ℕ) (rest : List ℕ) → bs ≡ xs ++ c ∷ rest → Opens xs → (TagFront (xs ++ c ∷ []) → ⊥) → (Overlong xs c → ⊥)
      → f ≡ fault Stray (p + length xs) → BadTag bs p f
  long : (xs : List ℕ) (c : ℕ) (rest : List ℕ) → bs ≡ xs ++ c ∷ rest → Overlong xs c → f ≡ fault BookNameTooLong (p + length xs) → BadTag bs p f
