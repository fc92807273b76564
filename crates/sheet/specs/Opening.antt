-- What opening answers, for any bytes.
use Rattle.std.specs.Prelude.{◌≡◌, ℕ, ◌+◌, ◌*◌, ◌<◌, ◌≤◌, ◌⊎◌, List, length, Ok, Err, Result, ◌≢◌}
use Rattle.markup.specs.declared.fault.Fault.{Fault}
use Rattle.markup.specs.declared.fault.Refusal.TheVariants.{SheetLength, HeaderField, ElementRecord, NameRecord}
use Rattle.markup.specs.Faults.{fault}
use Rattle.sheet.specs.declared.header.Header.{Header}
use Rattle.layout.specs.Layout.{u32_at, element_count, name_count, byte_count, element_offset, name_offset, bytes_offset}
use Rattle.layout.specs.Lawful.{RightField, RightHeader, RightElement, RightName, names_end, LawfulSheet}

-- i is the first of n places that lacks P
pub record FirstWrong (P : ℕ → Type 0) (n i : ℕ) : Type 0 where
  pub within : i < n
  pub before : (j : ℕ) → j < i → P j
  pub here : P i → ⊥

-- every place below n has P
abbrev pub Each : (ℕ → Type 0) → ℕ → Type 0
Each P n = (i : ℕ) → i < n → P i

-- the header's fields
abbrev pub header_at : List ℕ → Header
header_at bs = record {
  version = u32_at bs 0;
  elements = element_count bs;
  names = name_count bs;
  element_table = u32_at bs 12;
  name_table = u32_at bs 16;
  texts = u32_at bs 20;
  name_bytes = byte_count bs;
  total = u32_at bs 28;
}

-- the header is right, and the length is the total that it tells
abbrev pub Sized : List ℕ → Type 0
Sized bs = RightHeader bs × (length bs ≡ bytes_offset bs + byte_count bs)

-- the bytes are too few for a header, or not as many as a right header tells
abbrev pub WrongLength : List ℕ → Fault → Type 0
WrongLength bs f =
    (f ≡ fault SheetLength (length bs))
    × ((length bs < 32) ⊎ ((32 ≤ length bs) × RightHeader bs × (length bs ≢ u32_at bs 28)))

-- the first wrong field of the header
abbrev pub WrongHeader : List ℕ → Fault → Type 0
WrongHeader bs f = (32 ≤ length bs) × ((i : ℕ) × (f ≡ fault HeaderField (4 * i)) × FirstWrong (RightField bs) 8 i)

-- the first wrong element record
abbrev pub WrongElement : List ℕ → Fault → Type 0
WrongElement bs f =
    Sized bs × ((k : ℕ) × (f ≡ fault ElementRecord (element_offset k)) × FirstWrong (RightElement bs) (element_count bs) k)

-- the first wrong name record, or name bytes that are left over
abbrev pub WrongName : List ℕ → Fault → Type 0
WrongName bs f =
    Sized bs × Each (RightElement bs) (element_count bs)
    × (((j : ℕ) × (f ≡ fault NameRecord (name_offset bs j)) × FirstWrong (RightName bs) (name_count bs) j)
    ⊎ ((f ≡ fault NameRecord (bytes_offset bs)) × Each (RightName bs) (name_count bs) × (names_end bs (name_count bs) ≢ byte_count bs)))

-- a refusal is the first thing that is wrong: the length, the header, the length by the header, the elements, the names
abbrev pub Refused : List ℕ → Fault → Type 0
Refused bs f = WrongLength bs f ⊎ (WrongHeader bs f ⊎ (WrongElement bs f ⊎ WrongName bs f))

-- what opening answers
abbrev pub Opened : List ℕ → Result (Unit {0}) Fault → Type 0
Opened bs (Ok u) = LawfulSheet bs
Opened bs (Err f) = Refused bs f
