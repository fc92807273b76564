-- How long a sheet with a right header is, and where its names stand.
use Rattle.std.proofs.Common.{◌≡◌, ℕ, ◌+◌, ◌*◌, ◌<◌, ◌≤◌, List, arith, lit<}
use Rattle.layout.specs.Layout.{u32_at, element_count, name_count, byte_count, bytes_offset, name_at}
use Rattle.layout.specs.Lawful.{LawfulSheet}
use Rattle.sheet.specs.Opening.{Sized}
use Rattle.sheet.proofs.Props.{sized_of, lawful_of}

-- the offset of the name records
pub sized_name_table : (bs : List ℕ) → ∥ Sized bs ∥₁ → u32_at bs 16 ≡ 32 + 16 * element_count bs
sized_name_table bs h = (sized_of bs h).0 4 (lit< tt)

-- the offset of the name bytes
pub sized_texts : (bs : List ℕ) → ∥ Sized bs ∥₁ → u32_at bs 20 ≡ bytes_offset bs
sized_texts bs h = (sized_of bs h).0 5 (lit< tt)

pub sized_names : (bs : List ℕ) → ∥ Sized bs ∥₁ → name_count bs ≤ 1024
sized_names bs h = ((sized_of bs h).0 2 (lit< tt)).1

pub sized_bytes : (bs : List ℕ) → ∥ Sized bs ∥₁ → byte_count bs ≤ 32768
sized_bytes bs h = let n = sized_names bs h in omega (arith, ((sized_of bs h).0 6 (lit< tt)).1)

-- A lawful sheet.

pub lawful_sized : (bs : List ℕ) → ∥ LawfulSheet bs ∥₁ → Sized bs
lawful_sized bs h = let l = lawful_of bs h in (l.header, l.size)

-- its names stand among its name bytes
pub lawful_text : (bs : List ℕ) → ∥ LawfulSheet bs ∥₁ → (j : ℕ) → j < name_count bs → (name_at bs j).offset + (name_at bs j).length ≤ byte_count bs
lawful_text bs h j l = ((lawful_of bs h).names j l).within
