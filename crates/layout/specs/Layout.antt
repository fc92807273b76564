-- The layout of a sheet: where each number stands among its bytes.
--
--     0               header: eight numbers of 32 bits
--     32              E element records of 16 bytes: start, end (32 bits each), level, name number (16 bits each), next (32 bits)
--     32 + 16 E       N name records of 12 bytes: offset, length, first element (32 bits each)
--     .. + 12 N       the name bytes, up to the end
use Rattle.std.specs.Prelude.{ℕ, ◌+◌, ◌*◌, List, map, take, drop, slice_index}
use Rattle.std.specs.List.{range_with_len}
use Rattle.tree.specs.declared.element.Element.{Element}
use Rattle.tree.specs.Region.{Region}
use Rattle.tree.specs.Tree.{Tree, region_of}
use Rattle.layout.specs.declared.record.NameRecord.{NameRecord}

-- the little-endian numbers at the offset o
unfoldable pub u16_at : List ℕ → ℕ → ℕ
u16_at bs o = slice_index bs o + slice_index bs (o + 1) * 256

unfoldable pub u32_at : List ℕ → ℕ → ℕ
u32_at bs o = slice_index bs o + slice_index bs (o + 1) * 256 + slice_index bs (o + 2) * 65536 + slice_index bs (o + 3) * 16777216

-- the header's counts: of elements, of names, of name bytes
abbrev pub element_count : List ℕ → ℕ
element_count bs = u32_at bs 4

abbrev pub name_count : List ℕ → ℕ
name_count bs = u32_at bs 8

abbrev pub byte_count : List ℕ → ℕ
byte_count bs = u32_at bs 24

-- the offset of element record k, of name record j, and of the name bytes
abbrev pub element_offset : ℕ → ℕ
element_offset k = 32 + 16 * k

abbrev pub name_offset : List ℕ → ℕ → ℕ
name_offset bs j = 32 + 16 * element_count bs + 12 * j

abbrev pub bytes_offset : List ℕ → ℕ
bytes_offset bs = 32 + 16 * element_count bs + 12 * name_count bs

-- element k
abbrev pub element_at : List ℕ → ℕ → Element
element_at bs k = record {
  start = u32_at bs (32 + 16 * k);
  «end» = u32_at bs (36 + 16 * k);
  level = u16_at bs (40 + 16 * k);
  name = u16_at bs (42 + 16 * k);
}

abbrev pub region_at : List ℕ → ℕ → Region
region_at bs k = region_of (element_at bs k)

-- what the record of element k has as its next element of the same name
abbrev pub next_at : List ℕ → ℕ → ℕ
next_at bs k = u32_at bs (44 + 16 * k)

-- name record j
abbrev pub name_at : List ℕ → ℕ → NameRecord
name_at bs j = record {
  offset = u32_at bs (name_offset bs j);
  length = u32_at bs (name_offset bs j + 4);
  first = u32_at bs (name_offset bs j + 8);
}

-- the bytes of name j
abbrev pub name_text : List ℕ → ℕ → List ℕ
name_text bs j = take (name_at bs j).length (drop (bytes_offset bs + (name_at bs j).offset) bs)

-- the elements and the names that a sheet shows
abbrev pub elements_of : List ℕ → List Element
elements_of bs = map (element_at bs) (range_with_len 0 (element_count bs))

abbrev pub names_of : List ℕ → List (List ℕ)
names_of bs = map (name_text bs) (range_with_len 0 (name_count bs))

-- the tree that a sheet shows
abbrev pub tree_of : List ℕ → Tree
tree_of bs = record { elements = elements_of bs; names = names_of bs }
