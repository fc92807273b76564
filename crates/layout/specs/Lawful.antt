-- What a lawful sheet is.
use Rattle.std.specs.Prelude.{◌≡◌, ℕ, zero, suc, ◌+◌, ◌*◌, ◌<◌, ◌≤◌, max, List, length, ◌≢◌}
use Rattle.markup.specs.Name.{LawfulName}
use Rattle.tree.specs.Region.{Fits}
use Rattle.layout.specs.Layout.{u32_at, element_count, name_count, byte_count, bytes_offset, element_at, region_at, next_at, name_at, name_text}

-- the header's field i, counted from 0, is right with those before it
abbrev pub RightField : List ℕ → ℕ → Type 0
-- the version
RightField bs zero = u32_at bs 0 ≡ 1
-- the counts of elements and of names
RightField bs (suc zero) = (1 ≤ element_count bs) × (element_count bs ≤ 65535)
RightField bs (suc (suc zero)) = (1 ≤ name_count bs) × (name_count bs ≤ 1024) × (name_count bs ≤ element_count bs)
-- the offsets of the element table, of the name table and of the name bytes
RightField bs (suc (suc (suc zero))) = u32_at bs 12 ≡ 32
RightField bs (suc (suc (suc (suc zero)))) = u32_at bs 16 ≡ 32 + 16 * element_count bs
RightField bs (suc (suc (suc (suc (suc zero))))) = u32_at bs 20 ≡ bytes_offset bs
-- the count of name bytes
RightField bs (suc (suc (suc (suc (suc (suc zero)))))) = (name_count bs ≤ byte_count bs) × (byte_count bs ≤ 32 * name_count bs)
-- the total length
RightField bs (suc (suc (suc (suc (suc (suc (suc i))))))) = u32_at bs 28 ≡ bytes_offset bs + byte_count bs

abbrev pub RightHeader : List ℕ → Type 0
RightHeader bs = (i : ℕ) → i < 8 → RightField bs i

-- of n things named by f, i is the first from m on with the name x, or n if there is none
pub record FirstFrom (f : ℕ → ℕ) (n x m i : ℕ) : Type 0 where
  pub from : m ≤ i
  pub within : i ≤ n
  pub before : (j : ℕ) → m ≤ j → j < i → f j ≢ x
  pub here : i < n → f i ≡ x

-- i is the number of the first element from m on with the name number x, or the count of elements if there is none
abbrev pub FirstNamed : List ℕ → ℕ → ℕ → ℕ → Type 0
FirstNamed bs x m i = FirstFrom (λ k. (element_at bs k).name) (element_count bs) x m i

-- how many name numbers the elements below k use, where these are first used in the order 0, 1, 2
abbrev pub used : List ℕ → ℕ → ℕ
used bs zero = 0
used bs (suc k) = max (used bs k) ((element_at bs k).name + 1)

-- the name number of element k is right with those before it, and its next is the nearest later element with its name number
pub record RightNumbers (bs : List ℕ) (k : ℕ) : Type 0 where
  pub named : (element_at bs k).name < name_count bs
  pub fresh : (element_at bs k).name ≤ used bs k
  pub next : FirstNamed bs (element_at bs k).name (k + 1) (next_at bs k)

-- the record of element k is right
pub record RightElement (bs : List ℕ) (k : ℕ) : Type 0 where
  pub region : Fits (region_at bs) k
  pub numbers : RightNumbers bs k

-- where the names below j end among the name bytes
abbrev pub names_end : List ℕ → ℕ → ℕ
names_end bs zero = 0
names_end bs (suc j) = names_end bs j + (name_at bs j).length

-- name record j is right with those before it
pub record RightName (bs : List ℕ) (j : ℕ) : Type 0 where
  pub follows : (name_at bs j).offset ≡ names_end bs j
  pub within : (name_at bs j).offset + (name_at bs j).length ≤ byte_count bs
  pub lawful : LawfulName (name_text bs j)
  -- some element has this name, and the record tells the first
  pub has : (name_at bs j).first < element_count bs
  pub first : FirstNamed bs j 0 (name_at bs j).first
  pub different : (i : ℕ) → i < j → name_text bs i ≢ name_text bs j

-- these are the bytes of a lawful sheet
pub record LawfulSheet (bs : List ℕ) : Type 0 where
  pub header : RightHeader bs
  -- the length is the total that the header tells
  pub size : length bs ≡ bytes_offset bs + byte_count bs
  pub elements : (k : ℕ) → k < element_count bs → RightElement bs k
  pub names : (j : ℕ) → j < name_count bs → RightName bs j
  -- the names take up all name bytes
  pub filled : names_end bs (name_count bs) ≡ byte_count bs
