-- The rule of names, which book texts, patterns and sheets share.
use Rattle.std.specs.Prelude.{◌≡◌, ℕ, ◌≤◌, Bool, true, ◌&&◌, ◌||◌, List, length, ◌==◌, nat_le, slice_index}
use Rattle.std.specs.List.{AllByRecursion as Every}

-- b is one of the bytes from lo to hi
abbrev between : ℕ → ℕ → ℕ → Bool
between lo hi b = nat_le lo b && nat_le b hi

-- a name begins with a letter A–Z, a–z or `_`
abbrev pub name_first : ℕ → Bool
name_first b = between 65 90 b || between 97 122 b || b == 95

-- further bytes may also be digits, `-` and `.`
abbrev pub name_byte : ℕ → Bool
name_byte b = name_first b || between 48 57 b || b == 45 || b == 46

-- a name of at most `most` bytes
pub record NameWithin (most : ℕ) (name : List ℕ) : Type 0 where
  pub some : 1 ≤ length name
  pub short : length name ≤ most
  pub first : name_first (slice_index name 0) ≡ true
  pub each : Every (λ b. name_byte b ≡ true) name

-- a lawful name has 1 to 32 bytes
abbrev pub LawfulName : List ℕ → Type 0
LawfulName name = NameWithin 32 name
