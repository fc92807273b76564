-- What the passes over a sheet remember of its names.
use Rattle.std.specs.Prelude.{◌≡◌, ℕ, ◌+◌, ◌-◌, ◌*◌, ◌/◌, ◌<◌, ◌≤◌, List, length, Some, None, Option, slice_index}
use Rattle.layout.specs.Layout.{element_count, name_count, element_at, next_at, name_text}
use Rattle.layout.specs.Lawful.{FirstNamed, RightName, names_end}
use Rattle.sheet.specs.Opening.{FirstWrong, Each}

-- the next of element k is right
abbrev pub RightNext : List ℕ → ℕ → Type 0
RightNext bs k = FirstNamed bs (element_at bs k).name (k + 1) (next_at bs k)

-- the next of element k is right, if it is an element from m on with a name number below 1,024
abbrev pub RightLink : List ℕ → ℕ → ℕ → Type 0
RightLink bs m k = m ≤ k → (element_at bs k).name < 1024 → RightNext bs k

-- the lowest element from m on whose next is wrong, if there is one; an element with a name number of 1,024 or more is passed over
abbrev pub LinkedFrom : List ℕ → ℕ → Option ℕ → Type 0
LinkedFrom bs m None = Each (RightLink bs m) (element_count bs)
LinkedFrom bs m (Some w) = FirstWrong (RightLink bs m) (element_count bs) w

-- a table of the first element of each name, from m on
abbrev pub Firsts : List ℕ → ℕ → List ℕ → Type 0
Firsts bs m table = (n : ℕ) → n < 1024 → FirstNamed bs n m (slice_index table n)

-- a number that equal names share: the length, the first, the last and the middle byte
abbrev pub key_of : List ℕ → ℕ
key_of t = length t + 256 * slice_index t 0 + 65536 * slice_index t (length t - 1) + 16777216 * slice_index t (length t / 2)

-- a table of the keys of the names below j
abbrev pub Keys : List ℕ → ℕ → List ℕ → Type 0
Keys bs j table = (i : ℕ) → i < j → slice_index table i ≡ key_of (name_text bs i)

-- the names whose keys are in `keys` are right and end at `end`, where `first` has each name's first element
pub record CheckedNames (bs first keys : List ℕ) (end : ℕ) : Type 0 where
  pub firsts : Firsts bs 0 first
  pub few : length keys ≤ name_count bs
  pub right : Each (RightName bs) (length keys)
  pub keyed : Keys bs (length keys) keys
  pub ends : end ≡ names_end bs (length keys)
