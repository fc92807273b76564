-- The tree of a book: its elements with their names.
use Rattle.std.specs.Prelude.{◌≡◌, ℕ, ◌+◌, ◌<◌, ◌≤◌, max, List, [], ◌∷◌, map, length, ◌≢◌, slice_index_or}
use Rattle.std.specs.Borrow.{Bor}
use Rattle.markup.specs.Name.{LawfulName}
use Rattle.tree.specs.declared.element.Element.{Element}
use Rattle.tree.specs.Region.{Region, LawfulBook}

abbrev pub region_of : Element → Region
region_of e = record { start = e.start; end = e.«end»; level = e.level }

-- the elements by their starts, and the names by first use
pub record Tree : Type 0 where
  pub elements : List Element
  pub names : List (List ℕ)

-- the bytes of names that are parts of a text
abbrev pub bytes_of : List (Bor (List ℕ)) → List (List ℕ)
bytes_of names = map (λ n. n.now) names

-- where n name numbers are used so far, these elements first use n, n + 1 and so on up to m - 1, in this order
abbrev pub FirstUses : ℕ → List Element → ℕ → Type 0
FirstUses n [] m = n ≡ m
FirstUses n (e ∷ es) m = (e.name ≤ n) × FirstUses (max n (e.name + 1)) es m

-- the regions are a lawful book; the names are lawful, different, and numbered by first use
pub record LawfulTree (t : Tree) : Type 0 where
  pub regions : LawfulBook (map region_of t.elements)
  pub few : length t.names ≤ 1024
  pub lawful : (k : ℕ) → k < length t.names → LawfulName (slice_index_or t.names k [])
  pub different : (j k : ℕ) → j < k → k < length t.names → slice_index_or t.names j [] ≢ slice_index_or t.names k []
  pub used : FirstUses 0 t.elements (length t.names)
