-- The book and the lists that members make up.
use Rattle.std.specs.Prelude.{◌≡◌, ℕ, ◌+◌, ◌<◌, ◌≤◌, Bool, false, cond, List, [], ◌∷◌, map, filter, drop, length, Some, None, Option, nat_lt, slice_index_or, slice_get}
use Rattle.tree.specs.Region.{at, Fits}
use Rattle.tree.specs.Region as tree
use Rattle.stream.specs.declared.region.Region.{Region}
use Rattle.stream.specs.Sets.{region_of}
use Rattle.test_sets.specs.declared.member.Member.{Member}

abbrev pub regions : List Member → List Region
regions ms = map (λ m. m.region) ms

-- region k, as the laws of books speak of it
abbrev pub region_at : List Member → ℕ → tree.Region
region_at ms = at (map region_of (regions ms))

-- there are some, at most 65,535, and each is right with those before it: the regions are a lawful book
pub record EachFits (ms : List Member) : Type 0 where
  pub some : 1 ≤ length ms
  pub few : length ms ≤ 65535
  pub fits : (k : ℕ) → k < length ms → Fits (region_at ms) k

-- the member is in list i
abbrev pub is_in : ℕ → Member → Bool
is_in i m = slice_index_or m.lists i false

-- of the members from number k on, the regions of those in list i
abbrev pub listed : List Member → ℕ → ℕ → List Region
listed ms i k = regions (filter (is_in i) (drop k ms))

-- list i, where `heads` has the number from which each list goes on
abbrev pub lists_from : List Member → List ℕ → ℕ → List Region
lists_from ms heads i = cond (nat_lt i 16) (listed ms i (slice_index_or heads i 0)) []

-- list i with all that are in it
abbrev pub lists_of : List Member → ℕ → List Region
lists_of ms i = cond (nat_lt i 16) (listed ms i 0) []

-- the number of the first member that is left of list i, if there is one
abbrev pub IsFirst : List Member → List ℕ → ℕ → Option ℕ → Type 0
IsFirst ms heads i None = lists_from ms heads i ≡ []
IsFirst ms heads i (Some k) = (i < 16) × (m : Member) × (slice_get ms k ≡ Some m) × (listed ms i (slice_index_or heads i 0) ≡ m.region ∷ listed ms i (k + 1))
