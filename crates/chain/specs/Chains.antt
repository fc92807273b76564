-- The lists of a set over chains, by the number of each list's first element.
use Rattle.std.specs.Prelude.{ℕ, ◌-◌, Bool, cond, List, [], map, filter, Some, None, Option, nat_eq, nat_lt, slice_index_or}
use Rattle.std.specs.List.{range_with_len}
use Rattle.layout.specs.Layout.{element_count, element_at, elements_of}
use Rattle.stream.specs.declared.region.Region.{Region}
use Rattle.stream.specs.Regions.{region_of}

-- all elements' regions
abbrev pub book_of : List ℕ → List Region
book_of bs = map region_of (elements_of bs)

-- the numbers of the elements from k on with the name number n
abbrev pub named : List ℕ → ℕ → ℕ → List ℕ
named bs n k = filter (λ j. nat_eq (element_at bs j).name n) (range_with_len k (element_count bs - k))

-- the numbers of the elements from k on with the name of element k, and none where there is no k
abbrev pub chain_from : List ℕ → Option ℕ → List ℕ
chain_from bs None = []
chain_from bs (Some k) = named bs (element_at bs k).name k

-- the regions of those elements of a chain that are selected
abbrev pub taken_from : List ℕ → (ℕ → Bool) → Option ℕ → List Region
taken_from bs selects head = map region_of (map (element_at bs) (filter selects (chain_from bs head)))

-- list i, where `heads` has the number of each list's first element
abbrev pub chains : List ℕ → (ℕ → Bool) → List (Option ℕ) → ℕ → List Region
chains bs selects heads i = cond (nat_lt i 16) (taken_from bs selects (slice_index_or heads i None)) []
