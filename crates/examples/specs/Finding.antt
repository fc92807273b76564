-- What the finder lists, keeps and prints.
use Rattle.std.specs.Prelude.{◌≡◌, ℕ, Bool, List, [], ◌∷◌, ◌++◌, map, take, flat_map, Ok, codes, slice_index_or}
use Rattle.std.specs.List.{repeat}
use Rattle.tree.specs.declared.element.Element.{Element}
use Rattle.pattern.specs.Shape.{Shape}
use Rattle.pattern.specs.Reading.{read_pattern}
use Rattle.stream.specs.declared.region.Region.{Region}
use Rattle.stream.specs.declared.rule.LevelRange.{LevelRange}
use Rattle.stream.specs.Regions.{region_of}
use Rattle.stream.specs.Rules.{within, inside}
use Rattle.chain.specs.Select.{marked}
use Rattle.listing.specs.declared.place.Place.{Place}
use Rattle.answers.specs.Trees.{TreeListing}
use Rattle.finding.specs.Finding.{all, UsefulElements, EnoughRows, TooFewRows, Prints}
use Rattle.examples.specs.Sample.{sample, sample_tree}

-- a place with these starts
abbrev pub place : List ℕ → Place
place starts = record { starts = take 16 (starts ++ repeat 16 (4294967295 ∷ [])) }

-- Where these elements of the sample are let through, the listing of the pattern in its tree has places with these starts, and no others.
pub record Lists (lets : ℕ → ℕ → Element → Bool) (pattern : List ℕ) (starts : List (List ℕ)) : Type 0 where
  pub twig : Shape
  pub read : read_pattern pattern ≡ Ok twig
  pub listing : TreeListing sample_tree twig lets (map place starts)

-- the elements inside a span
abbrev pub spanned : ℕ → ℕ → ℕ → ℕ → Element → Bool
spanned start last i k e = inside (record { start = start; «end» = last }) (region_of e)

abbrev pub level_range : ℕ → ℕ → LevelRange
level_range lowest highest = record { lowest = lowest; highest = highest }

-- at node 1 the elements within these levels, and at every other node all elements
abbrev pub banded : ℕ → ℕ → ℕ → ℕ → Element → Bool
banded lowest highest i k e =
    within (record { ranges = level_range 0 63 ∷ level_range lowest highest ∷ repeat 14 (level_range 0 63 ∷ []) }) i (region_of e)

-- the elements with a mark byte other than 0
abbrev pub with_mark : List ℕ → ℕ → ℕ → Element → Bool
with_mark marks i k e = marked marks k

abbrev pub region : ℕ → ℕ → ℕ → Region
region start last level = record { start = start; «end» = last; level = level }

-- just these elements of the sample are useful at the pattern's nodes, by the nodes' numbers
pub record Useful (pattern : List ℕ) (elements : List (List Region)) : Type 0 where
  pub twig : Shape
  pub read : read_pattern pattern ≡ Ok twig
  pub useful : UsefulElements twig sample_tree (λ i. slice_index_or elements i [])

-- so many rows do for the pattern over the sample
pub record Enough (pattern : List ℕ) (rows : ℕ) : Type 0 where
  pub twig : Shape
  pub read : read_pattern pattern ≡ Ok twig
  pub enough : EnoughRows twig sample_tree rows

-- so many do not, and so many are needed
pub record TooFew (pattern : List ℕ) (rows needed : ℕ) : Type 0 where
  pub twig : Shape
  pub read : read_pattern pattern ≡ Ok twig
  pub few : TooFewRows twig sample_tree rows needed

pub record ListingExamples : Type 0 where
  pub descendants : Lists all (codes "//b//p") ((0 ∷ 3 ∷ []) ∷ (0 ∷ 14 ∷ []) ∷ [])
  pub four_rows : Enough (codes "//b//p") 4
  pub three_rows : TooFew (codes "//b//p") 3 4
  -- two branches may have the same element
  pub branches : Lists all (codes "//b[p][p]") ((0 ∷ 3 ∷ 3 ∷ []) ∷ (0 ∷ 3 ∷ 14 ∷ []) ∷ (0 ∷ 14 ∷ 3 ∷ []) ∷ (0 ∷ 14 ∷ 14 ∷ []) ∷ [])
  -- no note is a child of the book, so nothing is listed; but four elements are useful, since that reads every edge as a descendant edge
  pub nothing : Lists all (codes "//b[p][n]") []
  pub useful : Useful (codes "//b[p][n]") ((region 0 21 0 ∷ []) ∷ (region 3 10 1 ∷ region 14 17 1 ∷ []) ∷ (region 6 8 2 ∷ []) ∷ [])
  pub six_rows : Enough (codes "//b[p][n]") 6
  pub five_rows : TooFew (codes "//b[p][n]") 5 6
  -- only the first of the two has a note
  pub last_edge : Lists all (codes "//p/n") ((3 ∷ 6 ∷ []) ∷ [])
  -- no `p` is the top element
  pub top : Lists all (codes "/p") []
  -- windows: an element that starts before the span, or ends at its end, is not inside
  pub window : Lists (spanned 1 21) (codes "//p/n") ((3 ∷ 6 ∷ []) ∷ [])
  pub narrow_window : Lists (spanned 3 17) (codes "//p") ((3 ∷ []) ∷ [])
  -- bands
  pub band : Lists (banded 2 2) (codes "//b//n") ((0 ∷ 6 ∷ []) ∷ [])
  pub low_band : Lists (banded 0 1) (codes "//b//n") []
  -- marks; an element past the last mark byte is not marked
  pub marks : Lists (with_mark (1 ∷ 0 ∷ 0 ∷ 255 ∷ [])) (codes "//b//p") ((0 ∷ 14 ∷ []) ∷ [])
  pub few_marks : Lists (with_mark (1 ∷ 1 ∷ [])) (codes "//b//p") ((0 ∷ 3 ∷ []) ∷ [])

-- an input of the finder
abbrev pub input : List ℕ → List ℕ → List ℕ
input pattern text = pattern ++ 10 ∷ text

abbrev pub lines : List (List ℕ) → List ℕ
lines ls = flat_map (λ l. l ++ 10 ∷ []) ls

-- the lines for an input, where the sheet has room for 200 bytes, and there are 16 rows
abbrev pub Printed : List ℕ → List ℕ → List (List ℕ) → Type 0
Printed pattern text ls = Prints (input pattern text) 200 16 (lines ls)

pub record PrintingExamples : Type 0 where
  pub descendants : Printed (codes "//b//p") sample (codes "0 3" ∷ codes "0 14" ∷ codes "end" ∷ [])
  pub branches : Printed (codes "//b[p][p]") sample (codes "0 3 3" ∷ codes "0 3 14" ∷ codes "0 14 3" ∷ codes "0 14 14" ∷ codes "end" ∷ [])
  pub nothing : Printed (codes "//b[p][n]") sample (codes "end" ∷ [])
  -- refused patterns, which come before texts
  pub bracket_misfits : Printed (codes "//a[//b]") sample (codes "refused 15 at 4" ∷ [])
  pub empty_pattern : Printed [] sample (codes "refused 15 at 0" ∷ [])
  pub pattern_first : Printed (codes "//") (codes "</") (codes "refused 15 at 2" ∷ [])
  -- refused texts
  pub wrong_end_tag : Printed (codes "//a") (codes "<a><b></a></b>") (codes "refused 3 at 6" ∷ [])
  pub unclosed : Printed (codes "//a") (codes "<a><b></b>") (codes "refused 4 at 0" ∷ [])
  pub empty_text : Printed (codes "//a") [] (codes "refused 5 at 0" ∷ [])
  pub two_elements : Printed (codes "//a") (codes "<a/><a/>") (codes "refused 5 at 4" ∷ [])
  -- an input without LF is all pattern
  pub no_text : Prints (codes "//a") 200 16 (lines (codes "refused 5 at 0" ∷ []))
  -- a sheet of 134 bytes is too short for the sample, and then 3 rows are too few
  pub long_sheet : Prints (input (codes "//b//p") sample) 134 3 (lines (codes "refused 9 at 135" ∷ []))
  pub few_rows : Prints (input (codes "//b//p") sample) 135 3 (lines (codes "refused 19 at 4" ∷ []))
