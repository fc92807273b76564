-- The lines of a listing.
use Rattle.std.specs.Prelude.{◌≡◌, ℕ, List, [], Some, Option, flat_map}
use Rattle.std.specs.Io.KnownBytes.{Appends}
use Rattle.pattern.specs.Shape.{Shape}
use Rattle.listing.specs.declared.place.Place.{Place}
use Rattle.listing.specs.Listing.{Listing}
use Rattle.report.specs.Lines.{place_line}
use Rattle.search.specs.declared.search.Search.{Search}
use Rattle.search.specs.Runs.{Lists, Log, met, paged}
use Rattle.search.specs.Kept.{Kept}

-- a gather over these lists was granted, and nothing was paged since
pub record Ready (lists : Lists) (search : Search) : Type 0 where
  pub log : Log
  pub kept : Kept search log
  pub met : met log ≡ Some lists
  pub none : paged log ≡ []

-- a line for each place of the listing over these lists was written
pub record ListingWritten (s : Shape) (lists : Lists) (nodes : ℕ) (old new : Option (List ℕ)) : Type 0 where
  pub places : List Place
  pub listing : Listing s lists places
  pub written : Appends old new (flat_map (place_line nodes) places)
