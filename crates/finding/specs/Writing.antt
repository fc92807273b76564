-- What the steps of a listing write.
use Rattle.std.specs.Prelude.{ℕ, List, Ok, Err, Option, Result}
use Rattle.std.specs.Io.KnownBytes.{Appends, Keeps}
use Rattle.pattern.specs.Shape.{Shape}
use Rattle.rows.specs.declared.row.Row.{Row}
use Rattle.gather.specs.Gather.{Granted, TooFew}
use Rattle.search.specs.Runs.{Lists}
use Rattle.finding.specs.declared.ending.Ending.{Ending}
use Rattle.finding.specs.declared.ending.Ending.TheVariants.{Refused, Failed}
use Rattle.finding.specs.Finding.{Refuses, Prints}
use Rattle.finding.specs.Pages.{ListingWritten}

-- The listing over these lists was written, in so many rows; or the rows are too few, and nothing was written.
abbrev pub Gathered : Shape → Lists → List Row → ℕ → Option (List ℕ) → Option (List ℕ) → Result (Unit {0}) Ending → Type 0
Gathered s lists rows nodes old new (Ok _) = Granted s lists rows × ListingWritten s lists nodes old new
Gathered s lists rows nodes old new (Err (Refused f)) = TooFew s lists rows f × Keeps old new
Gathered s lists rows nodes old new (Err (Failed e)) = Unit {0}

-- the lines of an input were written
pub record LinesWritten (input : List ℕ) (room rows : ℕ) (old new : Option (List ℕ)) : Type 0 where
  pub lines : List ℕ
  pub prints : Prints input room rows lines
  pub written : Appends old new lines

-- The lines of the listing were written; or the input is refused, and nothing was written.
abbrev pub Listed : List ℕ → ℕ → ℕ → Option (List ℕ) → Option (List ℕ) → Result (Unit {0}) Ending → Type 0
Listed input room rows old new (Ok _) = LinesWritten input room rows old new
Listed input room rows old new (Err (Refused f)) = Refuses input room rows f × Keeps old new
Listed input room rows old new (Err (Failed e)) = Unit {0}
