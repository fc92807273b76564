-- How a series of calls runs, and what its log tells.
use Rattle.std.specs.Prelude.{◌≡◌, ℕ, List, [], ◌∷◌, ◌++◌, length, take, drop, Ok, Err, Result}
use Rattle.markup.specs.declared.fault.Fault.{Fault}
use Rattle.pattern.specs.Shape.{Shape}
use Rattle.rows.specs.declared.row.Row.{Row}
use Rattle.listing.specs.declared.place.Place.{Place}
use Rattle.search.specs.Runs.{Lists, Event, gathering, paging, rewinding, Log, met, RowsAre, Fair}
use Rattle.replay.specs.declared.series.Step.{Step}
use Rattle.replay.specs.declared.series.Step.TheVariants.{Gather, Page, Rewind}
use Rattle.replay.specs.declared.series.Answer.{Answer}
use Rattle.replay.specs.declared.series.Answer.TheVariants.{Done, Count, Refused}

-- the answer of a gather or a rewind
abbrev pub done_answer : Result (Unit {0}) Fault → Answer
done_answer (Ok _) = Done
done_answer (Err f) = Refused f

-- the answer of a page
abbrev pub count_answer : Result ℕ Fault → Answer
count_answer (Ok count) = Count count
count_answer (Err f) = Refused f

-- how many places of the table a call has
abbrev pub places_of : Step → ℕ
places_of Gather = 0
places_of (Page places) = places
places_of Rewind = 0

-- one call: the lists of its set and its places, its answer, the lists and the places after it, and its event
pub data Called : Step → Lists → List Place → Answer → Lists → List Place → Event → Type 0 where
  gather : (lists lists′ : Lists) (places : List Place) (r : Result (Unit {0}) Fault) (rows : List Row)
      → Called Gather lists places (done_answer r) lists′ places (gathering lists r lists′ rows)
  page : (most : ℕ) (lists : Lists) (places places′ : List Place) (r : Result ℕ Fault) (rows : List Row)
      → Called (Page most) lists places (count_answer r) lists places′ (paging places r places′ rows)
  rewind : (lists : Lists) (places : List Place) (r : Result (Unit {0}) Fault) (rows : List Row)
      → Called Rewind lists places (done_answer r) lists places (rewinding r rows)

-- A run over a table: its calls, the lists that each met, its answers, the lists that each left, what stands in the places that they had, and its
-- log. Each call has the next places of the table, as many as are left.
pub data Ran (table : List Place) : List Step → List Lists → List Answer → List Lists → List Place → Log → Type 0 where
  begun : Ran table [] [] [] [] [] []
  then : (calls : List Step) (lists : List Lists) (answers : List Answer) (lists′ : List Lists) (written : List Place) (log : Log)
      (call : Step) (met : Lists) (answer : Answer) (left : Lists) (places : List Place) (e : Event) → Ran table calls lists answers lists′ written log
      → Called call met (take (places_of call) (drop (length written) table)) answer left places e
      → length places ≡ length (take (places_of call) (drop (length written) table))
      → Ran table (calls ++ call ∷ []) (lists ++ met ∷ []) (answers ++ answer ∷ []) (lists′ ++ left ∷ []) (written ++ places) (e ∷ log)

-- There is a log of just these calls, on these lists and this table, with these answers, that left these lists, this table and these rows; and
-- it keeps the promise of searches.
pub record Replayed (s : Shape) (size : ℕ) (calls : List Step) (lists : List Lists) (table : List Place) (answers : List Answer) (lists′ : List Lists)
    (table′ : List Place) (rows′ : List Row) : Type 0 where
  pub log : Log
  pub written : List Place
  pub ran : Ran table calls lists answers lists′ written log
  pub shown : table′ ≡ written ++ drop (length written) table
  pub fair : Fair s size log
  pub rows : RowsAre s (met log) rows′
