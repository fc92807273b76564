-- What is promised of printing, as a statement.
use Rattle.std.specs.Prelude.{◌≡◌, ℕ, List}
use Rattle.finding.specs.Finding.{Prints}

-- Every input has just one answer: some lines are printed for it, and no others.
abbrev pub EveryInputHasOneAnswer : Type 0
EveryInputHasOneAnswer =
    (input : List ℕ) (room rows : ℕ) → (lines : List ℕ) × Prints input room rows lines × ((others : List ℕ) → Prints input room rows others → others ≡ lines)
