-- The laws of writing, opening and viewing sheets.
use Rattle.std.specs.Prelude.{◌≡◌, ℕ, ◌+◌, ◌<◌, cond, List, length, Ok, Err, Result, Some, None, Option, IsSome, nat_lt}
use Rattle.markup.specs.declared.fault.Fault.{Fault}
use Rattle.markup.specs.declared.fault.Refusal.TheVariants.{SheetWontFit}
use Rattle.markup.specs.Faults.{fault}
use Rattle.tree.specs.Tree.{Tree, LawfulTree}
use Rattle.layout.specs.Layout.{element_count, name_count, element_at}
use Rattle.layout.specs.Lawful.{FirstNamed, LawfulSheet}
use Rattle.layout.specs.Encoding.{sheet_of}
use Rattle.sheet.specs.Writing.{encodes}
use Rattle.sheet.specs.Opening.{Opened}
use Rattle.sheet.specs.Viewing.{next_in, first_in}

-- Encoding a lawful tree is granted exactly where the buffer is long enough for its sheet.
abbrev pub LawfulTreesAreEncoded : Type 0
LawfulTreesAreEncoded =
    (t : Tree) → LawfulTree t → (room : ℕ)
    → encodes t.elements t.names room
    ≡ cond (nat_lt room (length (sheet_of t))) (Err (fault SheetWontFit (length (sheet_of t)))) (Ok (length (sheet_of t)))

-- Opening the sheet of a lawful tree is granted.
abbrev pub EncodingsOpen : Type 0
EncodingsOpen = (t : Tree) → LawfulTree t → (r : Result (Unit {0}) Fault) → Opened (sheet_of t) r → r ≡ Ok tt

-- Opening has one answer: the bytes say whether they are refused, as what, and where.
abbrev pub OpeningHasOneAnswer : Type 0
OpeningHasOneAnswer = (bs : List ℕ) (r s : Result (Unit {0}) Fault) → Opened bs r → Opened bs s → r ≡ s

-- the number of the first element from m on with the name number x, or none where no element from m on has it
abbrev pub FirstIfAny : List ℕ → ℕ → ℕ → Option ℕ → Type 0
FirstIfAny bs x m None = FirstNamed bs x m (element_count bs)
FirstIfAny bs x m (Some i) = (i < element_count bs) × FirstNamed bs x m i

-- On a lawful sheet, `next` is the nearest later element of the same name, if there is one, and `first` is the first element of a name.
abbrev pub ChainsFollowNames : Type 0
ChainsFollowNames =
    (bs : List ℕ) → LawfulSheet bs
    → ((k : ℕ) → k < element_count bs → FirstIfAny bs (element_at bs k).name (k + 1) (next_in bs k))
    × ((j : ℕ) → j < name_count bs → IsSome (first_in bs j) × FirstIfAny bs j 0 (first_in bs j))
