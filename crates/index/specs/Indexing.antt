-- What indexing a book text answers, and what the buffer then holds.
use Rattle.std.specs.Prelude.{◌≡◌, ℕ, ◌<◌, ◌⊎◌, List, ◌++◌, length, drop, Ok, Err, Result}
use Rattle.markup.specs.declared.fault.Fault.{Fault}
use Rattle.markup.specs.declared.fault.Error.{Error}
use Rattle.markup.specs.declared.fault.Error.TheVariants.{Refused, Memory}
use Rattle.markup.specs.declared.fault.Refusal.TheVariants.{SheetWontFit}
use Rattle.markup.specs.Faults.{fault}
use Rattle.tree.specs.Tree.{Tree}
use Rattle.book.specs.Refusing.{Refuses}
use Rattle.book.specs.Answer.{Grants}
use Rattle.layout.specs.Layout.{tree_of}
use Rattle.layout.specs.Lawful.{LawfulSheet}
use Rattle.layout.specs.Encoding.{sheet_of}
use Rattle.layout.specs.Laws.{Bytes}
use Rattle.sheet.specs.Opening.{Opened}

-- the n bytes of the sheet of the text's tree stand before what `old` had behind them
pub record Sheeted (text old new : List ℕ) (n : ℕ) : Type 0 where
  pub tree : Tree
  pub grants : Grants text tree
  pub size : n ≡ length (sheet_of tree)
  pub bytes : new ≡ sheet_of tree ++ drop n old
  -- it is a lawful sheet, opening it is granted, and it shows the tree of the text
  pub lawful : LawfulSheet (sheet_of tree)
  pub opens : (r : Result (Unit {0}) Fault) → Opened (sheet_of tree) r → r ≡ Ok tt
  pub shows : tree_of (sheet_of tree) ≡ tree
  -- no other lawful sheet shows it
  pub only : (bs : List ℕ) → Bytes bs → LawfulSheet bs → tree_of bs ≡ tree → bs ≡ sheet_of tree

-- the sheet of the text's tree needs more bytes than there are
pub record WontFit (text old : List ℕ) (f : Fault) : Type 0 where
  pub tree : Tree
  pub grants : Grants text tree
  pub longer : length old < length (sheet_of tree)
  pub refused : f ≡ fault SheetWontFit (length (sheet_of tree))

-- why nothing was written
abbrev pub Unwritten : List ℕ → List ℕ → Error → Type 0
Unwritten text old (Refused f) = Refuses text f ⊎ WontFit text old f
Unwritten text old Memory = Unit {0}

abbrev pub Indexed : List ℕ → List ℕ → List ℕ → Result ℕ Error → Type 0
Indexed text old new (Ok n) = Sheeted text old new n
Indexed text old new (Err e) = (new ≡ old) × Unwritten text old e
