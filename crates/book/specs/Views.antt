-- What the reader's values stand for.
use Rattle.std.specs.Prelude.{◌≡◌, map, reverse, Ok, Err, Result}
use Rattle.markup.specs.declared.fault.Fault.{Fault}
use Rattle.markup.specs.declared.fault.Error.{Error}
use Rattle.markup.specs.declared.fault.Error.TheVariants.{Refused, Memory}
use Rattle.tree.specs.Tree.{Tree}
use Rattle.book.specs.declared.book.Book.{Book}
use Rattle.book.specs.declared.reader.Open.{Open}
use Rattle.book.specs.declared.reader.Reader.TheInside.{Inside}
use Rattle.tree.specs.Tree.{bytes_of}
use Rattle.book.specs.Reading.{OpenElement, State}

-- an error is the refusal that the definition gives, or want of memory
abbrev pub Fails : {X : Type 0} → Result X Fault → Error → Type 0
Fails {X} d (Refused e) = d ≡ Err e
Fails {X} d Memory = Unit {0}

-- the answer is what the definition says, unless memory ran out
abbrev pub Answers : {X Y : Type 0} → Result X Fault → Result Y Error → (Y → X) → Type 0
Answers {X} {Y} d (Ok y) f = d ≡ Ok (f y)
Answers {X} {Y} d (Err e) f = Fails d e

abbrev pub open_of : Open → OpenElement
open_of o = record { number = o.number; element = o.element; name = o.name.now }

abbrev pub state_of : Inside → State
state_of r = record {
  elements = r.elements.items;
  names = bytes_of r.names.keys;
  opens = map open_of (reverse r.opens.items);
}

abbrev pub tree_of : Book → Tree
tree_of b = record { elements = b.elements.items; names = bytes_of b.names.items }
