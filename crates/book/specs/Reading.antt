-- Reading a book text item by item: the tree so far, and what each item makes of it.
use Rattle.std.specs.Prelude.{ℕ, zero, suc, ◌+◌, ◌<◌, cond, not, ◌&&◌, ◌||◌, List, [], ◌∷◌, ◌++◌, length, drop, Ok, Err, Result, ◌==◌, ◌≢◌, nat_le, slice_index_or, slice_set}
use Rattle.std.specs.List.{prefix_len, AllByRecursion as Every}
use Rattle.std.specs.Str.{bytes_eq}
use Rattle.markup.specs.declared.fault.Refusal.TheVariants.{BookTooLong, Stray, WrongEndTag, Unclosed, TopElement, TooDeep, TooMany}
use Rattle.markup.specs.declared.fault.Fault.{Fault}
use Rattle.markup.specs.Faults.{fault, and_then}
use Rattle.tree.specs.declared.element.Element.{Element}
use Rattle.tree.specs.Tree.{Tree}
use Rattle.lexer.specs.Bytes.{blank_byte}
use Rattle.lexer.specs.Item.{Item, Item.start, Item.end, Item.empty, Item.text, spelling}
use Rattle.lexer.specs.Lex.{item_at}
use Rattle.book.specs.Document.{position, intern}

-- an open element: its number, what is known of it (its end is 0) and the bytes of its name
pub record OpenElement : Type 0 where
  pub number : ℕ
  pub element : Element
  pub name : List ℕ

-- the elements and names so far, and the open elements, innermost first
pub record State : Type 0 where
  pub elements : List Element
  pub names : List (List ℕ)
  pub opens : List OpenElement

-- no name comes twice
abbrev pub Different : List (List ℕ) → Type 0
Different names = (j k : ℕ) → j < k → k < length names → slice_index_or names j [] ≢ slice_index_or names k []

-- what holds of the state before each item: the names are different, and the open elements are among the elements
pub record Consistent (s : State) : Type 0 where
  pub different : Different s.names
  pub among : Every (λ o. o.number < length s.elements) s.opens

-- before the first item
abbrev pub initial : State
initial = record { elements = []; names = []; opens = [] }

-- whether a further element may begin at p, with `opens` open elements and `count` elements before it; its name has this number
abbrev pub allowed : ℕ → ℕ → ℕ → ℕ → Result (Unit {0}) Fault
allowed opens count number p =
    cond (opens == 0 && not (count == 0)) (Err (fault TopElement p))
    (cond (nat_le 64 opens) (Err (fault TooDeep p))
    (cond (nat_le 65535 count || nat_le 1024 number) (Err (fault TooMany p))
    (Ok tt)))

-- the element of a tag at p, where these names came before
abbrev pub enter : ℕ → ℕ → List (List ℕ) → ℕ → List ℕ → Result Element Fault
enter opens count names p name =
    and_then (allowed opens count (position names name) p) (λ _. Ok (record { start = p; «end» = 0; level = opens; name = position names name }))

-- the element with its end
abbrev pub ended : Element → ℕ → Element
ended e p = record { start = e.start; «end» = p; level = e.level; name = e.name }

-- the same for the state
abbrev pub entered : State → ℕ → List ℕ → Result Element Fault
entered s p name = enter (length s.opens) (length s.elements) s.names p name

-- after a start tag
abbrev pub opened : State → List ℕ → Element → State
opened s name e = record {
  elements = s.elements ++ e ∷ [];
  names = intern s.names name;
  opens = record { number = length s.elements; element = e; name = name } ∷ s.opens;
}

-- after an empty tag
abbrev pub leaf : State → ℕ → List ℕ → Element → State
leaf s p name e = record {
  elements = s.elements ++ ended e (p + 1 + length name) ∷ [];
  names = intern s.names name;
  opens = s.opens;
}

-- after an end tag, which closes the innermost open element
abbrev pub close : State → List OpenElement → ℕ → List ℕ → Result State Fault
close s [] p name = Err (fault WrongEndTag p)
close s (o ∷ os) p name = cond (bytes_eq o.name name)
    (Ok (record { elements = slice_set s.elements o.number (ended o.element p); names = s.names; opens = os }))
    (Err (fault WrongEndTag p))

-- a run at p holds only blanks
abbrev pub blanks_only : ℕ → List ℕ → Result (Unit {0}) Fault
blanks_only p bs = cond (prefix_len blank_byte bs == length bs) (Ok tt) (Err (fault Stray (p + prefix_len blank_byte bs)))

-- after a text run: outside the top element only blanks stand
abbrev pub between : State → ℕ → List ℕ → Result State Fault
between s p bs = cond (length s.opens == 0) (and_then (blanks_only p bs) (λ _. Ok s)) (Ok s)

-- what an item at p makes of the state
abbrev pub step : State → ℕ → Item → Result State Fault
step s p (start name) = and_then (entered s p name) (λ e. Ok (opened s name e))
step s p (empty name) = and_then (entered s p name) (λ e. Ok (leaf s p name e))
step s p (end name) = close s s.opens p name
step s p (text bs) = between s p bs

-- the items of bs, which stand from p on; n bounds their count
abbrev pub run : ℕ → State → ℕ → List ℕ → Result State Fault
run zero s p bs = Ok s
run (suc n) s p [] = Ok s
run (suc n) s p (b ∷ bs) = and_then (item_at p (b ∷ bs)) (λ i. and_then (step s p i) (λ t. run n t (p + length (spelling i)) (drop (length (spelling i)) (b ∷ bs))))

-- the tree, once all is closed
abbrev pub tree_of_state : State → Tree
tree_of_state s = record { elements = s.elements; names = s.names }

-- no element is open
abbrev pub closed : State → List OpenElement → Result Tree Fault
closed s [] = Ok (tree_of_state s)
closed s (o ∷ os) = Err (fault Unclosed o.element.start)

-- at the end of a text of n bytes: there is a top element, and it is closed
abbrev pub finished : ℕ → State → Result Tree Fault
finished n s = cond (length s.elements == 0) (Err (fault TopElement n)) (closed s s.opens)

-- a text of n bytes is not too long
abbrev pub short_enough : ℕ → Result (Unit {0}) Fault
short_enough n = cond (nat_le n 16777216) (Ok tt) (Err (fault BookTooLong 16777216))

-- the tree of a book text, or the first refusal
abbrev pub read_book : List ℕ → Result Tree Fault
read_book bs = and_then (short_enough (length bs)) (λ _. and_then (run (length bs) initial 0 bs) (finished (length bs)))
