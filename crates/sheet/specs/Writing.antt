-- What writing a sheet answers, and what the buffer then holds.
use Rattle.std.specs.Prelude.{ℕ, ◌+◌, ◌*◌, Bool, cond, List, [], ◌∷◌, ◌++◌, length, drop, Ok, Err, Result, nat_le, nat_lt}
use Rattle.markup.specs.declared.fault.Fault.{Fault}
use Rattle.markup.specs.declared.fault.Refusal.{Refusal}
use Rattle.markup.specs.declared.fault.Refusal.TheVariants.{SheetWontFit, HeaderField, ElementRecord, NameRecord}
use Rattle.markup.specs.Faults.{fault, and_then}
use Rattle.tree.specs.declared.element.Element.{Element}
use Rattle.layout.specs.Encoding.{encoded}

-- the first of the items, whose records of so many bytes begin at o, that no record can hold
abbrev pub each_fits : {A : Type 0} → (A → Bool) → Refusal → ℕ → List A → ℕ → Result (Unit {0}) Fault
each_fits too_large r size [] o = Ok tt
each_fits too_large r size (x ∷ xs) o = cond (too_large x) (Err (fault r o)) (each_fits too_large r size xs (o + size))

-- the first of the elements, whose records begin at o, with a name number of n or more
abbrev pub numbers_fit : ℕ → List Element → ℕ → Result (Unit {0}) Fault
numbers_fit n es o = each_fits (λ e. nat_le n e.name) ElementRecord 16 es o

-- the first of the names, whose records begin at o, with more than 32 bytes
abbrev pub names_fit : List (List ℕ) → ℕ → Result (Unit {0}) Fault
names_fit ts o = each_fits (λ t. nat_lt 32 (length t)) NameRecord 12 ts o

-- the first field or record of a sheet that cannot hold what these elements and names have there
abbrev pub fields_fit : List Element → List (List ℕ) → Result (Unit {0}) Fault
fields_fit es ts =
    cond (nat_lt 65535 (length es)) (Err (fault HeaderField 4))
    (cond (nat_lt 1024 (length ts)) (Err (fault HeaderField 8))
    (and_then (numbers_fit (length ts) es 32) (λ _. names_fit ts (32 + 16 * length es))))

-- what encoding answers where the buffer has so many bytes: the sheet's length, unless a field or the buffer is too small
abbrev pub encodes : List Element → List (List ℕ) → ℕ → Result ℕ Fault
encodes es ts room =
    and_then (fields_fit es ts)
    (λ _. cond (nat_lt room (length (encoded es ts))) (Err (fault SheetWontFit (length (encoded es ts)))) (Ok (length (encoded es ts))))

-- what the buffer holds after that answer: the sheet and what stood behind it, or what it held
abbrev pub written : List Element → List (List ℕ) → Result ℕ Fault → List ℕ → List ℕ
written es ts (Ok n) old = encoded es ts ++ drop n old
written es ts (Err f) old = old
