-- The item at the front of what is left of a book text.
use Rattle.std.specs.Prelude.{ℕ, ◌+◌, cond, List, [], ◌∷◌, length, take, drop, Some, None, Ok, Err, Option, Result, ◌==◌, nat_le, slice_index}
use Rattle.std.specs.List.{prefix_len}
use Rattle.markup.specs.declared.fault.Refusal.TheVariants.{Stray, BookNameTooLong}
use Rattle.markup.specs.declared.fault.Fault.{Fault}
use Rattle.markup.specs.Faults.{fault, and_then}
use Rattle.markup.specs.Name.{name_first, name_byte}
use Rattle.lexer.specs.Bytes.{text_byte}
use Rattle.lexer.specs.Item.{Item, Item.start, Item.end, Item.empty, Item.text, spelling}

-- the length of the name at the front of bs, which stands from p on
abbrev pub name_at : ℕ → List ℕ → Result ℕ Fault
name_at p bs =
    cond (name_first (slice_index bs 0))
    (cond (nat_le (prefix_len name_byte bs) 32) (Ok (prefix_len name_byte bs)) (Err (fault BookNameTooLong (p + 32))))
    (Err (fault Stray p))

-- behind the name of n bytes that follows the `</` at p: `>`
abbrev pub end_tail : ℕ → List ℕ → ℕ → Result Item Fault
end_tail p bs n = cond (slice_index bs n == 62) (Ok (end (take n bs))) (Err (fault Stray (p + 2 + n)))

-- behind the `</` at p
abbrev pub end_tag : ℕ → List ℕ → Result Item Fault
end_tag p bs = and_then (name_at (p + 2) bs) (end_tail p bs)

-- behind the name of n bytes that follows the `<` at p: `>` or `/>`
abbrev pub start_tail : ℕ → List ℕ → ℕ → Result Item Fault
start_tail p bs n =
    cond (slice_index bs n == 62) (Ok (start (take n bs)))
    (cond (slice_index bs n == 47)
    (cond (slice_index bs (n + 1) == 62) (Ok (empty (take n bs))) (Err (fault Stray (p + 2 + n))))
    (Err (fault Stray (p + 1 + n))))

-- behind the `<` at p
abbrev pub start_tag : ℕ → List ℕ → Result Item Fault
start_tag p bs = and_then (name_at (p + 1) bs) (start_tail p bs)

-- the item at the front of bs, which stands from p on: a tag is known by its first two bytes
abbrev pub item_at : ℕ → List ℕ → Result Item Fault
item_at p bs =
    cond (slice_index bs 0 == 60)
    (cond (slice_index bs 1 == 47) (end_tag p (drop 2 bs)) (start_tag p (drop 1 bs)))
    (Ok (text (take (prefix_len text_byte bs) bs)))

-- the same, and `None` at the end of the text
abbrev pub lex : ℕ → List ℕ → Result (Option Item) Fault
lex p [] = Ok None
lex p (b ∷ bs) = and_then (item_at p (b ∷ bs)) (λ i. Ok (Some i))

-- where a lexer that stood at p stands after this answer: behind the item, and unmoved at the end and at a refusal
abbrev pub behind : ℕ → Result (Option Item) Fault → ℕ
behind p (Ok (Some i)) = p + length (spelling i)
behind p (Ok None) = p
behind p (Err f) = p
