-- What a view of a sheet tells.
use Rattle.std.specs.Prelude.{◌≡◌, ℕ, ◌<◌, ◌≤◌, cond, ◌&&◌, List, [], ◌∷◌, Some, None, Option, ◌≢◌, nat_lt}
use Rattle.std.specs.Borrow.{Bor}
use Rattle.tree.specs.declared.element.Element.{Element}
use Rattle.tree.specs.Tree.{Tree}
use Rattle.layout.specs.Layout.{element_count, name_count, element_at, next_at, name_at, name_text}

-- the tree of `<a/>`
abbrev pub first_tree : Tree
first_tree = record { elements = (record { start = 0; «end» = 2; level = 0; name = 0 }) ∷ []; names = (97 ∷ []) ∷ [] }

-- element k, if there are so many
abbrev pub element_in : List ℕ → ℕ → Option Element
element_in bs k = cond (nat_lt k (element_count bs)) (Some (element_at bs k)) None

-- the next element with the name of element k, if there is an element k and a next; its record has the count of elements where there is no next
abbrev pub next_in : List ℕ → ℕ → Option ℕ
next_in bs k = cond (nat_lt k (element_count bs) && nat_lt (next_at bs k) (element_count bs)) (Some (next_at bs k)) None

-- the first element with name j, if there are so many
abbrev pub first_in : List ℕ → ℕ → Option ℕ
first_in bs j = cond (nat_lt j (name_count bs)) (Some (name_at bs j).first) None

-- the bytes of name j, if there are so many
abbrev pub NameIn : List ℕ → ℕ → Option (Bor (List ℕ)) → Type 0
NameIn bs j None = name_count bs ≤ j
NameIn bs j (Some text) = (j < name_count bs) × (text.now ≡ name_text bs j)

-- the number of the name with these bytes, or none where no name has them
abbrev pub Found : List ℕ → List ℕ → Option ℕ → Type 0
Found bs text None = (j : ℕ) → j < name_count bs → name_text bs j ≢ text
Found bs text (Some j) = (j < name_count bs) × (name_text bs j ≡ text)
