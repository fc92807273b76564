-- The bytes of a sheet, from its elements and names.
use Rattle.std.specs.Prelude.{ℕ, ◌+◌, ◌*◌, ◌/◌, ◌%◌, cond, List, [], ◌∷◌, ◌++◌, length, ◌==◌}
use Rattle.tree.specs.declared.element.Element.{Element}
use Rattle.tree.specs.Tree.{Tree}

-- a number's bytes, the lowest first
unfoldable pub le16 : ℕ → List ℕ
le16 n = (n % 256) ∷ (n / 256 % 256) ∷ []

unfoldable pub le32 : ℕ → List ℕ
le32 n = (n % 256) ∷ (n / 256 % 256) ∷ (n / 65536 % 256) ∷ (n / 16777216 % 256) ∷ []

-- what stands past the end of a list of elements
abbrev pub blank : Element
blank = record { start = 0; «end» = 0; level = 0; name = 0 }

-- the number of the first of the elements with the name number n, where they are numbered from k on; past the last if there is none
abbrev pub seek : ℕ → List Element → ℕ → ℕ
seek n [] k = k
seek n (e ∷ es) k = cond (e.name == n) k (seek n es (k + 1))

-- an element record
abbrev pub element_bytes : Element → ℕ → List ℕ
element_bytes e next = le32 e.start ++ (le32 e.«end» ++ (le16 e.level ++ (le16 e.name ++ le32 next)))

-- the element table, where the elements are numbered from k on
abbrev pub element_table : List Element → ℕ → List ℕ
element_table [] k = []
element_table (e ∷ es) k = element_bytes e (seek e.name es (k + 1)) ++ element_table es (k + 1)

-- a name record
abbrev pub name_bytes : ℕ → ℕ → ℕ → List ℕ
name_bytes offset size first = le32 offset ++ (le32 size ++ le32 first)

-- the name table, where the names are numbered from j on, their bytes begin at o, and f tells each name's first element
abbrev pub name_table : (ℕ → ℕ) → List (List ℕ) → ℕ → ℕ → List ℕ
name_table f [] j o = []
name_table f (t ∷ ts) j o = name_bytes o (length t) (f j) ++ name_table f ts (j + 1) (o + length t)

-- all names, one after the other
abbrev pub joint : List (List ℕ) → List ℕ
joint [] = []
joint (t ∷ ts) = t ++ joint ts

-- numbers of 32 bits, one after the other
abbrev pub words : List ℕ → List ℕ
words [] = []
words (n ∷ ns) = le32 n ++ words ns

-- the header, for e elements, n names and c name bytes
abbrev pub header_bytes : ℕ → ℕ → ℕ → List ℕ
header_bytes e n c =
    words (1 ∷ e ∷ n ∷ 32 ∷ (32 + 16 * e) ∷ (32 + 16 * e + 12 * n) ∷ c ∷ (32 + 16 * e + 12 * n + c) ∷ [])

-- the sheet of these elements and names
abbrev pub encoded : List Element → List (List ℕ) → List ℕ
encoded es ts =
    header_bytes (length es) (length ts) (length (joint ts)) ++ (element_table es 0 ++ (name_table (λ j. seek j es 0) ts 0 0 ++ joint ts))

-- the sheet of a tree
abbrev pub sheet_of : Tree → List ℕ
sheet_of t = encoded t.elements t.names
