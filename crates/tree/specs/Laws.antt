-- The laws of lawful books that the crates above rest on.
use Rattle.std.specs.Prelude.{ℕ, ◌<◌, ◌≤◌, ◌↔◌, List, [], ◌∷◌, ◌++◌, length}
use mathlib.Core.List.{Sublistᴰ}
use Rattle.std.specs.List.{ContainsAt as Has, AllByRecursion as Every}
use Rattle.tree.specs.Region.{Region, Contains, BookOf, LawfulBook, at, Fits}

-- Of two regions of a lawful book, the one that starts later lies inside the other where it starts before that ends.
abbrev pub StartsTellContainment : Type 0
StartsTellContainment =
    (rs : List Region) → LawfulBook rs → (u v : Region) → Has rs u → Has rs v → u.start < v.start → v.start ≤ u.end → Contains u v

-- each starts before all that follow it
abbrev pub Rising : List Region → Type 0
Rising [] = Unit {0}
Rising (r ∷ rs) = Every (λ s. r.start < s.start) rs × Rising rs

-- A part of a lawful book, in its order, has rising starts and none but the book's regions.
abbrev pub PartsRise : Type 0
PartsRise = (rs part : List Region) → LawfulBook rs → Sublistᴰ part rs → Rising part × Every (Has rs) part

-- Regions are a lawful book exactly if each is right with those before it.
abbrev pub LawfulOneByOne : Type 0
LawfulOneByOne =
    (n : ℕ) (r : ℕ → Region) → 1 ≤ n → n ≤ 65535 → BookOf n r ↔ ((k : ℕ) → k < n → Fits r k)

-- One more region at the end keeps a book lawful exactly if it is right with those before it.
abbrev pub OneMoreRegion : Type 0
OneMoreRegion =
    (rs : List Region) (r : Region) → LawfulBook rs → length rs < 65535
    → LawfulBook (rs ++ r ∷ []) ↔ Fits (at (rs ++ r ∷ [])) (length rs)
