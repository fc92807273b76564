-- Regions, and what a lawful book is.
use Rattle.std.specs.Prelude.{◌≡◌, ℕ, zero, suc, ◌+◌, ◌<◌, ◌≤◌, Bool, cond, ◌&&◌, ◌⊎◌, List, length, ◌≢◌, nat_lt, slice_index_or}

pub record Region : Type 0 where
  pub start : ℕ
  pub end : ℕ
  pub level : ℕ

-- u contains v
abbrev pub Contains : Region → Region → Type 0
Contains u v = (u.start < v.start) × (v.end < u.end)

abbrev pub contains : Region → Region → Bool
contains u v = nat_lt u.start v.start && nat_lt v.end u.end

-- one contains the other, or one ends below the other's start
abbrev pub NestedOrApart : Region → Region → Type 0
NestedOrApart u v = Contains u v ⊎ (Contains v u ⊎ ((u.end < v.start) ⊎ (v.end < u.start)))

-- how many of the numbers below n pass the test
abbrev pub count_below : (ℕ → Bool) → ℕ → ℕ
count_below f zero = 0
count_below f (suc n) = count_below f n + cond (f n) 1 0

-- the n regions r 0, r 1 and so on are a lawful book
pub record BookOf (n : ℕ) (r : ℕ → Region) : Type 0 where
  pub some : 1 ≤ n
  pub few : n ≤ 65535
  pub each : (i : ℕ) → i < n → ((r i).start < (r i).end) × ((r i).end ≤ 16777215) × ((r i).level ≤ 63)
  pub rising : (i j : ℕ) → i < j → j < n → (r i).start < (r j).start
  pub apart : (i j : ℕ) → i < n → j < n → (i ≢ j) → NestedOrApart (r i) (r j)
  -- the level is the number of the regions around
  pub counted : (i : ℕ) → i < n → (r i).level ≡ count_below (λ j. contains (r j) (r i)) n
  -- the first is around all others
  pub first : (i : ℕ) → 0 < i → i < n → Contains (r 0) (r i)

-- the region at a place of a list
abbrev pub at : List Region → ℕ → Region
at rs i = slice_index_or rs i (record { start = 0; end = 0; level = 0 })

abbrev pub LawfulBook : List Region → Type 0
LawfulBook rs = BookOf (length rs) (at rs)

-- region k is right with those before it
pub record Fits (r : ℕ → Region) (k : ℕ) : Type 0 where
  pub span : (r k).start < (r k).end
  pub reach : (r k).end ≤ 16777215
  pub depth : (r k).level ≤ 63
  pub rising : (j : ℕ) → j < k → (r j).start < (r k).start
  -- an earlier one that does not end below this one's start contains it
  pub nested : (j : ℕ) → j < k → (r k).start ≤ (r j).end → (r k).end < (r j).end
  pub counted : (r k).level ≡ count_below (λ j. contains (r j) (r k)) k
  pub first : 0 < k → Contains (r 0) (r k)
