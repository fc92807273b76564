-- The open elements, while the elements are checked in order.
use Rattle.std.specs.Prelude.{◌≡◌, ℕ, zero, suc, ◌<◌, ◌≤◌, List, length, slice_index}
use Rattle.tree.specs.Region.{Region}

-- the start of the region before k
abbrev pub last_start : (ℕ → Region) → ℕ → ℕ
last_start r zero = 0
last_start r (suc k) = (r k).start

-- `stack` has the regions below k that end at p or later, outermost first
pub record Stack (r : ℕ → Region) (k p : ℕ) (stack : List ℕ) : Type 0 where
  pub few : length stack ≤ 64
  pub below : (i : ℕ) → i < length stack → slice_index stack i < k
  pub levels : (i : ℕ) → i < length stack → (r (slice_index stack i)).level ≡ i
  pub falling : (i j : ℕ) → i ≤ j → j < length stack → (r (slice_index stack j)).end ≤ (r (slice_index stack i)).end
  pub all : (j : ℕ) → j < k → p ≤ (r j).end → ((r j).level < length stack) × (slice_index stack (r j).level ≡ j)
  pub bottom : 0 < k → 0 < length stack → slice_index stack 0 ≡ 0
