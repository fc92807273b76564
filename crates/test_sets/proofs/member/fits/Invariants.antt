use Rattle.std.proofs.Common.{◌≡◌, ℕ, ◌<◌, ◌≤◌}
use Rattle.tree.specs.Region.{contains, count_below}
use Rattle.test_sets.specs.Members.{region_at}
use Rattle.test_sets.proofs.member.fits.Given as goal

-- region k is right with those so far, and this many of them are around it
abbrev pub invariant-loop-j : goal.invariant-loop-j
invariant-loop-j l =
    ((i : ℕ) → i < l.j → (region_at l.members i).start < l.r.start) × ((i : ℕ) → i < l.j → l.r.start ≤ (region_at l.members i).end → l.r.«end» < (region_at l.members i).end)
    × (l.around ≡ count_below (λ i. contains (region_at l.members i) (region_at l.members l.k)) l.j) × (l.around ≤ l.j)
