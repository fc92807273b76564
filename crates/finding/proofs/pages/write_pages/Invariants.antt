use Rattle.std.proofs.Common.{◌≡◌, length}
use Rattle.search.specs.Runs.{Lists}
use Rattle.finding.specs.Pages.{Ready}
use Rattle.finding.proofs.Paging.{Sofar, left}
use Rattle.finding.proofs.pages.write_pages.Given as goal

-- the twig and the rows stay, and the lines of what was paged were written
abbrev pub invariant-loop-count : goal.invariant-loop-count
invariant-loop-count g l =
    (l.search.twig ≡ l.fn.search.twig) × (l.search.rows.now ≡ l.fn.search.rows.now) × (length l.table ≡ 64)
    × ((lists : Lists) → Ready lists l.fn.search → Sofar lists l.search l.nodes (g.W.Write.contents l.fn.out) (g.W.Write.contents l.out))

abbrev pub decreases-loop-count : goal.decreases-loop-count
decreases-loop-count g l = left l.search
