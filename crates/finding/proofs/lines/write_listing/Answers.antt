use Rattle.std.proofs.Common.{[], ◌∷◌, List, Ok, refl, ap, subst, sym}
use Rattle.pattern.specs.Shape.{Shape}
use Rattle.pattern.specs.Twig.{shape_of}
use Rattle.rows.specs.declared.row.Row.{Row}
use Rattle.gather.specs.Gather.{Granted}
use Rattle.search.specs.Runs.{gathering}
use Rattle.finding.specs.Pages.{ListingWritten}
use Rattle.finding.proofs.lines.write_listing.Goals as goal

pub write_pages-requires : goal.write_pages-requires
write_pages-requires g c = (
  g.S.StreamSet.lists c.args.set.now,
  record { log = _; kept = c.in_ok-gather.ensures.law [] c.requires; met = refl; none = refl },
)

pub returns-clause-gathered : goal.returns-clause-gathered
returns-clause-gathered g c =
    let kept = c.in_ok-gather.ensures.law [] c.requires in
    let lists = g.S.StreamSet.lists c.args.set.now in
    let same = ap (λ t. shape_of t.now) c.gather.ensures.twig in (
      subst (λ (s : Shape). Granted s lists c.write_pages.new.search.rows.now) same
          (subst (λ (rows : List Row). Granted (shape_of c.gather.new.self.twig.now) lists rows) (sym c.write_pages.ensures.rows) kept.fair.0.answered.0),
      subst (λ (s : Shape). ListingWritten s lists c.args.nodes (g.W.Write.contents c.args.out.now) (g.W.Write.contents c.write_pages.new.out)) same
          (c.in_ok-write_pages.ensures.written lists (record { log = gathering lists (Ok tt) (g.S.StreamSet.lists c.gather.new.set) c.gather.new.self.rows.now ∷ []; kept = kept; met = refl; none = refl }) refl),
    )
