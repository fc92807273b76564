use Rattle.std.proofs.Common.{rules, ap, ◌∙◌, subst, arith}
use Rattle.std.specs.Io.KnownBytes.{Appends}
use Rattle.pattern.specs.Shape.{Shape}
use Rattle.pattern.specs.Twig.{shape_of}
use Rattle.finding.specs.Pages.{ListingWritten}
use Rattle.finding.proofs.Paging.{sofar_start, sofar_more, left_falls, sofar_end}
use Rattle.finding.proofs.pages.write_pages.Goals as goal

pub loop-count-init : goal.loop-count-init
loop-count-init g c = (cc, cc, search rules, λ lists ready. sofar_start lists c.args.search.now c.args.nodes _ ready)

pub loop-count-smaller : goal.loop-count-smaller
loop-count-smaller g c =
    let out = g.W.Write.contents c.loop-count.out in
    let ready = c.requires in
    left_falls ready.0 c.args.nodes _ out out c.loop-count.search c.page.new.self c.loop-count.table c.page.new.table (c.loop-count.invariant.3 ready.0 ready.1)
    c.in-Ok.count c.in-Ok.ensures.does c.page.ensures.twig c.page.ensures.rows

pub loop-count-preserved : goal.loop-count-preserved
loop-count-preserved g c = (
  c.page.ensures.twig ∙ c.loop-count.invariant.0,
  c.page.ensures.rows ∙ c.loop-count.invariant.1,
  search rules,
  λ lists ready.
      sofar_more lists c.args.nodes _ _ _ c.loop-count.search c.page.new.self c.loop-count.table c.page.new.table (c.loop-count.invariant.3 lists ready)
      c.in-Ok.count _ c.in-Ok.ensures.law (subst (Appends _ _) (c.as_slice.ensures.value ∙ c.in_ok-lines.ensures) c.in_ok-write_all.ensures.bytes),
)

pub returns-clause-written : goal.returns-clause-written
returns-clause-written g c lists ready ok =
    let out = g.W.Write.contents c.loop-count.out in
    subst (λ (s : Shape). ListingWritten s lists c.args.nodes (g.W.Write.contents c.args.out.now) out) (ap (λ t. shape_of t.now) c.loop-count.invariant.0)
    (sofar_end lists c.args.nodes _ _ out c.loop-count.search c.page.new.self c.loop-count.table c.page.new.table (c.loop-count.invariant.3 lists ready)
    c.in_default.field-0 _ (omega (arith, c.loop-count.invariant.2)) c.page.ensures.twig c.in_default.ensures.law)
