use Rattle.std.proofs.Common.{◌++◌, sym, ◌∙◌, arith}
use Rattle.std.proofs.lemmas.Grind.{common_steps}
use Rattle.report.proofs.Viewing.{one_more, all_lines}
use Rattle.report.proofs.outline.view_lines.Goals as goal

pub loop-k-preserved : goal.loop-k-preserved
loop-k-preserved c =
    let bs = c.args.view.now.bytes.now in
    let more = one_more bs c.loop-k.k c.unwrap-element.result c.unwrap-name.result (omega (arith, c.element_count-k-end.ensures)) (sym c.element.ensures ∙ c.unwrap-element.ensures)
    (rw (c.from.ensures, c.unwrap-name.ensures) at c.name.ensures) in
    c.in_ok-extend_from_slice.ensures.items ∙ (λ i. c.loop-k.invariant i ++ (c.as_slice.ensures.value ∙ c.in_ok-line.ensures) i) ∙ sym more

pub returns : goal.returns
returns c = let all = all_lines c.args.view.now.bytes.now in grind (arith, common_steps)
