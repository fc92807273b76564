use Rattle.std.proofs.Common.{vec_items, ap, ◌∙◌}
use Rattle.std.proofs.lemmas.Result.{IfOk-weaker}
use Rattle.layout.specs.Layout.{tree_of}
use Rattle.report.specs.Outline.{tree_lines, Outlined.granted}
use Rattle.report.proofs.Outlining.{denied_outline, sheet_cut, never_short}
use Rattle.report.proofs.outline.outline_in.Goals as goal

pub returns-in-Ok : goal.returns-in-Ok
returns-in-Ok c =
    let s = c.in-Ok.ensures in
    let tree = ap tree_of (sheet_cut _ _ _ _ s) ∙ s.shows in
    IfOk-weaker _ _ _ (λ v e. granted s.tree s.grants (e ∙ ap tree_lines tree)) c.sheet_lines.ensures

pub returns-in-Err : goal.returns-in-Err
returns-in-Err c =
    IfOk-weaker _ _ _ (λ v. denied_outline c.args.text.now (vec_items v) c.in-Err.error (never_short _ _ _ c.requires c.in-Err.ensures.1)) c.error_line.ensures
