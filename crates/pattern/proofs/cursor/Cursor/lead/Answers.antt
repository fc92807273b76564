use Rattle.std.proofs.lemmas.Result.{err_from_is_err_and}
use Rattle.pattern.proofs.Steps.{lead_not, lead_any, lead_top}
use Rattle.pattern.proofs.cursor.Cursor.lead.Goals as goal

pub returns-in_err-expect : goal.returns-in_err-expect
returns-in_err-expect c =
    let p = err_from_is_err_and c.from_residual.result c.from_residual.ensures.1 in
    rw (p.1, p.2) (lead_not _ c.expect.new.self _ c.in_err-expect.ensures)

pub returns-then-accept : goal.returns-then-accept
returns-then-accept c = lead_any _ _ _ c.in_ok-expect.ensures c.if-accept.ensures

pub returns : goal.returns
returns c = lead_top _ _ _ c.in_ok-expect.ensures c.if-accept.ensures
