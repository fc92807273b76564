use Rattle.std.proofs.lemmas.Result.{err_from_is_err_and}
use Rattle.pattern.proofs.Steps.{inner_none, inner_first, inner_second, inner_two}
use Rattle.pattern.proofs.cursor.Cursor.inner_edge.Goals as goal

pub returns-then-not-accept : goal.returns-then-not-accept
returns-then-not-accept c = inner_none _ _ c.if-not-accept.ensures

pub returns-in_err-expect : goal.returns-in_err-expect
returns-in_err-expect c =
    let p = err_from_is_err_and c.from_residual.result c.from_residual.ensures.1 in
    rw (p.1, p.2) (inner_first _ _ c.expect.new.self c.if-not-accept.ensures _ c.in_err-expect.ensures)

pub returns-in_err-expect-2 : goal.returns-in_err-expect-2
returns-in_err-expect-2 c =
    let p = err_from_is_err_and c.from_residual-in_err-expect-2.result c.from_residual-in_err-expect-2.ensures.1 in
    rw (p.1, p.2) (inner_second _ _ _ c.if-not-accept.ensures c.expect-2.new.self c.in_ok-expect.ensures _ c.in_err-expect-2.ensures)

pub returns : goal.returns
returns c = inner_two _ _ _ c.if-not-accept.ensures _ c.in_ok-expect.ensures c.in_ok-expect-2.ensures
