use Rattle.std.proofs.Common.{◌≡◌, [], ◌∷◌, ◌++◌, vec_items, length, ap, ◌∙◌, arith}
use Rattle.report.proofs.Places.{some_starts, no_starts}
use Rattle.report.proofs.line.append_place.Goals as goal
use Rattle.report.proofs.line.append_place.Goals.{in-Some+in_ok-extend_from_slice+else-loop-start-test, in_default}

pub returns : goal.returns
returns c =
    let old = vec_items c.args.lines.now in
    let p = c.args.place.now in
    let long : length p.starts ≡ 16 = omega arith in
    c.in_ok-push-2.ensures.items
    ∙ elim c.match-split_first.branch [
      | in-Some+in_ok-extend_from_slice+else-loop-start-test w ↦ ap (λ v. vec_items v ++ 10 ∷ []) w.lines-is
          ∙ some_starts c.args.nodes c.min.result p long c.min.ensures old _ _ _ w.in-Some.first.now w.in-Some.rest.now _ w.in-Some.ensures.cases.0
          w.in_ok-extend_from_slice.ensures.items (w.as_bytes.ensures.value ∙ w.format.ensures.text) w.loop-start.invariant w.loop-start-test.false
      | in_default w ↦ ap (λ v. vec_items v ++ 10 ∷ []) w.lines-is
          ∙ ap (λ l. old ++ l) (no_starts c.args.nodes c.min.result p long c.min.ensures w.in_default.ensures.cases)
    ]
