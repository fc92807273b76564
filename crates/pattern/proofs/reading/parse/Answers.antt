use Rattle.std.proofs.Common.{◌≡◌, [], refl, ◌∙◌}
use Rattle.std.proofs.lemmas.Result.{err_from_is_err_and}
use Rattle.pattern.specs.Reading.{step, limits, run_in, start, granted}
use Rattle.pattern.specs.Table.{items, vertices}
use Rattle.pattern.specs.Moves.{outcome}
use Rattle.pattern.proofs.Progress.{from_start, ended, ended_not}
use Rattle.pattern.proofs.Trees.{read_lawful}
use Rattle.pattern.proofs.reading.parse.Goals as goal
use Rattle.pattern.proofs.reading.parse.Goals.{In_ok-branch, In_ok-end}

pub returns-in_err-branch : goal.returns-in_err-branch
returns-in_err-branch c =
    let p = err_from_is_err_and c.from_residual-in_err-branch.result c.from_residual-in_err-branch.ensures.1 in
    let n = c.new-reader.ensures in
    rw (p.1, p.2) (from_start _ c.new-reader.result _ _ n.rest n.place n.nodes c.in_ok-mark.ensures ∙ c.in_err-branch.ensures.told c.in_ok-mark.mark [] refl)

-- to the end of the last step
to_end : (c : In_ok-branch) → run_in limits start 0 c.args.text.now ≡ outcome c.branch-reader.new.self c.in_ok-mark.mark c.in_ok-branch.field-0 [] step
to_end c =
    let n = c.new-reader.ensures in
    from_start _ c.new-reader.result _ _ n.rest n.place n.nodes c.in_ok-mark.ensures ∙ c.in_ok-branch.ensures.told.3 c.in_ok-mark.mark [] refl

pub returns-in_err-end : goal.returns-in_err-end
returns-in_err-end c =
    let p = err_from_is_err_and c.from_residual-in_err-end.result c.from_residual-in_err-end.ensures.1 in
    rw (p.1, p.2) (to_end (goal.at.returns-in_err-end c).In_ok-branch ∙ ended_not c.branch-reader.new.self _ _ _ c.in_ok-branch.ensures.stops c.in_err-end.ensures)

-- to the end of the text
granted_as : (c : In_ok-end) → run_in limits start 0 c.args.text.now ≡ granted c.in_ok-mark.mark (vertices (items c.branch-reader.new.self.nodes))
granted_as c = to_end (goal.at.In_ok-end c).In_ok-branch ∙ ended c.branch-reader.new.self _ _ c.in_ok-end.ensures

pub invariant_of-result : goal.invariant_of-result
invariant_of-result c = record { lawful = ∣ read_lawful _ _ _ (granted_as (goal.at.invariant_of-result c).In_ok-end) ∣₁ }

pub returns : goal.returns
returns c = granted_as (goal.at.returns c).In_ok-end
