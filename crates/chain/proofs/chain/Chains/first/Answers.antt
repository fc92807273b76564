use Rattle.std.proofs.Common.{◌≡◌, length, get_or, Some, None, rules, sym, ◌∙◌}
use Rattle.sheet.proofs.Props.{lawful_of}
use Rattle.chain.proofs.Follow.{steps_left, next_passed}
use Rattle.chain.proofs.chain.Chains.first.Goals as goal

pub loop-k-smaller : goal.loop-k-smaller
loop-k-smaller g c =
    let self = c.loop-k.self in
    let selects = g.M.Select.selects self.select in
    let n : length self.heads ≡ 16 = search rules in
    let head : get_or self.heads c.args.i None ≡ Some c.in-Some.k = search rules in
    steps_left self.view.bytes.now (lawful_of _ self.view.lawful) selects self.heads n c.args.i c.in-Some.k head c.set_head.new.head (c.set_head.ensures ∙ c.next-next.ensures)

pub loop-k-preserved : goal.loop-k-preserved
loop-k-preserved g c =
    let self = c.loop-k.self in
    let selects = g.M.Select.selects self.select in
    let n : length self.heads ≡ 16 = search rules in
    let head : get_or self.heads c.args.i None ≡ Some c.in-Some.k = search rules in
    let over = next_passed self.view.bytes.now (lawful_of _ self.view.lawful) selects self.heads n c.args.i c.in-Some.k head c.set_head.new.head (c.set_head.ensures ∙ c.next-next.ensures) (sym c.select.ensures ∙ c.if-select.false) in
    (over ∙ c.loop-k.invariant.0, c.loop-k.invariant.1, cc)
