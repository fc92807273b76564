use Rattle.std.proofs.Common.{◌≡◌, subst, IfSome, true, sym, ap, ◌∙◌, arith}
use Rattle.sheet.proofs.Props.{lawful_of}
use Rattle.stream.specs.Lists.{update, rest}
use Rattle.stream.proofs.Positions.{update_fixed}
use Rattle.chain.proofs.Follow.{inside, next_taken, none_left}
use Rattle.chain.proofs.chain.ChainsStreamSet.advance.Goals as goal

pub offset_bounds-self-i : goal.offset_bounds-self-i
offset_bounds-self-i g c =
    let self = c.first.new.self in
    let n = c.first.ensures.positions in
    let l = inside self.heads n c.args.i c.in-Some.taken (sym c.first.ensures.head ∙ c.in-Some.is) in
    grind arith

pub returns-in-Some-clause-less : goal.returns-in-Some-clause-less
returns-in-Some-clause-less g c =
    let self = c.first.new.self in
    let selects = g.M.Select.selects self.select in
    let n = c.first.ensures.positions in
    let taken : selects c.in-Some.taken ≡ true = subst (λ head. IfSome head (λ k. selects k ≡ true)) c.in-Some.is c.first.ensures.selected in
    next_taken self.view.bytes.now (lawful_of _ self.view.lawful) selects self.heads n c.args.i c.in-Some.taken (sym c.first.ensures.head ∙ c.in-Some.is) c.set_head.new.head (c.set_head.ensures ∙ c.next-next.ensures) taken
    ∙ ap (update c.args.i rest) c.first.ensures.same

pub returns-in_default-clause-less : goal.returns-in_default-clause-less
returns-in_default-clause-less g c =
    let self = c.first.new.self in
    let selects = g.M.Select.selects self.select in
    let none = none_left self.view.bytes.now selects self.heads c.args.i (sym c.first.ensures.head ∙ c.in_default.is) in
    sym (update_fixed c.args.i rest _ (ap rest none ∙ sym none)) ∙ ap (update c.args.i rest) c.first.ensures.same
