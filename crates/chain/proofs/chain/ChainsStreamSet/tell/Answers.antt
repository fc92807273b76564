use Rattle.std.proofs.Common.{◌≡◌, subst, IfSome, true, rules, sym, ap, ◌∙◌}
use Rattle.std.specs.Option.{option_map}
use Rattle.sheet.proofs.Props.{lawful_of}
use Rattle.stream.specs.Lists.{first}
use Rattle.stream.specs.Regions.{region_of}
use Rattle.chain.proofs.Follow.{first_told, none_left}
use Rattle.chain.proofs.chain.ChainsStreamSet.tell.Goals as goal

pub returns-in_err-k-clause-told : goal.returns-in_err-k-clause-told
returns-in_err-k-clause-told g c =
    let self = c.first.new.self in
    let selects = g.M.Select.selects self.select in
    let none = none_left self.view.bytes.now selects self.heads c.args.i (sym c.first.ensures.head ∙ c.in_err-k.was) in
    c.from_residual.ensures ∙ sym (ap first none) ∙ ap (λ lists. first (lists c.args.i)) c.first.ensures.same

pub returns-clause-told : goal.returns-clause-told
returns-clause-told g c =
    let self = c.first.new.self in
    let selects = g.M.Select.selects self.select in
    let n = c.first.ensures.positions in
    let taken : selects c.in_ok-k.k ≡ true = subst (λ head. IfSome head (λ k. selects k ≡ true)) c.in_ok-k.was c.first.ensures.selected in
    let told = first_told self.view.bytes.now (lawful_of _ self.view.lawful) selects self.heads n c.args.i c.in_ok-k.k (sym c.first.ensures.head ∙ c.in_ok-k.was) taken in
    let shown : c.map.result ≡ option_map region_of c.element.result = search rules in
    shown ∙ ap (option_map region_of) c.element.ensures ∙ sym told ∙ ap (λ lists. first (lists c.args.i)) c.first.ensures.same
