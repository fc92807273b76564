use Rattle.std.proofs.Common.{◌≡◌, [], length, is_some, sym, ap, ◌∙◌, arith}
use Rattle.stream.specs.Lists.{update, rest}
use Rattle.stream.proofs.Parts.{few_part}
use Rattle.stream.proofs.Positions.{update-update, update_here, update_fixed, nil_from_first, one_from_first}
use Rattle.stream.proofs.walk.count.Goals as goal

pub overflow_add-n : goal.overflow_add-n
overflow_add-n g c =
    let laws = g.S.StreamSet.laws in
    let few = few_part (laws.lawful c.args.set.now) (laws.part c.args.set.now c.args.i) in
    omega arith

pub loop-set-preserved : goal.loop-set-preserved
loop-set-preserved g c =
    let m = g.S.StreamSet in
    let i = c.args.i in
    let before = m.lists c.loop-set.set in
    let after : m.lists c.advance.new.self ≡ update i rest before = c.advance.ensures.less ∙ ap (update i rest) c.tell.ensures.same in
    let one = one_from_first (before i) (ap is_some (sym c.tell.ensures.told) ∙ sym c.is_some.ensures ∙ c.loop-set-test.true) in
    let here = ap (λ lists. length (lists i)) after ∙ ap length (update_here i rest before) in
    (omega arith, ap (update i (λ _. [])) after ∙ update-update i (λ _. []) rest before ∙ c.loop-set.invariant.1, cc)

pub returns-clause-empty : goal.returns-clause-empty
returns-clause-empty g c =
    let left = g.S.StreamSet.lists c.loop-set.set in
    let none : left c.args.i ≡ [] = nil_from_first _ (ap is_some (sym c.tell.ensures.told) ∙ sym c.is_some.ensures ∙ c.loop-set-test.false) in
    c.tell.ensures.same ∙ sym (update_fixed c.args.i (λ _. []) left (sym none)) ∙ c.loop-set.invariant.1
