use Rattle.std.proofs.Common.{◌≡◌, ◌+◌, ◌<◌, ◌++◌, length, get_or, ap, ◌∙◌, arith}
use Rattle.std.proofs.lemmas.Result.{IfOk-at_ok}
use Rattle.pattern.specs.Table.{name_of, items}
use Rattle.pattern.proofs.Spell.{later_next, root_written, node_written, after_root}
use Rattle.pattern.proofs.twig.Twig.spelled.Goals as goal
use Rattle.pattern.proofs.twig.Twig.spelled.Goals.{in-None, in-Some}

pub loop-number-preserved : goal.loop-number-preserved
loop-number-preserved c =
    let s = c.as_slice-node-items.ensures in
    let ns = items c.args.self.now.nodes in
    let k = c.loop-number.number in
    let n = c.node-item.result in
    let there : k < length ns = omega (arith, c.loop-number-test.true, ap length s.value) in
    let is : n ≡ get_or ns k n = c.node-item.is ∙ ap (λ x. get_or x k n) s.value in
    let i = c.loop-number.invariant in
    let t = c.loop-number.out.items in
    let e = c.try_extend_from_slice-in-loop-number.ensures in
    let last : c.try_extend_from_slice-in-loop-number.new.self.items ≡ c.match-node.out.items ++ name_of n.name =
    IfOk-at_ok _ c.unwrap-in-loop-number.ensures e.ok ∙ ap (λ x. c.match-node.out.items ++ x) c.as_bytes.ensures.value in
    let l : length c.try_extend_from_slice-in-loop-number.new.self.items ≡ length c.match-node.out.items + length c.as_bytes.result.now = IfOk-at_ok _ c.unwrap-in-loop-number.ensures e.len in
    elim c.match-node.branch [
      | in-None w ↦
          let a = w.try_extend_from_slice.ensures in
          let o : c.match-node.out.items ≡ w.try_extend_from_slice.new.self.items = λ j. (w.out-is j).items in
          let l₁ : length w.try_extend_from_slice.new.self.items ≡ length t + length w.lead_text.result.now = IfOk-at_ok _ w.unwrap.ensures a.len in (
            root_written _ ns s.hung n k there is t i.0 c.match-node.out.items _ w.in-None.is (o ∙ IfOk-at_ok _ w.unwrap.ensures a.ok ∙ ap (λ x. t ++ x) w.lead_text.ensures.text) last,
            omega (arith, i.1, l₁, ap length o, w.lead_text.ensures.short, l, c.as_bytes.ensures.short),
          )
      | in-Some w ↦
          let a = w.try_extend_from_slice-in-Some.ensures in
          let b = w.try_extend_from_slice-in-Some-2.ensures in
          let u = w.try_extend_from_slice-in-Some.new.self.items in
          let o : c.match-node.out.items ≡ w.try_extend_from_slice-in-Some-2.new.self.items = λ j. (w.out-is j).items in
          let l₁ : length u ≡ length t + length w.close_text.result.now = IfOk-at_ok _ w.unwrap-in-Some.ensures a.len in
          let l₂ : length w.try_extend_from_slice-in-Some-2.new.self.items ≡ length u + length w.open_text.result.now = IfOk-at_ok _ w.unwrap-in-Some-2.ensures b.len in (
            node_written _ ns s.hung n k there is t i.0 w.in-Some.hook w.in-Some.is _ u c.match-node.out.items _
                (w.is_some-later.ensures ∙ later_next _ _ _ _ w.next_child.ensures)
                (IfOk-at_ok _ w.unwrap-in-Some.ensures a.ok ∙ ap (λ x. t ++ x) w.close_text.ensures.text)
                (o ∙ IfOk-at_ok _ w.unwrap-in-Some-2.ensures b.ok ∙ ap (λ x. u ++ x) w.open_text.ensures.text)
                last,
            omega (arith, i.1, after_root _ ns s.hung n k there is t i.0 w.in-Some.hook w.in-Some.is, l₁, l₂, ap length o, w.close_text.ensures.short, w.open_text.ensures.short, l, c.as_bytes.ensures.short),
          )
    ]
