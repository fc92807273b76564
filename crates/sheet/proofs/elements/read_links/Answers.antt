use Rattle.std.proofs.Common.{◌≡◌, ◌+◌, ◌-◌, ◌<◌, refl, ap, subst, sym, arith}
use Rattle.std.proofs.lemmas.List.{length-set}
use Rattle.tree.specs.declared.element.Element.{Element}
use Rattle.layout.specs.Layout.{element_count}
use Rattle.sheet.specs.Links.{LinkedFrom}
use Rattle.sheet.proofs.Links.{linked_none, firsts_none, linked_other, linked_right, linked_wrong, firsts_other, firsts_set}
use Rattle.sheet.proofs.elements.read_links.Goals as goal
use Rattle.sheet.proofs.elements.read_links.Goals.{then-next-first, else-next-first}

pub loop-k-init : goal.loop-k-init
loop-k-init c =
    let bs = c.args.records.now.bytes.now in
    let n = c.element_count-count.result in
    let e = c.element_count-count.ensures in
    (refl, linked_none bs n e, firsts_none bs n e)

pub loop-k-preserved-then-name-lt-MOST_NAMES : goal.loop-k-preserved-then-name-lt-MOST_NAMES
loop-k-preserved-then-name-lt-MOST_NAMES c =
    let bs = c.args.records.now.bytes.now in
    let m = c.loop-k.k in
    let k = m - 1 in
    let h : k < element_count bs = omega arith in
    let e : m ≡ k + 1 = omega arith in
    let i = c.loop-k.invariant in
    let x = ap (λ (r : Element). r.name) c.element-name.ensures in
    let n = c.element-name.result.name in
    let t = c.loop-k.first in
    let small = c.if-name-lt-MOST_NAMES.true in (
      simp length-set i.0,
      elim c.if-next-first.branch [
        | then-next-first w ↦
            subst (LinkedFrom bs k) (sym w.wrong-is) (linked_wrong bs k m n h e x t i.2 c.next.result small c.next.ensures w.if-next-first.true)
        | else-next-first w ↦
            subst (LinkedFrom bs k) (sym w.wrong-is) (linked_right bs k m n h e x t i.2 c.loop-k.wrong c.next.result small c.next.ensures w.if-next-first.false i.1)
      ],
      firsts_set bs k m n h e x t i.2 i.0 small,
    )

pub loop-k-preserved : goal.loop-k-preserved
loop-k-preserved c =
    let bs = c.args.records.now.bytes.now in
    let m = c.loop-k.k in
    let k = m - 1 in
    let h : k < element_count bs = omega arith in
    let e : m ≡ k + 1 = omega arith in
    let i = c.loop-k.invariant in
    let x = ap (λ (r : Element). r.name) c.element-name.ensures in (
      i.0,
      linked_other bs k m c.element-name.result.name h e x c.loop-k.first i.2 c.loop-k.wrong c.if-name-lt-MOST_NAMES.false i.1,
      firsts_other bs k m c.element-name.result.name h e x c.loop-k.first i.2 c.if-name-lt-MOST_NAMES.false,
    )
