use Rattle.std.proofs.Common.{◌≡◌, ◌+◌, ◌-◌, ◌<◌, length, get_or, ap, subst, sym, arith, rules}
use Rattle.std.proofs.lemmas.Grind.{common_steps}
use Rattle.tree.specs.Region.{Fits}
use Rattle.tree.specs.declared.element.Element.{Element}
use Rattle.layout.specs.Layout.{region_at}
use Rattle.sheet.specs.Stack.{Stack, last_start}
use Rattle.sheet.proofs.Stacks.{right_depth, right_region, pushed}
use Rattle.sheet.proofs.elements.place.Goals as goal

pub returns-then-len-e : goal.returns-then-len-e
returns-then-len-e c ok = grind (arith, right_depth (region_at c.args.records.now.bytes.now) c.args.k c.close.new.stack.items c.requires.before c.close.ensures.opened c.close.ensures.top ok)

pub returns : goal.returns
returns c =
    let bs = c.args.records.now.bytes.now in
    let k = c.args.k in
    let st = c.close.new.stack.items in
    let e = c.element-e.ensures in
    let level = ap (λ (x : Element). x.level) e in
    let up : 0 < k → (region_at bs (k - 1)).start < (region_at bs k).start = search rules in
    let only : length st ≡ 0 → k ≡ 0 = search rules in
    let inside : 0 < length st → (region_at bs k).end < (region_at bs (get_or st (length st - 1) 0)).end = grind (arith, common_steps) in
    let is : length st ≡ (region_at bs k).level = search rules in
    let fits : Fits (region_at bs) k = right_region (region_at bs) k st c.requires.before c.close.ensures.opened c.close.ensures.top (search rules) (search rules) (search rules) up is only inside in
    let opened = pushed (region_at bs) k st (omega arith) is only inside c.close.ensures.opened in
    (fits, subst (Stack (region_at bs) (k + 1) (last_start (region_at bs) (k + 1))) (sym c.push.ensures.items) opened)
