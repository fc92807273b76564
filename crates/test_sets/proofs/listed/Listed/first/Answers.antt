use Rattle.std.proofs.Common.{◌≡◌, ◌<◌, length, get_or, rules, sym, ap, ◌∙◌, arith}
use Rattle.std.proofs.lemmas.Option.{slice_get-get_or}
use Rattle.test_sets.specs.Members.{listed}
use Rattle.test_sets.proofs.Members.{listed_here, listed_over, listed_past, none_left}
use Rattle.test_sets.proofs.listed.Listed.first.Goals as goal

pub returns-then-is_in : goal.returns-then-is_in
returns-then-is_in c =
    let ms = c.args.self.now.members.now in
    let k = c.loop-k.k in
    let h : k < length ms = omega arith in
    let from : get_or c.args.self.now.heads c.args.i 0 ≡ c.in_ok-from.from = search rules in
    let here = listed_here ms c.args.i k _ h (sym c.is_in.ensures ∙ c.if-is_in.true) in
    (search rules, _, slice_get-get_or ms k _ h, ap (listed ms c.args.i) from ∙ c.loop-k.invariant ∙ here)

pub loop-k-preserved : goal.loop-k-preserved
loop-k-preserved c =
    c.loop-k.invariant ∙ listed_over c.args.self.now.members.now c.args.i c.loop-k.k _ (omega arith) (sym c.is_in.ensures ∙ c.if-is_in.false)

pub returns : goal.returns
returns c =
    let ms = c.args.self.now.members.now in
    let from : get_or c.args.self.now.heads c.args.i 0 ≡ c.in_ok-from.from = search rules in
    none_left ms c.args.self.now.heads c.args.i (ap (listed ms c.args.i) from ∙ c.loop-k.invariant ∙ listed_past ms c.args.i c.loop-k.k (omega arith))
