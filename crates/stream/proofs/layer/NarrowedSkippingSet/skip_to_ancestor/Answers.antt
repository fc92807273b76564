use Rattle.std.proofs.Common.{◌≡◌, false, MatchOption, rules, sym, ap, ◌∙◌}
use Rattle.stream.specs.Lists.{update, rest, drop_until, halts, first_passes, around}
use Rattle.stream.specs.Narrowing.{narrowed}
use Rattle.stream.proofs.Calls.{found, missed, again, falls}
use Rattle.stream.proofs.Narrow.{passes_from_first}
use Rattle.stream.proofs.Parts.{rising_part}
use Rattle.stream.proofs.Positions.{same_update}
use Rattle.stream.proofs.layer.NarrowedSkippingSet.skip_to_ancestor.Goals as goal

pub returns-then-is_some_and : goal.returns-then-is_some_and
returns-then-is_some_and g c =
    let i = c.args.i in
    let s = c.args.s in
    let keep = g.K.Keep.keeps c.loop-i.self.rule in
    let skip = c.skip_to_ancestor.ensures in
    let kept : MatchOption c.tell.result (c.is_some_and.result ≡ false) (λ r. c.is_some_and.result ≡ keep i r) = search rules in
    let lead = passes_from_first (keep i) _ _ _ c.tell.ensures.told kept in
    let h = found keep (g.S.StreamSet.lists c.loop-i.self.below) _ i s skip.less (sym lead ∙ c.if-is_some_and.true) (sym skip.told ∙ c.loop-i-test.true) in
    record {
      told = sym h.1 ∙ ap (first_passes (around s)) (same_update i (drop_until (halts s)) (drop_until (halts s)) _ _ c.loop-i.invariant.0);
      less = ap (narrowed keep) c.tell.ensures.same ∙ h.0 ∙ c.loop-i.invariant.0;
      book = cc;
    }

pub loop-i-smaller : goal.loop-i-smaller
loop-i-smaller g c =
    let i = c.args.i in
    let skip = c.skip_to_ancestor.ensures in
    falls (g.K.Keep.keeps c.loop-i.self.rule) (g.S.StreamSet.lists c.loop-i.self.below) _ i c.args.s skip.less _ (c.advance.ensures.less ∙ ap (update i rest) c.tell.ensures.same) (sym skip.told ∙ c.loop-i-test.true)

pub loop-i-preserved : goal.loop-i-preserved
loop-i-preserved g c =
    let i = c.args.i in
    let keep = g.K.Keep.keeps c.loop-i.self.rule in
    let kept : MatchOption c.tell.result (c.is_some_and.result ≡ false) (λ r. c.is_some_and.result ≡ keep i r) = search rules in
    let lead = passes_from_first (keep i) _ _ _ c.tell.ensures.told kept in
    let step = again keep (g.S.StreamSet.lists c.loop-i.self.below) _ i c.args.s c.skip_to_ancestor.ensures.less _ (c.advance.ensures.less ∙ ap (update i rest) c.tell.ensures.same) (sym lead ∙ c.if-is_some_and.false) in
    (step ∙ c.loop-i.invariant.0, c.loop-i.invariant.1, cc)

pub returns : goal.returns
returns g c =
    let i = c.args.i in
    let s = c.args.s in
    let below = c.loop-i.self.below in
    let up = rising_part (g.S.StreamSet.laws.lawful below) (g.S.StreamSet.laws.part below i) in
    let skip = c.skip_to_ancestor.ensures in
    let h = missed (g.K.Keep.keeps c.loop-i.self.rule) (g.S.StreamSet.lists below) _ i s skip.less up (sym skip.told ∙ c.loop-i-test.false) in
    record {
      told = sym h.1 ∙ ap (first_passes (around s)) (same_update i (drop_until (halts s)) (drop_until (halts s)) _ _ c.loop-i.invariant.0);
      less = h.0 ∙ c.loop-i.invariant.0;
      book = cc;
    }
