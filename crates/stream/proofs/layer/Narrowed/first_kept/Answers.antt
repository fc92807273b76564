use Rattle.std.proofs.Common.{◌≡◌, false, sym, ap, ◌∙◌}
use Rattle.stream.specs.Lists.{update, rest, first_passes}
use Rattle.stream.proofs.Calls.{passed}
use Rattle.stream.proofs.Narrow.{passes_first}
use Rattle.stream.proofs.layer.Narrowed.first_kept.Goals as goal

pub loop-r-preserved : goal.loop-r-preserved
loop-r-preserved g c =
    let keep = g.K.Keep.keeps c.loop-r.self.rule in
    let lists = g.S.StreamSet.lists c.loop-r.self.below in
    let i = c.args.i in
    let over : first_passes (keep i) (lists i) ≡ false = passes_first (keep i) (lists i) c.in-Some.r (sym c.tell.ensures.told ∙ c.in-Some.is) ∙ sym c.keep.ensures ∙ c.if-keep.false in
    let step = passed keep lists (g.S.StreamSet.lists c.advance.new.self) i (c.advance.ensures.less ∙ ap (update i rest) c.tell.ensures.same) over in
    (step ∙ c.loop-r.invariant.0, c.loop-r.invariant.1, cc)
