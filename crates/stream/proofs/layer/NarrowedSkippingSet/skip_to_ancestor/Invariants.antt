use Rattle.std.proofs.Common.{◌≡◌, length}
use Rattle.stream.specs.Lists.{update, drop_until, halts}
use Rattle.stream.specs.Narrowing.{narrowed}
use Rattle.stream.proofs.layer.NarrowedSkippingSet.skip_to_ancestor.Given as goal

abbrev pub invariant-loop-i : goal.invariant-loop-i
invariant-loop-i g l =
    let m = g.S.StreamSet in
    let keeps = g.K.Keep.keeps in
    (update l.i (drop_until (halts l.s)) (narrowed (keeps l.self.rule) (m.lists l.self.below)) ≡ update l.i (drop_until (halts l.s)) (narrowed (keeps l.initial.self.rule) (m.lists l.initial.self.below))) ×
    (l.self.rule ≡ l.initial.self.rule) ×
    (m.book l.self.below ≡ m.book l.initial.self.below)

abbrev pub decreases-loop-i : goal.decreases-loop-i
decreases-loop-i g l = length (g.S.StreamSet.lists l.self.below l.i)
