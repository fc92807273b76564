use Rattle.std.proofs.Common.{◌≡◌, length}
use Rattle.stream.specs.Narrowing.{narrowed}
use Rattle.stream.proofs.layer.Narrowed.first_kept.Given as goal

abbrev pub invariant-loop-r : goal.invariant-loop-r
invariant-loop-r g l =
    let m = g.S.StreamSet in
    let keeps = g.K.Keep.keeps in
    (narrowed (keeps l.self.rule) (m.lists l.self.below) ≡ narrowed (keeps l.initial.self.rule) (m.lists l.initial.self.below)) ×
    (l.self.rule ≡ l.initial.self.rule) ×
    (m.book l.self.below ≡ m.book l.initial.self.below)

abbrev pub decreases-loop-r : goal.decreases-loop-r
decreases-loop-r g l = length (g.S.StreamSet.lists l.self.below l.i)
