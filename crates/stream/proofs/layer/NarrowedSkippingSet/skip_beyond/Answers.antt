use Rattle.stream.proofs.Calls.{beyond}
use Rattle.stream.proofs.Parts.{rising_part}
use Rattle.stream.proofs.layer.NarrowedSkippingSet.skip_beyond.Goals as goal

pub returns-clause-less : goal.returns-clause-less
returns-clause-less g c =
    let below = c.args.self.now.below in
    beyond _ _ _ c.args.i c.args.s c.skip_beyond.ensures.less (rising_part (g.S.StreamSet.laws.lawful below) (g.S.StreamSet.laws.part below c.args.i))
