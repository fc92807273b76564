use Rattle.sheet.proofs.Sizes.{lawful_sized}
use Rattle.sheet.proofs.view.SheetView.records.Goals as goal

pub invariant_of-result : goal.invariant_of-result
invariant_of-result c = record { sized = ∣ lawful_sized c.args.self.now.bytes.now c.args.self.now.lawful ∣₁ }
