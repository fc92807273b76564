use Rattle.std.proofs.Common.{refl}
use Rattle.layout.specs.Encoding.{le16, le32}
use Rattle.sheet.proofs.First.{first_lawful}
use Rattle.sheet.proofs.view.SheetView.new.Goals as goal

pub invariant_of-result : goal.invariant_of-result
unfolding le16 le32
invariant_of-result c = record { lawful = ∣ first_lawful ∣₁ }

pub returns : goal.returns
unfolding le16 le32
returns c = refl
