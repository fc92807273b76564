use Rattle.layout.proofs.Unique.{sheet_of_its_tree}
use Rattle.layout.proofs.laws.sheet_of_its_tree.Goals as goal

pub returns : goal.returns
returns c = sheet_of_its_tree
