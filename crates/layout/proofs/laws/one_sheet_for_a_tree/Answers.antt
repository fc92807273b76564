use Rattle.layout.proofs.Unique.{one_sheet_for_a_tree}
use Rattle.layout.proofs.laws.one_sheet_for_a_tree.Goals as goal

pub returns : goal.returns
returns c = one_sheet_for_a_tree
