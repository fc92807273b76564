use Rattle.layout.proofs.Unique.{sheet_shows_a_tree}
use Rattle.layout.proofs.laws.sheet_shows_a_tree.Goals as goal

pub returns : goal.returns
returns c = sheet_shows_a_tree
