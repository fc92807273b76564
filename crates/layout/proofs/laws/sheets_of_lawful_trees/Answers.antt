use Rattle.layout.proofs.Unique.{sheets_of_lawful_trees}
use Rattle.layout.proofs.laws.sheets_of_lawful_trees.Goals as goal

pub returns : goal.returns
returns c = sheets_of_lawful_trees
