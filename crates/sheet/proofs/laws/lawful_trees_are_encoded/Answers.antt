use Rattle.sheet.proofs.Promises.{lawful_trees_are_encoded}
use Rattle.sheet.proofs.laws.lawful_trees_are_encoded.Goals as goal

pub returns : goal.returns
returns c = lawful_trees_are_encoded
