use Rattle.tree.proofs.Books.{lawful_one_by_one}
use Rattle.tree.proofs.laws.lawful_one_by_one.Goals as goal

pub returns : goal.returns
returns c = lawful_one_by_one
