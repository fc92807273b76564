use Rattle.book.proofs.Trees.{trees_are_lawful}
use Rattle.book.proofs.promises.trees_are_lawful.Goals as goal

pub returns : goal.returns
returns c = trees_are_lawful
