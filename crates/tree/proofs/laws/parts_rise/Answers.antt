use Rattle.tree.proofs.Books.{parts_rise}
use Rattle.tree.proofs.laws.parts_rise.Goals as goal

pub returns : goal.returns
returns c = parts_rise
