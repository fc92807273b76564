use Rattle.tree.proofs.Books.{starts_tell_containment}
use Rattle.tree.proofs.laws.starts_tell_containment.Goals as goal

pub returns : goal.returns
returns c = starts_tell_containment
