use Rattle.tree.proofs.Books.{one_more_region}
use Rattle.tree.proofs.laws.one_more_region.Goals as goal

pub returns : goal.returns
returns c = one_more_region
