use Rattle.examples.proofs.Finding.{listing_examples}
use Rattle.examples.proofs.laws.listing_examples.Goals as goal

pub returns : goal.returns
returns c = listing_examples
