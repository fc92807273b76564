use Rattle.examples.proofs.Finding.{printing_examples}
use Rattle.examples.proofs.laws.printing_examples.Goals as goal

pub returns : goal.returns
returns c = printing_examples
