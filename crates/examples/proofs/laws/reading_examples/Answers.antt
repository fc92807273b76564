use Rattle.examples.proofs.Reading.{reading_examples}
use Rattle.examples.proofs.laws.reading_examples.Goals as goal

pub returns : goal.returns
returns c = reading_examples
