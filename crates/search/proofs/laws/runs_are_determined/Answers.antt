use Rattle.search.proofs.Determined.{runs_are_determined}
use Rattle.search.proofs.laws.runs_are_determined.Goals as goal

pub returns : goal.returns
returns c = runs_are_determined
