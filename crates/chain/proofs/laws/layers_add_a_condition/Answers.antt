use Rattle.chain.proofs.Standing.{layers_add_a_condition}
use Rattle.chain.proofs.laws.layers_add_a_condition.Goals as goal

pub returns : goal.returns
returns c = layers_add_a_condition
