use Rattle.answers.proofs.Runs.{runs_list_the_tree}
use Rattle.answers.proofs.laws.runs_list_the_tree.Goals as goal

pub returns : goal.returns
returns c = runs_list_the_tree
