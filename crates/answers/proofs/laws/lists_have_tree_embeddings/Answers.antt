use Rattle.answers.proofs.Embeddings.{lists_have_tree_embeddings}
use Rattle.answers.proofs.laws.lists_have_tree_embeddings.Goals as goal

pub returns : goal.returns
returns c = lists_have_tree_embeddings
