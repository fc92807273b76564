use Rattle.answers.proofs.Listings.{child_edges_go_to_the_next_around}
use Rattle.answers.proofs.laws.child_edges_go_to_the_next_around.Goals as goal

pub returns : goal.returns
returns c = child_edges_go_to_the_next_around
