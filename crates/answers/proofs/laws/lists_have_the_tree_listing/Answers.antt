use Rattle.answers.proofs.Listings.{lists_have_the_tree_listing}
use Rattle.answers.proofs.laws.lists_have_the_tree_listing.Goals as goal

pub returns : goal.returns
returns c = lists_have_the_tree_listing
