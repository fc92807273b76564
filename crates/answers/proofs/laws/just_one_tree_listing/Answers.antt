use Rattle.answers.proofs.Listings.{just_one_tree_listing}
use Rattle.answers.proofs.laws.just_one_tree_listing.Goals as goal

pub returns : goal.returns
returns c = just_one_tree_listing
