use Rattle.answers.proofs.Listings.{places_tell_elements}
use Rattle.answers.proofs.laws.places_tell_elements.Goals as goal

pub returns : goal.returns
returns c = places_tell_elements
