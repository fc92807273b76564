use Rattle.answers.proofs.Listings.{bands_and_windows_are_listed}
use Rattle.answers.proofs.laws.bands_and_windows_are_listed.Goals as goal

pub returns : goal.returns
returns c = bands_and_windows_are_listed
