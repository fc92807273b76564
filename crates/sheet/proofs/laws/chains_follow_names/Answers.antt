use Rattle.sheet.proofs.Promises.{chains_follow_names}
use Rattle.sheet.proofs.laws.chains_follow_names.Goals as goal

pub returns : goal.returns
returns c = chains_follow_names
