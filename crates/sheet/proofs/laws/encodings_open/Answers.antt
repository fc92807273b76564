use Rattle.sheet.proofs.Promises.{encodings_open}
use Rattle.sheet.proofs.laws.encodings_open.Goals as goal

pub returns : goal.returns
returns c = encodings_open
