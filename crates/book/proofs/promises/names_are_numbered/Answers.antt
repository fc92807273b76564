use Rattle.book.proofs.Numbering.{names_are_numbered}
use Rattle.book.proofs.promises.names_are_numbered.Goals as goal

pub returns : goal.returns
returns c = names_are_numbered
