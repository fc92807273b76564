use Rattle.book.proofs.Answering.{granted_exactly}
use Rattle.book.proofs.promises.granted_exactly.Goals as goal

pub returns : goal.returns
returns c = granted_exactly
