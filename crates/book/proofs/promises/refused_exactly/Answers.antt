use Rattle.book.proofs.Refusals.{refused_exactly}
use Rattle.book.proofs.promises.refused_exactly.Goals as goal

pub returns : goal.returns
returns c = refused_exactly
