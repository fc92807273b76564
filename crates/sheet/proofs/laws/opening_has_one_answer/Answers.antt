use Rattle.sheet.proofs.Promises.{opening_has_one_answer}
use Rattle.sheet.proofs.laws.opening_has_one_answer.Goals as goal

pub returns : goal.returns
returns c = opening_has_one_answer
