use Rattle.finding.proofs.OneAnswer.{every_input_has_one_answer}
use Rattle.finding.proofs.promises.every_input_has_one_answer.Goals as goal

pub returns : goal.returns
returns c = every_input_has_one_answer
