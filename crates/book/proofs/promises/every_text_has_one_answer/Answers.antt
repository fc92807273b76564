use Rattle.book.proofs.Answering.{every_text_has_one_answer}
use Rattle.book.proofs.promises.every_text_has_one_answer.Goals as goal

pub returns : goal.returns
returns c = every_text_has_one_answer
