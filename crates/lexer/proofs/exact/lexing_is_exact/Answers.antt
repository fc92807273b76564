use Rattle.lexer.proofs.Meaning.{lexing_is_exact}
use Rattle.lexer.proofs.exact.lexing_is_exact.Goals as goal

pub returns : goal.returns
returns c = lexing_is_exact
