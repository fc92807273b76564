use Rattle.pattern.proofs.Preorder.{subtrees}
use Rattle.pattern.proofs.Props.{every}
use Rattle.pattern.proofs.Trees.{grammar, granted_lawful, back, one_spelling, same_spelling}
use Rattle.pattern.proofs.laws.promises.Goals as goal

pub returns : goal.returns
returns c = record { grammar = grammar; granted = granted_lawful; lawful = every; runs = subtrees; back = back; standard = one_spelling; same = same_spelling }
