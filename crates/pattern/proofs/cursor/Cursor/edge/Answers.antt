use Rattle.pattern.proofs.Steps.{edge_one, edge_two}
use Rattle.pattern.proofs.cursor.Cursor.edge.Goals as goal

pub returns-then-accept : goal.returns-then-accept
returns-then-accept c = edge_two _ _ c.if-accept.ensures

pub returns : goal.returns
returns c = edge_one _ _ c.if-accept.ensures
