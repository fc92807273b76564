use Rattle.std.proofs.Common.{arith}
use Rattle.layout.proofs.Unique.{sheet_of_its_tree}
use Rattle.sheet.proofs.view.SheetView.open.Goals as goal

pub returns-clause-whole : goal.returns-clause-whole
returns-clause-whole c = λ _. sheet_of_its_tree c.args.bytes.now (λ i. omega (arith, c.type_inv.bytes i)) c.in_ok-check_sheet.ensures
