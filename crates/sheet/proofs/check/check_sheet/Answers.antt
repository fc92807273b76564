use Rattle.std.proofs.Common.{ℕ, List, subst}
use Rattle.sheet.specs.Opening.{Opened}
use Rattle.sheet.proofs.Opening.{answered}
use Rattle.sheet.proofs.Props.{sized_of}
use Rattle.sheet.proofs.check.check_sheet.Goals as goal

pub returns : goal.returns
returns c =
    let records = c.in_ok-records.records in
    subst (λ (b : List ℕ). Opened b c.check_names.result) c.in_ok-records.ensures
    (answered records.bytes.now c.check_names.result (sized_of records.bytes.now records.sized) c.in_ok-check_elements.ensures c.check_names.ensures)
