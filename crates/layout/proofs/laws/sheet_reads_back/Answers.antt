use Rattle.layout.proofs.Encoded.{sheet_reads_back}
use Rattle.layout.proofs.laws.sheet_reads_back.Goals as goal

pub returns : goal.returns
returns c = sheet_reads_back
