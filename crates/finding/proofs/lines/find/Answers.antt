use Rattle.std.proofs.Common.{length, Err, ap, ◌∙◌, subst}
use Rattle.std.specs.Io.KnownBytes.{Appends}
use Rattle.finding.specs.Writing.{Listed}
use Rattle.finding.proofs.Answering.{refusal_written, if_ok}
use Rattle.finding.proofs.lines.find.Goals as goal

pub returns-in_ok-line-in-Err-Refused : goal.returns-in_ok-line-in-Err-Refused
returns-in_ok-line-in-Err-Refused g c ok =
    refusal_written c.args.input.now (length c.args.sheet.now) (length c.args.rows.now) c.in-Err-Refused.fault (g.W.Write.contents c.args.out.now)
    (g.W.Write.contents c.list.new.out) (g.W.Write.contents c.write_all.new.self) (subst (Listed _ _ _ _ _) (c.in-Err-Refused.is ∙ ap Err c.in-Err-Refused.field-0-is) c.list.ensures)
    (subst (Appends _ _) (c.as_slice.ensures.value ∙ c.in_ok-line-in-Err-Refused.ensures) (if_ok c.write_all.result _ c.write_all.ensures.bytes ok))
