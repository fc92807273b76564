use Rattle.std.proofs.Common.{rules, ℕ, ◌≡◌, List, length, sym, ap, ◌∙◌, subst}
use Rattle.pattern.specs.Reading.{read_pattern}
use Rattle.pattern.specs.Twig.{shape_of}
use Rattle.pattern.proofs.Props.{every}
use Rattle.index.specs.Indexing.{Unwritten, Sheeted}
use Rattle.std.specs.Io.KnownBytes.{Appends}
use Rattle.finding.proofs.Answering.{not_indexed, fresh, not_written, all_written}
use Rattle.finding.proofs.lines.list.Goals as goal

pub returns-in_err-len : goal.returns-in_err-len
returns-in_err-len g c =
    not_indexed c.args.input.now c.args.sheet.now (length c.args.rows.now) (g.W.Write.contents c.args.out.now) (shape_of c.read.new.self)
    c.from_residual-in_err-len.result c.in_err-len.field-0.0 c.if-input-gt-MOST_BYTES.false
    (ap read_pattern (sym c.split.ensures.pattern) ∙ c.in_ok-read.ensures.turned) (subst (λ (t : List ℕ). Unwritten t c.args.sheet.now c.in_err-len.field-0.0) c.split.ensures.text c.in_err-len.ensures.1) c.from_residual-in_err-len.ensures.0 c.from_residual-in_err-len.ensures.1

pub returns-in_err-written : goal.returns-in_err-written
returns-in_err-written g c =
    let pattern = ap read_pattern (sym c.split.ensures.pattern) ∙ c.in_ok-read.ensures.turned in
    let sheeted = subst (λ (t : List ℕ). Sheeted t c.args.sheet.now c.index.new.out c.in_ok-len.len) c.split.ensures.text c.in_ok-len.ensures in
    let long : length c.index.new.out ≡ length c.args.sheet.now = search rules in
    let x = fresh c.args.input.now c.args.sheet.now c.index.new.out (shape_of c.read.new.self) c.in_ok-len.len _ _ _ c.if-input-gt-MOST_BYTES.false pattern sheeted long
    c.in_ok-open.ensures.shows c.new-set.ensures.stands in
    not_written c.args.input.now (length c.args.sheet.now) (length c.args.rows.now) (shape_of c.read.new.self) _ _ x (every c.read.new.self) _ (c.in_err-written.ensures.length ∙ c.begin-search.ensures.length)
    _ (ap (λ t. shape_of t.now) c.begin-search.ensures.twig) c.len.result _ _ _ c.in_err-written.field-0.0 c.in_err-written.ensures.gathered
    c.from_residual-in_err-written.ensures.0 c.from_residual-in_err-written.ensures.1

pub returns : goal.returns
returns g c =
    let pattern = ap read_pattern (sym c.split.ensures.pattern) ∙ c.in_ok-read.ensures.turned in
    let sheeted = subst (λ (t : List ℕ). Sheeted t c.args.sheet.now c.index.new.out c.in_ok-len.len) c.split.ensures.text c.in_ok-len.ensures in
    let long : length c.index.new.out ≡ length c.args.sheet.now = search rules in
    let x = fresh c.args.input.now c.args.sheet.now c.index.new.out (shape_of c.read.new.self) c.in_ok-len.len _ _ _ c.if-input-gt-MOST_BYTES.false pattern sheeted long
    c.in_ok-open.ensures.shows c.new-set.ensures.stands in
    all_written c.args.input.now (length c.args.sheet.now) (length c.args.rows.now) (shape_of c.read.new.self) _ _ x (every c.read.new.self) _ (c.in_ok-written.ensures.length ∙ c.begin-search.ensures.length)
    _ (ap (λ t. shape_of t.now) c.begin-search.ensures.twig) c.len.result _ _ _ c.len.ensures.count c.in_ok-written.ensures.gathered
    (subst (Appends _ _) (c.as_slice.ensures.value ∙ c.in_ok-end.ensures) c.in_ok-write_all.ensures.bytes)
