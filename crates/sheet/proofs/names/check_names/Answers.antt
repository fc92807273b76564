use Rattle.std.proofs.Common.{ℕ, List, length, sym, ap, ◌∙◌, subst, inl, inr, arith}
use Rattle.markup.specs.declared.fault.Refusal.TheVariants.{NameRecord}
use Rattle.markup.specs.Faults.{fault}
use Rattle.layout.specs.Lawful.{RightName}
use Rattle.sheet.proofs.Props.{sized_of, checked_of}
use Rattle.sheet.proofs.Naming.{all_checked}
use Rattle.sheet.proofs.names.check_names.Goals as goal

pub returns-then-not-next_is_right : goal.returns-then-not-next_is_right
returns-then-not-next_is_right c =
    let bs = c.args.records.now.bytes.now in
    let keys = c.loop-j.names.keys.items in
    let same = c.loop-j.invariant.0 in
    let checked = checked_of _ c.loop-j.names.first.now keys c.loop-j.names.end c.loop-j.names.checked in (
      sized_of bs c.args.records.now.sized,
      c.requires.elements,
      inl (
        c.loop-j.j,
        c.at.ensures ∙ ap (fault NameRecord) c.name_offset.ensures,
        record {
          within = omega arith;
          before = λ i h. subst (λ (b : List ℕ). RightName b i) same (checked.right i (omega arith));
          here = λ r.
              c.if-not-next_is_right.ensures (subst (λ (b : List ℕ). RightName b (length keys)) (sym same) (subst (RightName bs) (sym c.loop-j.invariant.1) r));
        },
      ),
    )

pub returns-then-names-byte_count : goal.returns-then-names-byte_count
returns-then-names-byte_count c =
    let bs = c.args.records.now.bytes.now in
    let checked = checked_of _ c.loop-j.names.first.now c.loop-j.names.keys.items c.loop-j.names.end c.loop-j.names.checked in
    let all = all_checked bs c.loop-j.names.first.now c.loop-j.names.keys.items c.loop-j.names.end (rw c.loop-j.invariant.0 at checked) (omega arith) in
    (sized_of bs c.args.records.now.sized, c.requires.elements, inr (c.at-then-names-byte_count.ensures ∙ ap (fault NameRecord) c.bytes_offset.ensures, all.0, λ e. omega arith))

pub returns : goal.returns
returns c =
    let bs = c.args.records.now.bytes.now in
    let checked = checked_of _ c.loop-j.names.first.now c.loop-j.names.keys.items c.loop-j.names.end c.loop-j.names.checked in
    let all = all_checked bs c.loop-j.names.first.now c.loop-j.names.keys.items c.loop-j.names.end (rw c.loop-j.invariant.0 at checked) (omega arith) in
    (all.0, omega arith)
