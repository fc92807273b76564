use Rattle.std.proofs.Common.{◌<◌, ◌≤◌, unwrap_or, ap, subst, ◌∙◌, add-one, arith, rules, below_more}
use Rattle.markup.specs.declared.fault.Refusal.TheVariants.{ElementRecord}
use Rattle.markup.specs.Faults.{fault}
use Rattle.tree.specs.declared.element.Element.{Element}
use Rattle.layout.specs.Layout.{element_count}
use Rattle.sheet.specs.Links.{LinkedFrom}
use Rattle.sheet.proofs.Props.{sized_of}
use Rattle.sheet.proofs.Links.{linked_below}
use Rattle.sheet.proofs.elements.check_elements.Goals as goal

pub returns-then-not-place : goal.returns-then-not-place
returns-then-not-place c =
    let bs = c.args.records.now.bytes.now in
    let h : c.loop-k.k < unwrap_or c.args.wrong (element_count bs) = search rules in (
      sized_of bs c.args.records.now.sized,
      (
        c.loop-k.k,
        c.at.ensures ∙ ap (fault ElementRecord) c.element_offset.ensures,
        record {
          within = (linked_below bs c.args.wrong c.loop-k.k c.requires h).0;
          before = c.loop-k.invariant.0;
          here = λ r. search rules;
        },
      ),
    )

-- every element below the one whose next is wrong is right
pub returns-in-Some : goal.returns-in-Some
returns-in-Some c =
    let bs = c.args.records.now.bytes.now in
    let l = subst (LinkedFrom bs 0) c.in-Some.is c.requires in
    let e : c.in-Some.k ≤ c.loop-k.k = search rules in (
      sized_of bs c.args.records.now.sized,
      (
        c.in-Some.k,
        c.at-in-Some.ensures ∙ ap (fault ElementRecord) c.element_offset-in-Some.ensures,
        record {
          within = l.within;
          before = λ j h. c.loop-k.invariant.0 j (omega arith);
          here = λ r. l.here (λ _ _. r.numbers.next);
        },
      ),
    )

pub loop-k-preserved : goal.loop-k-preserved
loop-k-preserved c =
    let i = c.loop-k.invariant in
    let p = c.if-not-place.ensures in
    let n = c.if-not-has_right_numbers.ensures in
    let name = ap (λ (e : Element). e.name) c.element.ensures in
    (below_more _ _ i.0 (record { region = p.0; numbers = n }), p.1, rw add-one (search rules), search rules)
