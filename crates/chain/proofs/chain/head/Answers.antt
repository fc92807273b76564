use Rattle.std.proofs.Common.{None, ap, subst, ◌∙◌}
use Rattle.pattern.specs.Twig.{shape_of}
use Rattle.sheet.specs.Viewing.{Found}
use Rattle.sheet.proofs.Props.{lawful_of}
use Rattle.chain.specs.Chains.{chain_from}
use Rattle.chain.proofs.Naming.{no_list, list_found}
use Rattle.chain.proofs.chain.head.Goals as goal

pub returns-in_err-j : goal.returns-in_err-j
returns-in_err-j c =
    let view = c.args.view.now in
    let named = c.in_ok-name.ensures in
    let none : Found view.bytes.now c.in_ok-name.name.now None = subst (Found view.bytes.now c.in_ok-name.name.now) c.in_err-j.was c.find.ensures in
    ap (chain_from view.bytes.now) c.from_residual-in_err-j.ensures
    ∙ no_list view.bytes.now (lawful_of _ view.lawful) (shape_of c.args.twig.now).nodes c.args.i named.0 c.in_ok-name.name.now named.1 none

pub returns : goal.returns
returns c =
    let view = c.args.view.now in
    let named = c.in_ok-name.ensures in
    let found = c.in_ok-j.ensures in
    ap (chain_from view.bytes.now) c.first.ensures
    ∙ list_found view.bytes.now (lawful_of _ view.lawful) (shape_of c.args.twig.now).nodes c.args.i named.0 c.in_ok-name.name.now named.1 c.in_ok-j.j found.0 found.1
