use Rattle.std.proofs.Common.{◌≡◌, None, refl, ◌∙◌, rules, of_calls, arith}
use Rattle.pattern.specs.Twig.{shape_of}
use Rattle.pattern.proofs.Props.{every}
use Rattle.chain.specs.Chains.{chain_from}
use Rattle.chain.specs.Named.{numbers_of}
use Rattle.chain.proofs.FromFn.{each_gives}
use Rattle.chain.proofs.Standing.{stands}
use Rattle.chain.proofs.chain.Chains.over.Goals as goal

pub returns-clause-stands : goal.returns-clause-stands
returns-clause-stands g c =
    let bs = c.args.view.bytes.now in
    let nodes = (shape_of c.args.twig.now).nodes in
    stands bs (g.M.Select.selects c.args.select) c.from_fn-heads.result nodes (every c.args.twig.now).few
    (λ k l. each_gives _ (λ f. (f.0.now ≡ c.args.view) × (f.1.now ≡ c.args.twig.now)) (λ i head. chain_from bs head ≡ numbers_of bs nodes i)
    (λ f q i y inv met.
    let same : (q.0.now ≡ f.0.now) × (q.1.now ≡ f.1.now) = search (rules, of_calls) in
    let gives : chain_from f.0.now.bytes.now y ≡ numbers_of f.0.now.bytes.now (shape_of f.1.now).nodes i = search (rules, of_calls) in
    ((same.0 ∙ inv.0, same.1 ∙ inv.1), cc))
    16 0 _ _ (refl, refl) c.from_fn-heads.ensures.items.each k None (omega arith) (omega arith))
