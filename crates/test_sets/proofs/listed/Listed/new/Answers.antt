use Rattle.std.proofs.Common.{◌<◌, length, refl, rules, arith}
use Rattle.tree.specs.Region.{Fits}
use Rattle.test_sets.specs.Members.{region_at, EachFits}
use Rattle.test_sets.specs.Laws.{book_of_fits, fits_of_book}
use Rattle.test_sets.proofs.Members.{all_left}
use Rattle.test_sets.proofs.listed.Listed.new.Goals as goal

pub returns-then-not-fits-clause-lawful : goal.returns-then-not-fits-clause-lawful
returns-then-not-fits-clause-lawful c =
    let wrong : Fits (region_at c.args.members.now) c.loop-k.k → ⊥ = search rules in
    (λ no. cc, λ book. absurd (wrong ((fits_of_book _ book).fits c.loop-k.k (omega arith))))

pub invariant_of-result : goal.invariant_of-result
invariant_of-result c =
    let some : 0 < length c.args.members.now = search rules in
    record { lawful = record { some = omega arith; few = omega arith; fits = λ k h. c.loop-k.invariant k (omega arith) } }

pub returns-clause-lawful : goal.returns-clause-lawful
returns-clause-lawful c =
    let some : 0 < length c.args.members.now = search rules in
    let each : EachFits c.args.members.now = record { some = omega arith; few = omega arith; fits = λ k h. c.loop-k.invariant k (omega arith) } in
    (λ _. book_of_fits _ each, λ _. refl)

pub returns-clause-lists : goal.returns-clause-lists
returns-clause-lists c = all_left c.args.members.now
