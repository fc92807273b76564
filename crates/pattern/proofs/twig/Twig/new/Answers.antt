use Rattle.std.proofs.Common.{◌≡◌, [], ◌∷◌, codes, refl, ◌∙◌, rules}
use Rattle.pattern.specs.declared.node.Mark.TheVariants.{Any}
use Rattle.pattern.specs.Shape.{root_a}
use Rattle.pattern.specs.Reading.{limits, start, run_in, granted}
use Rattle.pattern.proofs.twig.Twig.new.Goals as goal

is_read : run_in limits start 0 (codes "//a") ≡ granted Any (root_a ∷ [])
unfolding run_in
is_read = refl

pub returns-clause-read : goal.returns-clause-read
returns-clause-read c = is_read ∙ search rules
