use Rattle.pattern.proofs.Refused.{misfit_place, many_place, name_place}
use Rattle.pattern.proofs.laws.places.Goals as goal

pub returns : goal.returns
returns c = record { misfit = misfit_place; many = many_place; name = name_place }
