-- Why no listing was written.
use Rattle.std.specs.Prelude.{◌≡◌}
use Rattle.markup.specs.declared.fault.Error.{Error}
use Rattle.markup.specs.declared.fault.Error.TheVariants as error
use Rattle.finding.specs.declared.ending.Ending.{Ending}
use Rattle.finding.specs.declared.ending.Ending.TheVariants as ending

-- not because the input was refused
abbrev pub Failed : Ending → Type 0
Failed (ending.Refused f) = ⊥
Failed (ending.Failed e) = Unit {0}

-- the ending that an error makes
abbrev pub Ended : Error → Ending → Type 0
Ended (error.Refused f) e = e ≡ ending.Refused f
Ended error.Memory e = Failed e
