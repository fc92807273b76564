use Rattle.replay.proofs.Running.{called_gather, called_page, called_rewind}
use Rattle.replay.proofs.series.make.Goals as goal

pub returns-in-Gather-clause-law : goal.returns-in-Gather-clause-law
returns-in-Gather-clause-law g c = λ log h. (_, called_gather c.args.call _ _ c.args.places.now c.from.result c.gather.result _ c.in-Gather.is c.from.ensures, c.gather.ensures.law log h)

pub returns-in-Page-clause-law : goal.returns-in-Page-clause-law
returns-in-Page-clause-law g c = λ log h.
    (_, called_page c.args.call c.in-Page.field-0 _ c.args.places.now c.page.new.table c.from-in-Page.result c.page.result _ c.in-Page.is c.from-in-Page.ensures, c.page.ensures.law log h)

pub returns-in-Rewind-clause-law : goal.returns-in-Rewind-clause-law
returns-in-Rewind-clause-law g c = λ log h.
    (_, called_rewind c.args.call _ c.args.places.now c.from-in-Rewind.result c.rewind.result _ c.in-Rewind.is c.from-in-Rewind.ensures, c.rewind.ensures.law log h)
