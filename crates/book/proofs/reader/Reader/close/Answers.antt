use Rattle.std.proofs.Common.{map, reverse, length, ap, ◌∙◌, subst, arith, length-set}
use Rattle.book.specs.Reading.{ended}
use Rattle.book.specs.Views.{open_of, state_of}
use Rattle.book.proofs.Consistency.{Below, below_more}
use Rattle.book.proofs.Steps.{push_open}
use Rattle.book.proofs.reader.Reader.close.Goals as goal

pub invariant_of-self : goal.invariant_of-self
invariant_of-self c =
    let es = (state_of c.self.inside).elements in
    let o = c.in-Some.open in
    let top = ap (λ os. map open_of (reverse os)) c.in-Some.ensures.items ∙ push_open c.pop.new.self.items o in
    let among = subst (Below (length es)) top c.self.invariant.among in
    record { different = c.self.invariant.different; among = below_more (length es) _ _ (omega (arith, length-set es o.number (ended o.element c.args.place))) among.1 }
