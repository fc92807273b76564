use Rattle.std.proofs.Common.{[], ◌∷◌, map, reverse, length, sym, ap, ◌∙◌, subst, arith, length-append}
use Rattle.book.specs.Views.{open_of}
use Rattle.book.proofs.Consistency.{Below, below_more}
use Rattle.book.proofs.Steps.{push_open}
use Rattle.book.proofs.reader.Reader.start.Goals as goal

pub invariant_of-self-2 : goal.invariant_of-self-2
invariant_of-self-2 c =
    let es = c.self.inside.elements.items in
    let longer = ap (λ l. length l) c.in_ok-push.ensures.items ∙ length-append es (c.in_ok-element.element ∷ []) in
    let top = ap (λ os. map open_of (reverse os)) c.in_ok-push-2.ensures.items ∙ push_open c.self.inside.opens.items _ in
    record {
      different = c.self.invariant.different;
      among = subst (Below (length c.push.new.self.items)) (sym top)
          (omega (arith, c.self.inside.elements.ok.0), below_more (length es) _ _ (omega arith) c.self.invariant.among);
    }
