-- What the reader's methods make of its state.
use Rattle.std.proofs.Common.{◌≡◌, List, [], ◌∷◌, ◌++◌, map, reverse, length, vec_items, vec_len, Result, sym, ap, ◌∙◌}
use Rattle.std.proofs.lemmas.List.{length-map, length-reverse, reverse-append}
use Rattle.markup.specs.declared.fault.Fault.{Fault}
use Rattle.markup.specs.declared.fault.Error.{Error}
use Rattle.markup.specs.declared.fault.Error.TheVariants.{Refused, Memory}
use Rattle.markup.specs.Faults.{and_then}
use Rattle.book.specs.declared.reader.Open.{Open}
use Rattle.book.specs.declared.reader.Reader.TheInside.{Inside}
use Rattle.book.specs.Views.{open_of, state_of, Fails}

-- a refusal ends what would follow it
pub fails_then : {X Z : Type 0} (d : Result X Fault) (k : X → Result Z Fault) (e : Error) → Fails d e → Fails (and_then d k) e
fails_then d k (Refused x) h = ap (λ r. and_then r k) h
fails_then d k Memory h = tt

pub opens_count : (r : Inside) → vec_len r.opens ≡ length (state_of r).opens
opens_count r = r.opens.ok.0 ∙ sym (length-reverse (vec_items r.opens)) ∙ sym (length-map (reverse (vec_items r.opens)) open_of)

-- the innermost open element comes first
pub push_open : (os : List Open) (o : Open) → map open_of (reverse (os ++ o ∷ [])) ≡ open_of o ∷ map open_of (reverse os)
push_open os o = ap (map open_of) (reverse-append os (o ∷ []))
