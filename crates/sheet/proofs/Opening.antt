-- From the parts of the check to its answer, and what the answers say.
use Rattle.std.proofs.Common.{◌≡◌, ℕ, ◌<◌, List, length, Ok, Err, Result, inl, inr, ⊎_elim, arith, lit<, MatchResult}
use Rattle.markup.specs.declared.fault.Fault.{Fault}
use Rattle.layout.specs.Layout.{element_count, name_count, byte_count}
use Rattle.layout.specs.Lawful.{RightElement, RightName, names_end, LawfulSheet}
use Rattle.sheet.specs.Opening.{Opened, Refused, WrongName, Sized, Each}

pub answered : (bs : List ℕ) (r : Result (Unit {0}) Fault) → Sized bs → Each (RightElement bs) (element_count bs)
    → MatchResult r (λ _. Each (RightName bs) (name_count bs) × (names_end bs (name_count bs) ≡ byte_count bs)) (λ f. WrongName bs f)
    → Opened bs r
answered bs (Ok u) s e n = record { header = s.0; size = s.1; elements = e; names = n.0; filled = n.1 }
answered bs (Err f) s e n = inr (inr (inr n))

-- what is refused is not lawful
pub refused_unlawful : (bs : List ℕ) (f : Fault) → Refused bs f → LawfulSheet bs → ⊥
refused_unlawful bs f (inl w) l =
    let t = l.header 7 (lit< tt) in
    let z = l.size in
    ⊎_elim (λ (q : length bs < 32). omega arith) (λ q. q.2 (omega arith)) w.1
refused_unlawful bs f (inr (inl w)) l = w.1.2.here (l.header w.1.0 w.1.2.within)
refused_unlawful bs f (inr (inr (inl w))) l = w.1.2.here (l.elements w.1.0 w.1.2.within)
refused_unlawful bs f (inr (inr (inr w))) l =
    ⊎_elim (λ q. q.2.here (l.names q.0 q.2.within)) (λ q. q.2 l.filled) w.2
