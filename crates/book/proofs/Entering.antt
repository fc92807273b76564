-- What the tests on the tag of an element come to.
use Rattle.std.proofs.Common.{◌≡◌, ℕ, ◌<◌, ◌≤◌, false, not, ◌&&◌, ◌||◌, eqb, leb, List, length, Ok, Result, sym, ap, ◌∙◌, arith}
use Rattle.std.proofs.lemmas.Bool.{cond-false, or_from, or_parts, lt-leb, leb-false}
use Rattle.markup.specs.declared.fault.Fault.{Fault}
use Rattle.markup.specs.Faults.{and_then}
use Rattle.markup.proofs.Granted.{Granted, grant, refuse, either}
use Rattle.tree.specs.declared.element.Element.{Element}
use Rattle.book.specs.Document.{position}
use Rattle.book.specs.Reading.{State, allowed, enter}

-- the element that begins at p
abbrev pub begun : State → ℕ → List ℕ → Element
begun s p name = record { start = p; «end» = 0; level = length s.opens; name = position s.names name }

-- what is known of an element that is allowed
pub record Allowed (opens count number : ℕ) : Type 0 where
  pub free : (eqb opens 0 && not (eqb count 0)) ≡ false
  pub level : opens ≤ 63
  pub few : count < 65535
  pub names : number < 1024

pub allowed_granted : (opens count number p : ℕ) → Granted (λ _. Allowed opens count number) (allowed opens count number p)
allowed_granted opens count number p =
    either (eqb opens 0 && not (eqb count 0)) _ _ (λ _. refuse _)
    (λ a. either (leb 64 opens) _ _ (λ _. refuse _)
    (λ b. either (leb 65535 count || leb 1024 number) _ _ (λ _. refuse _)
    (λ c.
    let d = or_parts (leb 65535 count) (leb 1024 number) c in
    let x = leb-false 64 opens b in
    let y = leb-false 65535 count d.0 in
    let z = leb-false 1024 number d.1 in
    grant _ (record { free = a; level = omega arith; few = omega arith; names = omega arith }))))

-- none of the refusals holds
pub allowed_ok : (opens count number p : ℕ) → Allowed opens count number → allowed opens count number p ≡ Ok tt
allowed_ok opens count number p a =
    let shallow : opens < 64 = omega (arith, a.level) in
    cond-false _ _ _ a.free ∙ cond-false _ _ _ (lt-leb 64 opens shallow) ∙ cond-false _ _ _ (or_from _ _ (lt-leb 65535 count a.few) (lt-leb 1024 number a.names))

-- the element follows the tests
pub enter_by : (opens count p : ℕ) (names : List (List ℕ)) (name : List ℕ) (r : Result (Unit {0}) Fault) → allowed opens count (position names name) p ≡ r
    → enter opens count names p name ≡ and_then r (λ _. Ok (record { start = p; «end» = 0; level = opens; name = position names name }))
enter_by opens count p names name r e = ap (λ x. and_then x (λ _. Ok (record { start = p; «end» = 0; level = opens; name = position names name }))) e

-- by the number that was found
pub enter_at : (opens count number p : ℕ) (names : List (List ℕ)) (name : List ℕ) (r : Result (Unit {0}) Fault) → number ≡ position names name → allowed opens count number p ≡ r
    → enter opens count names p name ≡ and_then r (λ _. Ok (record { start = p; «end» = 0; level = opens; name = number }))
enter_at opens count number p names name r is e =
    enter_by opens count p names name r (ap (λ n. allowed opens count n p) (sym is) ∙ e) ∙ ap (λ n. and_then r (λ _. Ok (record { start = p; «end» = 0; level = opens; name = n }))) (sym is)
