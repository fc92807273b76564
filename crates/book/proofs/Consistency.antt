-- Each item keeps the state consistent.
use Rattle.std.proofs.Common.{◌≡◌, ℕ, ◌+◌, ◌<◌, ◌≤◌, eqb, List, [], ◌∷◌, length, Ok, Err, Result, subst, arith, length-append, length-set}
use Rattle.std.specs.List.{AllByRecursion as Every}
use Rattle.std.specs.Str.{bytes_eq}
use Rattle.std.proofs.ByRecursion.{All-weaker}
use Rattle.markup.specs.declared.fault.Fault.{Fault}
use Rattle.markup.proofs.Granted.{Granted, grant, refuse, either, chain}
use Rattle.tree.specs.declared.element.Element.{Element}
use Rattle.lexer.specs.Item.{Item, Item.start, Item.end, Item.empty, Item.text}
use Rattle.book.specs.Document.{intern}
use Rattle.book.specs.Reading.{OpenElement, State, Consistent, ended, entered, opened, leaf, close, blanks_only, step}
use Rattle.book.proofs.Naming.{intern_different}

-- all open elements are among the first n
abbrev pub Below : ℕ → List OpenElement → Type 0
Below n os = Every (λ (o : OpenElement). o.number < n) os

pub below_more : (n m : ℕ) (os : List OpenElement) → n ≤ m → Below n os → Below m os
below_more n m os h b = All-weaker (λ (o : OpenElement). o.number < n) (λ (o : OpenElement). o.number < m) (λ o l. omega arith) os b

-- with a name among the names
pub named_consistent : (s : State) → Consistent s → (name : List ℕ) → Consistent (record { elements = s.elements; names = intern s.names name; opens = s.opens })
named_consistent s c name = record { different = intern_different s.names name c.different; among = c.among }

module _ (s : State) (c : Consistent s) (p : ℕ) (name : List ℕ) where
  opened_consistent : (e : Element) → Consistent (opened s name e)
  opened_consistent e =
      let long = length-append s.elements (e ∷ []) in
      record { different = intern_different s.names name c.different; among = (omega arith, below_more _ _ s.opens (omega arith) c.among) }

  leaf_consistent : (e : Element) → Consistent (leaf s p name e)
  leaf_consistent e =
      let long = length-append s.elements (ended e (p + 1 + length name) ∷ []) in
      record { different = intern_different s.names name c.different; among = below_more _ _ s.opens (omega arith) c.among }

close_consistent : (s : State) (os : List OpenElement) (p : ℕ) (name : List ℕ) → Consistent s → Below (length s.elements) os → Granted Consistent (close s os p name)
close_consistent s [] p name c a = refuse _
close_consistent s (o ∷ os) p name c a =
    let e : Element = ended o.element p in
    either (bytes_eq o.name name) _ _
    (λ _. grant _ (record { different = c.different; among = below_more (length s.elements) _ os (omega (arith, length-set s.elements o.number e)) a.1 }))
    (λ _. refuse _)

any : {X : Type 0} (r : Result X Fault) → Granted (λ _. Unit {0}) r
any (Ok x) = grant x tt
any (Err f) = refuse f

granted_step : (s : State) (p : ℕ) (i : Item) → Consistent s → Granted Consistent (step s p i)
granted_step s p (start name) c = chain _ (entered s p name) (λ e. Ok (opened s name e)) (any (entered s p name)) (λ e _. grant _ (opened_consistent s c p name e))
granted_step s p (empty name) c = chain _ (entered s p name) (λ e. Ok (leaf s p name e)) (any (entered s p name)) (λ e _. grant _ (leaf_consistent s c p name e))
granted_step s p (end name) c = close_consistent s s.opens p name c c.among
granted_step s p (text bs) c =
    either (eqb (length s.opens) 0) _ _ (λ _. chain _ (blanks_only p bs) (λ _. Ok s) (any (blanks_only p bs)) (λ _ _. grant _ c)) (λ _. grant _ c)

pub step_consistent : (s t : State) (p : ℕ) (i : Item) → Consistent s → step s p i ≡ Ok t → Consistent t
step_consistent s t p i c e = (subst (Granted Consistent) e (granted_step s p i c)).granted
