use Rattle.std.proofs.Common.{◌≡◌, ℕ, if◌then◌else◌, List, [], ◌∷◌, ◌++◌, length, subst, Ok, Err, sym, ap, ◌∙◌}
use Rattle.std.specs.Option.{unwrap_or}
use Rattle.std.proofs.lemmas.Result.{err_from_is_err_and}
use Rattle.book.specs.Document.{position, intern}
use Rattle.tree.specs.Tree.{bytes_of}
use Rattle.book.specs.Reading.{State, Consistent}
use Rattle.book.specs.Views.{state_of}
use Rattle.book.proofs.Consistency.{named_consistent}
use Rattle.book.proofs.Entering.{enter_at}
use Rattle.book.proofs.Search.{number_is, interned_parts}
use Rattle.book.proofs.Steps.{opens_count}
use Rattle.book.proofs.reader.Reader.admit.Goals as goal
use Rattle.book.proofs.reader.Reader.admit.Goals.{After-check_element, After-len-2, then-is_none+in_ok-insert, else-is_none}

-- the number that was found
number : (c : After-check_element) → c.unwrap_or-number.result ≡ position c.args.self.now.names c.args.name.now
number c =
    c.unwrap_or-number.ensures ∙ ap (unwrap_or c.get_index_of-known.result) c.len.ensures.len
    ∙ number_is c.args.name.now c.self.inside.names.keys c.get_index_of-known.result c.get_index_of-known.ensures.index
    ∙ ap (λ s. position s.names c.args.name.now) c.self.view_is

-- the state with these names
with_names : After-len-2 → List (List ℕ) → State
with_names c names = record { elements = (state_of c.self.inside).elements; names = names; opens = (state_of c.self.inside).opens }

-- the state with the name
after : (c : After-len-2) → state_of c.if-is_none.self-inside ≡ record { elements = c.args.self.now.elements; names = intern c.args.self.now.names c.args.name.now; opens = c.args.self.now.opens }
unfolding with_names
after c =
    (elim c.if-is_none.branch [
      | then-is_none+in_ok-insert w ↦ ap state_of w.self-inside-is ∙ ap (with_names c) (ap bytes_of w.in_ok-insert.ensures.keys ∙ interned_parts c.self.inside.names.keys c.args.name)
      | else-is_none w ↦ ap state_of w.self-inside-is ∙ ap (with_names c) (ap (λ b. bytes_of (if b then c.self.inside.names.keys else c.self.inside.names.keys ++ c.args.name ∷ [])) (sym w.if-is_none.ensures ∙ c.get_index_of-known.ensures.found) ∙ interned_parts c.self.inside.names.keys c.args.name)
    ])
    ∙ (λ i. record { elements = (c.self.view_is i).elements; names = intern (c.self.view_is i).names c.args.name.now; opens = (c.self.view_is i).opens })

pub returns-in_err-check_element-clause-element : goal.returns-in_err-check_element-clause-element
returns-in_err-check_element-clause-element c =
    let p = err_from_is_err_and c.from_residual.result c.from_residual.ensures.1 in
    let f = c.in_err-check_element.field-0.0 in
    let s = c.args.self.now in
    rw (p.1, p.2) (enter_at (length s.opens) (length s.elements) _ c.args.place s.names c.args.name.now (Err f) (number (goal.at.returns-in_err-check_element-clause-element c).After-check_element) (sym c.in_err-check_element.ensures.value))

pub invariant_of-self-2 : goal.invariant_of-self-2
invariant_of-self-2 c =
    let s = c.args.self.now in
    subst Consistent (sym (after c)) (named_consistent s (subst Consistent c.self.view_is c.self.invariant) c.args.name.now)

pub returns-clause-element : goal.returns-clause-element
returns-clause-element c =
    let s = c.args.self.now in
    enter_at (length s.opens) (length s.elements) _ c.args.place s.names c.args.name.now (Ok tt) (number (goal.at.returns-clause-element c).After-check_element) (sym c.in_ok-check_element.ensures.value) ∙ ap (λ l. Ok (record { start = c.args.place; «end» = 0; level = l; name = c.unwrap_or-number.result }))
    (sym (c.len-2.ensures ∙ opens_count c.if-is_none.self-inside ∙ ap (λ s. length s.opens) (after c)))

pub returns-clause-names : goal.returns-clause-names
returns-clause-names c = after c
