-- The lines of the elements that a view shows.
use Rattle.std.proofs.Common.{◌≡◌, ℕ, ◌+◌, ◌<◌, List, [], ◌∷◌, ◌++◌, get_or, take, Some, sym, ap, ◌∙◌, arith, Bor}
use Rattle.std.proofs.lemmas.Bool.{cond-true, lt-ltb}
use Rattle.std.proofs.lemmas.Grind.{common_steps}
use Rattle.std.proofs.lemmas.List.{take_more, take_all}
use Rattle.tree.specs.declared.element.Element.{Element}
use Rattle.layout.specs.Layout.{element_count, element_at, elements_of, names_of}
use Rattle.layout.specs.Encoding.{blank}
use Rattle.layout.proofs.Unique.{length-elements_of, get_or-elements_of, get_or-names_of}
use Rattle.sheet.specs.Viewing.{element_in, NameIn}
use Rattle.report.specs.Lines.{element_line}
use Rattle.report.specs.Outline.{element_lines}

-- one more element
pub one_more : (bs : List ℕ) (k : ℕ) (e : Element) (text : Bor (List ℕ)) → k < element_count bs → element_in bs k ≡ Some e → NameIn bs e.name (Some text)
    → element_lines (names_of bs) (take (k + 1) (elements_of bs)) ≡ element_lines (names_of bs) (take k (elements_of bs)) ++ element_line e text.now
one_more bs k e text h is named =
    let known : Some e ≡ Some (element_at bs k) = sym is ∙ cond-true _ _ _ (lt-ltb k (element_count bs) h) in
    let here : get_or (elements_of bs) k blank ≡ e = get_or-elements_of bs k h ∙ cc in
    let name : get_or (names_of bs) e.name [] ≡ text.now = get_or-names_of bs e.name named.0 ∙ sym named.1 in
    let more : take (k + 1) (elements_of bs) ≡ take k (elements_of bs) ++ e ∷ [] =
    take_more (elements_of bs) k blank (omega (arith, length-elements_of bs)) ∙ ap (λ (x : Element). take k (elements_of bs) ++ x ∷ []) here in
    grind (arith, common_steps)

-- all elements
pub all_lines : (bs : List ℕ) → element_lines (names_of bs) (take (element_count bs) (elements_of bs)) ≡ element_lines (names_of bs) (elements_of bs)
all_lines bs = ap (element_lines (names_of bs)) (take_all (element_count bs) (elements_of bs) (omega (arith, length-elements_of bs)))
