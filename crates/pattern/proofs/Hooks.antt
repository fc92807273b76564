-- How nodes hang on one another.
use Rattle.std.proofs.Common.{◌≡◌, ℕ, zero, suc, ◌<◌, false, true, List, [], ◌∷◌, ◌++◌, length, get_or, Some, None, is_some, Option, sym, refl, ap, ◌∙◌, true≢false, arith}
use Rattle.std.proofs.lemmas.List.Elements.{All-push}
use Rattle.pattern.specs.declared.node.Hook.{Hook}
use Rattle.pattern.specs.declared.node.Node.{Node}
use Rattle.pattern.specs.Nodes.{Hung, Hangs}

-- one node more
hook_some : (k : Option Hook) (m : Node) (ms : List Node) → Hangs k (m ∷ ms) → is_some k ≡ true
hook_some None m ms a = absurd (omega (arith, ap length a))
hook_some (Some h) m ms a = refl

hook_none : (k : Option Hook) → Hangs k [] → is_some k ≡ false
hook_none None a = refl
hook_none (Some h) a = absurd (omega (arith, a))

pub hung_more : (ns : List Node) (n : Node) → Hung ns → Hangs n.hook ns → Hung (ns ++ n ∷ [])
hung_more [] n h a = (hook_none n.hook a, λ k d lt. absurd (omega (arith, lt)))
hung_more (m ∷ ms) n h a = (h.0, All-push (λ (m : Node). is_some m.hook ≡ true) ms n h.1 (hook_some n.hook m ms a))

-- only the root hangs on nothing
pub not_root : (ns : List Node) (i : ℕ) (n : Node) (h : Hook) → Hung ns → i < length ns → n ≡ get_or ns i n → n.hook ≡ Some h → 0 < i
not_root [] i n h hung there e hook = absurd (omega (arith, there))
not_root (m ∷ ms) zero n h hung there e hook = absurd (true≢false (sym (ap is_some hook) ∙ ap (λ (v : Node). is_some v.hook) e ∙ hung.0))
not_root (m ∷ ms) (suc i) n h hung there e hook = omega arith

pub root_only : (ns : List Node) (i : ℕ) (n : Node) → Hung ns → i < length ns → n ≡ get_or ns i n → n.hook ≡ None → i ≡ 0
root_only ns zero n hung there e none = refl
root_only [] (suc i) n hung there e none = absurd (omega (arith, there))
root_only (m ∷ ms) (suc i) n hung there e none =
    absurd (true≢false (sym (hung.1 i n (omega (arith, there))) ∙ ap (λ (v : Node). is_some v.hook) (sym e) ∙ ap is_some none))
