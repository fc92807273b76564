-- The header, from the answers to its eight tests.
use Rattle.std.proofs.Common.{ℕ, zero, suc, ◌<◌, Bool, true, List, [], ◌∷◌, get_or, Decides, arith}
use Rattle.layout.specs.Lawful.{RightField}

pub right_fields : (bs : List ℕ) (a b c d e f g h : Bool) → Decides a (RightField bs 0) → Decides b (RightField bs 1) → Decides c (RightField bs 2) → Decides d (RightField bs 3)
    → Decides e (RightField bs 4) → Decides f (RightField bs 5) → Decides g (RightField bs 6) → Decides h (RightField bs 7)
    → (i : ℕ) → i < 8 → Decides (get_or (a ∷ b ∷ c ∷ d ∷ e ∷ f ∷ g ∷ h ∷ []) i true) (RightField bs i)
right_fields bs a b c d e f g h p q r s t u v w zero l = p
right_fields bs a b c d e f g h p q r s t u v w (suc zero) l = q
right_fields bs a b c d e f g h p q r s t u v w (suc (suc zero)) l = r
right_fields bs a b c d e f g h p q r s t u v w (suc (suc (suc zero))) l = s
right_fields bs a b c d e f g h p q r s t u v w (suc (suc (suc (suc zero)))) l = t
right_fields bs a b c d e f g h p q r s t u v w (suc (suc (suc (suc (suc zero))))) l = u
right_fields bs a b c d e f g h p q r s t u v w (suc (suc (suc (suc (suc (suc zero)))))) l = v
right_fields bs a b c d e f g h p q r s t u v w (suc (suc (suc (suc (suc (suc (suc zero))))))) l = w
right_fields bs a b c d e f g h p q r s t u v w (suc (suc (suc (suc (suc (suc (suc (suc i)))))))) l = absurd (omega arith)
