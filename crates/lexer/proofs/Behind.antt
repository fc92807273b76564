-- What may follow `<` or `</`, by how a name at its front goes on, and what the definition says of each.
use Rattle.std.proofs.Common.{◌≡◌, ℕ, suc, ◌+◌, ◌<◌, ◌≤◌, true, false, cond, eqb, List, [], ◌∷◌, ◌++◌, length, get_or, take, drop, Ok, Err, Result, sym, refl, ap, ◌∙◌, subst, ⊎_elim, true≢false, length-take, arith, get_or-append-add}
use Rattle.std.proofs.Math.ListN.{get_or-append}
use Rattle.std.proofs.Math.Seq.{get_or-append_seam, split_at}
use Rattle.std.specs.List.{prefix_len}
use Rattle.std.proofs.lemmas.List.{get_or_past, take_all}
use Rattle.std.proofs.lemmas.List.Sums.{prefix_len-le-length, prefix_len_passes, prefix_len_stops}
use Rattle.std.proofs.lemmas.Bool.{cases_Bool, cases_lt, cond-true, cond-false, eq-eqb, ne_eqb, le-leb, lt-leb}
use Rattle.markup.specs.declared.fault.Fault.{Fault}
use Rattle.markup.specs.declared.fault.Refusal.TheVariants.{Stray, BookNameTooLong}
use Rattle.markup.specs.Faults.{fault, and_then}
use Rattle.markup.specs.Name.{name_first, name_byte, LawfulName}
use Rattle.markup.proofs.Leading.{leading_append}
use Rattle.markup.proofs.Names.{first_is_byte, name_of, name_run}
use Rattle.lexer.specs.Item.{Item}
use Rattle.lexer.specs.Lex.{name_at, end_tail, start_tail, item_at}
use Rattle.lexer.proofs.Reading.{name_at_lem, not_slash}

-- what follows `<` or `</`
pub data View (cs : List ℕ) : Type 0 where
  nothing : cs ≡ [] → View cs
  nofirst : (c : ℕ) (rest : List ℕ) → cs ≡ c ∷ rest → name_first c ≡ false → View cs
  overlong : (n : List ℕ) (c : ℕ) (rest : List ℕ) → cs ≡ n ++ c ∷ rest → LawfulName n → length n ≡ 32 → name_byte c ≡ true → View cs
  cut : LawfulName cs → View cs
  full : (n : List ℕ) (c : ℕ) (rest : List ℕ) → cs ≡ n ++ c ∷ rest → LawfulName n → name_byte c ≡ false → View cs

named : (bs : List ℕ) → name_first (get_or bs 0 0) ≡ true → 1 ≤ prefix_len name_byte bs → View bs
named bs f some =
    let k : ℕ = prefix_len name_byte bs in
    let le : k ≤ length bs = prefix_len-le-length name_byte bs in
    ⊎_elim
    (λ (h : 32 < k).
    overlong (take 32 bs) (get_or bs 32 0) (drop 33 bs) (split_at bs 32 0 (omega arith)) (name_of bs 32 f (omega arith) (omega arith) (omega arith))
    (omega (arith, length-take 32 bs)) (prefix_len_passes name_byte bs 32 0 h))
    (λ (h : k ≤ 32).
    let name = name_of bs k f (omega arith) some h in
    ⊎_elim
    (λ (l : k < length bs). full (take k bs) (get_or bs k 0) (drop (suc k) bs) (split_at bs k 0 l) name (prefix_len_stops name_byte bs 0 l))
    (λ (l : length bs ≤ k). cut (subst LawfulName (take_all k bs l) name))
    (cases_lt k (length bs)))
    (cases_lt 32 k)

pub view : (cs : List ℕ) → View cs
view [] = nothing refl
view (c ∷ cs) =
    ⊎_elim
    (λ (f : name_first c ≡ true). named (c ∷ cs) f (let b = first_is_byte c f in rw (b, cond) (omega arith)))
    (λ (f : name_first c ≡ false). nofirst c cs refl f)
    (cases_Bool (name_first c))

-- What the lexer says of each.

no_name : (p c : ℕ) (rest : List ℕ) → name_first c ≡ false → name_at p (c ∷ rest) ≡ Err (fault Stray p)
no_name p c rest h = cond-false _ _ _ h

long_name : (p : ℕ) (n : List ℕ) (c : ℕ) (rest : List ℕ) → LawfulName n → length n ≡ 32 → name_byte c ≡ true → name_at p (n ++ c ∷ rest) ≡ Err (fault BookNameTooLong (p + 32))
long_name p n c rest l h b =
    let e = leading_append name_byte n (c ∷ rest) l.each in
    let d : prefix_len name_byte (c ∷ rest) ≡ 1 + prefix_len name_byte rest = ap (λ x. cond x (1 + prefix_len name_byte rest) 0) b in
    let lt : 32 < prefix_len name_byte (n ++ c ∷ rest) = omega arith in
    cond-true _ _ _ (ap name_first (get_or-append n (c ∷ rest) 0 0 l.some) ∙ l.first) ∙ cond-false _ _ _ (lt-leb _ _ lt)

cut_name : (p : ℕ) (n : List ℕ) → LawfulName n → name_at p n ≡ Ok (length n)
cut_name p n l =
    let e : prefix_len name_byte n ≡ length n = name_run n l in
    let le : prefix_len name_byte n ≤ 32 = omega (arith, l.short) in
    cond-true _ _ _ l.first ∙ cond-true _ _ _ (le-leb _ _ le) ∙ ap Ok e

first_no_slash : (c : ℕ) (n : List ℕ) → LawfulName (c ∷ n) → eqb c 47 ≡ false
first_no_slash c n l = ne_eqb _ _ (λ e. true≢false (sym l.first ∙ ap name_first e))

pub ok_not_err : (s : Item) (f : Fault) → ◌≡◌ {A = Result Item Fault} (Ok s) (Err f) → ⊥
ok_not_err s f e = cc

module _ (p : ℕ) where
  pub start_nofirst : (c : ℕ) (rest : List ℕ) → eqb c 47 ≡ false → name_first c ≡ false → item_at p (60 ∷ c ∷ rest) ≡ Err (fault Stray (p + 1))
  start_nofirst c rest s h = cond-false _ _ _ s ∙ ap (λ r. and_then r (start_tail p (c ∷ rest))) (no_name (p + 1) c rest h)

  pub end_nofirst : (c : ℕ) (rest : List ℕ) → name_first c ≡ false → item_at p (60 ∷ 47 ∷ c ∷ rest) ≡ Err (fault Stray (p + 2))
  end_nofirst c rest h = ap (λ r. and_then r (end_tail p (c ∷ rest))) (no_name (p + 2) c rest h)

  module _ (n : List ℕ) (l : LawfulName n) where
    pub start_long : (c : ℕ) (rest : List ℕ) → length n ≡ 32 → name_byte c ≡ true → item_at p (60 ∷ n ++ c ∷ rest) ≡ Err (fault BookNameTooLong (p + 1 + 32))
    start_long c rest h b = cond-false _ _ _ (not_slash n l c rest) ∙ ap (λ r. and_then r (start_tail p (n ++ c ∷ rest))) (long_name (p + 1) n c rest l h b)

    pub end_long : (c : ℕ) (rest : List ℕ) → length n ≡ 32 → name_byte c ≡ true → item_at p (60 ∷ 47 ∷ n ++ c ∷ rest) ≡ Err (fault BookNameTooLong (p + 2 + 32))
    end_long c rest h b = ap (λ r. and_then r (end_tail p (n ++ c ∷ rest))) (long_name (p + 2) n c rest l h b)

    past : get_or n (length n) 0 ≡ 0
    past = get_or_past n (length n) 0 (omega arith)

    pub start_cut : item_at p (60 ∷ n) ≡ Err (fault Stray (p + 1 + length n))
    start_cut =
        let s : eqb (get_or n 0 0) 47 ≡ false = ne_eqb _ _ (λ e. true≢false (sym l.first ∙ ap name_first e)) in
        cond-false _ _ _ s ∙ ap (λ r. and_then r (start_tail p n)) (cut_name (p + 1) n l)
        ∙ cond-false _ _ _ (ap (λ x. eqb x 62) past) ∙ cond-false _ _ _ (ap (λ x. eqb x 47) past)

    pub end_cut : item_at p (60 ∷ 47 ∷ n) ≡ Err (fault Stray (p + 2 + length n))
    end_cut = ap (λ r. and_then r (end_tail p n)) (cut_name (p + 2) n l) ∙ cond-false _ _ _ (ap (λ x. eqb x 62) past)

    pub start_bad : (c : ℕ) (rest : List ℕ) → name_byte c ≡ false → eqb c 62 ≡ false → eqb c 47 ≡ false → item_at p (60 ∷ n ++ c ∷ rest) ≡ Err (fault Stray (p + 1 + length n))
    start_bad c rest b x y =
        let at = get_or-append_seam n c rest 0 in
        cond-false _ _ _ (not_slash n l c rest) ∙ ap (λ r. and_then r (start_tail p (n ++ c ∷ rest))) (name_at_lem n l c rest (p + 1) b)
        ∙ cond-false _ _ _ (ap (λ x. eqb x 62) at ∙ x) ∙ cond-false _ _ _ (ap (λ x. eqb x 47) at ∙ y)

    pub end_bad : (c : ℕ) (rest : List ℕ) → name_byte c ≡ false → eqb c 62 ≡ false → item_at p (60 ∷ 47 ∷ n ++ c ∷ rest) ≡ Err (fault Stray (p + 2 + length n))
    end_bad c rest b x =
        let at = get_or-append_seam n c rest 0 in
        ap (λ r. and_then r (end_tail p (n ++ c ∷ rest))) (name_at_lem n l c rest (p + 2) b) ∙ cond-false _ _ _ (ap (λ x. eqb x 62) at ∙ x)

    -- after the slash
    pub slash_bad : (rest : List ℕ) → eqb (get_or rest 0 0) 62 ≡ false → item_at p (60 ∷ n ++ 47 ∷ rest) ≡ Err (fault Stray (p + 2 + length n))
    slash_bad rest x =
        let at = get_or-append_seam n 47 rest 0 in
        let next : get_or (n ++ 47 ∷ rest) (length n + 1) 0 ≡ get_or rest 0 0 = get_or-append-add n (47 ∷ rest) 1 0 in
        cond-false _ _ _ (not_slash n l 47 rest) ∙ ap (λ r. and_then r (start_tail p (n ++ 47 ∷ rest))) (name_at_lem n l 47 rest (p + 1) refl)
        ∙ cond-false _ _ _ (ap (λ x. eqb x 62) at) ∙ cond-true _ _ _ (eq-eqb _ _ at) ∙ cond-false _ _ _ (ap (λ x. eqb x 62) next ∙ x)
