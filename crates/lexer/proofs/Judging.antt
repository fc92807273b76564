-- What begins with `<` is a tag, or its bytes go wrong at one place.
use Rattle.std.proofs.Common.{◌≡◌, ℕ, ◌+◌, ◌<◌, ◌≤◌, true, false, eqb, ◌⊎◌, List, [], ◌∷◌, ◌++◌, length, get_or, take, drop, Ok, Err, Result, sym, refl, ap, ◌∙◌, subst, inl, inr, ⊎_elim, true≢false, append_assoc, append-nil, take-append-drop, arith, length-append}
use Rattle.std.proofs.Math.ListN.{get_or-append}
use Rattle.std.proofs.Math.Seq.{get_or-append_seam, take-append_seam}
use Rattle.std.proofs.ByRecursion.{All-get_or}
use Rattle.std.proofs.lemmas.List.{nil_from_length, take-append-le}
use Rattle.std.proofs.lemmas.Bool.{cases_Bool, cases_lt, eqb-true}
use Rattle.markup.specs.declared.fault.Fault.{Fault}
use Rattle.markup.specs.declared.fault.Refusal.TheVariants.{Stray, BookNameTooLong}
use Rattle.markup.specs.Faults.{fault}
use Rattle.markup.specs.Name.{name_first, name_byte, LawfulName}
use Rattle.lexer.specs.Item.{Item, Item.start, Item.end, Item.empty, Tag, spelling}
use Rattle.lexer.specs.Lex.{item_at}
use Rattle.lexer.specs.BadTag.{TagFront, Opens, Overlong, BadTag, BadTag.ends, BadTag.stray, BadTag.long}
use Rattle.lexer.proofs.Reading.{tag_at}
use Rattle.lexer.proofs.Behind.{View, View.nothing, View.nofirst, View.overlong, View.cut, View.full, view, ok_not_err, start_nofirst, end_nofirst, start_long, end_long, start_cut, end_cut, start_bad, end_bad, slash_bad}

-- Judgement.

letter : LawfulName (97 ∷ [])
letter = record { some = omega arith; short = omega arith; first = refl; each = (refl, tt) }

unfoldable pub Judged : List ℕ → ℕ → Type 0
Judged bs p = ((f : Fault) × (item_at p bs ≡ Err f) × BadTag bs p f) ⊎ ((i : Item) × Tag i × (rest : List ℕ) × (bs ≡ spelling i ++ rest))

-- what is refused whatever follows fits no tag
unfits : (p : ℕ) (xs : List ℕ) (c : ℕ) (f : Fault) → ((more : List ℕ) → item_at p (xs ++ c ∷ more) ≡ Err f) → TagFront (xs ++ c ∷ []) → ⊥
unfits p xs c f h t =
    let whole : spelling t.0 ++ [] ≡ xs ++ c ∷ t.2 = append-nil (spelling t.0) ∙ t.3 ∙ append_assoc xs (c ∷ []) t.2 in
    ok_not_err _ f (sym (tag_at p t.0 [] t.1) ∙ ap (item_at p) whole ∙ h t.2)

stray_at : (p : ℕ) (xs : List ℕ) (c : ℕ) (rest : List ℕ) (q : ℕ) → ((more : List ℕ) → item_at p (xs ++ c ∷ more) ≡ Err (fault Stray q)) → Opens xs → (Overlong xs c → ⊥) → q ≡ p + length xs
    → Judged (xs ++ c ∷ rest) p
unfolding Judged
stray_at p xs c rest q h o n e = inl (_, h rest, stray xs c rest refl o (unfits p xs c _ h) n (ap (fault Stray) e))

ends_at : (p : ℕ) (bs : List ℕ) (q : ℕ) → item_at p bs ≡ Err (fault Stray q) → Opens bs → q ≡ p + length bs → Judged bs p
unfolding Judged
ends_at p bs q h o e = inl (_, h, ends o (ap (fault Stray) e))

short_front : (xs : List ℕ) (c : ℕ) → length xs < 33 → Overlong xs c → ⊥
short_front xs c h o =
    ⊎_elim (λ (e : xs ≡ 60 ∷ o.0). let z = ap (λ l. length l) e in omega (arith, o.2)) (λ (e : xs ≡ 60 ∷ 47 ∷ o.0). let z = ap (λ l. length l) e in omega (arith, o.2)) o.4

-- a slash behind a name is no part of a name
slash_front : (n : List ℕ) (c : ℕ) → LawfulName n → Overlong (60 ∷ n ++ 47 ∷ []) c → ⊥
slash_front n c l o =
    ⊎_elim
    (λ (e : 60 ∷ n ++ 47 ∷ [] ≡ 60 ∷ o.0).
    let same : n ++ 47 ∷ [] ≡ o.0 = ap (drop 1) e in
    let long : length n < length o.0 = omega (arith, ap (λ l. length l) same, length-append n (47 ∷ [])) in
    let at : get_or o.0 (length n) 0 ≡ 47 = ap (λ l. get_or l (length n) 0) (sym same) ∙ get_or-append_seam n 47 [] 0 in
    true≢false (sym (All-get_or (λ b. name_byte b ≡ true) o.0 (length n) 0 long o.1.each) ∙ ap name_byte at))
    (λ (e : 60 ∷ n ++ 47 ∷ [] ≡ 60 ∷ 47 ∷ o.0).
    let same : n ++ 47 ∷ [] ≡ 47 ∷ o.0 = ap (drop 1) e in
    let at : get_or n 0 0 ≡ 47 = sym (get_or-append n (47 ∷ []) 0 0 l.some) ∙ ap (λ l. get_or l 0 0) same in
    true≢false (sym l.first ∙ ap name_first at))
    o.4

long_at : (p : ℕ) (xs : List ℕ) (c : ℕ) (rest : List ℕ) (q : ℕ) → item_at p (xs ++ c ∷ rest) ≡ Err (fault BookNameTooLong q) → Overlong xs c → q ≡ p + length xs → Judged (xs ++ c ∷ rest) p
unfolding Judged
long_at p xs c rest q h o e = inl (_, h, long xs c rest refl o (ap (fault BookNameTooLong) e))

tag_here : (p : ℕ) (i : Item) (rest : List ℕ) → Tag i → Judged (spelling i ++ rest) p
unfolding Judged
tag_here p i rest t = inr (i, t, rest, refl)

judge_end : (p : ℕ) (cs : List ℕ) → View cs → Judged (60 ∷ 47 ∷ cs) p
judge_end p cs (nothing e) = subst (λ l. Judged (60 ∷ 47 ∷ l) p) (sym e) (ends_at p (60 ∷ 47 ∷ []) (p + 2) refl (end (97 ∷ []), letter, 97, 62 ∷ [], refl) refl)
judge_end p cs (nofirst c rest e h) =
    subst (λ l. Judged (60 ∷ 47 ∷ l) p) (sym e)
    (stray_at p (60 ∷ 47 ∷ []) c rest (p + 2) (λ more. end_nofirst p c more h) (end (97 ∷ []), letter, 97, 62 ∷ [], refl) (short_front _ c (omega arith)) refl)
judge_end p cs (overlong n c rest e l h b) =
    subst (λ l. Judged (60 ∷ 47 ∷ l) p) (sym e) (long_at p (60 ∷ 47 ∷ n) c rest (p + 2 + 32) (end_long p n l c rest h b) (n, l, h, b, inr refl) (omega arith))
judge_end p cs (cut l) = ends_at p (60 ∷ 47 ∷ cs) (p + 2 + length cs) (end_cut p cs l) (end cs, l, 62, [], refl) (omega arith)
judge_end p cs (full n c rest e l b) =
    subst (λ l. Judged (60 ∷ 47 ∷ l) p) (sym e)
    (⊎_elim
    (λ (x : eqb c 62 ≡ true).
    subst (λ y. Judged (60 ∷ 47 ∷ n ++ y ∷ rest) p) (sym (eqb-true c 62 x))
    (subst (λ l. Judged (60 ∷ 47 ∷ l) p) (append_assoc n (62 ∷ []) rest) (tag_here p (end n) rest l)))
    (λ (x : eqb c 62 ≡ false).
    stray_at p (60 ∷ 47 ∷ n) c rest (p + 2 + length n) (λ more. end_bad p n l c more b x) (end n, l, 62, [], refl) (λ o. true≢false (sym o.3 ∙ b)) (omega arith))
    (cases_Bool (eqb c 62)))

judge_slash : (p : ℕ) (n rest : List ℕ) → LawfulName n → Judged (60 ∷ n ++ 47 ∷ rest) p
judge_slash p n [] l =
    let k = length-append n (47 ∷ []) in
    ends_at p (60 ∷ n ++ 47 ∷ []) (p + 2 + length n) (slash_bad p n l [] refl) (empty n, l, 62, [], ap (λ r. 60 ∷ r) (sym (append_assoc n (47 ∷ []) (62 ∷ [])))) (omega arith)
judge_slash p n (d ∷ rest) l =
    let k = length-append n (47 ∷ []) in
    let assoc : (more : List ℕ) → 60 ∷ n ++ 47 ∷ [] ++ d ∷ more ≡ 60 ∷ n ++ 47 ∷ d ∷ more = λ more. ap (λ r. 60 ∷ r) (append_assoc n (47 ∷ []) (d ∷ more)) in
    ⊎_elim
    (λ (x : eqb d 62 ≡ true).
    subst (λ y. Judged (60 ∷ n ++ 47 ∷ y ∷ rest) p) (sym (eqb-true d 62 x))
    (subst (λ l. Judged (60 ∷ l) p) (append_assoc n (47 ∷ 62 ∷ []) rest) (tag_here p (empty n) rest l)))
    (λ (x : eqb d 62 ≡ false).
    subst (λ l. Judged l p) (assoc rest)
    (stray_at p (60 ∷ n ++ 47 ∷ []) d rest (p + 2 + length n) (λ more. ap (item_at p) (assoc more) ∙ slash_bad p n l (d ∷ more) x)
    (empty n, l, 62, [], ap (λ r. 60 ∷ r) (sym (append_assoc n (47 ∷ []) (62 ∷ [])))) (slash_front n d l) (omega arith)))
    (cases_Bool (eqb d 62))

judge_start : (p : ℕ) (cs : List ℕ) → eqb (get_or cs 0 0) 47 ≡ false → View cs → Judged (60 ∷ cs) p
judge_start p cs s (nothing e) = subst (λ l. Judged (60 ∷ l) p) (sym e) (ends_at p (60 ∷ []) (p + 1) refl (start (97 ∷ []), letter, 97, 62 ∷ [], refl) refl)
judge_start p cs s (nofirst c rest e h) =
    subst (λ l. Judged (60 ∷ l) p) (sym e)
    (stray_at p (60 ∷ []) c rest (p + 1) (λ more. start_nofirst p c more (ap (λ l. eqb (get_or l 0 0) 47) (sym e) ∙ s) h) (start (97 ∷ []), letter, 97, 62 ∷ [], refl) (short_front _ c (omega arith)) refl)
judge_start p cs s (overlong n c rest e l h b) =
    subst (λ l. Judged (60 ∷ l) p) (sym e) (long_at p (60 ∷ n) c rest (p + 1 + 32) (start_long p n l c rest h b) (n, l, h, b, inl refl) (omega arith))
judge_start p cs s (cut l) = ends_at p (60 ∷ cs) (p + 1 + length cs) (start_cut p cs l) (start cs, l, 62, [], refl) (omega arith)
judge_start p cs s (full n c rest e l b) =
    subst (λ l. Judged (60 ∷ l) p) (sym e)
    (⊎_elim
    (λ (x : eqb c 62 ≡ true).
    subst (λ y. Judged (60 ∷ n ++ y ∷ rest) p) (sym (eqb-true c 62 x))
    (subst (λ l. Judged (60 ∷ l) p) (append_assoc n (62 ∷ []) rest) (tag_here p (start n) rest l)))
    (λ (x : eqb c 62 ≡ false).
    ⊎_elim
    (λ (y : eqb c 47 ≡ true). subst (λ y. Judged (60 ∷ n ++ y ∷ rest) p) (sym (eqb-true c 47 y)) (judge_slash p n rest l))
    (λ (y : eqb c 47 ≡ false).
    stray_at p (60 ∷ n) c rest (p + 1 + length n) (λ more. start_bad p n l c more b x y) (start n, l, 62, [], refl) (λ o. true≢false (sym o.3 ∙ b)) (omega arith))
    (cases_Bool (eqb c 47)))
    (cases_Bool (eqb c 62)))

pub judged : (p : ℕ) (bs : List ℕ) → Judged (60 ∷ bs) p
judged p [] = judge_start p [] refl (view [])
judged p (c ∷ cs) =
    ⊎_elim
    (λ (x : eqb c 47 ≡ true). subst (λ y. Judged (60 ∷ y ∷ cs) p) (sym (eqb-true c 47 x)) (judge_end p cs (view cs)))
    (λ (x : eqb c 47 ≡ false). judge_start p (c ∷ cs) x (view (c ∷ cs)))
    (cases_Bool (eqb c 47))

err_same : (f g : Fault) → ◌≡◌ {A = Result Item Fault} (Err f) (Err g) → f ≡ g
err_same f g e = cc

pub bad_tag : (p : ℕ) (bs : List ℕ) (f : Fault) → item_at p (60 ∷ bs) ≡ Err f → BadTag (60 ∷ bs) p f
unfolding Judged
bad_tag p bs f e =
    ⊎_elim (λ j. subst (BadTag (60 ∷ bs) p) (err_same j.0 f (sym j.1 ∙ e)) j.2)
    (λ t. absurd (ok_not_err _ f (sym (tag_at p t.0 t.2 t.1) ∙ ap (item_at p) (sym t.3) ∙ e)))
    (judged p bs)

-- The other way round: there is one place only.

front_of : (ys xs u t : List ℕ) → ys ++ u ≡ xs ++ t → length ys ≤ length xs → (zs : List ℕ) × (xs ≡ ys ++ zs)
front_of ys xs u t e h =
    let same : take (length ys) xs ≡ ys = sym (take-append-le (length ys) xs t h) ∙ ap (take (length ys)) (sym e) ∙ take-append_seam ys u in
    (drop (length ys) xs, sym (take-append-drop (length ys) xs) ∙ ap (λ l. l ++ drop (length ys) xs) same)

record CutAt (bs xs : List ℕ) : Type 0 where
  opens : Opens xs
  tail : (bs ≡ xs) ⊎ ((c : ℕ) × (rest : List ℕ) × (bs ≡ xs ++ c ∷ rest) × (TagFront (xs ++ c ∷ []) → ⊥))

-- a cut after which something else still fits
too_early : (bs xs ys t : List ℕ) → CutAt bs xs → bs ≡ ys ++ t → TagFront ys → length xs < length ys → ⊥
too_early bs xs ys t a e f h =
    ⊎_elim (λ (w : bs ≡ xs). omega (arith, ap (λ l. length l) (sym w ∙ e), length-append ys t))
    (λ w.
    let c : ℕ = w.0 in
    let r = front_of (xs ++ c ∷ []) ys w.1 t (append_assoc xs (c ∷ []) w.1 ∙ sym w.2 ∙ e) (omega (arith, length-append xs (c ∷ []))) in
    w.3 (f.0, f.1, r.0 ++ f.2, f.3 ∙ ap (λ l. l ++ f.2) r.1 ∙ append_assoc (xs ++ c ∷ []) r.0 f.2))
    a.tail

opens_fits : (xs : List ℕ) → Opens xs → TagFront xs
opens_fits xs o = (o.0, o.1, o.2 ∷ o.3, o.4)

begins_with : (bs xs : List ℕ) → CutAt bs xs → (t : List ℕ) × (bs ≡ xs ++ t)
begins_with bs xs a = ⊎_elim (λ (w : bs ≡ xs). ([], w ∙ sym (append-nil xs))) (λ w. (w.0 ∷ w.1, w.2)) a.tail

one_place : (bs xs ys : List ℕ) → CutAt bs xs → CutAt bs ys → length xs ≡ length ys
one_place bs xs ys a b =
    let x = begins_with bs xs a in
    let y = begins_with bs ys b in
    ⊎_elim (λ (l : length xs < length ys). absurd (too_early bs xs ys y.0 a y.1 (opens_fits ys b.opens) l))
    (λ (l : length ys ≤ length xs).
    ⊎_elim (λ (k : length ys < length xs). absurd (too_early bs ys xs x.0 b x.1 (opens_fits xs a.opens) k))
    (λ (k : length xs ≤ length ys). omega arith) (cases_lt (length ys) (length xs)))
    (cases_lt (length xs) (length ys))

overlong_opens : (xs : List ℕ) (c : ℕ) → Overlong xs c → Opens xs
overlong_opens xs c o =
    ⊎_elim (λ (e : xs ≡ 60 ∷ o.0). subst Opens (sym e) (start o.0, o.1, 62, [], refl)) (λ (e : xs ≡ 60 ∷ 47 ∷ o.0). subst Opens (sym e) (end o.0, o.1, 62, [], refl)) o.4

overlong_unfits : (xs : List ℕ) (c : ℕ) → Overlong xs c → TagFront (xs ++ c ∷ []) → ⊥
overlong_unfits xs c o =
    ⊎_elim
    (λ (e : xs ≡ 60 ∷ o.0). unfits 0 xs c _ (λ more. ap (λ l. item_at 0 (l ++ c ∷ more)) e ∙ start_long 0 o.0 o.1 c more o.2 o.3))
    (λ (e : xs ≡ 60 ∷ 47 ∷ o.0). unfits 0 xs c _ (λ more. ap (λ l. item_at 0 (l ++ c ∷ more)) e ∙ end_long 0 o.0 o.1 c more o.2 o.3))
    o.4

cut_ends : (bs : List ℕ) → Opens bs → CutAt bs bs
cut_ends bs o = record { opens = o; tail = inl refl }

cut_stray : (bs xs : List ℕ) (c : ℕ) (rest : List ℕ) → bs ≡ xs ++ c ∷ rest → Opens xs → (TagFront (xs ++ c ∷ []) → ⊥) → CutAt bs xs
cut_stray bs xs c rest e o n = record { opens = o; tail = inr (c, rest, e, n) }

cut_long : (bs xs : List ℕ) (c : ℕ) (rest : List ℕ) → bs ≡ xs ++ c ∷ rest → Overlong xs c → CutAt bs xs
cut_long bs xs c rest e o = cut_stray bs xs c rest e (overlong_opens xs c o) (overlong_unfits xs c o)

same_front : (xs ys : List ℕ) (c d : ℕ) (r t : List ℕ) → xs ++ c ∷ r ≡ ys ++ d ∷ t → length xs ≡ length ys → Overlong ys d → Overlong xs c
same_front xs ys c d r t e h o =
    let z = front_of ys xs (d ∷ t) (c ∷ r) (sym e) (omega arith) in
    let nil : z.0 ≡ [] = nil_from_length z.0 (omega (arith, ap (λ l. length l) z.1, length-append ys z.0)) in
    let same : ys ≡ xs = sym (z.1 ∙ ap (λ l. ys ++ l) nil ∙ append-nil ys) in
    let byte : d ≡ c = sym (get_or-append_seam ys d t 0) ∙ ap (λ k. get_or (ys ++ d ∷ t) k 0) (sym h) ∙ ap (λ l. get_or l (length xs) 0) (sym e) ∙ get_or-append_seam xs c r 0 in
    subst (λ x. Overlong xs x) byte (subst (λ l. Overlong l d) same o)

longer : (bs xs : List ℕ) (c : ℕ) (rest : List ℕ) → bs ≡ xs ++ c ∷ rest → length bs ≡ length xs → ⊥
longer bs xs c rest e h = omega (arith, ap (λ l. length l) e, length-append xs (c ∷ rest))

bad_same : (bs : List ℕ) (p : ℕ) (f g : Fault) → BadTag bs p f → BadTag bs p g → f ≡ g
bad_same bs p f g (ends o e) (ends u i) = e ∙ sym i
bad_same bs p f g (ends o e) (stray ys d t x u n v i) = absurd (longer bs ys d t x (one_place bs bs ys (cut_ends bs o) (cut_stray bs ys d t x u n)))
bad_same bs p f g (ends o e) (long ys d t x u i) = absurd (longer bs ys d t x (one_place bs bs ys (cut_ends bs o) (cut_long bs ys d t x u)))
bad_same bs p f g (stray xs c r w o m q e) (ends u i) = absurd (longer bs xs c r w (one_place bs bs xs (cut_ends bs u) (cut_stray bs xs c r w o m)))
bad_same bs p f g (stray xs c r w o m q e) (stray ys d t x u n v i) =
    e ∙ ap (λ k. fault Stray (p + k)) (one_place bs xs ys (cut_stray bs xs c r w o m) (cut_stray bs ys d t x u n)) ∙ sym i
bad_same bs p f g (stray xs c r w o m q e) (long ys d t x u i) =
    absurd (q (same_front xs ys c d r t (sym w ∙ x) (one_place bs xs ys (cut_stray bs xs c r w o m) (cut_long bs ys d t x u)) u))
bad_same bs p f g (long xs c r w o e) (ends u i) = absurd (longer bs xs c r w (one_place bs bs xs (cut_ends bs u) (cut_long bs xs c r w o)))
bad_same bs p f g (long xs c r w o e) (stray ys d t x u n v i) =
    absurd (v (same_front ys xs d c t r (sym x ∙ w) (one_place bs ys xs (cut_stray bs ys d t x u n) (cut_long bs xs c r w o)) o))
bad_same bs p f g (long xs c r w o e) (long ys d t x u i) =
    e ∙ ap (λ k. fault BookNameTooLong (p + k)) (one_place bs xs ys (cut_long bs xs c r w o) (cut_long bs ys d t x u)) ∙ sym i

pub same_item : (i j : Item) → ◌≡◌ {A = Result Item Fault} (Ok i) (Ok j) → i ≡ j
same_item i j e = cc

-- no tag stands where a front is cut
not_tag : (xs rest : List ℕ) (i : Item) → Tag i → CutAt (spelling i ++ rest) xs → ⊥
not_tag xs rest i t a =
    let b = begins_with (spelling i ++ rest) xs a in
    ⊎_elim
    (λ (l : length xs < length (spelling i)). too_early (spelling i ++ rest) xs (spelling i) rest a refl (i, t, [], sym (append-nil (spelling i))) l)
    (λ (l : length (spelling i) ≤ length xs).
    let z = front_of (spelling i) xs rest b.0 b.1 l in
    let o = a.opens in
    let more : List ℕ = z.0 ++ o.2 ∷ o.3 in
    let whole : spelling o.0 ++ [] ≡ spelling i ++ more = append-nil (spelling o.0) ∙ o.4 ∙ ap (λ l. l ++ o.2 ∷ o.3) z.1 ∙ append_assoc (spelling i) z.0 (o.2 ∷ o.3) in
    let same = same_item o.0 i (sym (tag_at 0 o.0 [] o.1) ∙ ap (item_at 0) whole ∙ tag_at 0 i more t) in
    omega (arith, ap (λ (i : Item). length (spelling i)) same, ap (λ l. length l) o.4, length-append xs (o.2 ∷ o.3)))
    (cases_lt (length xs) (length (spelling i)))

not_bad : (bs rest : List ℕ) (p : ℕ) (f : Fault) (i : Item) → Tag i → bs ≡ spelling i ++ rest → BadTag bs p f → ⊥
not_bad bs rest p f i t e (ends o x) = not_tag bs rest i t (subst (λ l. CutAt l bs) e (cut_ends bs o))
not_bad bs rest p f i t e (stray xs c r w o m q x) = not_tag xs rest i t (subst (λ l. CutAt l xs) e (cut_stray bs xs c r w o m))
not_bad bs rest p f i t e (long xs c r w o x) = not_tag xs rest i t (subst (λ l. CutAt l xs) e (cut_long bs xs c r w o))

pub bad_refused : (p : ℕ) (bs : List ℕ) (f : Fault) → BadTag (60 ∷ bs) p f → item_at p (60 ∷ bs) ≡ Err f
unfolding Judged
bad_refused p bs f h =
    ⊎_elim (λ j. j.1 ∙ ap Err (bad_same (60 ∷ bs) p j.0 f j.2 h))
    (λ t. absurd (not_bad (60 ∷ bs) t.2 p f t.0 t.1 t.3 h))
    (judged p bs)
