-- Members by their numbers, and the first that is left of a list.
use Rattle.std.proofs.Common.{◌≡◌, ℕ, ◌+◌, ◌<◌, ◌≤◌, Bool, true, false, cond, ltb, List, [], ◌∷◌, filter, length, get_or, replicate, sym, refl, ap, ◌∙◌, arith}
use Rattle.std.proofs.Math.Path.{fun_ext}
use Rattle.std.proofs.lemmas.Bool.{cond_both, ltb-true}
use Rattle.std.proofs.lemmas.List.{length-map, get_or-map, at_drop_more, at_drop_all, get_or-replicate}
use Rattle.stream.specs.declared.region.Region.{Region}
use Rattle.stream.specs.Sets.{region_of}
use Rattle.test_sets.specs.declared.member.Member.{Member}
use Rattle.test_sets.specs.Members.{regions, region_at, is_in, listed, lists_from, lists_of}

pub region_here : (ms : List Member) (k : ℕ) (d : Member) → k < length ms → region_of (get_or ms k d).region ≡ region_at ms k
region_here ms k d h =
    let r : Region = record { start = 0; «end» = 0; level = 0 } in
    sym (get_or-map region_of (regions ms) k r (record { start = 0; end = 0; level = 0 }) (omega (arith, length-map ms (λ (m : Member). m.region))) ∙ ap region_of (get_or-map (λ (m : Member). m.region) ms k d r h))

-- A list from member k on.
module _ (ms : List Member) (i k : ℕ) (d : Member) (h : k < length ms) where
  pub listed_here : is_in i (get_or ms k d) ≡ true → listed ms i k ≡ (get_or ms k d).region ∷ listed ms i (k + 1)
  listed_here b = at_drop_more (λ xs. regions (filter (is_in i) xs)) ms k d h ∙ rw b refl

  pub listed_over : is_in i (get_or ms k d) ≡ false → listed ms i k ≡ listed ms i (k + 1)
  listed_over b = at_drop_more (λ xs. regions (filter (is_in i) xs)) ms k d h ∙ rw b refl

pub listed_past : (ms : List Member) (i k : ℕ) → length ms ≤ k → listed ms i k ≡ []
listed_past ms i k h = at_drop_all (λ xs. regions (filter (is_in i) xs)) ms k h

-- without a member that is left a list is empty
pub none_left : (ms : List Member) (heads : List ℕ) (i : ℕ) → listed ms i (get_or heads i 0) ≡ [] → lists_from ms heads i ≡ []
none_left ms heads i e = cond_both (ltb i 16) _ _ (λ xs. xs ≡ []) (λ _. e) (λ _. refl)

-- where nothing was taken the lists have all that are in them
pub all_left : (ms : List Member) → lists_from ms (replicate 16 0) ≡ lists_of ms
all_left ms = fun_ext (λ i. go i (ltb i 16) refl)
  where
    go : (i : ℕ) (b : Bool) → ltb i 16 ≡ b → cond b (listed ms i (get_or (replicate 16 0) i 0)) [] ≡ cond b (listed ms i 0) []
    go i true t = ap (listed ms i) (get_or-replicate 16 i 0 0 (ltb-true i 16 t))
    go i false t = refl
