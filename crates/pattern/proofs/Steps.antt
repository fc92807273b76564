-- How the reading of a text goes on by one byte, and by a name.
use Rattle.std.proofs.Common.{◌≡◌, ℕ, zero, suc, ◌+◌, ◌-◌, ◌<◌, ◌≤◌, min, Bool, true, false, cond, eqb, leb, List, [], ◌∷◌, ◌++◌, length, take, drop, Ok, Err, sym, refl, ap, ◌∙◌, subst, ⊎_elim, true≢false, arith}
use Rattle.std.specs.List.{prefix_len}
use Rattle.std.proofs.lemmas.List.{append_assoc, append-nil, length_push, take_min}
use Rattle.std.proofs.lemmas.Bool.{cases_lt, ne_eqb, cond-true, cond-false, le-leb, lt-leb}
use Rattle.markup.specs.declared.fault.Fault.{Fault}
use Rattle.markup.specs.declared.fault.Refusal.TheVariants.{Misfit, TooManySteps, PatternNameTooLong}
use Rattle.markup.specs.Name.{name_first, name_byte}
use Rattle.markup.proofs.Names.{first_is_byte}
use Rattle.pattern.specs.declared.node.Edge.{Edge}
use Rattle.pattern.specs.declared.node.Edge.TheVariants.{Child, Descendant}
use Rattle.pattern.specs.declared.node.Mark.TheVariants.{Top, Any}
use Rattle.pattern.specs.Spot.{Spot}
use Rattle.pattern.specs.Reading.{State, edge, bracket, lead, inside, slash, dot, dot_slash, Move, stop, refused, limits, to, settle, start, next_in, finish, feed, run_in}
use Rattle.pattern.specs.Moves.{begins_name, reads_on, Accepted, Passed, Led, Edged}

-- the byte b is passed over
pub taken : (x y : Spot) (b : ℕ) → Accepted b x y true → (s : State) → reads_on x s ≡ feed x.place (next_in limits s s.phase b) (reads_on y)
unfolding run_in
taken x y b a s =
    ap (run_in limits s x.place) a.0
    ∙ ap (λ k. feed x.place (next_in limits s s.phase b) (λ t. run_in limits t k y.rest)) (sym a.1)

pub shorter : (x y : Spot) (b : ℕ) → Accepted b x y true → length y.rest < length x.rest
shorter x y b a = omega (arith, ap length a.0)

-- where the byte c does not come next, a phase that asks only about c goes on as another does
pub other : (s u : State) (c : ℕ) (m : Move) (k : ℕ) (bs : List ℕ)
    → ((more : List ℕ) × (bs ≡ c ∷ more) → ⊥)
    → ((b : ℕ) → next_in limits s s.phase b ≡ cond (eqb b c) m (next_in limits u u.phase b))
    → finish s s.phase k ≡ finish u u.phase k
    → run_in limits s k bs ≡ run_in limits u k bs
unfolding run_in
other s u c m k [] not-next by end = end
other s u c m k (b ∷ bs) not-next by end =
    ap (λ v. feed k v (λ t. run_in limits t (k + 1) bs)) (by b ∙ cond-false _ _ _ (ne_eqb b c (λ e. not-next (bs, ap (λ v. v ∷ bs) e))))

-- and one that asks for c refuses
pub stray : (s : State) (c : ℕ) (m : Move) (k : ℕ) (bs : List ℕ)
    → ((more : List ℕ) × (bs ≡ c ∷ more) → ⊥)
    → ((b : ℕ) → next_in limits s s.phase b ≡ cond (eqb b c) m (stop Misfit))
    → finish s s.phase k ≡ refused Misfit k
    → run_in limits s k bs ≡ refused Misfit k
unfolding run_in
stray s c m k [] not-next by end = end
stray s c m k (b ∷ bs) not-next by end =
    ap (λ v. feed k v (λ t. run_in limits t (k + 1) bs)) (by b ∙ cond-false _ _ _ (ne_eqb b c (λ e. not-next (bs, ap (λ v. v ∷ bs) e))))

module _ (x y : Spot) where
  -- the lead
  pub lead_not : (f : Fault) → Passed {A = Unit {0}} 47 x y (Err f) → Led x y (Err f)
  lead_not f a = stray start 47 _ x.place x.rest a.0 (λ b. refl) refl ∙ ap Err (sym a.1)

  pub lead_any : (z : Spot) → Accepted 47 x y true → Accepted 47 y z true → Led x z (Ok Any)
  lead_any z a b = taken x y 47 a start ∙ taken y z 47 b (to start lead)

  pub lead_top : (z : Spot) → Accepted 47 x y true → Accepted 47 y z false → Led x z (Ok Top)
  lead_top z a b =
      subst (λ v. Led x v (Ok Top)) (sym b.1)
      (taken x y 47 a start ∙ other (to start lead) (record { mark = Top; nodes = []; holder = 0; brackets = []; phase = edge Child }) 47 _ y.place y.rest b.0 (λ c. refl) refl)

  -- an edge after its first `/`
  pub edge_two : Accepted 47 x y true → Edged slash x y (Ok Descendant)
  edge_two a = (omega (arith, shorter x y 47 a), λ s. taken x y 47 a (to s slash))

  pub edge_one : Accepted 47 x y false → Edged slash x y (Ok Child)
  edge_one a =
      subst (λ v. Edged slash x v (Ok Child)) (sym a.1)
      (omega arith, λ s. other (to s slash) (to s (edge Child)) 47 _ x.place x.rest a.0 (λ b. refl) refl)

  -- what follows `[`
  pub inner_none : Accepted 46 x y false → Edged bracket x y (Ok Child)
  inner_none a =
      subst (λ v. Edged bracket x v (Ok Child)) (sym a.1)
      (omega arith, λ s. other (to s bracket) (to s (edge Child)) 46 _ x.place x.rest a.0 (λ b. refl) refl)

  module _ (z : Spot) (a : Accepted 46 x y true) where
    pub inner_first : (f : Fault) → Passed {A = Unit {0}} 47 y z (Err f) → Edged bracket x z (Err f)
    inner_first f b s =
        taken x y 46 a (to s bracket) ∙ stray (to s dot) 47 _ y.place y.rest b.0 (λ c. refl) refl ∙ ap Err (sym b.1)

    module _ (w : Spot) (b : Accepted 47 y z true) where
      pub inner_second : (f : Fault) → Passed {A = Unit {0}} 47 z w (Err f) → Edged bracket x w (Err f)
      inner_second f d s =
          taken x y 46 a (to s bracket)
          ∙ taken y z 47 b (to s dot)
          ∙ stray (to s dot_slash) 47 _ z.place z.rest d.0 (λ c. refl) refl
          ∙ ap Err (sym d.1)

      pub inner_two : Accepted 47 z w true → Edged bracket x w (Ok Descendant)
      inner_two d = (
        omega (arith, shorter x y 46 a, shorter y z 47 b, shorter z w 47 d),
        λ s. taken x y 46 a (to s bracket) ∙ taken y z 47 b (to s dot) ∙ taken z w 47 d (to s dot_slash),
      )

-- a run of no byte, and of one more
run_none : (v : Bool) (n : ℕ) → cond v (1 + n) 0 ≡ 0 → v ≡ false
run_none true n e = absurd (omega (arith, e))
run_none false n e = refl

run_more : (v : Bool) (n m : ℕ) → cond v (1 + n) 0 ≡ suc m → (v ≡ true) × (n ≡ m)
run_more true n m e = (refl, omega (arith, e))
run_more false n m e = absurd (omega (arith, e))

module _ (s : State) (e : Edge) where
  -- a name that has the bytes a, and one more, for which there is room
  pub name_more : (a : List ℕ) (k b : ℕ) (bs : List ℕ) → name_byte b ≡ true → length a < 32 → run_in limits (to s (inside e a)) k (b ∷ bs) ≡ run_in limits (to s (inside e (a ++ b ∷ []))) (k + 1) bs
  unfolding run_in
  name_more a k b bs is few =
      ap (λ v. feed k v (λ t. run_in limits t (k + 1) bs)) (cond-true _ _ _ is ∙ cond-false _ _ _ (lt-leb 32 (length a) few))

  -- and for which there is none
  pub name_over : (a : List ℕ) (k b : ℕ) (bs : List ℕ) → name_byte b ≡ true → 32 ≤ length a → run_in limits (to s (inside e a)) k (b ∷ bs) ≡ refused PatternNameTooLong k
  unfolding run_in
  name_over a k b bs m l = ap (λ v. feed k v (λ t. run_in limits t (k + 1) bs)) (cond-true _ _ _ m ∙ cond-true _ _ _ (le-leb 32 (length a) l))

  -- the rest of a name, which n bytes are, and of one that is too long
  name_rest : (bs : List ℕ) (n : ℕ) (a : List ℕ) (k : ℕ) → prefix_len name_byte bs ≡ n → length a + n ≤ 32
      → run_in limits (to s (inside e a)) k bs ≡ run_in limits (settle s e (a ++ take n bs)) (k + n) (drop n bs)
  unfolding run_in
  name_rest [] zero a k r few = let z : k ≡ k + 0 = omega arith in λ i. run_in limits (settle s e (sym (append-nil a) i)) (z i) []
  name_rest [] (suc n) a k r few = absurd (omega (arith, r))
  name_rest (b ∷ bs) zero a k r few =
      let z : k ≡ k + 0 = omega arith in
      ap (λ v. feed k v (λ t. run_in limits t (k + 1) bs)) (cond-false _ _ _ (run_none _ _ r))
      ∙ (λ i. run_in limits (settle s e (sym (append-nil a) i)) (z i) (b ∷ bs))
  name_rest (b ∷ bs) (suc n) a k r few =
      let m = run_more (name_byte b) _ n r in
      let z : k + 1 + n ≡ k + suc n = omega arith in
      name_more a k b bs m.0 (omega (arith, few))
      ∙ name_rest bs n (a ++ b ∷ []) (k + 1) m.1 (omega (arith, few, length_push a b))
      ∙ (λ i. run_in limits (settle s e (append_assoc a (b ∷ []) (take n bs) i)) (z i) (drop n bs))

  pub name_long : (bs : List ℕ) (n : ℕ) (a : List ℕ) (k : ℕ) → prefix_len name_byte bs ≡ n → length a ≤ 32 → 32 < length a + n
      → run_in limits (to s (inside e a)) k bs ≡ refused PatternNameTooLong (k + (32 - length a))
  unfolding run_in
  name_long [] n a k r few many = absurd (omega (arith, r, few, many))
  name_long (b ∷ bs) zero a k r few many = absurd (omega (arith, few, many))
  name_long (b ∷ bs) (suc n) a k r few many =
      let m = run_more (name_byte b) _ n r in
      ⊎_elim
      (λ (l : length a < 32).
      let z : k + 1 + (32 - length (a ++ b ∷ [])) ≡ k + (32 - length a) = omega (arith, l, length_push a b) in
      name_more a k b bs m.0 l
      ∙ name_long bs n (a ++ b ∷ []) (k + 1) m.1 (omega (arith, l, length_push a b)) (omega (arith, many, length_push a b))
      ∙ ap (refused PatternNameTooLong) z)
      (λ (l : 32 ≤ length a).
      let z : k ≡ k + (32 - length a) = omega (arith, l) in
      name_over a k b bs m.0 l ∙ ap (refused PatternNameTooLong) z)
      (cases_lt (length a) 32)

  -- after an edge: no name, a name for which there is no room, one that is too long, and one that is not
  pub name_not : (k : ℕ) (bs : List ℕ) → begins_name bs ≡ false → run_in limits (to s (edge e)) k bs ≡ refused Misfit k
  unfolding run_in
  name_not k [] b = refl
  name_not k (c ∷ cs) b = ap (λ v. feed k v (λ t. run_in limits t (k + 1) cs)) (cond-false _ _ _ b)

  pub name_full : (k : ℕ) (bs : List ℕ) → begins_name bs ≡ true → leb 16 (length s.nodes) ≡ true → run_in limits (to s (edge e)) k bs ≡ refused TooManySteps k
  unfolding run_in
  name_full k [] b full = absurd (true≢false (sym b))
  name_full k (c ∷ cs) b full = ap (λ v. feed k v (λ t. run_in limits t (k + 1) cs)) (cond-true _ _ _ b ∙ cond-true _ _ _ full)

  name_first_byte : (k c : ℕ) (cs : List ℕ) → name_first c ≡ true → leb 16 (length s.nodes) ≡ false → run_in limits (to s (edge e)) k (c ∷ cs) ≡ run_in limits (to s (inside e (c ∷ []))) (k + 1) cs
  unfolding run_in
  name_first_byte k c cs b room = ap (λ v. feed k v (λ t. run_in limits t (k + 1) cs)) (cond-true _ _ _ b ∙ cond-false _ _ _ room)

  pub name_too_long : (k : ℕ) (bs : List ℕ) (n : ℕ) → begins_name bs ≡ true → leb 16 (length s.nodes) ≡ false → prefix_len name_byte bs ≡ n → 32 < n
      → run_in limits (to s (edge e)) k bs ≡ refused PatternNameTooLong (k + 32)
  name_too_long k [] n b room r many = absurd (true≢false (sym b))
  name_too_long k (c ∷ cs) zero b room r many = absurd (omega (arith, many))
  name_too_long k (c ∷ cs) (suc n) b room r many =
      let z : k + 1 + (32 - 1) ≡ k + 32 = omega arith in
      name_first_byte k c cs b room
      ∙ name_long cs n (c ∷ []) (k + 1) (run_more (name_byte c) _ n r).1 (omega arith) (omega (arith, many))
      ∙ ap (refused PatternNameTooLong) z

  pub name_read : (k : ℕ) (bs : List ℕ) (n : ℕ) → begins_name bs ≡ true → leb 16 (length s.nodes) ≡ false → prefix_len name_byte bs ≡ n → n ≤ 32
      → run_in limits (to s (edge e)) k bs ≡ run_in limits (settle s e (take n bs)) (k + n) (drop n bs)
  name_read k [] n b room r few = absurd (true≢false (sym b))
  name_read k (c ∷ cs) zero b room r few = absurd (true≢false (sym (first_is_byte c b) ∙ run_none _ _ r))
  name_read k (c ∷ cs) (suc n) b room r few =
      let z : k + 1 + n ≡ k + suc n = omega arith in
      name_first_byte k c cs b room
      ∙ name_rest cs n (c ∷ []) (k + 1) (run_more (name_byte c) _ n r).1 (omega (arith, few))
      ∙ (λ i. run_in limits (settle s e (c ∷ take n cs)) (z i) (drop n cs))

-- within the first m bytes a run is not longer, and where it stops there it is the whole of it
run_step : (v : Bool) (m n k : ℕ) → (n ≤ k) × (n < m → k ≡ n) → (cond v (1 + n) 0 ≤ cond v (1 + k) 0) × (cond v (1 + n) 0 < suc m → cond v (1 + k) 0 ≡ cond v (1 + n) 0)
run_step true m n k h = (omega (arith, h.0), λ less. ap (λ j. 1 + j) (h.1 (omega (arith, less))))
run_step false m n k h = (omega arith, λ less. refl)

run_within : (m : ℕ) (bs : List ℕ) → (prefix_len name_byte (take m bs) ≤ prefix_len name_byte bs)
    × (prefix_len name_byte (take m bs) < m → prefix_len name_byte bs ≡ prefix_len name_byte (take m bs))
run_within zero bs = (omega arith, λ less. absurd (omega (arith, less)))
run_within (suc m) [] = (omega arith, λ less. refl)
run_within (suc m) (b ∷ bs) = run_step (name_byte b) m _ _ (run_within m bs)

-- the bytes of a name, where those behind its first one are counted within the first 33
pub name_run : (bs : List ℕ) (most n : ℕ) → begins_name bs ≡ true → most ≡ min (length bs) 33 → n ≡ prefix_len name_byte (take (most - 1) (drop 1 bs))
    → (32 < 1 + n → 32 < prefix_len name_byte bs) × (1 + n ≤ 32 → prefix_len name_byte bs ≡ 1 + n)
name_run [] most n b many r = absurd (true≢false (sym b))
name_run (c ∷ cs) most n b many r =
    let cut : most - 1 ≡ min 32 (length cs) = omega (arith, many) in
    let is : n ≡ prefix_len name_byte (take 32 cs) = r ∙ ap (λ k. prefix_len name_byte (take k cs)) cut ∙ ap (prefix_len name_byte) (take_min 32 cs) in
    let whole : prefix_len name_byte (c ∷ cs) ≡ 1 + prefix_len name_byte cs = ap (λ v. cond v (1 + prefix_len name_byte cs) 0) (first_is_byte c b) in
    let w = run_within 32 cs in
    (λ long. omega (arith, whole, is, w.0, long), λ short. whole ∙ ap (λ j. 1 + j) (w.1 (omega (arith, is, short)) ∙ sym is))

-- a name has a byte
pub name_some : (bs : List ℕ) → begins_name bs ≡ true → 0 < prefix_len name_byte bs
name_some [] b = absurd (true≢false (sym b))
name_some (c ∷ cs) b = omega (arith, ap (λ v. cond v (1 + prefix_len name_byte cs) 0) (first_is_byte c b))
