-- Where a refused text ceases to be a pattern: it is compared with the reading of the same bytes within wider limits.
use Rattle.std.proofs.Common.{◌≡◌, ℕ, ◌+◌, ◌<◌, ◌≤◌, Bool, true, false, cond, eqb, leb, List, [], ◌∷◌, ◌++◌, map, length, take, Ok, Err, Result, sym, refl, ap, ◌∙◌, subst, add-zero, arith}
use Rattle.std.proofs.lemmas.List.{append_assoc, append-nil, length-append, length_push}
use Rattle.std.proofs.lemmas.Bool.{cond-false, lt-leb, leb-false}
use Rattle.std.proofs.Math.Seq.{take-append_seam}
use Rattle.markup.specs.declared.fault.Fault.{Fault}
use Rattle.markup.specs.declared.fault.Refusal.{Refusal}
use Rattle.markup.specs.declared.fault.Refusal.TheVariants.{Misfit, TooManySteps, PatternNameTooLong, PatternTooLong}
use Rattle.markup.specs.Faults.{fault}
use Rattle.markup.specs.Number.{number_of}
use Rattle.markup.specs.Name.{name_first, name_byte, NameWithin}
use Rattle.pattern.specs.declared.node.Edge.{Edge}
use Rattle.pattern.specs.declared.node.Edge.TheVariants.{Child, Descendant}
use Rattle.pattern.specs.declared.node.Mark.{Mark}
use Rattle.pattern.specs.declared.node.Mark.TheVariants.{Top}
use Rattle.pattern.specs.Shape.{Vertex, Shape, node, shape}
use Rattle.pattern.specs.Reading.{State, Phase, nothing, lead, edge, slash, bracket, dot, dot_slash, inside, step, Limits, limits, Move, go, stop, granted, refused, marked, settle, next_in, beyond_in, begin_in, close, complete, finish, feed, run_in, start, read_pattern}
use Rattle.pattern.specs.Grammar.{Derives}
use Rattle.pattern.specs.Places.{Pattern, Begins, BeginsIn, MisfitIsWhereNoPatternGoesOn, TooManyIsWhereMoreWouldFit, NameTooLongIsWhereLongerWouldFit}
use Rattle.pattern.proofs.Tails.{Tail, end, onward, branch, size, Within, DerivesTail}
use Rattle.pattern.proofs.Syntax.{to_derives, from_derives}
use Rattle.pattern.proofs.Sound.{at, sound_in}
use Rattle.pattern.proofs.Exact.{exact_in, no_grant}

-- the three refusals are apart
misfit_many : Misfit ≡ TooManySteps → ⊥
misfit_many e = omega (arith, ap number_of e)

misfit_name : Misfit ≡ PatternNameTooLong → ⊥
misfit_name e = omega (arith, ap number_of e)

many_name : TooManySteps ≡ PatternNameTooLong → ⊥
many_name e = omega (arith, ap number_of e)

record Wider (l l' : Limits) : Type 0 where
  names : l.names ≤ l'.names
  brackets : l.brackets ≤ l'.brackets
  bytes : l.bytes ≤ l'.bytes

abbrev InName : Phase → Type 0
InName nothing = ⊥
InName lead = ⊥
InName (edge e) = ⊥
InName slash = ⊥
InName bracket = ⊥
InName dot = ⊥
InName dot_slash = ⊥
InName (inside e a) = Unit {0}
InName step = ⊥

abbrev name_len : Phase → ℕ
name_len nothing = 0
name_len lead = 0
name_len (edge e) = 0
name_len slash = 0
name_len bracket = 0
name_len dot = 0
name_len dot_slash = 0
name_len (inside e a) = length a
name_len step = 0

-- room for a name and a bracket
record Room (l : Limits) (s : State) : Type 0 where
  names : length s.nodes < l.names
  brackets : length s.brackets < l.brackets

-- What the byte b does within some limits (x) and within wider ones (y), in the phase p of the state s: where it was taken it is taken
-- alike, where it was a misfit it stays one, and where a limit was met it is taken if there is room.
abbrev AgreeAt : Limits → State → Phase → Move → Move → Type 0
AgreeAt l s p (go u) y = y ≡ go u
AgreeAt l s p (stop r) y =
    (r ≡ Misfit → y ≡ stop Misfit)
    × (r ≡ TooManySteps → Room l s → (u : State) × (y ≡ go u) × (length u.nodes ≤ length s.nodes + 1))
    × (r ≡ PatternNameTooLong → InName p × (name_len p < l.bytes → (u : State) × (y ≡ go u) × InName u.phase))

record Agree (l : Limits) (s : State) (p : Phase) (x y : Move) : Type 0 where
  so : AgreeAt l s p x y

wider : (a a' n : ℕ) → a ≤ a' → leb a n ≡ false → leb a' n ≡ false
wider a a' n le e = lt-leb a' n (omega (arith, leb-false a n e))

module _ {l : Limits} {s : State} {p : Phase} where
  agree_cond : (b : Bool) (x y x' y' : Move) → Agree l s p x x' → Agree l s p y y' → Agree l s p (cond b x y) (cond b x' y')
  agree_cond true x y x' y' f g = f
  agree_cond false x y x' y' f g = g

  goes : (u : State) → Agree l s p (go u) (go u)
  goes u = record { so = refl }

  strays : Agree l s p (stop Misfit) (stop Misfit)
  strays = record { so = (λ _. refl, λ e. absurd (misfit_many e), λ e. absurd (misfit_name e)) }

  agree_many : (b b' : Bool) (x : State) → length x.nodes ≤ length s.nodes + 1 → (b ≡ false → b' ≡ false) → (Room l s → b' ≡ false) → Agree l s p (cond b (stop TooManySteps) (go x)) (cond b' (stop TooManySteps) (go x))
  agree_many true b' x le w r = record { so = (λ e. absurd (misfit_many (sym e)), λ _ room. (x, cond-false _ _ _ (r room), le), λ e. absurd (many_name e)) }
  agree_many false b' x le w r = record { so = cond-false _ _ _ (w refl) }

  agree_name : (b b' : Bool) (x : State) → InName p → InName x.phase → (b ≡ false → b' ≡ false) → (name_len p < l.bytes → b' ≡ false) → Agree l s p (cond b (stop PatternNameTooLong) (go x)) (cond b' (stop PatternNameTooLong) (go x))
  agree_name true b' x now' then' w r = record { so = (λ e. absurd (misfit_name (sym e)), λ e. absurd (many_name (sym e)), λ _. (now', λ room. (x, cond-false _ _ _ (r room), then'))) }
  agree_name false b' x now' then' w r = record { so = cond-false _ _ _ (w refl) }

  agree_close : (u : State) (hs : List ℕ) → Agree l s p (close u hs) (close u hs)
  agree_close u [] = strays
  agree_close u (h ∷ hs) = goes _

module _ (l l' : Limits) (w : Wider l l') where
  agree_begin : (s : State) (p : Phase) (m : Mark) (q : Phase) (e : Edge) (b : ℕ) → Agree l' s p (begin_in l (marked s m q) e b) (begin_in l' (marked s m q) e b)
  agree_begin s p m q e b = agree_cond (name_first b) _ _ _ _ (agree_many (leb l.names (length s.nodes)) (leb l'.names (length s.nodes)) _ (omega arith) (wider l.names l'.names (length s.nodes) w.names) (λ x. lt-leb _ _ x.names)) strays

  agree_beyond : (s : State) (p : Phase) (u : State) (b : ℕ) → length u.nodes ≤ length s.nodes + 1 → u.brackets ≡ s.brackets → Agree l' s p (beyond_in l u b) (beyond_in l' u b)
  agree_beyond s p u b le same =
      agree_cond (eqb b 47) _ _ _ _ (goes _)
      (agree_cond (eqb b 91) _ _ _ _ (agree_many (leb l.brackets (length u.brackets)) (leb l'.brackets (length u.brackets)) _ le (wider l.brackets l'.brackets (length u.brackets) w.brackets) (λ x. lt-leb _ _ (subst (λ y. length y < l'.brackets) (sym same) x.brackets)))
      (agree_cond (eqb b 93) _ _ _ _ (agree_close u u.brackets) strays))

  agree : (s : State) (p : Phase) (b : ℕ) → Agree l' s p (next_in l s p b) (next_in l' s p b)
  agree s nothing b = agree_cond (eqb b 47) _ _ _ _ (goes _) strays
  agree s lead b = agree_cond (eqb b 47) _ _ _ _ (goes _) (agree_begin s lead Top lead Child b)
  agree s (edge e) b = agree_begin s (edge e) s.mark s.phase e b
  agree s slash b = agree_cond (eqb b 47) _ _ _ _ (goes _) (agree_begin s slash s.mark s.phase Child b)
  agree s bracket b = agree_cond (eqb b 46) _ _ _ _ (goes _) (agree_begin s bracket s.mark s.phase Child b)
  agree s dot b = agree_cond (eqb b 47) _ _ _ _ (goes _) strays
  agree s dot_slash b = agree_cond (eqb b 47) _ _ _ _ (goes _) strays
  agree s (inside e a) b =
      agree_cond (name_byte b) _ _ _ _ (agree_name (leb l.bytes (length a)) (leb l'.bytes (length a)) _ tt tt (wider l.bytes l'.bytes (length a) w.bytes) (λ x. lt-leb _ _ x))
      (agree_beyond s (inside e a) (settle s e a) b (omega (arith, length_push s.nodes (node a s.holder e))) refl)
  agree s step b = agree_beyond s step s b (omega arith) refl

-- Where a text was refused, at place j: the bytes before, the state there, and what is left.
abbrev Stops : State → ℕ → List ℕ → Refusal → Type 0
Stops s j [] r = finish s s.phase j ≡ refused r j
Stops s j (b ∷ bs) r = next_in limits s s.phase b ≡ stop r

record Stopped (s : State) (i : ℕ) (bs : List ℕ) (r : Refusal) (j : ℕ) : Type 0 where
  pre : List ℕ
  post : List ℕ
  state : State
  parts : bs ≡ pre ++ post
  number : j ≡ i + length pre
  along : (l : Limits) → Wider limits l → (more : List ℕ) → run_in l s i (pre ++ more) ≡ run_in l state j more
  there : Stops state j post r

-- a refusal's parts
fault_of : Fault → Result Shape Fault → Fault
fault_of d (Ok w) = d
fault_of d (Err f) = f

same_fault : (r r' : Refusal) (k k' : ℕ) → refused r k ≡ refused r' k' → (r ≡ r') × (k ≡ k')
unfolding fault_of
same_fault r r' k k' e = (ap (λ x. (fault_of (fault r k) x).refusal) e, ap (λ x. (fault_of (fault r k) x).place) e)

complete_place : (s : State) (hs : List ℕ) (k : ℕ) (r : Refusal) (j : ℕ) → complete s hs k ≡ refused r j → (Misfit ≡ r) × (k ≡ j)
complete_place s [] k r j e = no_grant (sym e)
complete_place s (h ∷ hs) k r j e = same_fault _ _ _ _ e

finish_place : (s : State) (p : Phase) (k : ℕ) (r : Refusal) (j : ℕ) → finish s p k ≡ refused r j → (Misfit ≡ r) × (k ≡ j)
finish_place s nothing k r j e = same_fault _ _ _ _ e
finish_place s lead k r j e = same_fault _ _ _ _ e
finish_place s (edge x) k r j e = same_fault _ _ _ _ e
finish_place s slash k r j e = same_fault _ _ _ _ e
finish_place s bracket k r j e = same_fault _ _ _ _ e
finish_place s dot k r j e = same_fault _ _ _ _ e
finish_place s dot_slash k r j e = same_fault _ _ _ _ e
finish_place s (inside x a) k r j e = complete_place (settle s x a) s.brackets k r j e
finish_place s step k r j e = complete_place s s.brackets k r j e

by_move : (s : State) (i b : ℕ) (bs : List ℕ) (r : Refusal) (j : ℕ) (m : Move) → next_in limits s s.phase b ≡ m → feed i m (λ t. run_in limits t (i + 1) bs) ≡ refused r j
    → ((t : State) → run_in limits t (i + 1) bs ≡ refused r j → Stopped t (i + 1) bs r j) → Stopped s i (b ∷ bs) r j
unfolding run_in
by_move s i b bs r j (go t) e x ih =
    let q = ih t x in
    record {
      pre = b ∷ q.pre;
      post = q.post;
      state = q.state;
      parts = ap (λ y. b ∷ y) q.parts;
      number = omega (arith, q.number);
      along = λ l w more. ap (λ y. feed i y (λ u. run_in l u (i + 1) (q.pre ++ more))) (subst (λ y. AgreeAt l s s.phase y (next_in l s s.phase b)) e (agree limits l w s s.phase b).so) ∙ q.along l w more;
      there = q.there;
    }
by_move s i b bs r j (stop g) e x ih =
    let same = same_fault g r i j x in
    record { pre = []; post = b ∷ bs; state = s; parts = refl; number = sym same.1 ∙ sym (add-zero i); along = λ l w more. ap (λ y. run_in l s y more) same.1; there = e ∙ ap stop same.0 }

stopped : (bs : List ℕ) (s : State) (i : ℕ) (r : Refusal) (j : ℕ) → run_in limits s i bs ≡ refused r j → Stopped s i bs r j
unfolding run_in
stopped [] s i r j x =
    let same = (finish_place s s.phase i r j x).1 in
    record { pre = []; post = []; state = s; parts = refl; number = sym same ∙ sym (add-zero i); along = λ l w more. ap (λ y. run_in l s y more) same; there = ap (λ y. finish s s.phase y) (sym same) ∙ x }
stopped (b ∷ bs) s i r j x = by_move s i b bs r j (next_in limits s s.phase b) refl x (λ t y. stopped bs t (i + 1) r j y)

-- Every state can be completed where there is room for a name: all brackets are closed.
closers : List ℕ → List ℕ
closers hs = map (λ _. 93) hs

module _ (l : Limits) where
  closed : (m : Mark) (ns : List Vertex) (h : ℕ) (hs : List ℕ) (i : ℕ) → run_in l (at m ns h hs step) i (closers hs) ≡ granted m ns
  unfolding run_in closers
  closed m ns h [] i = refl
  closed m ns h (g ∷ hs) i = closed m ns g hs (i + 1)

  named : (m : Mark) (ns : List Vertex) (h : ℕ) (hs : List ℕ) (e : Edge) (a : List ℕ) (i : ℕ) → run_in l (at m ns h hs (inside e a)) i (closers hs) ≡ granted m (ns ++ node a h e ∷ [])
  unfolding run_in closers
  named m ns h [] e a i = refl
  named m ns h (g ∷ hs) e a i = closed m (ns ++ node a h e ∷ []) g hs (i + 1)

  abbrev Completes : Mark → List Vertex → ℕ → List ℕ → Phase → Type 0
  Completes m ns h hs p = (w : List ℕ) × (m' : Mark) × (vs : List Vertex) × ((i : ℕ) → run_in l (at m ns h hs p) i w ≡ granted m' vs)

  -- a name begins with `a`
  begun : (m : Mark) (ns : List Vertex) (h : ℕ) (hs : List ℕ) (e : Edge) → length ns < l.names → (i : ℕ) → feed i (begin_in l (at m ns h hs step) e 97) (λ u. run_in l u (i + 1) (closers hs)) ≡ granted m (ns ++ node (97 ∷ []) h e ∷ [])
  begun m ns h hs e few i = ap (λ y. feed i y (λ u. run_in l u (i + 1) (closers hs))) (cond-false _ _ _ (lt-leb _ _ few)) ∙ named m ns h hs e (97 ∷ []) (i + 1)

  completes : (p : Phase) (m : Mark) (ns : List Vertex) (h : ℕ) (hs : List ℕ) → length ns < l.names → Completes m ns h hs p
  unfolding run_in
  completes nothing m ns h hs few = (47 ∷ 97 ∷ closers hs, Top, ns ++ node (97 ∷ []) h Child ∷ [], λ i. begun Top ns h hs Child few (i + 1))
  completes lead m ns h hs few = (97 ∷ closers hs, Top, ns ++ node (97 ∷ []) h Child ∷ [], begun Top ns h hs Child few)
  completes (edge e) m ns h hs few = (97 ∷ closers hs, m, ns ++ node (97 ∷ []) h e ∷ [], begun m ns h hs e few)
  completes slash m ns h hs few = (97 ∷ closers hs, m, ns ++ node (97 ∷ []) h Child ∷ [], begun m ns h hs Child few)
  completes bracket m ns h hs few = (97 ∷ closers hs, m, ns ++ node (97 ∷ []) h Child ∷ [], begun m ns h hs Child few)
  completes dot m ns h hs few = (47 ∷ 47 ∷ 97 ∷ closers hs, m, ns ++ node (97 ∷ []) h Descendant ∷ [], λ i. begun m ns h hs Descendant few (i + 1 + 1))
  completes dot_slash m ns h hs few = (47 ∷ 97 ∷ closers hs, m, ns ++ node (97 ∷ []) h Descendant ∷ [], λ i. begun m ns h hs Descendant few (i + 1))
  completes (inside e a) m ns h hs few = (closers hs, m, ns ++ node a h e ∷ [], λ i. named m ns h hs e a i)
  completes step m ns h hs few = (closers hs, m, ns, λ i. closed m ns h hs i)

  in_name_completes : (p : Phase) (m : Mark) (ns : List Vertex) (h : ℕ) (hs : List ℕ) → InName p → Completes m ns h hs p
  in_name_completes nothing m ns h hs i = absurd i
  in_name_completes lead m ns h hs i = absurd i
  in_name_completes (edge e) m ns h hs i = absurd i
  in_name_completes slash m ns h hs i = absurd i
  in_name_completes bracket m ns h hs i = absurd i
  in_name_completes dot m ns h hs i = absurd i
  in_name_completes dot_slash m ns h hs i = absurd i
  in_name_completes (inside e a) m ns h hs _ = (closers hs, m, ns ++ node a h e ∷ [], λ i. named m ns h hs e a i)
  in_name_completes step m ns h hs i = absurd i

-- wider limits
name_wider : (a b : ℕ) (n : List ℕ) → a ≤ b → NameWithin a n → NameWithin b n
name_wider a b n le ok = record { some = ok.some; short = omega (arith, ok.short); first = ok.first; each = ok.each }

within_wider : (l l' : Limits) → Wider l l' → (d n : ℕ) (t : Tail) → Within l d n t → Within l' d n t
within_wider l l' w d n end i = tt
within_wider l l' w d n (onward e a t) i = (omega (arith, w.names, i.0), name_wider _ _ a w.bytes i.1, within_wider l l' w d (n + 1) t i.2)
within_wider l l' w d n (branch e a t u) i =
    (omega (arith, w.brackets, i.0), omega (arith, w.names, i.1), name_wider _ _ a w.bytes i.2, within_wider l l' w (d + 1) (n + 1) t i.3, within_wider l l' w d (n + 1 + size t) u i.4)

derives_wider : (l l' : Limits) → Wider l l' → (t : List ℕ) (m : Mark) (vs : List Vertex) → DerivesTail l t m vs → DerivesTail l' t m vs
derives_wider l l' w t m vs d =
    record { name = d.name; tail = d.tail; one = omega (arith, w.names, d.one); lawful = name_wider _ _ d.name w.bytes d.lawful; within = within_wider l l' w 0 1 d.tail d.within; text = d.text; nodes = d.nodes }

abbrev both : Limits → Limits → Limits
both l l' = record { names = l.names + l'.names; brackets = l.brackets + l'.brackets; bytes = l.bytes + l'.bytes }

both_left : (l l' : Limits) → Wider l (both l l')
both_left l l' = record { names = omega arith; brackets = omega arith; bytes = omega arith }

both_right : (l l' : Limits) → Wider l' (both l l')
both_right l l' = record { names = omega arith; brackets = omega arith; bytes = omega arith }

same_limits : (l : Limits) → Wider l l
same_limits l = record { names = omega arith; brackets = omega arith; bytes = omega arith }

-- limits with room in a state for names and brackets, and for a byte of a name
abbrev roomy : State → Limits
roomy s = record { names = 16 + length s.nodes + 2; brackets = 8 + length s.brackets + 1; bytes = 32 }

abbrev longer : State → Limits
longer s = record { names = 16; brackets = 8; bytes = 32 + name_len s.phase + 1 }

to_roomy : (s : State) → Wider limits (roomy s)
to_roomy s = record { names = omega arith; brackets = omega arith; bytes = omega arith }

to_longer : (s : State) → Wider limits (longer s)
to_longer s = record { names = omega arith; brackets = omega arith; bytes = omega arith }

-- a text that comes to a state that can be completed begins a pattern
begins : (l : Limits) (s : State) (k : ℕ) (pre : List ℕ) → 0 < l.bytes → Completes l s.mark s.nodes s.holder s.brackets s.phase → ((w : List ℕ) → run_in l start 0 (pre ++ w) ≡ run_in l s k w) → BeginsIn l pre
begins l s k pre some c along = (c.0, shape c.1 c.2, to_derives l _ c.1 c.2 (exact_in l some (pre ++ c.0) c.1 c.2 (along c.0 ∙ c.3 k)))

-- a text that is derived is granted within its limits, and within wider ones
grants : (l : Limits) (t : List ℕ) (w : Shape) → Derives l t w → run_in l start 0 t ≡ Ok w
grants l t w d = sound_in l t w.mark w.nodes (from_derives l t w.mark w.nodes d)

grants_wider : (l l' : Limits) (t : List ℕ) (w : Shape) → Wider l l' → Derives l t w → run_in l' start 0 t ≡ Ok w
grants_wider l l' t w wide d = sound_in l' t w.mark w.nodes (derives_wider l l' wide t w.mark w.nodes (from_derives l t w.mark w.nodes d))

-- where the text t was refused, at place k
module _ (t : List ℕ) (r : Refusal) (k : ℕ) (q : Stopped start 0 t r k) where
  size_pre : k ≡ length q.pre
  size_pre = omega (arith, q.number)

  take_place : take k t ≡ q.pre
  take_place = (λ z. take (size_pre z) (q.parts z)) ∙ take-append_seam q.pre q.post

  before_begins : Begins (take k t)
  before_begins =
      let s = q.state in
      let l = roomy s in
      subst Begins (sym take_place) (l, begins l s k q.pre (omega arith) (completes l s.phase s.mark s.nodes s.holder s.brackets (omega arith)) (λ w. q.along l (to_roomy s) w))

  -- at the byte b
  module _ (b : ℕ) (post : List ℕ) (is : q.post ≡ b ∷ post) (st : next_in limits q.state q.state.phase b ≡ stop r) where
    text : t ≡ (q.pre ++ b ∷ []) ++ post
    text = q.parts ∙ ap (λ x. q.pre ++ x) is ∙ sym (append_assoc q.pre (b ∷ []) post)

    inside_text : k < length t
    inside_text = omega (arith, ap length text, length-append (q.pre ++ b ∷ []) post, length_push q.pre b, size_pre)

    take_more : take (k + 1) t ≡ q.pre ++ b ∷ []
    take_more =
        let n : k + 1 ≡ length (q.pre ++ b ∷ []) = omega (arith, length_push q.pre b, size_pre) in
        (λ z. take (n z) (text z)) ∙ take-append_seam (q.pre ++ b ∷ []) post

    -- what the byte does within wider limits
    told : (l : Limits) → Wider limits l → AgreeAt l q.state q.state.phase (stop r) (next_in l q.state q.state.phase b)
    told l w = subst (λ x. AgreeAt l q.state q.state.phase x (next_in l q.state q.state.phase b)) st (agree limits l w q.state q.state.phase b).so

    on_from : (l : Limits) → Wider limits l → (m : Move) → next_in l q.state q.state.phase b ≡ m → (w : List ℕ) → run_in l start 0 (take (k + 1) t ++ w) ≡ feed k m (λ u. run_in l u (k + 1) w)
    unfolding run_in
    on_from l v m e w = ap (λ x. run_in l start 0 (x ++ w)) take_more ∙ ap (run_in l start 0) (append_assoc q.pre (b ∷ []) w) ∙ q.along l v (b ∷ w) ∙ ap (λ x. feed k x (λ u. run_in l u (k + 1) w)) e

    not_within : BeginsIn limits (take (k + 1) t) → ⊥
    not_within g = no_grant (sym (on_from limits (same_limits limits) (stop r) st g.0) ∙ grants limits _ g.1 g.2)

    goes_on : (l : Limits) → Wider limits l → 0 < l.bytes → (u : State) → next_in l q.state q.state.phase b ≡ go u → Completes l u.mark u.nodes u.holder u.brackets u.phase → BeginsIn l (take (k + 1) t)
    goes_on l w some u e c = begins l u (k + 1) (take (k + 1) t) some c (λ v. on_from l w (go u) e v)

-- a text that is not too long
short_of : (t : List ℕ) (r : Refusal) (k : ℕ) → (PatternTooLong ≡ r → ⊥) → read_pattern t ≡ refused r k → Stopped start 0 t r k
short_of t r k ne e = stopped t start 0 r k (go' (leb (length t) 1024) e)
  where
    go' : (b : Bool) → cond b (run_in limits start 0 t) (refused PatternTooLong 1024) ≡ refused r k → run_in limits start 0 t ≡ refused r k
    go' true x = x
    go' false x = absurd (ne (same_fault _ _ _ _ x).0)

misfit_at : (t : List ℕ) (k : ℕ) (q : Stopped start 0 t Misfit k) (post : List ℕ) → q.post ≡ post → Stops q.state k post Misfit
    → (k ≤ length t) × Begins (take k t) × (k < length t → Begins (take (k + 1) t) → ⊥) × (length t ≤ k → Pattern t → ⊥)
unfolding run_in
misfit_at t k q [] is st =
    let whole : t ≡ q.pre ++ [] = q.parts ∙ ap (λ x. q.pre ++ x) is in
    let len : length t ≡ k = omega (arith, ap length (whole ∙ append-nil q.pre), size_pre t _ k q) in (
      omega arith,
      before_begins t _ k q,
      (λ lt. absurd (omega (arith, lt, len))),
      (λ _ p.
          let l = both limits p.0 in
          no_grant (sym (ap (run_in l start 0) whole ∙ q.along l (both_left limits p.0) [] ∙ st) ∙ grants_wider p.0 l t p.1 (both_right limits p.0) p.2)),
    )
misfit_at t k q (b ∷ post) is st = (
  omega (arith, inside_text t _ k q b post is st),
  before_begins t _ k q,
  (λ _ g.
      let l = both limits g.0 in
      let w = both_left limits g.0 in
      no_grant (sym (on_from t _ k q b post is st l w (stop Misfit) ((told t _ k q b post is st l w).0 refl) g.1.0) ∙ grants_wider g.0 l _ g.1.1 (both_right limits g.0) g.1.2)),
  (λ le. absurd (omega (arith, le, inside_text t _ k q b post is st))),
)

many_at : (t : List ℕ) (k : ℕ) (q : Stopped start 0 t TooManySteps k) (post : List ℕ) → q.post ≡ post → Stops q.state k post TooManySteps
    → (k < length t) × ((names brackets : ℕ) × BeginsIn (record { names = names; brackets = brackets; bytes = 32 }) (take (k + 1) t)) × (BeginsIn limits (take (k + 1) t) → ⊥)
many_at t k q [] is st = absurd (misfit_many (finish_place q.state q.state.phase k _ k st).0)
many_at t k q (b ∷ post) is st =
    let s = q.state in
    let l = roomy s in
    let on = (told t _ k q b post is st l (to_roomy s)).1 refl (record { names = omega arith; brackets = omega arith }) in
    let u = on.0 in
    let room : length u.nodes < l.names = omega (arith, on.2) in (
      inside_text t _ k q b post is st,
      (l.names, l.brackets, goes_on t _ k q b post is st l (to_roomy s) (omega arith) u on.1 (completes l u.phase u.mark u.nodes u.holder u.brackets room)),
      not_within t _ k q b post is st,
    )

name_at_lem : (t : List ℕ) (k : ℕ) (q : Stopped start 0 t PatternNameTooLong k) (post : List ℕ) → q.post ≡ post → Stops q.state k post PatternNameTooLong
    → (k < length t) × BeginsIn limits (take k t) × ((bytes : ℕ) × BeginsIn (record { names = 16; brackets = 8; bytes = bytes }) (take (k + 1) t)) × (BeginsIn limits (take (k + 1) t) → ⊥)
name_at_lem t k q [] is st = absurd (misfit_name (finish_place q.state q.state.phase k _ k st).0)
name_at_lem t k q (b ∷ post) is st =
    let s = q.state in
    let l = longer s in
    let a = (told t _ k q b post is st l (to_longer s)).2 refl in
    let on = a.1 (omega arith) in
    let u = on.0 in (
      inside_text t _ k q b post is st,
      subst (BeginsIn limits) (sym (take_place t _ k q)) (begins limits s k q.pre (omega arith) (in_name_completes limits s.phase s.mark s.nodes s.holder s.brackets a.0) (λ w. q.along limits (same_limits limits) w)),
      (l.bytes, goes_on t _ k q b post is st l (to_longer s) (omega arith) u on.1 (in_name_completes l u.phase u.mark u.nodes u.holder u.brackets on.2)),
      not_within t _ k q b post is st,
    )

pub misfit_place : MisfitIsWhereNoPatternGoesOn
misfit_place t k e = let q = short_of t Misfit k (λ x. omega (arith, ap number_of x)) e in misfit_at t k q q.post refl q.there

pub many_place : TooManyIsWhereMoreWouldFit
many_place t k e = let q = short_of t TooManySteps k (λ x. omega (arith, ap number_of x)) e in many_at t k q q.post refl q.there

pub name_place : NameTooLongIsWhereLongerWouldFit
name_place t k e = let q = short_of t PatternNameTooLong k (λ x. omega (arith, ap number_of x)) e in name_at_lem t k q q.post refl q.there
