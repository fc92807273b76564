-- What a pattern text is read as: its bytes are taken one by one from the left, and the first that is not taken decides.
use Rattle.std.specs.Prelude.{ℕ, ◌+◌, cond, List, [], ◌∷◌, ◌++◌, length, Ok, Err, Result, ◌==◌, nat_le}
use Rattle.markup.specs.declared.fault.Fault.{Fault}
use Rattle.markup.specs.declared.fault.Refusal.{Refusal}
use Rattle.markup.specs.declared.fault.Refusal.TheVariants.{PatternTooLong, Misfit, TooManySteps, PatternNameTooLong}
use Rattle.markup.specs.Faults.{fault}
use Rattle.markup.specs.Name.{name_first, name_byte}
use Rattle.pattern.specs.declared.node.Edge.{Edge}
use Rattle.pattern.specs.declared.node.Edge.TheVariants.{Child, Descendant}
use Rattle.pattern.specs.declared.node.Mark.{Mark}
use Rattle.pattern.specs.declared.node.Mark.TheVariants.{Top, Any}
use Rattle.pattern.specs.Shape.{Vertex, Shape, node, shape}

-- how many names a text may have, how many brackets may be open at once, and how many bytes a name may have
pub record Limits : Type 0 where
  pub names : ℕ
  pub brackets : ℕ
  pub bytes : ℕ

-- 16 names of at most 32 bytes, and so many brackets
abbrev pub up_to : ℕ → Limits
up_to brackets = record { names = 16; brackets = brackets; bytes = 32 }

-- the limits of a pattern text: at most eight brackets are open at once
abbrev pub limits : Limits
limits = up_to 8

-- what was just read
pub data Phase : Type 0 where
  nothing : Phase  -- no byte yet
  lead : Phase  -- the first `/`
  edge : Edge → Phase  -- a lead or an edge, so that a name follows
  slash : Phase  -- the first `/` of an edge
  bracket : Phase  -- `[`
  dot : Phase  -- `[.`
  dot_slash : Phase  -- `[./`
  inside : Edge → List ℕ → Phase  -- an edge and these bytes of a name
  step : Phase  -- a name and what ended it, or `]`

-- the mark, the nodes so far, the node that the next one hangs on, and the nodes with an open bracket, the innermost first
pub record State : Type 0 where
  pub mark : Mark
  pub nodes : List Vertex
  pub holder : ℕ
  pub brackets : List ℕ
  pub phase : Phase

-- a byte is taken, or the text is refused there
pub data Move : Type 0 where
  go : State → Move
  stop : Refusal → Move

-- the same state in another phase
abbrev pub to : State → Phase → State
to s p = record { mark = s.mark; nodes = s.nodes; holder = s.holder; brackets = s.brackets; phase = p }

-- the same state with the mark m, in another phase
abbrev pub marked : State → Mark → Phase → State
marked s m p = record { mark = m; nodes = s.nodes; holder = s.holder; brackets = s.brackets; phase = p }

-- a name is complete: one node more, on which the next one hangs
abbrev pub settle : State → Edge → List ℕ → State
settle s e a = record {
  mark = s.mark;
  nodes = s.nodes ++ node a s.holder e ∷ [];
  holder = length s.nodes;
  brackets = s.brackets;
  phase = step;
}

-- a bracket opens on the node that would hold the next one
abbrev pub opened : State → State
opened s = record { mark = s.mark; nodes = s.nodes; holder = s.holder; brackets = s.holder ∷ s.brackets; phase = bracket }

-- the innermost bracket closes: the next node hangs on the one that holds the bracket
abbrev pub close : State → List ℕ → Move
close s [] = stop Misfit
close s (h ∷ hs) = go (record { mark = s.mark; nodes = s.nodes; holder = h; brackets = hs; phase = step })

-- the first byte of a name
abbrev pub begin_in : Limits → State → Edge → ℕ → Move
begin_in l s e b =
    cond (name_first b) (cond (nat_le l.names (length s.nodes)) (stop TooManySteps) (go (to s (inside e (b ∷ []))))) (stop Misfit)

-- a byte after a name or a `]`: `/`, `[` or `]`
abbrev pub beyond_in : Limits → State → ℕ → Move
beyond_in l s b =
    cond (b == 47) (go (to s slash))
    (cond (b == 91) (cond (nat_le l.brackets (length s.brackets)) (stop TooManySteps) (go (opened s)))
    (cond (b == 93) (close s s.brackets) (stop Misfit)))

-- the byte b in each phase (47 is `/`, 46 is `.`)
abbrev pub next_in : Limits → State → Phase → ℕ → Move
next_in l s nothing b = cond (b == 47) (go (to s lead)) (stop Misfit)
next_in l s lead b = cond (b == 47) (go (marked s Any (edge Child))) (begin_in l (marked s Top lead) Child b)
next_in l s (edge e) b = begin_in l s e b
next_in l s slash b = cond (b == 47) (go (to s (edge Descendant))) (begin_in l s Child b)
next_in l s bracket b = cond (b == 46) (go (to s dot)) (begin_in l s Child b)
next_in l s dot b = cond (b == 47) (go (to s dot_slash)) (stop Misfit)
next_in l s dot_slash b = cond (b == 47) (go (to s (edge Descendant))) (stop Misfit)
next_in l s (inside e a) b =
    cond (name_byte b) (cond (nat_le l.bytes (length a)) (stop PatternNameTooLong) (go (to s (inside e (a ++ b ∷ []))))) (beyond_in l (settle s e a) b)
next_in l s step b = beyond_in l s b

-- a twig is read
abbrev pub granted : Mark → List Vertex → Result Shape Fault
granted m vs = Ok (shape m vs)

-- a refusal at place k
abbrev pub refused : Refusal → ℕ → Result Shape Fault
refused r k = Err (fault r k)

-- a text that ends at place k, after a step: no bracket may be open
abbrev pub complete : State → List ℕ → ℕ → Result Shape Fault
complete s [] k = granted s.mark s.nodes
complete s (h ∷ hs) k = refused Misfit k

-- a text that ends at place k
abbrev pub finish : State → Phase → ℕ → Result Shape Fault
finish s nothing k = refused Misfit k
finish s lead k = refused Misfit k
finish s (edge e) k = refused Misfit k
finish s slash k = refused Misfit k
finish s bracket k = refused Misfit k
finish s dot k = refused Misfit k
finish s dot_slash k = refused Misfit k
finish s (inside e a) k = complete (settle s e a) s.brackets k
finish s step k = complete s s.brackets k

-- on with the bytes left, or a refusal at place k
abbrev pub feed : ℕ → Move → (State → Result Shape Fault) → Result Shape Fault
feed k (go s) rest = rest s
feed k (stop r) rest = refused r k

-- what the bytes from place k on are read as, in the state s
unfoldable pub run_in : Limits → State → ℕ → List ℕ → Result Shape Fault
run_in l s k [] = finish s s.phase k
run_in l s k (b ∷ bs) = feed k (next_in l s s.phase b) (λ t. run_in l t (k + 1) bs)

-- the state at the start of a text
abbrev pub start : State
start = record { mark = Any; nodes = []; holder = 0; brackets = []; phase = nothing }

-- what a text is read as: a twig, or a refusal with its place
abbrev pub read_pattern : List ℕ → Result Shape Fault
read_pattern t = cond (nat_le (length t) 1024) (run_in limits start 0 t) (refused PatternTooLong 1024)
