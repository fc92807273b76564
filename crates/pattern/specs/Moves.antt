-- What the parts of the reader do, by the place or the reader before (x) and after (y).
use Rattle.std.specs.Prelude.{◌≡◌, ℕ, ◌+◌, ◌<◌, ◌≤◌, Bool, true, false, List, [], ◌∷◌, length, nat_le, Ok, Err, Option, Result}
use Rattle.markup.specs.declared.fault.Fault.{Fault}
use Rattle.markup.specs.declared.fault.Refusal.TheVariants.{Misfit, TooManySteps}
use Rattle.markup.specs.Faults.{fault}
use Rattle.markup.specs.Name.{name_first}
use Rattle.pattern.specs.declared.name.Name.{Name}
use Rattle.pattern.specs.declared.node.Edge.{Edge}
use Rattle.pattern.specs.declared.node.Edge.TheVariants.{Child}
use Rattle.pattern.specs.declared.node.Hook.{Hook}
use Rattle.pattern.specs.declared.node.Mark.{Mark}
use Rattle.pattern.specs.declared.reader.Reader.{Reader}
use Rattle.pattern.specs.Shape.{Shape}
use Rattle.pattern.specs.Spot.{Spot}
use Rattle.pattern.specs.Table.{name_of, parent_of, edge_of, items, vertices}
use Rattle.pattern.specs.Reading.{State, Phase, limits, edge, step, to, settle, start, run_in}

-- the byte b comes next
abbrev pub Next : Spot → ℕ → Type 0
Next x b = (more : List ℕ) × (x.rest ≡ b ∷ more)

-- a name begins here
abbrev pub begins_name : List ℕ → Bool
begins_name [] = false
begins_name (b ∷ more) = name_first b

-- what the text is read as from x on, in the state s
abbrev pub reads_on : Spot → State → Result Shape Fault
reads_on x s = run_in limits s x.place x.rest

-- the same, with the reader's nodes: the next one hangs on node `holder`
abbrev pub outcome : Reader → Mark → ℕ → List ℕ → Phase → Result Shape Fault
outcome x m holder brackets p = reads_on x.cursor (record { mark = m; nodes = vertices (items x.nodes); holder = holder; brackets = brackets; phase = p })

-- The byte b came next and was passed over, or it does not come next.
abbrev pub Accepted : ℕ → Spot → Spot → Bool → Type 0
Accepted b x y true = (x.rest ≡ b ∷ y.rest) × (y.place ≡ x.place + 1)
Accepted b x y false = (Next x b → ⊥) × (y ≡ x)

-- The same, where it has to come next.
abbrev pub Passed : {A : Type 0} → ℕ → Spot → Spot → Result A Fault → Type 0
Passed b x y (Ok _) = Accepted b x y true
Passed b x y (Err f) = (Next x b → ⊥) × (f ≡ fault Misfit x.place)

-- A `[` came next and was passed over, or it does not come next; or it came next while eight brackets were open.
abbrev pub Opened : ℕ → Spot → Spot → Result Bool Fault → Type 0
Opened depth x y (Ok opens) = Accepted 91 x y opens × (opens ≡ true → depth < 8)
Opened depth x y (Err f) = Next x 91 × (8 ≤ depth) × (f ≡ fault TooManySteps x.place)

-- A lead was read.
abbrev pub Led : Spot → Spot → Result Mark Fault → Type 0
Led x y (Ok m) = reads_on x start ≡ reads_on y (record { mark = m; nodes = []; holder = 0; brackets = []; phase = edge Child })
Led x y (Err f) = reads_on x start ≡ Err f

-- An edge was read, in the phase p.
abbrev pub Edged : Phase → Spot → Spot → Result Edge Fault → Type 0
Edged p x y (Ok e) = (length y.rest ≤ length x.rest) × ((s : State) → reads_on x (to s p) ≡ reads_on y (to s (edge e)))
Edged p x y (Err f) = (s : State) → reads_on x (to s p) ≡ Err f

-- A name was read, where there is room for its node.
abbrev pub Named : Bool → Spot → Spot → Result Name Fault → Type 0
Named full x y (Ok a) = (length y.rest < length x.rest) × (full ≡ false) × ((s : State) (e : Edge) → nat_le 16 (length s.nodes) ≡ full → reads_on x (to s (edge e)) ≡ reads_on y (settle s e (name_of a)))
Named full x y (Err f) = (s : State) (e : Edge) → nat_le 16 (length s.nodes) ≡ full → reads_on x (to s (edge e)) ≡ Err f

-- A step or a branch was read, with `depth` brackets open. Its first node hangs on h, and the next one may hang on node k.
abbrev pub Stepped : Option Hook → ℕ → Reader → Reader → Result ℕ Fault → Type 0
Stepped h depth x y (Ok k) =
    (length y.cursor.rest < length x.cursor.rest) × (length (items x.nodes) ≤ length (items y.nodes)) × (k < length (items y.nodes))
    × ((m : Mark) (hs : List ℕ) → length hs ≡ depth → outcome x m (parent_of h) hs (edge (edge_of h)) ≡ outcome y m k hs step)
Stepped h depth x y (Err f) = (m : Mark) (hs : List ℕ) → length hs ≡ depth → outcome x m (parent_of h) hs (edge (edge_of h)) ≡ Err f

-- The text ends here, or it does not.
abbrev pub Ended : {A : Type 0} → Spot → Result A Fault → Type 0
Ended x (Ok _) = x.rest ≡ []
Ended x (Err f) = (x.rest ≡ [] → ⊥) × (f ≡ fault Misfit x.place)
