-- Inside: plumbing, a representation, an invariant or a promise beside the claim (docs/TRUST.md).
-- What a step may change: living objects that may be written; and a body, the objects of its own blocks.
use Rattle.std.specs.Prelude.{◌<◌, length, ◌≡◌, ◌⊎◌, ℕ, Bool, true, false, List, [], ◌∷◌, ◌++◌, Some}
use Rattle.sc_base.specs.declared.memory.Kind.{Kind}
use Rattle.sc_base.specs.declared.memory.Kind.TheVariants.{Heap}
use Rattle.sc_rules.specs.Tests.{is_constant, is_heap}
use Rattle.sc_meaning.specs.World.{World, Object, Born, Item, Birth, Death, Put, Copy, Push, Pop, Happens, Event, Enter, Leave, At, Out, object_at, pass, passed}
use Rattle.sc_interp_laws.specs.Events.{told}
use Rattle.sc_meaning.specs.Expressions.{Env}
use Rattle.sc_meaning.specs.Statements.{auto_kind, id_of}
use Rattle.sc_meaning.specs.Outcomes.{world_at}
use Rattle.sc_interp_machine.specs.Runs.{State, Runs, Makes, Answers, Ends}
use Rattle.sc_interp_machine.specs.declared.body.Use.{Use}
use Rattle.sc_interp_machine.specs.declared.body.Use.TheVariants.{Set, Copy as Copies}
use Rattle.sc_interp_machine.specs.declared.body.Doing.{Doing}
use Rattle.sc_interp_machine.specs.declared.body.Doing.TheVariants.{Within, Pieces}

abbrev pub IsIn : ℕ → List ℕ → Type 0
IsIn id [] = ⊥
IsIn id (x ∷ xs) = (id ≡ x) ⊎ IsIn id xs

-- an object lives, and is neither constant nor a literal
abbrev pub IsWritable : List Object → ℕ → Type 0
IsWritable objects id = (o : Object) × (object_at objects id ≡ Some o) × (o.live ≡ true) × (is_constant o.kind ≡ false)

-- things happen, each of which is lawful in the world in which it happens
abbrev pub Each : (World → Item → Type 0) → World → List Item → Type 0
Each lawful w [] = Unit {0}
Each lawful w (i ∷ is) = lawful w i × Each lawful (pass i w) is

abbrev pub Along : (World → Item → Type 0) → World → World → Type 0
Along lawful w v = (is : List Item) × (v ≡ passed is w) × Each lawful w is

-- in an expression no object is born, and none dies
abbrev pub IsWrite : World → Item → Type 0
IsWrite w (Birth size kind at) = ⊥
IsWrite w (Death id) = ⊥
IsWrite w (Put id at new) = IsWritable w.objects id
IsWrite w (Copy to at from off n) = IsWritable w.objects to
IsWrite w _ = Unit {0}

-- In a body objects with automatic storage duration are born, and those alone die that are its own, which it may fill too.
abbrev pub IsAutomatic : Kind → Type 0
IsAutomatic kind = (constant : Bool) × (kind ≡ auto_kind constant)

abbrev pub IsOwn : List ℕ → World → Item → Type 0
IsOwn own w (Birth size kind at) = IsAutomatic kind
IsOwn own w (Death id) = IsIn id own
IsOwn own w (Put id at new) = IsWritable w.objects id ⊎ IsIn id own
IsOwn own w (Copy to at from off n) = IsWritable w.objects to ⊎ IsIn to own
IsOwn own w _ = Unit {0}

-- In a call of the library blocks of the heap are born, and those alone die; no call is entered or left there, and no line
-- is reached.
abbrev pub IsBlock : List Object → ℕ → Type 0
IsBlock objects id = (o : Object) × (object_at objects id ≡ Some o) × (o.live ≡ true) × (is_heap o.kind ≡ true)

abbrev pub IsOfHeap : World → Item → Type 0
IsOfHeap w (Birth size kind at) = kind ≡ Heap
IsOfHeap w (Death id) = IsBlock w.objects id
IsOfHeap w (Put id at new) = IsWritable w.objects id
IsOfHeap w (Copy to at from off n) = IsWritable w.objects to
IsOfHeap w (Happens e) = told e ≡ []
IsOfHeap w (Push f) = ⊥
IsOfHeap w Pop = ⊥
IsOfHeap w _ = Unit {0}

-- the objects of some blocks
abbrev pub ids_of : List Born → List ℕ
ids_of [] = []
ids_of (b ∷ bs) = b.ids ++ ids_of bs

-- the object of which the next piece is set
abbrev pub use_ids : Use → List ℕ
use_ids (Set p at t is) = id_of p ∷ []
use_ids (Copies p size is) = id_of p ∷ []
use_ids _ = []

-- the objects that are a body's own: those of its entered blocks, and the one that it sets up
abbrev pub own_of : Doing → Env → List ℕ
own_of (Within mode is u) env = use_ids u ++ ids_of env.blocks
own_of (Pieces p is) env = id_of p ∷ ids_of env.blocks
own_of _ env = ids_of env.blocks

-- As a function is entered its parameters are born, and set: objects of which there were fewer than their numbers before.
abbrev pub IsEntry : ℕ → World → Item → Type 0
IsEntry before w (Birth size kind at) = IsAutomatic kind
IsEntry before w (Death id) = ⊥
IsEntry before w (Put id at new) = before < id
IsEntry before w (Copy to at from off n) = ⊥
IsEntry before w _ = Unit {0}

-- The step of a run from a state to a world: a body changes what it may, where its call's parameters are its own too; a call is
-- one of the library, or enters a function; and nothing else changes the world.
abbrev pub Lawfully : State → World → Type 0
Lawfully (Runs mode ss env a cs w) v = Along (IsOwn (own_of mode env ++ a.ids)) w v
Lawfully (Makes t f vs c cs w) v = Along IsOfHeap w v ⊎ Along (IsEntry (length w.objects)) w v
Lawfully (Answers a cs w) v = v ≡ w
Lawfully (Ends e) v = v ≡ world_at e
