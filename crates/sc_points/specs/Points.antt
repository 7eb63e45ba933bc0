-- Inside: plumbing, a representation, an invariant or a promise beside the claim (docs/TRUST.md).
-- Points: where the machine stands at a place of a function's list, with registers in place of values. The names of blocks, the types and
-- what is pending are known where the list is written; values, object numbers and the world are not.
use Rattle.std.specs.Prelude.{◌≡◌, ℕ, ◌==◌, if◌then◌else◌, Bool, true, false, List, [], ◌∷◌, ◌++◌, take, drop, Option, Some, None}
use Rattle.sc_types.specs.declared.ctype.CType.{CType}
use Rattle.sc_core.specs.declared.expression.CoreExpr.{CoreExpr}
use Rattle.sc_core.specs.declared.statement.AutoInit.{AutoInit}
use Rattle.sc_core.specs.declared.statement.CoreStmt.{CoreStmt, out-CoreStmt}
use Rattle.sc_core.specs.declared.statement.CoreStmt.TheOpen.{CoreStmt-F}
use Rattle.sc_core.specs.declared.statement.SwitchLabel.{SwitchLabel}
use Rattle.sc_core.specs.declared.module.Fun.{Fun}
use Rattle.sc_meaning.specs.Values.{Value}
use Rattle.sc_meaning.specs.World.{World, Born, Begin, OpenBlock, CloseBlock, ComesBack, End, GoesOut, pass, tick}
use Rattle.sc_meaning.specs.Outcomes.{Outcome, Done, Over, Ending}
use Rattle.sc_meaning.specs.Violations.{bits}
use Rattle.sc_meaning.specs.Versions.{Text}
use Rattle.sc_meaning.specs.Expressions.{Env, Answer, Plain, Place, Part, Nothing, automatic_in, base_of}
use Rattle.sc_meaning.specs.Statements.{Way, Normal, Continued, Returned, all_dead}
use Rattle.sc_interp.specs.Steady.{advance, alone, on_line, ran}
use Rattle.sc_interp.specs.Shows.{shown}
use Rattle.sc_interp.specs.declared.stepped.Shown.{Shown}
use Rattle.sc_interp.specs.declared.stepped.Shown.TheVariants as shows
use Rattle.sc_interp_machine.specs.Bodies.{first_ids}
use Rattle.sc_interp_machine.specs.Runs.{Active, Caller, State, Runs, Makes, Ends}
use Rattle.sc_interp_machine.specs.declared.pending.Single.{Single}
use Rattle.sc_interp_machine.specs.declared.pending.Single.TheVariants as single
use Rattle.sc_interp_machine.specs.declared.pending.Pair.{Pair}
use Rattle.sc_interp_machine.specs.declared.pending.Store.{Store}
use Rattle.sc_interp_machine.specs.declared.pending.Item.{Item}
use Rattle.sc_interp_machine.specs.declared.pending.Item.TheVariants as item
use Rattle.sc_interp_machine.specs.declared.pending.Mode.TheVariants.{Eval, Give}
use Rattle.sc_interp_machine.specs.declared.body.Use.{Use}
use Rattle.sc_interp_machine.specs.declared.body.Use.TheVariants.{Set, Copy}
use Rattle.sc_interp_machine.specs.declared.body.Use.TheVariants as uses
use Rattle.sc_interp_machine.specs.declared.body.Pending.{Pending}
use Rattle.sc_interp_machine.specs.declared.body.Pending.TheVariants.{Check}
use Rattle.sc_interp_machine.specs.declared.body.Doing.{Doing}
use Rattle.sc_interp_machine.specs.declared.body.Doing.TheVariants.{Within, Exec, Turn, Leave, Pieces, Labels}
use Rattle.sc_world.specs.Moves.{Silent}
use Rattle.sc_points.specs.declared.held.Held.{Held}
use Rattle.sc_points.specs.declared.held.Held.TheVariants.{In, At, Beyond, Named, NamedBeyond, Void}

-- what a frame holds: the values in its registers, and its entered blocks with their objects
pub record Frame : Type 0 where
  pub regs : ℕ → Value
  pub blocks : List Born

abbrev pub with_register : ℕ → Value → Frame → Frame
with_register d v f = record f { regs = λ r. if r == d then v else f.regs r }

abbrev pub answer_of : Frame → Held → Answer
answer_of f (In r) = Plain (f.regs r)
answer_of f (At r) = Place (f.regs r)
answer_of f (Beyond r n) = Part (f.regs r) n
answer_of f (Named b i) = Place (automatic_in f.blocks b i)
answer_of f (NamedBeyond b i n) = Part (automatic_in f.blocks b i) n
answer_of f Void = Nothing

abbrev pub value_of : Frame → Held → Value
value_of f h = base_of (answer_of f h)

abbrev pub values_of : Frame → List Held → List Value
values_of f [] = []
values_of f (h ∷ hs) = value_of f h ∷ values_of f hs

-- something is there to be used
abbrev pub IsThere : Held → Type 0
IsThere (In r) = Unit {0}
IsThere (At r) = Unit {0}
IsThere (Beyond r n) = Unit {0}
IsThere (Named b i) = Unit {0}
IsThere (NamedBeyond b i n) = Unit {0}
IsThere Void = ⊥

-- a pending item, in which a form stands for a value
pub data Waiting : Type 0 where
  Alone : Single → Waiting
  Right : Pair → CoreExpr → Waiting
  Now : Pair → Held → Waiting
  StoreRight : Store → CoreExpr → Waiting
  StoreNow : Store → Held → Waiting
  StructureRight : ℕ → CoreExpr → Waiting
  StructureNow : ℕ → Held → Waiting
  And : CType → CType → CoreExpr → Waiting
  Or : CType → CType → CoreExpr → Waiting
  Choice : CType → CoreExpr → CoreExpr → Waiting
  Then : CoreExpr → Waiting
  Callee : CType → List CoreExpr → Waiting
  Argument : CType → Held → List CoreExpr → List Held → Waiting

abbrev pub item_of : Frame → Waiting → Item
item_of f (Alone s) = item.Alone s
item_of f (Right p b) = item.Right p b
item_of f (Now p h) = item.Now p (value_of f h)
item_of f (StoreRight s b) = item.StoreRight s b
item_of f (StoreNow s h) = item.StoreNow s (answer_of f h)
item_of f (StructureRight n b) = item.StructureRight n b
item_of f (StructureNow n h) = item.StructureNow n (answer_of f h)
item_of f (And s t b) = item.And s t b
item_of f (Or s t b) = item.Or s t b
item_of f (Choice t b d) = item.Choice t b d
item_of f (Then b) = item.Then b
item_of f (Callee t es) = item.Callee t es
item_of f (Argument t h es hs) = item.Argument t (value_of f h) es (values_of f hs)

abbrev pub items_of : Frame → List Waiting → List Item
items_of f [] = []
items_of f (x ∷ xs) = item_of f x ∷ items_of f xs

-- What is done with the answer of a whole expression. A piece of an initialiser has the pointer to its object, which here is an automatic
-- object by its block and its place in it.
pub data Purpose : Type 0 where
  Uses : Use → Purpose
  Sets : ℕ → ℕ → ℕ → CType → List AutoInit → Purpose
  Copies : ℕ → ℕ → ℕ → List AutoInit → Purpose

abbrev pub use_of : Frame → Purpose → Use
use_of f (Uses u) = u
use_of f (Sets b i at t is) = Set (automatic_in f.blocks b i) at t is
use_of f (Copies b i size is) = Copy (automatic_in f.blocks b i) size is

-- Where the machine is: an expression begins, or its answer is given; a statement or a loop's turn begins; a statement is left, or the
-- function with an answer; an automatic object has these pieces yet to come; a value has these labels of a `switch` yet to be compared with,
-- and the default so far.
pub data Focus : Type 0 where
  Begins : CoreExpr → List Waiting → Purpose → Focus
  Holds : Held → List Waiting → Purpose → Focus
  Does : CoreStmt → Focus
  Turns : CoreStmt → Focus
  Leaves : Way → Focus
  Returns : Held → Focus
  Fills : ℕ → ℕ → List AutoInit → Focus
  Compares : List SwitchLabel → Held → Option ℕ → CoreStmt → Focus

pub record Point : Type 0 where
  pub focus : Focus
  pub stmts : List Pending

abbrev pub at : List Pending → Focus → Point
at ss focus = record { focus = focus; stmts = ss }

abbrev pub doing_of : Frame → Focus → Doing
doing_of f (Begins e ws u) = Within (Eval e) (items_of f ws) (use_of f u)
doing_of f (Holds h ws u) = Within (Give (answer_of f h)) (items_of f ws) (use_of f u)
doing_of f (Does s) = Exec s
doing_of f (Turns s) = Turn s
doing_of f (Leaves way) = Leave way
doing_of f (Returns h) = Leave (Returned (answer_of f h))
doing_of f (Fills b i is) = Pieces (automatic_in f.blocks b i) is
doing_of f (Compares ls h d s) = Labels ls (bits (value_of f h)) d s

-- a call that runs, beside what its frame holds: its text and function, its parameters' objects and its room, and the callers that wait
pub record Call : Type 0 where
  pub text : Text
  pub fun : Fun
  pub active : Active
  pub callers : List Caller

abbrev pub env_of : Call → Frame → Env
env_of c f = record { text = c.text; fun = c.fun; blocks = f.blocks }

abbrev pub state_at : Call → Point → Frame → World → State
state_at c p f w = Runs (doing_of f p.focus) p.stmts (env_of c f) c.active c.callers w

-- a call that waits for an answer: its point without what comes back to it
abbrev pub caller_of : Call → Frame → List Waiting → Purpose → List Pending → Caller
caller_of c f ws u ss = record { items = items_of f ws; user = use_of f u; stmts = ss; env = env_of c f; active = c.active }

-- the call of a text's function that runs behind a call: its caller waits for what comes back
abbrev pub callee : List Pending → Purpose → List Waiting → Call → Frame → Text → Fun → List ℕ → Call
callee ss u ws c f t fun ids = record { text = t; fun = fun; active = record { ids = ids; cost = fun.cost }; callers = caller_of c f (Waiting.Alone single.Back ∷ ws) u ss ∷ c.callers }

-- what an instruction leaves: more of it, or the end of the run
pub data Went : Type 0 where
  Goes : Frame → World → Went
  Breaks : Ending → Went

-- what an operation gives goes into a register
abbrev pub puts : ℕ → Frame → Outcome Answer → Went
puts d f (Done a w) = Goes (with_register d (base_of a) f) w
puts d f (Over e) = Breaks e

-- steps that change the world alone
abbrev pub changes : Frame → Outcome (Unit {0}) → Went
changes f (Done x w) = Goes f w
changes f (Over e) = Breaks e

-- a statement's line is reached as the statement begins
abbrev pub at_first_line : ℕ → Frame → World → Went
at_first_line l f w = Goes f (on_line l (pass Begin w))

-- a block is entered with these objects
abbrev pub opens : ℕ → Frame → Outcome (List ℕ) → Went
opens b f (Done ids w) = let born : Born = record { block = b; ids = ids } in Goes (record f { blocks = f.blocks ++ born ∷ [] }) (pass (OpenBlock born) w)
opens b f (Over e) = Breaks e

-- the blocks behind so many are left: their objects die, the last born first
abbrev pub closes : ℕ → Frame → World → Went
closes n f w = Goes (record f { blocks = take n f.blocks }) (pass End (pass CloseBlock (all_dead (first_ids (drop n f.blocks)) w)))

-- a call came back with this
abbrev pub comes_back : ℕ → Frame → Outcome Answer → Went
comes_back d f (Done a w) = Goes (with_register d (base_of a) f) (tick (pass ComesBack w))
comes_back d f (Over e) = Breaks e

abbrev pub state_behind : Call → Point → Went → State
state_behind c p (Goes f w) = state_at c p f w
state_behind c p (Breaks e) = Ends e

-- where a test leads: to one point or to the other, with what is done to the frame and the world on the way
abbrev pub chosen : Call → Point → (World → Went) → Point → (World → Went) → Outcome Bool → State
chosen c holds on fails off (Done true w) = state_behind c holds (on w)
chosen c holds on fails off (Done false w) = state_behind c fails (off w)
chosen c holds on fails off (Over e) = Ends e

-- whether a statement is a block, which a `switch` enters at the place of a label
abbrev pub is_block : CoreStmt-F CoreStmt → Bool
is_block (CoreStmt-F.Block l b ks qs) = true
is_block _ = false

-- ---- the form in which an operation gives its answer

pub data Form : Type 0 where
  AsValue : Form
  AsPlace : Form
  AsPart : ℕ → Form
  AsNothing : Form

abbrev pub formed : Form → Value → Answer
formed AsValue v = Plain v
formed AsPlace v = Place v
formed (AsPart n) v = Part v n
formed AsNothing v = Nothing

abbrev pub held_in : Form → ℕ → Held
held_in AsValue d = In d
held_in AsPlace d = At d
held_in (AsPart n) d = Beyond d n
held_in AsNothing d = Void

abbrev pub Shaped : Form → Outcome Answer → Type 0
Shaped form (Done a w) = a ≡ formed form (base_of a)
Shaped form (Over e) = Unit {0}

-- what waits does not look at a register
abbrev pub Apart : ℕ → List Waiting → Type 0
Apart d ws = (f : Frame) (v : Value) → items_of (with_register d v f) ws ≡ items_of f ws

-- ---- from point to point

-- from one point so many steps of the machine lead to the other, behind what is done there to the frame and the world
abbrev pub Acts : List Text → ℕ → Point → (Frame → World → Went) → Point → Type 0
Acts texts k p does q = (c : Call) (f : Frame) (w : World) → ran k (alone texts) texts (state_at c p f w) ≡ state_behind c q (does f w)

-- such steps as no instruction makes by itself go to the next one: they change the world alone
abbrev pub Slides : List Text → ℕ → Point → (World → World) → Point → Type 0
Slides texts k p go q = (c : Call) (f : Frame) (w : World) → ran k (alone texts) texts (state_at c p f w) ≡ state_at c q f (go w)

-- the next step goes out with a call of this function's value, of this type, with these arguments; and this caller waits for what comes back
abbrev pub CallsOut : List Text → Point → CType → Held → List Held → List Pending → Purpose → List Waiting → Type 0
CallsOut texts p ty h hs ss u ws = (c : Call) (f : Frame) (w : World) →
    advance (alone texts) texts (state_at c p f w) ≡ Makes ty (value_of f h) (values_of f hs) (caller_of c f (Waiting.Alone single.Back ∷ ws) u ss) c.callers (pass GoesOut w)

-- the first step of an expression goes to its first part, and this waits for the answer
abbrev pub Firsts : List Text → List Pending → Purpose → List Waiting → CoreExpr → CoreExpr → Waiting → Type 0
Firsts texts ss u ws e a x = Slides texts 1 (at ss (Begins e ws u)) tick (at ss (Begins a (x ∷ ws) u))

-- so many steps and one more are one move: none but the last shows anything or ends the run, and that one shows this
abbrev pub Tells : List Text → ℕ → Point → Shown → Type 0
Tells texts k p now = (c : Call) (f : Frame) (w : World) → Silent k texts (state_at c p f w) × (shown (alone texts) texts (ran k (alone texts) texts (state_at c p f w)) ≡ now)

-- ---- what the first step from a point shows

abbrev pub first_shown : CoreStmt-F CoreStmt → Shown
first_shown (CoreStmt-F.Block l b ks qs) = shows.Nothing
first_shown (CoreStmt-F.Initialize l b i is) = shows.Line l
first_shown (CoreStmt-F.Empty l) = shows.Line l
first_shown (CoreStmt-F.Expression l e) = shows.Line l
first_shown (CoreStmt-F.If l e q r) = shows.Line l
first_shown (CoreStmt-F.Switch l e ls q) = shows.Line l
first_shown (CoreStmt-F.While l e q) = shows.Nothing
first_shown (CoreStmt-F.Do l q m e) = shows.Nothing
first_shown (CoreStmt-F.For l None e x q) = shows.Nothing
first_shown (CoreStmt-F.For l (Some o) e x q) = shows.Line l
first_shown (CoreStmt-F.Case l q) = shows.Nothing
first_shown (CoreStmt-F.Default l q) = shows.Nothing
first_shown (CoreStmt-F.Label l q) = shows.Nothing
first_shown (CoreStmt-F.Goto l k) = shows.Line l
first_shown (CoreStmt-F.Continue l) = shows.Line l
first_shown (CoreStmt-F.Break l) = shows.Line l
first_shown (CoreStmt-F.Return l e) = shows.Line l

-- of a loop's turn
abbrev pub turn_shown : CoreStmt-F CoreStmt → Shown
turn_shown (CoreStmt-F.While l e q) = shows.Line l
turn_shown (CoreStmt-F.For l o (Some e) x q) = shows.Line l
turn_shown _ = shows.Nothing

-- of a statement that is left: the condition at the end of a `do` has a line
abbrev pub check_shown : ℕ → Way → Shown
check_shown l Normal = shows.Line l
check_shown l Continued = shows.Line l
check_shown l _ = shows.Nothing

abbrev pub left_shown : List Pending → Way → Shown
left_shown [] way = shows.Nothing
left_shown (Check l e s ∷ ss) way = check_shown l way
left_shown (_ ∷ ss) way = shows.Nothing

abbrev pub focus_shown : List Pending → Focus → Shown
focus_shown ss (Begins e ws u) = shows.Nothing
focus_shown ss (Holds h ws u) = shows.Nothing
focus_shown ss (Does s) = first_shown (out-CoreStmt s)
focus_shown ss (Turns s) = turn_shown (out-CoreStmt s)
focus_shown ss (Leaves way) = left_shown ss way
focus_shown ss (Returns h) = shows.Nothing
focus_shown ss (Fills b i is) = shows.Nothing
focus_shown ss (Compares ls h d s) = shows.Nothing

abbrev pub point_shown : Point → Shown
point_shown p = focus_shown p.stmts p.focus

-- ---- whether what waits uses the value of an answer

abbrev pub single_uses : Single → Bool
single_uses (single.Truth t) = true
single_uses (single.Arrow n) = true
single_uses single.Indirection = true
single_uses (single.Unary o t) = true
single_uses _ = false

abbrev pub waiting_uses : Waiting → Bool
waiting_uses (Alone s) = single_uses s
waiting_uses (StoreRight s b) = false
waiting_uses (StructureRight n b) = false
waiting_uses (StructureNow n h) = false
waiting_uses (Then b) = false
waiting_uses _ = true

abbrev pub purpose_uses : Purpose → Bool
purpose_uses (Uses uses.Discard) = false
purpose_uses (Uses (uses.Turns s)) = false
purpose_uses (Uses (uses.Copy p size is)) = false
purpose_uses (Copies b i size is) = false
purpose_uses _ = true

abbrev pub is_used : List Waiting → Purpose → Bool
is_used [] u = purpose_uses u
is_used (x ∷ ws) u = waiting_uses x
