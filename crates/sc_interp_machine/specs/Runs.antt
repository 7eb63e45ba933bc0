-- Machine: the program once more; a theorem ties it to a yardstick (docs/TRUST.md).
-- One small step of a run: the innermost body, and the callers that wait, innermost first (ANSI 3.3.2.2). What bodies leave to
-- the outside is done here: lines become events, calls are tested and entered, and left.
use Rattle.std.specs.Prelude.{ℕ, zero, suc, ◌+◌, nat_lt, Bool, true, false, List, [], ◌∷◌, slice_index_or, Option, Some, None}
use Rattle.sc_base.specs.declared.key.Key.{Key}
use Rattle.sc_base.specs.declared.report.Rule.{Rule}
use Rattle.sc_types.specs.declared.ctype.CType.{CType}
use Rattle.sc_core.specs.declared.module.Fun.{Fun}
use Rattle.sc_meaning.specs.Values.{Value, Number, FunctionAt, Pointer}
use Rattle.sc_meaning.specs.World.{World, Born, Enter, pass, Push, Stack, OpenBlock}
use Rattle.sc_meaning.specs.Outcomes.{Outcome, Done, Over, Ending, Undefined, StackFull}
use Rattle.sc_meaning.specs.Versions.{Text, History, Callee, Missing, InText, InLibrary, callee_of, version_at}
use Rattle.sc_meaning.specs.Changes.{happened, reached}
use Rattle.sc_meaning.specs.Expressions.{Env, Answer, Nothing, undefined_name, value_rule, call_breach}
use Rattle.sc_meaning.specs.Functions.{library_call}
use Rattle.sc_meaning.specs.Calls.{parameters, frame_of, left}
use Rattle.sc_interp_machine.specs.Machine as expr
use Rattle.sc_interp_machine.specs.Bodies as body
use Rattle.sc_interp_machine.specs.declared.pending.Item.{Item}
use Rattle.sc_interp_machine.specs.declared.pending.Mode.TheVariants.{Give}
use Rattle.sc_interp_machine.specs.declared.body.Use.{Use}
use Rattle.sc_interp_machine.specs.declared.body.Pending.{Pending}
use Rattle.sc_interp_machine.specs.declared.body.Doing.{Doing}
use Rattle.sc_interp_machine.specs.declared.body.Doing.TheVariants.{Within, Exec}

-- an active call: its parameters' objects, and its room on the stack
pub record Active : Type 0 where
  pub ids : List ℕ
  pub cost : ℕ

-- a caller that waits for an answer, with what is pending in it
pub record Caller : Type 0 where
  pub items : List Item
  pub user : Use
  pub stmts : List Pending
  pub env : Env
  pub active : Active

-- a body runs; a call is to be made; an answer comes to the innermost caller, or is the run's where none waits; the run is over
pub data State : Type 0 where
  Runs : Doing → List Pending → Env → Active → List Caller → World → State
  Makes : CType → Value → List Value → Caller → List Caller → World → State
  Answers : Answer → List Caller → World → State
  Ends : Ending → State

abbrev pub then_goes : {A : Type 0} → Outcome A → (A → World → State) → State
then_goes (Done a w) go = go a w
then_goes (Over e) go = Ends e

abbrev pub answers : List Caller → Outcome Answer → State
answers cs r = then_goes r (λ a w. Answers a cs w)

-- what a step of the innermost body leaves
abbrev pub body_next : History → body.Advanced → Active → List Caller → State
body_next h (body.GoesOn mode ss env w) a cs = Runs mode ss env a cs w
body_next h (body.Lines l mode ss env w) a cs = then_goes (reached h l w) (λ _ w. Runs mode ss env a cs w)
body_next h (body.CallsOut t v vs is u ss env w) a cs = Makes t v vs (record { items = is; user = u; stmts = ss; env = env; active = a }) cs w
body_next h (body.Leaves way w) a cs = answers cs (left h a.ids a.cost way w)
body_next h (body.Breaks e) a cs = Ends e

-- the parameters are there, and the body begins behind the event of its call
abbrev pub begins : History → Key → Text → Fun → List Caller → List ℕ → World → State
begins h key t f cs ids w =
    let born : Born = record { block = 0; ids = ids } in
    then_goes (happened h (Enter key t.core.name) (pass (OpenBlock born) w))
    (λ _ w. Runs (Exec f.body) [] (record { text = t; fun = f; blocks = born ∷ [] }) (record { ids = ids; cost = f.cost }) cs w)

-- the stack has room for the call, or the run ends
abbrev pub enters : Bool → History → Key → Text → Fun → List Value → List Caller → World → State
enters true h key t f vs cs w = Ends (StackFull key w)
enters false h key t f vs cs w =
    then_goes (parameters (slice_index_or f.blocks 0 []) vs [] (pass (Push (frame_of key t w)) (pass (Stack (w.used + f.cost)) w))) (begins h key t f cs)

abbrev pub callee_next : History → Key → List Value → Callee → List Caller → World → State
callee_next h key vs Missing cs w = Ends (Undefined (undefined_name key w) w)
callee_next h key vs (InLibrary f) cs w = answers cs (library_call h f key vs w)
callee_next h key vs (InText t f) cs w = enters (nat_lt w.stack (w.used + f.cost)) h key t f vs cs w

abbrev pub value_next : History → Value → List Value → List Caller → World → State
value_next h (FunctionAt key) vs cs w = callee_next h key vs (callee_of (version_at h w.count) key) cs w
value_next h (Number n) vs cs w = Answers Nothing cs w
value_next h (Pointer o i) vs cs w = Answers Nothing cs w

-- a call whose value is no function of its type breaks a rule
abbrev pub made_unless : Option Rule → History → Value → List Value → List Caller → World → State
made_unless None h v vs cs w = value_next h v vs cs w
made_unless (Some rule) h v vs cs w = Ends (Undefined (call_breach v w rule) w)

-- one step; a run that is over, or that has its answer, stays
abbrev pub advance : History → State → State
advance h (Runs mode ss env a cs w) = body_next h (body.advance mode ss env w) a cs
advance h (Makes t v vs c cs w) = made_unless (value_rule (version_at h w.count) c.env.text t v) h v vs (c ∷ cs) w
advance h (Answers a [] w) = Answers a [] w
advance h (Answers a (c ∷ cs) w) = Runs (Within (Give a) c.items c.user) c.stmts c.env c.active cs w
advance h (Ends e) = Ends e

-- so many steps
abbrev pub ran : ℕ → History → State → State
ran zero h s = s
ran (suc k) h s = ran k h (advance h s)
