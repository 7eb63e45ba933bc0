-- Yardstick: to be compared with what it restates (docs/TRUST.md).
-- What a part of a program gives: a result with the world after it, or the end of the run.
use Rattle.std.specs.Prelude.{ℕ, ◌+◌, List, [], ◌∷◌, Option, Some, None}
use Rattle.sc_base.specs.declared.integer.Int.{Int}
use Rattle.sc_base.specs.declared.integer.Int.TheVariants.{Int as PlainInt}
use Rattle.sc_base.specs.declared.key.Key.{Key}
use Rattle.sc_base.specs.declared.memory.Form.{Form}
use Rattle.sc_base.specs.declared.memory.Form.TheVariants as form
use Rattle.sc_base.specs.declared.operator.Op.{Op}
use Rattle.sc_base.specs.declared.operator.Op.TheVariants.{Truth}
use Rattle.sc_base.specs.declared.report.Rule.{Rule}
use Rattle.sc_meaning.specs.Values.{Value, Number, FunctionAt, Pointer, null}
use Rattle.sc_meaning.specs.World.{World, Frame}

-- An undefined step: the rule; the access of `size` bytes at `at`; the operands of `op` with the type of each; the
-- function and line in which it stands; and for some rules a name, or the number of an argument, counted from 1.
pub record Breach : Type 0 where
  pub rule : Rule
  pub op : Op
  pub at : Value
  pub size : ℕ
  pub left : Value
  pub right : Value
  pub int : Int
  pub right_int : Int
  pub fun : Key
  pub line : ℕ
  pub name : Option Key
  pub argument : ℕ

-- how a run ends: at an undefined step; with a status; as a call finds no room on the stack; as one object too many
-- is born; or only since the bound on its depth is used up
pub data Ending : Type 0 where
  Undefined : Breach → World → Ending
  Exit : ℕ → World → Ending
  StackFull : Key → World → Ending
  BirthLimit : World → Ending
  OutOfFuel : World → Ending

pub data Outcome (A : Type 0) : Type 0 where
  Done : A → World → Outcome A
  Over : Ending → Outcome A

-- goes on from where a part is done; an end stays the end
abbrev pub and_then : {A B : Type 0} → Outcome A → (A → World → Outcome B) → Outcome B
and_then (Done a w) f = f a w
and_then (Over e) f = Over e

abbrev pub world_at : Ending → World
world_at (Undefined b w) = w
world_at (Exit status w) = w
world_at (StackFull key w) = w
world_at (BirthLimit w) = w
world_at (OutOfFuel w) = w

-- the world at the end of a part
abbrev pub world_after : {A : Type 0} → Outcome A → World
world_after (Done a w) = w
world_after (Over e) = world_at e

-- a step that only changes the world
abbrev pub Step : Type 0
Step = World → Outcome (Unit {0})

abbrev pub went : Step
went w = Done tt w

-- the function of the innermost call, and the line of its last At event, which only an interpreted call has
abbrev pub line_in : Form → ℕ → ℕ
line_in form.Source line = line
line_in form.Object line = 0

abbrev pub fun_in : List Frame → Key
fun_in [] = record { «module» = None; name = [] }
fun_in (f ∷ fs) = f.key

abbrev pub line_of : List Frame → ℕ
line_of [] = 0
line_of (f ∷ fs) = line_in f.form f.line

-- a breach of which nothing is said but its rule and its place in the program
abbrev pub breach : Rule → World → Breach
breach rule w = record {
  rule = rule;
  op = Truth;
  at = null;
  size = 0;
  left = null;
  right = null;
  int = PlainInt;
  right_int = PlainInt;
  fun = fun_in w.frames;
  line = line_of w.frames;
  name = None;
  argument = 0;
}

abbrev pub undefined : {A : Type 0} → Breach → World → Outcome A
undefined b w = Over (Undefined b w)

-- an undefined step where a rule is broken, else what follows
abbrev pub unless : {A : Type 0} → Option Rule → (Rule → Breach) → (World → Outcome A) → World → Outcome A
unless None told go w = go w
unless (Some rule) told go w = undefined (told rule) w

-- a place further on in its object
abbrev pub moved : Value → ℕ → Value
moved (Number n) k = Number n
moved (FunctionAt f) k = FunctionAt f
moved (Pointer o i) k = Pointer o (i + k)

-- a breach at an access of n bytes
abbrev pub access_breach : Value → ℕ → ℕ → World → Rule → Breach
access_breach p further n w rule = record (breach rule w) { at = moved p further; size = n }

-- a breach by the operands of an operator
abbrev pub operand_breach : Op → Int → Value → Int → Value → World → Rule → Breach
operand_breach op i x j y w rule = record (breach rule w) { op = op; left = x; right = y; int = i; right_int = j }
