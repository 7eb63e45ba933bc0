-- Yardstick: to be compared with what it restates (docs/TRUST.md).
-- Expressions, each by the meaning of its parts (ANSI 3.3). Operands go from left to right. An assignment finds the
-- place of its left side first; a compound assignment then evaluates its right side, and only then reads the left
-- side's value.
use Rattle.std.specs.Prelude.{ℕ, ◌+◌, ◌==◌, Bool, true, false, not, if◌then◌else◌, List, [], ◌∷◌, ◌++◌, slice_get, slice_index, Option, Some, None}
use Rattle.sc_base.specs.declared.integer.Int.{Int}
use Rattle.sc_base.specs.declared.integer.Int.TheVariants.{Int as PlainInt}
use Rattle.sc_base.specs.declared.key.Key.{Key}
use Rattle.sc_base.specs.declared.operator.Op.{Op}
use Rattle.sc_base.specs.declared.operator.Op.TheVariants as op
use Rattle.sc_base.specs.declared.report.Rule.{Rule}
use Rattle.sc_base.specs.declared.report.Rule.TheVariants.{U12, U13, U17}
use Rattle.sc_program.specs.declared.storage.StaticId.TheVariants as id
use Rattle.sc_types.specs.declared.ctype.CType.{CType, out-CType}
use Rattle.sc_types.specs.declared.ctype.CType.TheOpen.{CType-F}
use Rattle.sc_types.specs.declared.ctype.Signature.{Signature}
use Rattle.sc_types.specs.Compatibility.{same_signature, sides}
use Rattle.sc_ops.specs.Operators.{truth_of}
use Rattle.sc_core.specs.declared.expression.CoreExpr.{CoreExpr}
use Rattle.sc_core.specs.declared.expression.CoreExpr.TheOpen.{CoreExpr-F}
use Rattle.sc_core.specs.declared.expression.Step.{Step}
use Rattle.sc_core.specs.declared.expression.Step.TheVariants.{IncrementFirst, DecrementFirst, IncrementAfter, DecrementAfter}
use Rattle.sc_core.specs.declared.expression.UnaryOperator.{UnaryOperator}
use Rattle.sc_core.specs.declared.expression.UnaryOperator.TheVariants.{Plus, Minus, Complement, Not}
use Rattle.sc_core.specs.declared.module.Fun.{Fun}
use Rattle.sc_core.specs.Types.{type_of}
use Rattle.sc_meaning.specs.Values.{Value, Number, FunctionAt, Pointer, null, is_pointer_type, int_of}
use Rattle.sc_meaning.specs.World.{World, Born, pass, Work, GoesOut, ComesBack, tick, named_in}
use Rattle.sc_meaning.specs.Outcomes.{Outcome, Done, and_then, breach, undefined, unless, Breach}
use Rattle.sc_meaning.specs.Accesses.{as_type, converted_value, loaded, stored, copied, computed, shifted, member_address, difference, compared, tested}
use Rattle.sc_meaning.specs.Versions.{Text, History, Callee, Missing, InText, InLibrary, callee_of, version_at}
use Rattle.sc_meaning.specs.Signatures.{takes}

-- what a running call's names stand for: its text, its function, and its entered blocks, outermost first
pub record Env : Type 0 where
  pub text : Text
  pub fun : Fun
  pub blocks : List Born

-- What an expression gives: a value; a place, as the pointer to it, or to the structure of which it is the member at an
-- offset; or nothing, as a call that gave no value, and what is cast to void. A function is the place of itself, and a
-- structure's value is its place.
pub data Answer : Type 0 where
  Plain : Value → Answer
  Place : Value → Answer
  Part : Value → ℕ → Answer
  Nothing : Answer

abbrev pub Eval : Type 0
Eval = Env → CoreExpr → World → Outcome Answer

abbrev pub Call : Type 0
Call = Key → List Value → World → Outcome Answer

-- an expression ends
abbrev pub finished : Answer → World → Outcome Answer
finished a w = Done a (tick w)

abbrev pub plain : Value → World → Outcome Answer
plain v w = finished (Plain v) w

abbrev pub at_place : Value → World → Outcome Answer
at_place p w = finished (Place p) w

-- U13: a value is used, and a call gave none
abbrev pub used : Answer → World → Outcome Value
used (Plain v) w = Done v w
used (Place p) w = Done p w
used (Part p n) w = Done p w
used Nothing w = undefined (breach U13 w) w

abbrev pub valued : Eval → Env → CoreExpr → World → Outcome Value
valued eval env e w = and_then (eval env e w) used

-- the place of an answer: a pointer, and how many bytes further it is
abbrev pub base_of : Answer → Value
base_of (Plain v) = v
base_of (Place p) = p
base_of (Part p n) = p
base_of Nothing = null

abbrev pub further_of : Answer → ℕ
further_of (Plain v) = 0
further_of (Place p) = 0
further_of (Part p n) = n
further_of Nothing = 0

-- names (3.3.1): an object of an entered block, an object of static storage duration, a literal
abbrev pub automatic_in : List Born → ℕ → ℕ → Value
automatic_in [] b i = null
automatic_in (o ∷ os) b i = if o.block == b then Pointer (slice_index o.ids i) 0 else automatic_in os b i

abbrev pub undefined_name : Key → World → Breach
undefined_name key w = record (breach U17 w) { name = Some key }

abbrev pub static_at : Key → Option ℕ → World → Outcome Answer
static_at key None w = undefined (undefined_name key w) w
static_at key (Some o) w = at_place (Pointer o 0) w

abbrev pub literal_at : Option ℕ → Value
literal_at None = null
literal_at (Some o) = Pointer o 0

abbrev pub literal_of : Text → Option (List ℕ) → World → Value
literal_of t None w = null
literal_of t (Some bytes) w = literal_at (named_in w.names (id.Literal t.core.name bytes))

-- the address of a place (3.3.3.2): of a member it is arithmetic on the structure's
abbrev pub address : Answer → World → Outcome Value
address (Plain v) w = Done v w
address (Place p) w = Done p w
address (Part p n) w = member_address p n w
address Nothing w = used Nothing w

-- the value that a place of a scalar type holds (3.2.2.1)
abbrev pub read : CType → Answer → World → Outcome Answer
read t (Plain v) w = Done (Plain v) w
read t (Place p) w = and_then (loaded t p 0 w) (λ v w. Done (Plain v) w)
read t (Part p n) w = and_then (loaded t p n w) (λ v w. Done (Plain v) w)
read t Nothing w = Done Nothing w

abbrev pub decayed : Answer → World → Outcome Answer
decayed a w = and_then (address a w) (λ p w. Done (Plain p) w)

-- an array becomes the address of its first element, a function its address (3.2.2.1); a structure stays a place
abbrev pub layer_read : CType-F CType Signature → CType → Answer → World → Outcome Answer
layer_read (CType-F.Void c) t a w = Done a w
layer_read (CType-F.Int i c) t a w = read t a w
layer_read (CType-F.Pointer p c) t a w = read t a w
layer_read (CType-F.Array e n) t a w = decayed a w
layer_read (CType-F.Struct s c) t a w = Done a w
layer_read (CType-F.Function f) t a w = decayed a w

abbrev pub as_answer : CType → Answer → Answer
as_answer t (Plain v) = Plain (as_type t v)
as_answer t (Place p) = Place p
as_answer t (Part p n) = Part p n
as_answer t Nothing = Nothing

-- a conversion from one type to another, which is no node of its own (3.2)
abbrev pub conversion : CType → CType → Answer → World → Outcome Answer
conversion from to a w = and_then (layer_read (out-CType from) from a w) (λ a w. Done (as_answer to a) w)

abbrev pub layer_is_void : CType-F CType Signature → Bool
layer_is_void (CType-F.Void c) = true
layer_is_void _ = false

abbrev pub is_void : CType → Bool
is_void t = layer_is_void (out-CType t)

-- the first of two, or the second
abbrev pub either : {A : Type 0} → Bool → (World → Outcome A) → (World → Outcome A) → World → Outcome A
either true f g w = f w
either false f g w = g w

-- a cast to void takes any answer, every other one a value (3.3.4)
abbrev pub cast : Bool → CType → Answer → World → Outcome Answer
cast true t a w = finished Nothing w
cast false t a w = and_then (used a w) (λ v w. plain (as_type t v) w)

-- a pointer and an integer, in either order
abbrev pub offset_by : Op → ℕ → CType → CType → Value → Value → World → Outcome Value
offset_by o size s t x y w = if is_pointer_type s then shifted true o x (int_of t) y size w else shifted false o y (int_of s) x size w

abbrev pub part_of : Answer → ℕ → Answer
part_of (Plain v) n = Part v n
part_of (Place p) n = Part p n
part_of (Part p m) n = Part p (m + n)
part_of Nothing n = Nothing

abbrev pub operator_of : Step → Op
operator_of IncrementFirst = op.Inc
operator_of DecrementFirst = op.Dec
operator_of IncrementAfter = op.Inc
operator_of DecrementAfter = op.Dec

-- one more or one less: of an integer in its promoted type (3.3.2.4)
abbrev pub next_value : Op → ℕ → CType → Value → World → Outcome Value
next_value o size t v w =
    if is_pointer_type t then shifted true o v PlainInt (Number 1) size w
    else and_then (computed o (int_of t) v PlainInt (Number 1) w) (λ n w. Done (as_type t n) w)

abbrev pub old_or_new : Step → Value → Value → Value
old_or_new IncrementFirst old new = new
old_or_new DecrementFirst old new = new
old_or_new IncrementAfter old new = old
old_or_new DecrementAfter old new = old

-- `++` and `--`: the place is read, and then written (3.3.2.4, 3.3.3.1)
abbrev pub stepped : Step → ℕ → CType → Answer → World → Outcome Value
stepped s size t a w =
    and_then (loaded t (base_of a) (further_of a) w) (λ old w.
    and_then (next_value (operator_of s) size t old w) (λ new w.
    and_then (stored t (base_of a) (further_of a) new w) (λ v w. Done (old_or_new s old v) w)))

-- `+ - ~ !` (3.3.3.3)
abbrev pub unary : UnaryOperator → CType → Value → World → Outcome Value
unary Plus t v w = Done v w
unary Minus t v w = computed op.Neg (int_of t) null (int_of t) v w
unary Complement t v w = computed op.Not (int_of t) null (int_of t) v w
unary Not t v w = and_then (tested t v w) (λ yes w. Done (Number (truth_of (not yes))) w)

abbrev pub truth : CType → Value → World → Outcome Answer
truth t v w = and_then (tested t v w) (λ yes w. plain (Number (truth_of yes)) w)

-- `=` on structures: the cells are copied as they are (3.3.16.1)
abbrev pub assigned_structure : ℕ → Answer → Answer → World → Outcome Answer
assigned_structure size a b w =
    and_then (copied (base_of a) (further_of a) (base_of b) (further_of b) size w) (λ _ w. finished a (pass (Work size) w))

-- a compound assignment on integers, which works in the type i (3.3.16.2)
abbrev pub compounded : Op → Int → CType → CType → Answer → Value → World → Outcome Value
compounded o i t s a y w =
    and_then (loaded t (base_of a) (further_of a) w) (λ old w.
    and_then (computed o i (converted_value i old) (int_of s) y w) (λ new w.
    stored t (base_of a) (further_of a) (as_type t new) w))

-- `+=` and `-=` on a pointer
abbrev pub moved_by : Op → ℕ → CType → CType → Answer → Value → World → Outcome Value
moved_by o size t s a y w =
    and_then (loaded t (base_of a) (further_of a) w) (λ old w.
    and_then (shifted true o old (int_of s) y size w) (λ new w. stored t (base_of a) (further_of a) new w))

-- whether a function's type is the one by which it is called: U12, and U17 where the key has no definition
abbrev pub signature_in : CType-F CType Signature → Option Signature
signature_in (CType-F.Function f) = Some f
signature_in _ = None

abbrev pub target_in : CType-F CType Signature → Option Signature
target_in (CType-F.Pointer t c) = signature_in (out-CType t)
target_in _ = None

abbrev pub rule_if : Bool → Option Rule
rule_if true = None
rule_if false = Some U12

abbrev pub signature_rule : Text → Signature → Callee → Option Rule
signature_rule t s Missing = Some U17
signature_rule t s (InText u f) = rule_if (same_signature (sides (t.number == u.number) t.core.structs u.core.structs) s f.of)
signature_rule t s (InLibrary f) = rule_if (takes f s)

-- the name is looked up before the type is compared
abbrev pub called_rule : Text → Option Signature → Callee → Option Rule
called_rule t None Missing = Some U17
called_rule t None (InText u f) = Some U12
called_rule t None (InLibrary f) = Some U12
called_rule t (Some s) callee = signature_rule t s callee

abbrev pub value_rule : List Text → Text → CType → Value → Option Rule
value_rule texts t s (Number n) = Some U12
value_rule texts t s (Pointer o i) = Some U12
value_rule texts t s (FunctionAt key) = called_rule t (target_in (out-CType s)) (callee_of texts key)

abbrev pub name_in : Value → Option Key
name_in (FunctionAt key) = Some key
name_in (Number n) = None
name_in (Pointer o i) = None

abbrev pub call_breach : Value → World → Rule → Breach
call_breach v w rule = record (breach rule w) { left = v; name = name_in v }

abbrev pub call_value : Call → Value → List Value → World → Outcome Answer
call_value call (FunctionAt key) vs w = call key vs w
call_value call (Number n) vs w = Done Nothing w
call_value call (Pointer o i) vs w = Done Nothing w

-- a call through a pointer, as its operands are there (3.3.2.2): it goes out, is tested by the present version, and
-- comes back
abbrev pub called : History → Call → Text → CType → Value → List Value → World → Outcome Answer
called h call t s v vs w =
    and_then (unless (value_rule (version_at h w.count) t s v) (call_breach v w) (call_value call v vs) (pass GoesOut w)) (λ a w. finished a (pass ComesBack w))

-- arguments from left to right, and then what is done with them
abbrev pub args_then : Eval → Env → List CoreExpr → List Value → World → (List Value → World → Outcome Answer) → Outcome Answer
args_then eval env [] vs w go = go vs w
args_then eval env (e ∷ es) vs w go = and_then (valued eval env e w) (λ v w. args_then eval env es (vs ++ v ∷ []) w go)

-- one operand, and two, with what follows
abbrev pub one : Eval → Env → CoreExpr → World → (Value → World → Outcome Answer) → Outcome Answer
one eval env a w go = and_then (valued eval env a w) go

abbrev pub two : Eval → Env → CoreExpr → CoreExpr → World → (Value → Value → World → Outcome Answer) → Outcome Answer
two eval env a b w go = and_then (valued eval env a w) (λ x w. and_then (valued eval env b w) (go x))

-- an expression has begun
abbrev pub expr_of : History → Eval → Call → Env → CoreExpr-F CoreExpr → World → Outcome Answer
expr_of h eval call env (CoreExpr-F.Number l t n) w = plain (Number n) w
expr_of h eval call env (CoreExpr-F.Literal l t i) w = at_place (literal_of env.text (slice_get env.text.core.literals i) w) w
expr_of h eval call env (CoreExpr-F.Automatic l t b i) w = at_place (automatic_in env.blocks b i) w
expr_of h eval call env (CoreExpr-F.Static l t key) w = static_at key (named_in w.names (id.Named key)) w
expr_of h eval call env (CoreExpr-F.Function l t key) w = at_place (FunctionAt key) w
expr_of h eval call env (CoreExpr-F.Index l t size a b) w =
    two eval env a b w (λ x y w. and_then (offset_by op.Add size (type_of a) (type_of b) x y w) at_place)
expr_of h eval call env (CoreExpr-F.Call l t f es) w =
    one eval env f w (λ v w. args_then eval env es [] w (called h call env.text (type_of f) v))
expr_of h eval call env (CoreExpr-F.Member l t n a) w = and_then (eval env a w) (λ x w. finished (part_of x n) w)
expr_of h eval call env (CoreExpr-F.Arrow l t n a) w = one eval env a w (λ p w. finished (Part p n) w)
expr_of h eval call env (CoreExpr-F.Step l t s n a) w = and_then (eval env a w) (λ x w. and_then (stepped s n (type_of a) x w) plain)
expr_of h eval call env (CoreExpr-F.Address l t a) w = and_then (eval env a w) (λ x w. and_then (address x w) plain)
expr_of h eval call env (CoreExpr-F.Indirection l t a) w = one eval env a w at_place
expr_of h eval call env (CoreExpr-F.Unary l t o a) w = one eval env a w (λ x w. and_then (unary o (type_of a) x w) plain)
expr_of h eval call env (CoreExpr-F.Cast l t a) w = and_then (eval env a w) (cast (is_void t) t)
expr_of h eval call env (CoreExpr-F.Binary l t o a b) w =
    two eval env a b w (λ x y w. and_then (computed o (int_of (type_of a)) x (int_of (type_of b)) y w) plain)
expr_of h eval call env (CoreExpr-F.Offset l t o size a b) w =
    two eval env a b w (λ x y w. and_then (offset_by o size (type_of a) (type_of b) x y w) plain)
expr_of h eval call env (CoreExpr-F.Difference l t size a b) w = two eval env a b w (λ x y w. and_then (difference x y size w) plain)
expr_of h eval call env (CoreExpr-F.Compare l t o a b) w = two eval env a b w (λ x y w. and_then (compared o x y w) plain)
expr_of h eval call env (CoreExpr-F.And l t a b) w =
    one eval env a w (λ x w. and_then (tested (type_of a) x w) (λ yes w. either yes (λ w. one eval env b w (truth (type_of b))) (plain (Number 0)) w))
expr_of h eval call env (CoreExpr-F.Or l t a b) w =
    one eval env a w (λ x w. and_then (tested (type_of a) x w) (λ yes w. either yes (plain (Number 1)) (λ w. one eval env b w (truth (type_of b))) w))
expr_of h eval call env (CoreExpr-F.Conditional l t a b c) w =
    one eval env a w (λ x w. and_then (tested (type_of a) x w) (λ yes w. and_then (either yes (eval env b) (eval env c) w) finished))
expr_of h eval call env (CoreExpr-F.Assign l t a b) w =
    and_then (eval env a w) (λ p w. one eval env b w (λ v w. and_then (stored (type_of a) (base_of p) (further_of p) v w) plain))
expr_of h eval call env (CoreExpr-F.AssignStructure l t size a b) w =
    and_then (eval env a w) (λ p w. and_then (eval env b w) (assigned_structure size p))
expr_of h eval call env (CoreExpr-F.Compound l t o i a b) w =
    and_then (eval env a w) (λ p w. one eval env b w (λ y w. and_then (compounded o i (type_of a) (type_of b) p y w) plain))
expr_of h eval call env (CoreExpr-F.CompoundOffset l t o size a b) w =
    and_then (eval env a w) (λ p w. one eval env b w (λ y w. and_then (moved_by o size (type_of a) (type_of b) p y w) plain))
expr_of h eval call env (CoreExpr-F.Comma l t a b) w = and_then (eval env a w) (λ _ w. and_then (eval env b w) finished)
expr_of h eval call env (CoreExpr-F.Convert l t a) w = and_then (eval env a w) (conversion (type_of a) t)

-- the beginning of an expression, which is work where it is no conversion
abbrev pub begun : CoreExpr-F CoreExpr → World → World
begun (CoreExpr-F.Convert l t a) w = w
begun _ w = tick w
