-- Every production makes a formed tree of formed operands.
use Rattle.std.proofs.Common.{◌≡◌, ℕ, zero, suc, ◌+◌, Bool, true, false, List, [], ◌∷◌, ◌++◌, refl, sym, subst}
use Rattle.std.specs.Prelude.{Option, Some, None, Ok, Err, not, ◌&&◌, if◌then◌else◌, slice_get, length, nat_le}
use Rattle.sc_base.specs.declared.integer.Int.{Int}
use Rattle.sc_base.specs.declared.key.Key.{Key}
use Rattle.sc_base.specs.declared.operator.Op.{Op}
use Rattle.sc_types.specs.declared.ctype.CType.{CType, out-CType}
use Rattle.sc_types.specs.declared.ctype.CType.TheVariants as t
use Rattle.sc_types.specs.declared.ctype.CType.TheOpen.{CType-F}
use Rattle.sc_types.specs.declared.ctype.Signature.{Signature}
use Rattle.sc_types.specs.declared.ctype.StructDef.{StructDef}
use Rattle.sc_types.specs.Calls.{fits}
use Rattle.sc_types.specs.Conversions.{promote}
use Rattle.sc_types.specs.Tables.{largest}
use Rattle.sc_tree.specs.declared.expression.Constant.{Constant}
use Rattle.sc_tree.specs.declared.operator.Binary.{Binary}
use Rattle.sc_core.specs.declared.expression.Step.{Step}
use Rattle.sc_core.specs.declared.expression.UnaryOperator.{UnaryOperator}
use Rattle.sc_core.specs.declared.expression.UnaryOperator.TheVariants as u
use Rattle.sc_core.specs.declared.expression.CoreExpr.{CoreExpr, out-CoreExpr}
use Rattle.sc_core.specs.declared.expression.CoreExpr.TheVariants as c
use Rattle.sc_core.specs.declared.expression.CoreExpr.TheOpen.{CoreExpr-F}
use Rattle.sc_core.specs.Types.{type_of}
use Rattle.sc_check_operand.specs.declared.shape.Shape.{Shape}
use Rattle.sc_check_operand.specs.declared.shape.Shape.TheVariants as s
use Rattle.sc_check_operand.specs.declared.fault.Cause.TheVariants as cause
use Rattle.sc_check_operand.specs.Steps.{Checked, and_then, refused, mismatch}
use Rattle.sc_check_operand.specs.Types.{Level, int, unsigned, object_size, shape, is_scalar, plain, holds_const}
use Rattle.sc_check_operand.specs.Operands.{is_lvalue, is_of_int, bare, bare_layer, converted, converted_by, value_type, valued, to_int, to_level, to_type}
use Rattle.sc_check_operand.specs.Agreement.{takes, taken, assigned}
use Rattle.sc_check_unary.specs.Leaves as leaf
use Rattle.sc_check_unary.specs.Parts as part
use Rattle.sc_check_unary.specs.Calls as calls
use Rattle.sc_check_unary.specs.Unary as prefix
use Rattle.sc_check_unary.specs.declared.prefix.Casting.{Casting}
use Rattle.sc_check_unary.specs.declared.prefix.Casting.TheVariants as casting
use Rattle.sc_check_binary.specs.declared.operators.Plan.{Plan}
use Rattle.sc_check_binary.specs.declared.operators.Plan.TheVariants as plan
use Rattle.sc_check_binary.specs.declared.choice.Choice.{Choice}
use Rattle.sc_check_binary.specs.declared.choice.Choice.TheVariants as choice
use Rattle.sc_check_binary.specs.declared.storing.Target.{Target}
use Rattle.sc_check_binary.specs.declared.storing.Target.TheVariants as target
use Rattle.sc_check_binary.specs.declared.storing.Change.{Change}
use Rattle.sc_check_binary.specs.declared.storing.Change.TheVariants as change
use Rattle.sc_check_binary.specs.Binary as operator
use Rattle.sc_check_binary.specs.Conditional as conditional
use Rattle.sc_check_binary.specs.Assignment as assignment
use Rattle.sc_check_binary.specs.Formed.{AllOf, IsNoConvert, level, FormedTo, Formed, AllFormed, GivesFormed}

made : (e : CoreExpr) (x : CoreExpr-F CoreExpr) → out-CoreExpr e ≡ x → ((n : ℕ) → level (FormedTo n) x) → Formed e
made e x is h zero = tt
made e x is h (suc n) = let P : CoreExpr-F CoreExpr → Type 0 = level (FormedTo n) in subst P (sym is) (h n)

number : (l : ℕ) (of : CType) (n : ℕ) → Formed (c.Number l of n)
number l of n = made (c.Number l of n) (CoreExpr-F.Number l of n) (c.outs-Number l of n) (λ _. tt)

-- Conversions

bare-layer-formed : (x : CoreExpr-F CoreExpr) (e : CoreExpr) → ((n : ℕ) → level (FormedTo n) x) → Formed e → Formed (bare_layer x e)
bare-layer-formed (CoreExpr-F.Convert l of a) e h f = λ n. (h n).0
bare-layer-formed _ e h f = f

bare-formed : (e : CoreExpr) → Formed e → Formed (bare e)
bare-formed e f = bare-layer-formed (out-CoreExpr e) e (λ n. f (suc n)) f

bare-layer-none : (x : CoreExpr-F CoreExpr) (e : CoreExpr) → out-CoreExpr e ≡ x → level (FormedTo zero) x → IsNoConvert (out-CoreExpr (bare_layer x e))
bare-layer-none (CoreExpr-F.Convert l of a) e is h = h.1
bare-layer-none x e is h = let P : CoreExpr-F CoreExpr → Type 0 = IsNoConvert in subst P (sym is) tt

bare-none : (e : CoreExpr) → Formed e → IsNoConvert (out-CoreExpr (bare e))
bare-none e f = bare-layer-none (out-CoreExpr e) e refl (f (suc zero))

converted-formed : (l : ℕ) (to : CType) (e : CoreExpr) → Formed e → Formed (converted l to e)
converted-formed l to e f =
    made (c.Convert l to (bare e)) (CoreExpr-F.Convert l to (bare e)) (c.outs-Convert l to (bare e)) (λ n. (bare-formed e f n, bare-none e f))

converted_by-formed : (l : ℕ) (to : Option CType) (e : CoreExpr) → Formed e → Formed (converted_by l to e)
converted_by-formed l (Some to) e f = converted-formed l to e f
converted_by-formed l None e f = f

pub valued-formed : (l : ℕ) (e : CoreExpr) → Formed e → Formed (valued l e)
valued-formed l e f = converted_by-formed l (value_type e) e f

to_int-formed : (l : ℕ) (k : Int) (e : CoreExpr) → Formed e → Formed (to_int l k e)
to_int-formed l k e f =
    elim (is_of_int k e) as (λ (b : Bool). Formed (if b then e else converted l (t.Int k false) e))
    [ true ↦ f | false ↦ converted-formed l (t.Int k false) e f ]

to_level-formed : (l : ℕ) (x : Level) (e : CoreExpr) → Formed e → Formed (to_level l x e)
to_level-formed l (CType-F.Int k d) e f = to_int-formed l k e f
to_level-formed l (CType-F.Pointer x d) e f = converted-formed l (t.Pointer x false) e f
to_level-formed l (CType-F.Void d) e f = f
to_level-formed l (CType-F.Array x n) e f = f
to_level-formed l (CType-F.Struct id d) e f = f
to_level-formed l (CType-F.Function g) e f = f

to_type-formed : (l : ℕ) (of : CType) (e : CoreExpr) → Formed e → Formed (to_type l of e)
to_type-formed l of e f = to_level-formed l (out-CType of) e f

taken-formed : (structs : List StructDef) (l : ℕ) (of : CType) (e : CoreExpr) → Formed e → GivesFormed (taken structs l of e)
taken-formed structs l of e f =
    elim (takes structs of e) as (λ (b : Bool). GivesFormed (if b then Ok (to_type l of e) else mismatch l))
    [ true ↦ to_type-formed l of e f | false ↦ tt ]

pub assigned-formed : (structs : List StructDef) (l : ℕ) (of : CType) (e : CoreExpr) → Formed e → GivesFormed (assigned structs l of e)
assigned-formed structs l of e f = taken-formed structs l of (valued l e) (valued-formed l e f)

-- Leaves

pub constant-formed : (l : ℕ) (k : Option Constant) → GivesFormed (leaf.constant l k)
constant-formed l (Some k) = number l (t.Int k.of false) k.value
constant-formed l None = tt

pub literal-formed : (l at : ℕ) (text : List ℕ) → GivesFormed (leaf.literal l at text)
literal-formed l at text =
    elim (nat_le largest (length text)) as (λ (b : Bool). GivesFormed (if b then refused cause.Size l else Ok (c.Literal l (leaf.text_type (length text + 1)) at)))
    [ true ↦ tt | false ↦ made (c.Literal l (leaf.text_type (length text + 1)) at) (CoreExpr-F.Literal l (leaf.text_type (length text + 1)) at) (c.outs-Literal l (leaf.text_type (length text + 1)) at) (λ _. tt) ]

pub automatic-formed : (l : ℕ) (of : CType) (block at : ℕ) → Formed (leaf.automatic l of block at)
automatic-formed l of block at = made (c.Automatic l of block at) (CoreExpr-F.Automatic l of block at) (c.outs-Automatic l of block at) (λ _. tt)

pub static-formed : (l : ℕ) (of : CType) (key : Key) → Formed (leaf.static_object l of key)
static-formed l of key = made (c.Static l of key) (CoreExpr-F.Static l of key) (c.outs-Static l of key) (λ _. tt)

pub function-formed : (l : ℕ) (called : Bool) (of : CType) (key : Key) → GivesFormed (leaf.function l called of key)
function-formed l called of key =
    elim (leaf.is_printf key && not called) as (λ (b : Bool). GivesFormed (if b then refused cause.Printf l else Ok (c.Function l of key)))
    [ true ↦ tt | false ↦ made (c.Function l of key) (CoreExpr-F.Function l of key) (c.outs-Function l of key) (λ _. tt) ]

size_by-formed : (l : ℕ) (n : Option ℕ) → GivesFormed (leaf.size_by l n)
size_by-formed l (Some n) = number l unsigned n
size_by-formed l None = tt

pub size-formed : (structs : List StructDef) (l : ℕ) (of : CType) → GivesFormed (leaf.size_of_type structs l of)
size-formed structs l of = size_by-formed l (object_size structs of)

offset_by-formed : (l : ℕ) (m : Option (CType × ℕ)) → GivesFormed (leaf.offset_by l m)
offset_by-formed l (Some m) = number l unsigned m.1
offset_by-formed l None = tt

pub offset-formed : (structs : List StructDef) (l : ℕ) (of : CType) (name : List ℕ) → GivesFormed (leaf.offset_of_member structs l of name)
offset-formed structs l of name = offset_by-formed l (leaf.member_of structs of name)

-- Parts

index_by-formed : (l : ℕ) (m : Option (CType × ℕ)) (a b : CoreExpr) → Formed a → Formed b → GivesFormed (part.index_by l m a b)
index_by-formed l (Some m) a b f g = made (c.Index l m.0 m.1 a b) (CoreExpr-F.Index l m.0 m.1 a b) (c.outs-Index l m.0 m.1 a b) (λ n. (f n, g n))
index_by-formed l None a b f g = tt

pub index-formed : (structs : List StructDef) (l : ℕ) (a b : CoreExpr) → Formed a → Formed b → GivesFormed (part.index structs l a b)
index-formed structs l a b f g =
    index_by-formed l (part.element_of structs (type_of (valued l a)) (type_of (valued l b))) (valued l a) (valued l b) (valued-formed l a f) (valued-formed l b g)

member_by-formed : (l : ℕ) (m : Option (CType × ℕ)) (a : CoreExpr) → Formed a → GivesFormed (part.member_by l m a)
member_by-formed l (Some m) a f = made (c.Member l m.0 m.1 a) (CoreExpr-F.Member l m.0 m.1 a) (c.outs-Member l m.0 m.1 a) f
member_by-formed l None a f = tt

pub member-formed : (structs : List StructDef) (l : ℕ) (a : CoreExpr) (name : List ℕ) → Formed a → GivesFormed (part.member structs l a name)
member-formed structs l a name f = member_by-formed l (leaf.member_of structs (type_of a) name) a f

arrow_by-formed : (l : ℕ) (m : Option (CType × ℕ)) (a : CoreExpr) → Formed a → GivesFormed (part.arrow_by l m a)
arrow_by-formed l (Some m) a f = made (c.Arrow l m.0 m.1 a) (CoreExpr-F.Arrow l m.0 m.1 a) (c.outs-Arrow l m.0 m.1 a) f
arrow_by-formed l None a f = tt

pub arrow-formed : (structs : List StructDef) (l : ℕ) (a : CoreExpr) (name : List ℕ) → Formed a → GivesFormed (part.arrow structs l a name)
arrow-formed structs l a name f = arrow_by-formed l (part.pointed_level structs (out-CType (type_of (valued l a))) name) (valued l a) (valued-formed l a f)

step-guarded : (l : ℕ) (how : Step) (lvalue rest : Bool) (n : Option ℕ) (a : CoreExpr) → is_lvalue a ≡ lvalue → Formed a → GivesFormed (part.stepped l how (if lvalue && rest then n else None) a)
step-guarded l how true true (Some n) a is f = made (c.Step l (plain (type_of a)) how n a) (CoreExpr-F.Step l (plain (type_of a)) how n a) (c.outs-Step l (plain (type_of a)) how n a) (λ k. (f k, is))
step-guarded l how true true None a is f = tt
step-guarded l how true false n a is f = tt
step-guarded l how false rest n a is f = tt

pub step-formed : (structs : List StructDef) (known : List Bool) (l : ℕ) (how : Step) (a : CoreExpr) → Formed a → GivesFormed (part.step structs known l how a)
step-formed structs known l how a f = step-guarded l how (is_lvalue a) (not (holds_const known (type_of a))) (part.step_by (shape structs (type_of a))) a refl f

-- Calls

further-by-formed : (l : ℕ) (x : Shape) (e : CoreExpr) → Formed e → GivesFormed (calls.further_by l x e)
further-by-formed l (s.Integer k) e f = to_int-formed l (promote k) e f
further-by-formed l s.Void e f = tt
further-by-formed l (s.Object n) e f = f
further-by-formed l s.Incomplete e f = f
further-by-formed l s.Callable e f = f
further-by-formed l (s.Structure n) e f = tt
further-by-formed l s.Other e f = tt

argument-formed : (structs : List StructDef) (l : ℕ) (p : Option CType) (e : CoreExpr) → Formed e → GivesFormed (calls.argument structs l p e)
argument-formed structs l (Some p) e f = assigned-formed structs l p e f
argument-formed structs l None e f = further-by-formed l (shape structs (type_of (valued l e))) (valued l e) (valued-formed l e f)

append-all : (P : CoreExpr → Type 0) (xs : List CoreExpr) (x : CoreExpr) → AllOf P xs → P x → AllOf P (xs ++ x ∷ [])
append-all P [] x hs h = (h, tt)
append-all P (y ∷ ys) x hs h = (hs.0, append-all P ys x hs.1 h)

abbrev AllGiven : Checked (List CoreExpr) → Type 0
AllGiven (Ok es) = AllFormed es
AllGiven (Err d) = Unit {0}

arguments-formed : (structs : List StructDef) (l : ℕ) (ps : List CType) (i : ℕ) (done es : List CoreExpr) → AllFormed done → AllFormed es → AllGiven (calls.arguments structs l ps i done es)
arguments-formed structs l ps i done [] hs gs = hs
arguments-formed structs l ps i done (e ∷ es) hs gs =
    elim (calls.argument structs l (slice_get ps i) e) as (λ (r : Checked CoreExpr). GivesFormed r → AllGiven (and_then r (λ v. calls.arguments structs l ps (i + 1) (done ++ v ∷ []) es))) [
      | Ok v ↦ λ h. arguments-formed structs l ps (i + 1) (done ++ v ∷ []) es (λ n. append-all (FormedTo n) done v (hs n) (h n)) (λ n. (gs n).1)
      | Err d ↦ λ h. tt
    ]
    (argument-formed structs l (slice_get ps i) e (λ n. (gs n).0))

all-formed : (structs : List StructDef) (l : ℕ) (g : Signature) (args : List CoreExpr) → AllFormed args → AllGiven (calls.all_arguments structs l g args)
all-formed structs l g args hs =
    elim (fits g (length args)) as (λ (b : Bool). AllGiven (if b then calls.arguments structs l g.params 0 [] args else mismatch l))
    [ true ↦ arguments-formed structs l g.params 0 [] args (λ n. tt) hs | false ↦ tt ]

call-with-formed : (l : ℕ) (of : CType) (f : CoreExpr) (args : Checked (List CoreExpr)) → Formed f → AllGiven args → GivesFormed (calls.call_with l of f args)
call-with-formed l of f (Ok args) h hs = made (c.Call l of f args) (CoreExpr-F.Call l of f args) (c.outs-Call l of f args) (λ n. (h n, hs n))
call-with-formed l of f (Err d) h hs = tt

call-by-formed : (structs : List StructDef) (l : ℕ) (g : Option Signature) (f : CoreExpr) (args : List CoreExpr) → Formed f → AllFormed args → GivesFormed (calls.call_by structs l g f args)
call-by-formed structs l (Some g) f args h hs = call-with-formed l (plain g.result) f (calls.all_arguments structs l g args) h (all-formed structs l g args hs)
call-by-formed structs l None f args h hs = tt

pub call-formed : (structs : List StructDef) (l : ℕ) (f : CoreExpr) (args : List CoreExpr) → Formed f → AllFormed args → GivesFormed (calls.call structs l f args)
call-formed structs l f args h hs = call-by-formed structs l (calls.called (type_of (valued l f))) (valued l f) args (valued-formed l f h) hs

-- Operators before an operand

pub address-formed : (l : ℕ) (register : Bool) (a : CoreExpr) → Formed a → GivesFormed (prefix.address l register a)
address-formed l register a f =
    elim (prefix.is_addressable register a) as (λ (b : Bool). GivesFormed (if b then Ok (prefix.address_of l a) else mismatch l))
    [ true ↦ made (c.Address l (t.Pointer (type_of a) false) a) (CoreExpr-F.Address l (t.Pointer (type_of a) false) a) (c.outs-Address l (t.Pointer (type_of a) false) a) f | false ↦ tt ]

indirection-by-formed : (l : ℕ) (of : Option CType) (a : CoreExpr) → Formed a → GivesFormed (prefix.indirection_by l of a)
indirection-by-formed l (Some of) a f = made (c.Indirection l of a) (CoreExpr-F.Indirection l of a) (c.outs-Indirection l of a) f
indirection-by-formed l None a f = tt

pub indirection-formed : (structs : List StructDef) (l : ℕ) (a : CoreExpr) → Formed a → GivesFormed (prefix.indirection structs l a)
indirection-formed structs l a f = indirection-by-formed l (prefix.designated_level structs (out-CType (type_of (valued l a)))) (valued l a) (valued-formed l a f)

operated : (l : ℕ) (of : CType) (o : UnaryOperator) (a : CoreExpr) → Formed a → Formed (c.Unary l of o a)
operated l of o a f = made (c.Unary l of o a) (CoreExpr-F.Unary l of o a) (c.outs-Unary l of o a) f

arithmetic-formed : (l : ℕ) (o : UnaryOperator) (x : Shape) (a : CoreExpr) → Formed a → GivesFormed (prefix.arithmetic l o x a)
arithmetic-formed l o (s.Integer k) a f = operated l (t.Int (promote k) false) o (to_int l (promote k) a) (to_int-formed l (promote k) a f)
arithmetic-formed l o _ a f = tt

unary-by-formed : (l : ℕ) (o : UnaryOperator) (x : Shape) (a : CoreExpr) → Formed a → GivesFormed (prefix.unary_by l o x a)
unary-by-formed l u.Not x a f =
    elim (is_scalar x) as (λ (b : Bool). GivesFormed (if b then Ok (c.Unary l int u.Not a) else mismatch l))
    [ true ↦ operated l int u.Not a f | false ↦ tt ]
unary-by-formed l u.Plus x a f = arithmetic-formed l u.Plus x a f
unary-by-formed l u.Minus x a f = arithmetic-formed l u.Minus x a f
unary-by-formed l u.Complement x a f = arithmetic-formed l u.Complement x a f

pub unary-formed : (structs : List StructDef) (l : ℕ) (o : UnaryOperator) (a : CoreExpr) → Formed a → GivesFormed (prefix.unary structs l o a)
unary-formed structs l o a f = unary-by-formed l o (shape structs (type_of (valued l a))) (valued l a) (valued-formed l a f)

cast-by-formed : (l : ℕ) (how : Casting) (of : CType) (a : CoreExpr) → Formed a → GivesFormed (prefix.cast_by l how of a)
cast-by-formed l casting.Taken of a f = made (c.Cast l (plain of) a) (CoreExpr-F.Cast l (plain of) a) (c.outs-Cast l (plain of) a) f
cast-by-formed l casting.Pointers of a f = tt
cast-by-formed l casting.Functions of a f = tt
cast-by-formed l casting.Wrong of a f = tt

pub cast-formed : (structs : List StructDef) (l : ℕ) (of : CType) (a : CoreExpr) → Formed a → GivesFormed (prefix.cast structs l of a)
cast-formed structs l of a f =
    cast-by-formed l (prefix.casting (shape structs of) (shape structs (type_of (valued l a))) (valued l a)) of (valued l a) (valued-formed l a f)

-- Operators between operands

integers : (l : ℕ) (of : CType) (o : Op) (a b : CoreExpr) → Formed a → Formed b → Formed (c.Binary l of o a b)
integers l of o a b f g = made (c.Binary l of o a b) (CoreExpr-F.Binary l of o a b) (c.outs-Binary l of o a b) (λ n. (f n, g n))

compared : (l : ℕ) (o : Op) (a b : CoreExpr) → Formed a → Formed b → Formed (c.Compare l int o a b)
compared l o a b f g = made (c.Compare l int o a b) (CoreExpr-F.Compare l int o a b) (c.outs-Compare l int o a b) (λ n. (f n, g n))

offset : (l : ℕ) (of : CType) (o : Op) (n : ℕ) (a b : CoreExpr) → Formed a → Formed b → Formed (c.Offset l of o n a b)
offset l of o n a b f g = made (c.Offset l of o n a b) (CoreExpr-F.Offset l of o n a b) (c.outs-Offset l of o n a b) (λ k. (f k, g k))

planned-formed : (l : ℕ) (p : Plan) (a b : CoreExpr) → Formed a → Formed b → GivesFormed (operator.planned l p a b)
planned-formed l (plan.Arithmetic o k) a b f g = integers l (t.Int k false) o (to_int l k a) (to_int l k b) (to_int-formed l k a f) (to_int-formed l k b g)
planned-formed l (plan.Comparison o k) a b f g = integers l int o (to_int l k a) (to_int l k b) (to_int-formed l k a f) (to_int-formed l k b g)
planned-formed l (plan.Shift o j k) a b f g = integers l (t.Int j false) o (to_int l j a) (to_int l k b) (to_int-formed l j a f) (to_int-formed l k b g)
planned-formed l (plan.Left o n) a b f g = offset l (type_of a) o n a b f g
planned-formed l (plan.Right o n) a b f g = offset l (type_of b) o n a b f g
planned-formed l (plan.Difference n) a b f g = made (c.Difference l int n a b) (CoreExpr-F.Difference l int n a b) (c.outs-Difference l int n a b) (λ k. (f k, g k))
planned-formed l (plan.Pointers o) a b f g = compared l o a b f g
planned-formed l (plan.NullLeft o) a b f g = compared l o (converted l (type_of b) a) b (converted-formed l (type_of b) a f) g
planned-formed l (plan.NullRight o) a b f g = compared l o a (converted l (type_of a) b) f (converted-formed l (type_of a) b g)
planned-formed l plan.And a b f g = made (c.And l int a b) (CoreExpr-F.And l int a b) (c.outs-And l int a b) (λ n. (f n, g n))
planned-formed l plan.Or a b f g = made (c.Or l int a b) (CoreExpr-F.Or l int a b) (c.outs-Or l int a b) (λ n. (f n, g n))
planned-formed l plan.Wrong a b f g = tt

pub binary-formed : (structs : List StructDef) (l : ℕ) (o : Binary) (a b : CoreExpr) → Formed a → Formed b → GivesFormed (operator.binary structs l o a b)
binary-formed structs l o a b f g =
    planned-formed l (operator.plan_of structs o (valued l a) (valued l b)) (valued l a) (valued l b) (valued-formed l a f) (valued-formed l b g)

comma-values : (l : ℕ) (a b : CoreExpr) → Formed a → Formed b → Formed (operator.comma_values l a b)
comma-values l a b f g = made (c.Comma l (plain (type_of b)) a b) (CoreExpr-F.Comma l (plain (type_of b)) a b) (c.outs-Comma l (plain (type_of b)) a b) (λ n. (f n, g n))

pub comma-formed : (l : ℕ) (a b : CoreExpr) → Formed a → Formed b → Formed (operator.comma l a b)
comma-formed l a b f g = comma-values l (valued l a) (valued l b) (valued-formed l a f) (valued-formed l b g)

three : (l : ℕ) (of : CType) (a b d : CoreExpr) → Formed a → Formed b → Formed d → Formed (c.Conditional l of a b d)
three l of a b d f g h = made (c.Conditional l of a b d) (CoreExpr-F.Conditional l of a b d) (c.outs-Conditional l of a b d) (λ n. (f n, g n, h n))

chosen-formed : (l : ℕ) (x : Choice) (a b d : CoreExpr) → Formed a → Formed b → Formed d → GivesFormed (conditional.chosen l x a b d)
chosen-formed l (choice.Integers k) a b d f g h = three l (t.Int k false) a (to_int l k b) (to_int l k d) f (to_int-formed l k b g) (to_int-formed l k d h)
chosen-formed l choice.Nothing a b d f g h = three l (t.Void false) a b d f g h
chosen-formed l (choice.Structure i) a b d f g h = three l (t.Struct i false) a b d f g h
chosen-formed l (choice.Pointers of) a b d f g h = three l of a (to_type l of b) (to_type l of d) f (to_type-formed l of b g) (to_type-formed l of d h)
chosen-formed l choice.Wrong a b d f g h = tt

conditional-values : (structs : List StructDef) (l : ℕ) (a b d : CoreExpr) → Formed a → Formed b → Formed d → GivesFormed (conditional.conditional_values structs l a b d)
conditional-values structs l a b d f g h =
    elim (is_scalar (shape structs (type_of a))) as (λ (x : Bool). GivesFormed (if x then conditional.chosen l (conditional.choice_of structs b d) a b d else mismatch l))
    [ true ↦ chosen-formed l (conditional.choice_of structs b d) a b d f g h | false ↦ tt ]

pub conditional-formed : (structs : List StructDef) (l : ℕ) (a b d : CoreExpr) → Formed a → Formed b → Formed d → GivesFormed (conditional.conditional structs l a b d)
conditional-formed structs l a b d f g h =
    conditional-values structs l (valued l a) (valued l b) (valued l d) (valued-formed l a f) (valued-formed l b g) (valued-formed l d h)

-- Assignments

stored-guarded : (l : ℕ) (lvalue rest : Bool) (x : Target) (a b : CoreExpr) → is_lvalue a ≡ lvalue → Formed a → Formed b → GivesFormed (assignment.stored_by l (if lvalue && rest then x else target.Wrong) a b)
stored-guarded l true true target.Scalar a b is f g = made (c.Assign l (plain (type_of a)) a b) (CoreExpr-F.Assign l (plain (type_of a)) a b) (c.outs-Assign l (plain (type_of a)) a b) (λ k. (f k, g k, is))
stored-guarded l true true (target.Whole n) a b is f g =
    made (c.AssignStructure l (plain (type_of a)) n a b) (CoreExpr-F.AssignStructure l (plain (type_of a)) n a b) (c.outs-AssignStructure l (plain (type_of a)) n a b) (λ k. (f k, g k, is))
stored-guarded l true true target.Wrong a b is f g = tt
stored-guarded l true false x a b is f g = tt
stored-guarded l false rest x a b is f g = tt

stored-formed : (l : ℕ) (x : Target) (a : CoreExpr) (v : Checked CoreExpr) → ((b : CoreExpr) → Formed b → GivesFormed (assignment.stored_by l x a b)) → GivesFormed v → GivesFormed (assignment.stored l x a v)
stored-formed l x a (Ok b) h g = h b g
stored-formed l x a (Err d) h g = tt

pub assignment-formed : (structs : List StructDef) (known : List Bool) (l : ℕ) (a b : CoreExpr) → Formed a → Formed b → GivesFormed (assignment.assignment structs known l a b)
assignment-formed structs known l a b f g =
    stored-formed l (assignment.modified structs known a) a (taken structs l (type_of a) (valued l b))
    (λ v h. stored-guarded l (is_lvalue a) (not (holds_const known (type_of a))) (assignment.target_of structs (type_of a)) a v refl f h)
    (taken-formed structs l (type_of a) (valued l b) (valued-formed l b g))

changed-guarded : (l : ℕ) (lvalue rest : Bool) (x : Change) (a b : CoreExpr) → is_lvalue a ≡ lvalue → Formed a → Formed b → GivesFormed (assignment.changed l (if lvalue && rest then x else change.Wrong) a b)
changed-guarded l true true (change.Integers o j k) a b is f g =
    made (c.Compound l (plain (type_of a)) o j a (to_int l k b)) (CoreExpr-F.Compound l (plain (type_of a)) o j a (to_int l k b)) (c.outs-Compound l (plain (type_of a)) o j a (to_int l k b)) (λ n. (f n, to_int-formed l k b g n, is))
changed-guarded l true true (change.Pointer o n) a b is f g =
    made (c.CompoundOffset l (plain (type_of a)) o n a b) (CoreExpr-F.CompoundOffset l (plain (type_of a)) o n a b) (c.outs-CompoundOffset l (plain (type_of a)) o n a b) (λ k. (f k, g k, is))
changed-guarded l true true change.Wrong a b is f g = tt
changed-guarded l true false x a b is f g = tt
changed-guarded l false rest x a b is f g = tt

pub compound-formed : (structs : List StructDef) (known : List Bool) (l : ℕ) (o : Binary) (a b : CoreExpr) → Formed a → Formed b → GivesFormed (assignment.compound structs known l o a b)
compound-formed structs known l o a b f g =
    changed-guarded l (is_lvalue a) (not (holds_const known (type_of a))) (assignment.change_by (operator.class_of o) (shape structs (type_of a)) (shape structs (type_of (valued l b)))) a (valued l b) refl f (valued-formed l b g)
