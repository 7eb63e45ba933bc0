-- Expressions of integer type give no pointers.
use Rattle.std.proofs.Common.{◌≡◌, ℕ, ◌==◌, Bool, true, false, if◌then◌else◌, ◌&&◌, List, [], ◌∷◌, ◌++◌, Option, Some, None, refl}
use Rattle.sc_base.specs.declared.integer.Int.{Int}
use Rattle.sc_base.specs.declared.integer.Int.TheVariants.{Int as PlainInt}
use Rattle.sc_base.specs.declared.key.Key.{Key}
use Rattle.sc_base.specs.declared.operator.Op.{Op}
use Rattle.sc_base.specs.declared.operator.Op.TheVariants as op
use Rattle.sc_types.specs.declared.ctype.CType.{CType, out-CType}
use Rattle.sc_types.specs.declared.ctype.CType.TheOpen.{CType-F}
use Rattle.sc_types.specs.declared.ctype.Signature.{Signature}
use Rattle.sc_types.specs.Compatibility.{same_signature, sides, same_bool, alike, same_parameters, Pairs}
use Rattle.sc_core.specs.declared.expression.CoreExpr.{CoreExpr, out-CoreExpr}
use Rattle.sc_core.specs.declared.expression.CoreExpr.TheOpen.{CoreExpr-F}
use Rattle.sc_core.specs.declared.expression.Step.{Step}
use Rattle.sc_core.specs.declared.expression.Step.TheVariants.{IncrementFirst, DecrementFirst, IncrementAfter, DecrementAfter}
use Rattle.sc_core.specs.declared.expression.UnaryOperator.{UnaryOperator}
use Rattle.sc_core.specs.declared.expression.UnaryOperator.TheVariants.{Plus, Minus, Complement, Not}
use Rattle.sc_core.specs.Types.{type_of}
use Rattle.sc_meaning.specs.Values.{Value, Number, FunctionAt, Pointer, null, is_pointer_type, int_of, scalar_size}
use Rattle.sc_meaning.specs.World.{World, pass, GoesOut, ComesBack}
use Rattle.sc_meaning.specs.Outcomes.{Outcome, Done, Over, and_then, unless}
use Rattle.sc_meaning.specs.Violations.{store_rule, difference_rule}
use Rattle.sc_meaning.specs.Accesses.{compare_rule, as_type, converted_value, loaded, stored, computed, shifted, difference, compared, tested}
use Rattle.sc_meaning.specs.Versions.{Text, History, Callee, Missing, InText, InLibrary, callee_of, version_at}
use Rattle.sc_meaning.specs.Signatures.{takes}
use Rattle.sc_meaning.specs.Expressions.{Env, Answer, Plain, Place, Part, Nothing, Eval, Call, finished, plain, used, valued, base_of, further_of, read, layer_read, as_answer, conversion, is_void, either, cast, stepped, next_value, operator_of, old_or_new, unary, truth, compounded, rule_if, called_rule, value_rule, call_breach, call_value, called, target_in, args_then, one, two, part_of, expr_of, static_at, at_place, offset_by}
use Rattle.sc_meaning.specs.Integers.{layer_is_integer, is_integer, result_is_integer, gives_integer, is_place_layer, place_or_whole, whole_operand, whole_layer, WholeTo, IsWhole, IsNumber, IsInteger, Gives}
use Rattle.sc_meaning.proofs.Alike.{same_integer}
use Rattle.sc_meaning.proofs.Numbers.{then_, by_, unless_, either_, no_pointer, typed_number, loaded_number, computed_number, plain_number, used_number}

-- what an operand's value is made of
old_new_number : (s : Step) (a b : Value) → IsNumber a → IsNumber b → IsNumber (old_or_new s a b)
old_new_number IncrementFirst a b p q = q
old_new_number DecrementFirst a b p q = q
old_new_number IncrementAfter a b p q = p
old_new_number DecrementAfter a b p q = p

stored_value : (P : Value → Type 0) (t : CType) (p : Value) (further : ℕ) (v : Value) (w : World) → P v → Gives P (stored t p further v w)
stored_value P t p further v w h = unless_ P (store_rule w.objects p further (scalar_size t)) _ _ w (λ e. h)

next_number : (b : Bool) (o : Op) (size : ℕ) (t : CType) (v : Value) (w : World) → b ≡ false → Gives IsNumber (if b then shifted true o v PlainInt (Number 1) size w else and_then (computed o (int_of t) v PlainInt (Number 1) w) (λ n w. Done (as_type t n) w))
next_number true o size t v w e = absurd (cc)
next_number false o size t v w e = by_ IsNumber IsNumber (computed o (int_of t) v PlainInt (Number 1) w) _ (computed_number o (int_of t) v PlainInt (Number 1) w) (λ n u q. typed_number t n q)

stepped_number : (s : Step) (size : ℕ) (t : CType) (a : Answer) (w : World) → is_integer t ≡ true → Gives IsNumber (stepped s size t a w)
stepped_number s size t a w i =
    by_ IsNumber IsNumber (loaded t (base_of a) (further_of a) w) _ (loaded_number t (base_of a) (further_of a) w i) (λ old u p.
    by_ IsNumber IsNumber (next_value (operator_of s) size t old u) _ (next_number (is_pointer_type t) (operator_of s) size t old u (no_pointer t i)) (λ new x q.
    by_ IsNumber IsNumber (stored t (base_of a) (further_of a) new x) _ (stored_value IsNumber t (base_of a) (further_of a) new x q) (λ v y r. old_new_number s old v p r)))

compounded_number : (o : Op) (i : Int) (t s : CType) (a : Answer) (y : Value) (w : World) → Gives IsNumber (compounded o i t s a y w)
compounded_number o i t s a y w =
    then_ IsNumber (loaded t (base_of a) (further_of a) w) _ (λ old u.
    by_ IsNumber IsNumber (computed o i (converted_value i old) (int_of s) y u) _ (computed_number o i (converted_value i old) (int_of s) y u) (λ new x q.
    stored_value IsNumber t (base_of a) (further_of a) (as_type t new) x (typed_number t new q)))

unary_number : (o : UnaryOperator) (t : CType) (v : Value) (w : World) → IsNumber v → Gives IsNumber (unary o t v w)
unary_number Plus t v w h = h
unary_number Minus t v w h = computed_number op.Neg (int_of t) null (int_of t) v w
unary_number Complement t v w h = computed_number op.Not (int_of t) null (int_of t) v w
unary_number Not t v w h = then_ IsNumber (tested t v w) _ (λ yes u. tt)

truth_number : (t : CType) (v : Value) (w : World) → Gives IsInteger (truth t v w)
truth_number t v w = then_ IsInteger (tested t v w) _ (λ yes u. tt)

cast_number : (b : Bool) (t : CType) (a : Answer) (w : World) → IsInteger a → Gives IsInteger (cast b t a w)
cast_number true t a w h = tt
cast_number false t a w h = by_ IsNumber IsInteger (used a w) _ (used_number a w h) (λ v u q. typed_number t v q)

-- a place, or a number, or nothing
abbrev pub IsReadable : Answer → Type 0
IsReadable (Plain v) = IsNumber v
IsReadable (Place p) = Unit {0}
IsReadable (Part p n) = Unit {0}
IsReadable Nothing = Unit {0}

integer_readable : (a : Answer) → IsInteger a → IsReadable a
integer_readable (Plain v) h = h
integer_readable (Place p) h = tt
integer_readable (Part p n) h = tt
integer_readable Nothing h = tt

read_number : (t : CType) (a : Answer) (w : World) → is_integer t ≡ true → IsReadable a → Gives IsInteger (read t a w)
read_number t (Plain v) w i h = h
read_number t (Place p) w i h = by_ IsNumber IsInteger (loaded t p 0 w) _ (loaded_number t p 0 w i) (λ v u q. q)
read_number t (Part p n) w i h = by_ IsNumber IsInteger (loaded t p n w) _ (loaded_number t p n w i) (λ v u q. q)
read_number t Nothing w i h = tt

layer_number : (x : CType-F CType Signature) (t : CType) (a : Answer) (w : World) → layer_is_integer x ≡ true → is_integer t ≡ true → IsReadable a → Gives IsInteger (layer_read x t a w)
layer_number (CType-F.Void c) t a w e i h = absurd (cc)
layer_number (CType-F.Int k c) t a w e i h = read_number t a w i h
layer_number (CType-F.Pointer p c) t a w e i h = absurd (cc)
layer_number (CType-F.Array p n) t a w e i h = absurd (cc)
layer_number (CType-F.Struct s c) t a w e i h = absurd (cc)
layer_number (CType-F.Function f) t a w e i h = absurd (cc)

answer_number : (t : CType) (a : Answer) → IsInteger a → IsInteger (as_answer t a)
answer_number t (Plain v) h = typed_number t v h
answer_number t (Place p) h = h
answer_number t (Part p n) h = h
answer_number t Nothing h = tt

conversion_number : (from to : CType) (a : Answer) (w : World) → is_integer from ≡ true → IsReadable a → Gives IsInteger (conversion from to a w)
conversion_number from to a w i h =
    by_ IsInteger IsInteger (layer_read (out-CType from) from a w) _ (layer_number (out-CType from) from a w i i h) (λ b u q. answer_number to b q)

part_readable : (a : Answer) (n : ℕ) → IsReadable (part_of a n)
part_readable (Plain v) n = tt
part_readable (Place p) n = tt
part_readable (Part p m) n = tt
part_readable Nothing n = tt

static_readable : (key : Key) (o : Option ℕ) (w : World) → Gives IsReadable (static_at key o w)
static_readable key None w = tt
static_readable key (Some o) w = tt

pub gives_as : {A : Type 0} (P Q : A → Type 0) (r : Outcome A) → Gives P r → ((a : A) → P a → Q a) → Gives Q r
gives_as P Q (Done a w) h q = q a h
gives_as P Q (Over e) h q = tt

-- what is called has an integer result
abbrev pub IntegerCallee : Callee → Type 0
IntegerCallee Missing = Unit {0}
IntegerCallee (InText t f) = is_integer f.of.result ≡ true
IntegerCallee (InLibrary f) = (s : Signature) × (takes f s ≡ true) × (is_integer s.result ≡ true)

rule_true : (b : Bool) → rule_if b ≡ None → b ≡ true
rule_true true h = refl
rule_true false h = absurd (cc)

middle_true : (a b c : Bool) → (a && b && c) ≡ true → b ≡ true
middle_true true true c h = refl
middle_true true false c h = absurd (cc)
middle_true false b c h = absurd (cc)

rule_callee : (t : Text) (o : Option Signature) (c : Callee) → result_is_integer o ≡ true → called_rule t o c ≡ None → IntegerCallee c
rule_callee t None c i h = absurd (cc)
rule_callee t (Some s) Missing i h = tt
rule_callee t (Some s) (InText u f) i h =
    let behind : Pairs = sides (t.number == u.number) t.core.structs u.core.structs in
    let same : same_signature behind s f.of ≡ true = rule_true (same_signature behind s f.of) h in
    same_integer behind behind s.result f.of.result (middle_true (same_bool s.variadic f.of.variadic) (alike behind behind true s.result f.of.result) (same_parameters behind s.params f.of.params) same) i
rule_callee t (Some s) (InLibrary f) i h = (s, rule_true (takes f s) h, i)

module _ (h : History) (ev : Eval) (ca : Call) (ig : (env : Env) (e : CoreExpr) (w : World) → IsWhole e → Gives IsInteger (ev env e w)) (rg : (env : Env) (e : CoreExpr) (w : World) → is_place_layer (out-CoreExpr e) ≡ true → Gives IsReadable (ev env e w)) (cg : (key : Key) (vs : List Value) (w : World) → IntegerCallee (callee_of (version_at h w.count) key) → Gives IsInteger (ca key vs w)) where
  valued_number : (env : Env) (e : CoreExpr) (w : World) → IsWhole e → Gives IsNumber (valued ev env e w)
  valued_number env e w q = by_ IsInteger IsNumber (ev env e w) used (ig env e w q) (λ a u h. used_number a u h)

  value_call : (t : Text) (s : CType) (v : Value) (vs : List Value) (w : World) → gives_integer s ≡ true → value_rule (version_at h w.count) t s v ≡ None → Gives IsInteger (call_value ca v vs (pass GoesOut w))
  value_call t s (Number n) vs w i e = tt
  value_call t s (Pointer o at) vs w i e = tt
  value_call t s (FunctionAt key) vs w i e = cg key vs (pass GoesOut w) (rule_callee t (target_in (out-CType s)) (callee_of (version_at h w.count) key) i e)

  called_number : (t : Text) (s : CType) (v : Value) (vs : List Value) (w : World) → gives_integer s ≡ true → Gives IsInteger (called h ca t s v vs w)
  called_number t s v vs w i =
      let r : Outcome Answer = unless (value_rule (version_at h w.count) t s v) (call_breach v w) (call_value ca v vs) (pass GoesOut w) in
      by_ IsInteger IsInteger r (λ a u. finished a (pass ComesBack u)) (unless_ IsInteger (value_rule (version_at h w.count) t s v) (call_breach v w) (call_value ca v vs) (pass GoesOut w) (value_call t s v vs w i)) (λ a u q. q)

  args_number : (env : Env) (es : List CoreExpr) (vs : List Value) (w : World) (f : List Value → World → Outcome Answer) → ((us : List Value) (u : World) → Gives IsInteger (f us u)) → Gives IsInteger (args_then ev env es vs w f)
  args_number env [] vs w f q = q vs w
  args_number env (e ∷ es) vs w f q = then_ IsInteger (valued ev env e w) _ (λ v u. args_number env es (vs ++ v ∷ []) u f q)

  operand_number : (env : Env) (o : UnaryOperator) (a : CoreExpr) (w : World) → ((k : ℕ) → whole_operand (WholeTo k) o a) → Gives IsInteger (one ev env a w (λ x u. and_then (unary o (type_of a) x u) plain))
  operand_number env Plus a w q = by_ IsNumber IsInteger (valued ev env a w) _ (valued_number env a w q) (λ x u h. plain_number (unary Plus (type_of a) x u) h)
  operand_number env Minus a w q = then_ IsInteger (valued ev env a w) _ (λ x u. plain_number (unary Minus (type_of a) x u) (computed_number op.Neg (int_of (type_of a)) null (int_of (type_of a)) x u))
  operand_number env Complement a w q = then_ IsInteger (valued ev env a w) _ (λ x u. plain_number (unary Complement (type_of a) x u) (computed_number op.Not (int_of (type_of a)) null (int_of (type_of a)) x u))
  operand_number env Not a w q = then_ IsInteger (valued ev env a w) _ (λ x u. plain_number (unary Not (type_of a) x u) (then_ IsNumber (tested (type_of a) x u) _ (λ yes y. tt)))

  two_numbers : (env : Env) (a b : CoreExpr) (w : World) (f : Value → Value → World → Outcome Value) → ((x y : Value) (u : World) → Gives IsNumber (f x y u)) → Gives IsInteger (two ev env a b w (λ x y u. and_then (f x y u) plain))
  two_numbers env a b w f q = then_ IsInteger (valued ev env a w) _ (λ x u. then_ IsInteger (valued ev env b u) _ (λ y z. plain_number (f x y z) (q x y z)))

  readable : (env : Env) (a : CoreExpr) (w : World) (b : Bool) → is_place_layer (out-CoreExpr a) ≡ b → ((k : ℕ) → place_or_whole (WholeTo k) a b) → Gives IsReadable (ev env a w)
  readable env a w true e q = rg env a w e
  readable env a w false e q = gives_as IsInteger IsReadable (ev env a w) (ig env a w q) integer_readable

  pub whole_expr : (env : Env) (x : CoreExpr-F CoreExpr) (w : World) → ((k : ℕ) → whole_layer (WholeTo k) x) → Gives IsInteger (expr_of h ev ca env x w)
  whole_expr env (CoreExpr-F.Number l t n) w q = tt
  whole_expr env (CoreExpr-F.Literal l t i) w q = absurd (q 0)
  whole_expr env (CoreExpr-F.Automatic l t b i) w q = absurd (q 0)
  whole_expr env (CoreExpr-F.Static l t key) w q = absurd (q 0)
  whole_expr env (CoreExpr-F.Function l t key) w q = absurd (q 0)
  whole_expr env (CoreExpr-F.Index l t size a b) w q = absurd (q 0)
  whole_expr env (CoreExpr-F.Call l t f es) w q = then_ IsInteger (valued ev env f w) _ (λ v u. args_number env es [] u (called h ca env.text (type_of f) v) (λ vs z. called_number env.text (type_of f) v vs z (q 0)))
  whole_expr env (CoreExpr-F.Member l t n a) w q = absurd (q 0)
  whole_expr env (CoreExpr-F.Arrow l t n a) w q = absurd (q 0)
  whole_expr env (CoreExpr-F.Step l t s n a) w q = then_ IsInteger (ev env a w) _ (λ p u. plain_number (stepped s n (type_of a) p u) (stepped_number s n (type_of a) p u (q 0)))
  whole_expr env (CoreExpr-F.Address l t a) w q = absurd (q 0)
  whole_expr env (CoreExpr-F.Indirection l t a) w q = absurd (q 0)
  whole_expr env (CoreExpr-F.Unary l t o a) w q = operand_number env o a w q
  whole_expr env (CoreExpr-F.Cast l t a) w q = by_ IsInteger IsInteger (ev env a w) (cast (is_void t) t) (ig env a w q) (λ x u p. cast_number (is_void t) t x u p)
  whole_expr env (CoreExpr-F.Binary l t o a b) w q = two_numbers env a b w (λ x y u. computed o (int_of (type_of a)) x (int_of (type_of b)) y u) (λ x y u. computed_number o (int_of (type_of a)) x (int_of (type_of b)) y u)
  whole_expr env (CoreExpr-F.Offset l t o size a b) w q = absurd (q 0)
  whole_expr env (CoreExpr-F.Difference l t size a b) w q = two_numbers env a b w (λ x y u. difference x y size u) (λ x y u. unless_ IsNumber (difference_rule u.objects x y size) _ _ u (λ e. tt))
  whole_expr env (CoreExpr-F.Compare l t o a b) w q = two_numbers env a b w (λ x y u. compared o x y u) (λ x y u. unless_ IsNumber (compare_rule o u x y) _ _ u (λ e. tt))
  whole_expr env (CoreExpr-F.And l t a b) w q =
      then_ IsInteger (valued ev env a w) _ (λ x u. then_ IsInteger (tested (type_of a) x u) _ (λ yes y. either_ IsInteger yes _ _ y (then_ IsInteger (valued ev env b y) _ (λ v z. truth_number (type_of b) v z)) tt))
  whole_expr env (CoreExpr-F.Or l t a b) w q =
      then_ IsInteger (valued ev env a w) _ (λ x u. then_ IsInteger (tested (type_of a) x u) _ (λ yes y. either_ IsInteger yes _ _ y tt (then_ IsInteger (valued ev env b y) _ (λ v z. truth_number (type_of b) v z))))
  whole_expr env (CoreExpr-F.Conditional l t a b c) w q =
      then_ IsInteger (valued ev env a w) _ (λ x u. then_ IsInteger (tested (type_of a) x u) _ (λ yes y.
      by_ IsInteger IsInteger (either yes (ev env b) (ev env c) y) finished (either_ IsInteger yes (ev env b) (ev env c) y (ig env b y (λ k. (q k).0)) (ig env c y (λ k. (q k).1))) (λ r z p. p)))
  whole_expr env (CoreExpr-F.Assign l t a b) w q =
      then_ IsInteger (ev env a w) _ (λ p u. by_ IsNumber IsInteger (valued ev env b u) _ (valued_number env b u q) (λ v y r. plain_number (stored (type_of a) (base_of p) (further_of p) v y) (stored_value IsNumber (type_of a) (base_of p) (further_of p) v y r)))
  whole_expr env (CoreExpr-F.AssignStructure l t size a b) w q = absurd (q 0)
  whole_expr env (CoreExpr-F.Compound l t o i a b) w q =
      then_ IsInteger (ev env a w) _ (λ p u. then_ IsInteger (valued ev env b u) _ (λ v y. plain_number (compounded o i (type_of a) (type_of b) p v y) (compounded_number o i (type_of a) (type_of b) p v y)))
  whole_expr env (CoreExpr-F.CompoundOffset l t o size a b) w q = absurd (q 0)
  whole_expr env (CoreExpr-F.Comma l t a b) w q = then_ IsInteger (ev env a w) _ (λ x u. by_ IsInteger IsInteger (ev env b u) finished (ig env b u q) (λ r z p. p))
  whole_expr env (CoreExpr-F.Convert l t a) w q =
      by_ IsReadable IsInteger (ev env a w) _ (readable env a w (is_place_layer (out-CoreExpr a)) refl (λ k. (q k).1)) (λ x u p. conversion_number (type_of a) t x u (q 0).0 p)

  pub place_expr : (env : Env) (x : CoreExpr-F CoreExpr) (w : World) → is_place_layer x ≡ true → Gives IsReadable (expr_of h ev ca env x w)
  place_expr env (CoreExpr-F.Number l t n) w e = absurd (cc)
  place_expr env (CoreExpr-F.Literal l t i) w e = tt
  place_expr env (CoreExpr-F.Automatic l t b i) w e = tt
  place_expr env (CoreExpr-F.Static l t key) w e = static_readable key _ w
  place_expr env (CoreExpr-F.Function l t key) w e = absurd (cc)
  place_expr env (CoreExpr-F.Index l t size a b) w e = then_ IsReadable (valued ev env a w) _ (λ x u. then_ IsReadable (valued ev env b u) _ (λ y z. then_ IsReadable (offset_by op.Add size (type_of a) (type_of b) x y z) at_place (λ p v. tt)))
  place_expr env (CoreExpr-F.Call l t f es) w e = absurd (cc)
  place_expr env (CoreExpr-F.Member l t n a) w e = then_ IsReadable (ev env a w) _ (λ x u. part_readable x n)
  place_expr env (CoreExpr-F.Arrow l t n a) w e = then_ IsReadable (valued ev env a w) _ (λ p u. tt)
  place_expr env (CoreExpr-F.Step l t s n a) w e = absurd (cc)
  place_expr env (CoreExpr-F.Address l t a) w e = absurd (cc)
  place_expr env (CoreExpr-F.Indirection l t a) w e = then_ IsReadable (valued ev env a w) at_place (λ p u. tt)
  place_expr env (CoreExpr-F.Unary l t o a) w e = absurd (cc)
  place_expr env (CoreExpr-F.Cast l t a) w e = absurd (cc)
  place_expr env (CoreExpr-F.Binary l t o a b) w e = absurd (cc)
  place_expr env (CoreExpr-F.Offset l t o size a b) w e = absurd (cc)
  place_expr env (CoreExpr-F.Difference l t size a b) w e = absurd (cc)
  place_expr env (CoreExpr-F.Compare l t o a b) w e = absurd (cc)
  place_expr env (CoreExpr-F.And l t a b) w e = absurd (cc)
  place_expr env (CoreExpr-F.Or l t a b) w e = absurd (cc)
  place_expr env (CoreExpr-F.Conditional l t a b c) w e = absurd (cc)
  place_expr env (CoreExpr-F.Assign l t a b) w e = absurd (cc)
  place_expr env (CoreExpr-F.AssignStructure l t size a b) w e = absurd (cc)
  place_expr env (CoreExpr-F.Compound l t o i a b) w e = absurd (cc)
  place_expr env (CoreExpr-F.CompoundOffset l t o size a b) w e = absurd (cc)
  place_expr env (CoreExpr-F.Comma l t a b) w e = absurd (cc)
  place_expr env (CoreExpr-F.Convert l t a) w e = absurd (cc)
