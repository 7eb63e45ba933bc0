-- Calls, and all constructs of formed expressions.
use Rattle.std.specs.Prelude.{◌&&◌, ◌||◌}
use Rattle.std.proofs.Common.{◌≡◌, ℕ, ◌==◌, Bool, true, false, not, List, [], ◌∷◌, ◌++◌, length, nat_le, Option, Some, None, refl, sym, ap, ◌∙◌, subst}
use Rattle.std.specs.Prelude.{if◌then◌else◌}
use Rattle.sc_base.specs.declared.key.Key.{Key}
use Rattle.sc_types.specs.declared.ctype.CType.{CType, out-CType, fold-CType, fold_out-CType, map-CType}
use Rattle.sc_types.specs.declared.ctype.CType.TheOpen.{CType-F}
use Rattle.sc_types.specs.declared.ctype.Signature.{Signature, fold-Signature}
use Rattle.sc_types.specs.declared.ctype.StructDef.{StructDef}
use Rattle.sc_types.specs.Calls.{fits}
use Rattle.sc_types.specs.Compatibility.{Pairs, Test, level, signature, alike as goes_with, same_int, same_const, same_bool, same_signature, sides, same_parameters}
use Rattle.sc_core.specs.declared.expression.CoreExpr.{CoreExpr, map-CoreExpr}
use Rattle.sc_core.specs.declared.expression.CoreExpr.TheOpen.{CoreExpr-F}
use Rattle.sc_core.specs.declared.module.Auto.{Auto}
use Rattle.sc_core.specs.declared.module.Core.{Core}
use Rattle.sc_core.specs.Types.{type_of}
use Rattle.sc_check_operand.specs.Types.{Level, is_function, is_function_level, is_const, is_array, shape_layer, is_scalar, is_void_level}
use Rattle.sc_core_needs.specs.Types.{alike, is_given_as, is_plain_of}
use Rattle.sc_core_needs.specs.Values.{is_done, converts}
use Rattle.sc_core_needs.specs.Nodes as nodes
use Rattle.sc_core_formed.specs.Expressions.{deep, node_level}
use Rattle.sc_core_formed.specs.Names.{declared_as, fits_function}
use Rattle.sc_program.specs.declared.storage.StaticId.TheVariants as id
use Rattle.sc_meaning.specs.Values.{Value, Number, FunctionAt, Pointer}
use Rattle.sc_meaning.specs.World.{World, pass, GoesOut, ComesBack, named_in}
use Rattle.sc_meaning.specs.Outcomes.{Outcome, and_then, unless}
use Rattle.sc_meaning.specs.Integers.{Gives}
use Rattle.sc_meaning.specs.Versions.{Text, History, Callee, Missing, InText, InLibrary, callee_of, version_at}
use Rattle.sc_meaning.specs.Signatures.{takes}
use Rattle.sc_meaning.specs.Expressions.{Env, Eval, Call, Answer, Place, conversion, expr_of, is_void, cast, called, args_then, valued, one, finished, value_rule, call_breach, call_value, called_rule, signature_rule, rule_if, signature_in, target_in}
use Rattle.sc_meaning.proofs.Numbers.{unless_, by_}
use Rattle.sc_compiled_frames.specs.Kept.{Ends}
use Rattle.sc_compiled_frames.proofs.Steps.{ends_then, ends_more}
use Rattle.sc_compiled_values.specs.Fits.{Sort, Whole, sort, sort_of, IsResult, IsPlace, OfSort, FitsBy, FitsLayer, Fits}
use Rattle.sc_compiled_values.specs.Formed.{IsCallee}
use Rattle.sc_compiled_values.proofs.Types.{both, three, one_int, alike_sort}
use Rattle.sc_compiled_values.proofs.Loading.{gives_ends}
use Rattle.sc_compiled_values.proofs.Fitting.{plain_sort}
use Rattle.sc_compiled_values.proofs.Converting.{conversion_fits, cast_fits}
use Rattle.sc_compiled_values.proofs.Formed.{test, IsFormed, number_fits, static_fits, then_ends}
use Rattle.sc_compiled_values.proofs.Nodes.{index_node, offset_node, binary_node, member_node, arrow_node, address_node, indirection_node, unary_node, difference_node, compare_node, assign_node, comma_node, and_node, or_node, choice_node, structure_node, compound_node, movement_node, step_node}

-- a function is the place of itself; what a pointer to a function points to too
function_place : (l : Level) (a : Answer) → is_function_level l ≡ true → IsPlace a → OfSort (sort l) a
function_place (CType-F.Function f) a e h = h
function_place (CType-F.Void c) a e h = absurd (cc)
function_place (CType-F.Int k c) a e h = absurd (cc)
function_place (CType-F.Pointer t c) a e h = absurd (cc)
function_place (CType-F.Array t n) a e h = absurd (cc)
function_place (CType-F.Struct x c) a e h = absurd (cc)

either_place : (l : Level) (a : Answer) → IsPlace a → FitsBy (not (is_function_level l)) (sort l) a
either_place (CType-F.Function f) a h = h
either_place (CType-F.Void c) a h = h
either_place (CType-F.Int k c) a h = h
either_place (CType-F.Pointer t c) a h = h
either_place (CType-F.Array t n) a h = h
either_place (CType-F.Struct x c) a h = h

given_sort : (structs : List StructDef) (t u : CType) → is_given_as structs t u ≡ true → sort_of t ≡ sort_of u
given_sort structs t u e = alike_sort structs t u (both (if is_array u then same_bool (is_const t) (is_const u) else not (is_const t)) (alike structs t u) e).1

-- ---- types that go together have one sort
abbrev Layer : Type 0
Layer = CType-F CType Signature

level_sort : (behind here : Pairs) (f : CType → Test) (g : Signature → Signature → Bool) (x y : Layer) → level behind (map-CType CType Signature Test (Signature → Bool) f g x) here true y ≡ true → sort x ≡ sort y
level_sort behind here f g (CType-F.Void c) (CType-F.Void d) h = refl
level_sort behind here f g (CType-F.Int i c) (CType-F.Int j d) h = ap Whole (one_int i j (both (same_int i j) (same_const true c d) h).0)
level_sort behind here f g (CType-F.Pointer t c) (CType-F.Pointer u d) h = refl
level_sort behind here f g (CType-F.Array t n) (CType-F.Array u m) h = refl
level_sort behind here f g (CType-F.Struct i c) (CType-F.Struct j d) h = refl
level_sort behind here f g (CType-F.Function a) (CType-F.Function b) h = refl
level_sort behind here f g _ _ h = absurd (cc)

goes_sort : (behind here : Pairs) (a b : CType) → goes_with behind here true a b ≡ true → sort_of a ≡ sort_of b
goes_sort behind here a b h =
    let e = fold_out-CType Test (Signature → Bool) (λ f h o u. level behind f h o (out-CType u)) (signature behind) a in
    level_sort behind here (fold-CType Test (Signature → Bool) (λ f h o u. level behind f h o (out-CType u)) (signature behind)) (fold-Signature Test (Signature → Bool) (λ f h o u. level behind f h o (out-CType u)) (signature behind))
    (out-CType a) (out-CType b) (sym (ap (λ k. k here true b) e) ∙ h)

rule_true : (b : Bool) → rule_if b ≡ None → b ≡ true
rule_true true h = refl
rule_true false h = absurd (cc)

signature_callee : (t : Text) (s : Signature) (c : Callee) → signature_rule t s c ≡ None → IsCallee (sort_of s.result) c
signature_callee t s Missing h = tt
signature_callee t s (InText u f) h =
    let behind : Pairs = sides (t.number == u.number) t.core.structs u.core.structs in
    let same : same_signature behind s f.of ≡ true = rule_true (same_signature behind s f.of) h in
    sym (goes_sort behind behind s.result f.of.result (three (same_bool s.variadic f.of.variadic) (goes_with behind behind true s.result f.of.result) (same_parameters behind s.params f.of.params) same).1)
signature_callee t s (InLibrary f) h = (s, rule_true (takes f s) h, refl)

-- the type of what is called
called_level : (structs : List StructDef) (t : CType) (l : Level) (args : List CoreExpr) → nodes.calls_level structs t l args ≡ true → (g : Signature) × (signature_in l ≡ Some g) × (is_plain_of structs t g.result ≡ true) × (nodes.is_result structs g.result ≡ true)
called_level structs t (CType-F.Function g) args h = (let p = parts (nat_le (length args) nodes.limit) (nodes.is_result structs g.result) (is_plain_of structs t g.result) (fits g (length args)) (nodes.arguments structs g.params 0 args) h in (g, refl, p.0, p.1))
  where
    parts : (a b c d e : Bool) → (a && b && c && d && e) ≡ true → (c ≡ true) × (b ≡ true)
    parts true true true d e h = (refl, refl)
    parts true true false d e h = absurd (cc)
    parts true false c d e h = absurd (cc)
    parts false b c d e h = absurd (cc)
called_level structs t (CType-F.Void c) args h = absurd (cc)
called_level structs t (CType-F.Int k c) args h = absurd (cc)
called_level structs t (CType-F.Pointer u c) args h = absurd (cc)
called_level structs t (CType-F.Array u n) args h = absurd (cc)
called_level structs t (CType-F.Struct u n) args h = absurd (cc)

called_by : (structs : List StructDef) (t : CType) (l : Level) (args : List CoreExpr) → nodes.calls_by structs t l args ≡ true → (g : Signature) × (target_in l ≡ Some g) × (is_plain_of structs t g.result ≡ true) × (nodes.is_result structs g.result ≡ true)
called_by structs t (CType-F.Pointer u c) args h = called_level structs t (out-CType u) args h
called_by structs t (CType-F.Void c) args h = absurd (cc)
called_by structs t (CType-F.Int k c) args h = absurd (cc)
called_by structs t (CType-F.Function g) args h = absurd (cc)
called_by structs t (CType-F.Array u n) args h = absurd (cc)
called_by structs t (CType-F.Struct u n) args h = absurd (cc)

-- a function gives nothing, or a scalar
result_level : (structs : List StructDef) (l : Level) (a : Answer) → (is_void_level l || is_scalar (shape_layer structs l)) ≡ true → IsResult (sort l) a → OfSort (sort l) a
result_level structs (CType-F.Void c) a h r = tt
result_level structs (CType-F.Int k c) a h r = r
result_level structs (CType-F.Pointer u c) a h r = r
result_level structs (CType-F.Array u n) a h r = absurd (cc)
result_level structs (CType-F.Struct u c) a h r = absurd (cc)
result_level structs (CType-F.Function g) a h r = absurd (cc)

module _ (h : History) (ca : Call) (cg : (st : Sort) (key : Key) (vs : List Value) (w : World) → IsCallee st (callee_of (version_at h w.count) key) → Gives (IsResult st) (ca key vs w)) where
  value_call : (t : Text) (s : CType) (g : Signature) (v : Value) (vs : List Value) (w : World) → target_in (out-CType s) ≡ Some g → value_rule (version_at h w.count) t s v ≡ None → Gives (IsResult (sort_of g.result)) (call_value ca v vs (pass GoesOut w))
  value_call t s g (Number n) vs w o e = absurd (cc)
  value_call t s g (Pointer x at) vs w o e = absurd (cc)
  value_call t s g (FunctionAt key) vs w o e =
      cg (sort_of g.result) key vs (pass GoesOut w) (signature_callee t g (callee_of (version_at h w.count) key) (by_some (target_in (out-CType s)) (callee_of (version_at h w.count) key) o e))
    where
      by_some : (x : Option Signature) (c : Callee) → x ≡ Some g → called_rule t x c ≡ None → signature_rule t g c ≡ None
      by_some (Some y) c q r = subst (λ (z : Signature). signature_rule t z c ≡ None) (cc (q)) r
      by_some None c q r = absurd (cc (q))

  called_fits : (t : Text) (s : CType) (g : Signature) (v : Value) (vs : List Value) (w : World) → target_in (out-CType s) ≡ Some g → Gives (IsResult (sort_of g.result)) (called h ca t s v vs w)
  called_fits t s g v vs w o =
      let r : Outcome Answer = unless (value_rule (version_at h w.count) t s v) (call_breach v w) (call_value ca v vs) (pass GoesOut w) in
      by_ (IsResult (sort_of g.result)) (IsResult (sort_of g.result)) r (λ a u. finished a (pass ComesBack u)) (unless_ (IsResult (sort_of g.result)) (value_rule (version_at h w.count) t s v) (call_breach v w) (call_value ca v vs) (pass GoesOut w) (value_call t s g v vs w o)) (λ a u q. q)

  args_fit : (ev : Eval) (env : Env) (Q : Answer → Type 0) (es : List CoreExpr) (vs : List Value) (w : World) (go : List Value → World → Outcome Answer) → ((us : List Value) (u : World) → Ends (λ a v. Q a) (go us u)) → Ends (λ a v. Q a) (args_then ev env es vs w go)
  args_fit ev env Q [] vs w go q = q vs w
  args_fit ev env Q (e ∷ es) vs w go q = then_ends (λ a v. Q a) (valued ev env e w) _ (λ v u. args_fit ev env Q es (vs ++ v ∷ []) u go q)

  call_node : (structs : List StructDef) (ev : Eval) (env : Env) (t : CType) (f : CoreExpr) (es : List CoreExpr) (w : World) → nodes.is_call structs t f es ≡ true → Ends (λ a v. OfSort (sort_of t) a) (one ev env f w (λ v w. args_then ev env es [] w (called h ca env.text (type_of f) v)))
  call_node structs ev env t f es w e =
      let r = called_by structs t (out-CType (type_of f)) es (both (is_done f) (nodes.calls_by structs t (out-CType (type_of f)) es) e).1 in
      let g = r.0 in
      let same : sort_of t ≡ sort_of g.result = plain_sort structs t g.result r.2 in
      then_ends (λ a v. OfSort (sort_of t) a) (valued ev env f w) _ (λ v u.
      args_fit ev env (OfSort (sort_of t)) es [] u (called h ca env.text (type_of f) v) (λ us x.
      ends_more (λ a y. IsResult (sort_of g.result) a) (λ a y. OfSort (sort_of t) a) (called h ca env.text (type_of f) v us x) (gives_ends (IsResult (sort_of g.result)) (called h ca env.text (type_of f) v us x) (called_fits env.text (type_of f) g v us x r.1)) (λ a y p.
      subst (λ (z : Sort). OfSort z a) (sym same) (result_level structs (out-CType g.result) a r.3 p))))

module _ (core : Core) (blocks : List (List Auto)) (around : List ℕ) (h : History) (env : Env) (ev : Eval) (ca : Call)
    (ig : (e : CoreExpr) (w : World) → IsFormed core blocks around e → Ends (λ a v. Fits e a) (ev env e w))
    (cg : (st : Sort) (key : Key) (vs : List Value) (w : World) → IsCallee st (callee_of (version_at h w.count) key) → Gives (IsResult st) (ca key vs w)) where
  convert_node : (t : CType) (a : CoreExpr) (w : World) → IsFormed core blocks around a → converts core.structs t a ≡ true → Ends (λ y v. OfSort (sort_of t) y) (and_then (ev env a w) (conversion (type_of a) t))
  convert_node t a w fa e = ends_then (λ x v. Fits a x) (λ y v. OfSort (sort_of t) y) (ev env a w) (conversion (type_of a) t) (ig a w fa) (λ x u r. conversion_fits core.structs t a x u r e)

  cast_node : (t : CType) (a : CoreExpr) (w : World) → IsFormed core blocks around a → nodes.is_cast core.structs t a ≡ true → Ends (λ y v. OfSort (sort_of t) y) (and_then (ev env a w) (cast (is_void t) t))
  cast_node t a w fa e = ends_then (λ x v. Fits a x) (λ y v. OfSort (sort_of t) y) (ev env a w) (cast (is_void t) t) (ig a w fa) (λ x u r. cast_fits core.structs t a x u r e)

  abbrev Tests : CoreExpr → CoreExpr → Bool
  Tests = test core blocks around

  pub layer_answers : (x : CoreExpr-F CoreExpr) (w : World) → deep (map-CoreExpr CoreExpr (CoreExpr → Bool) Tests x) x ≡ true → node_level core blocks around x ≡ true → Ends (λ a v. FitsLayer x a) (expr_of h ev ca env x w)
  layer_answers (CoreExpr-F.Number l t n) w d e = number_fits (out-CType t) n e
  layer_answers (CoreExpr-F.Literal l t n) w d e = tt
  layer_answers (CoreExpr-F.Automatic l t b n) w d e = tt
  layer_answers (CoreExpr-F.Static l t key) w d e = static_fits key (named_in w.names (id.Named key)) w
  layer_answers (CoreExpr-F.Function l t key) w d e = function_place (out-CType t) (Place (FunctionAt key)) (both (is_function t) (fits_function core.structs t (declared_as key core.declared)) e).0 tt
  layer_answers (CoreExpr-F.Indirection l t a) w d e =
      ends_more (λ a v. IsPlace a) (λ x v. FitsBy (not (is_function t)) (sort_of t) x) _ (indirection_node core blocks around env ev ig a w) (λ x v r. either_place (out-CType t) x r)
  layer_answers (CoreExpr-F.Comma l t a b) w d e =
      let f = both (Tests a a) (Tests b b) d in
      let g = three (is_done a) (is_done b) (is_given_as core.structs t (type_of b)) e in
      comma_node core blocks around env ev ig t a b w f.1 g.1 (given_sort core.structs t (type_of b) g.2)
  layer_answers (CoreExpr-F.Index l t n a b) w d e = index_node core blocks around env ev ig n a b w
  layer_answers (CoreExpr-F.Call l t f es) w d e = call_node h ca cg core.structs ev env t f es w e
  layer_answers (CoreExpr-F.Member l t n a) w d e = member_node core blocks around env ev ig t n a w d e
  layer_answers (CoreExpr-F.Arrow l t n a) w d e = arrow_node core blocks around env ev ig n a w
  layer_answers (CoreExpr-F.Step l t s n a) w d e = step_node core blocks around env ev ig t s n a w e
  layer_answers (CoreExpr-F.Address l t a) w d e = address_node core blocks around env ev ig t a w e
  layer_answers (CoreExpr-F.Unary l t o a) w d e = unary_node core blocks around env ev ig t o a w d e
  layer_answers (CoreExpr-F.Cast l t a) w d e = cast_node t a w d e
  layer_answers (CoreExpr-F.Binary l t o a b) w d e = binary_node core blocks around env ev ig t o a b w e
  layer_answers (CoreExpr-F.Offset l t o n a b) w d e = offset_node core blocks around env ev ig t o n a b w e
  layer_answers (CoreExpr-F.Difference l t n a b) w d e = difference_node core blocks around env ev ig t n a b w e
  layer_answers (CoreExpr-F.Compare l t o a b) w d e = compare_node core blocks around env ev ig t o a b w e
  layer_answers (CoreExpr-F.And l t a b) w d e = and_node core blocks around env ev ig t a b w e
  layer_answers (CoreExpr-F.Or l t a b) w d e = or_node core blocks around env ev ig t a b w e
  layer_answers (CoreExpr-F.Conditional l t a b c) w d e = let f = three (Tests a a) (Tests b b) (Tests c c) d in choice_node core blocks around env ev ig t a b c w f.1 f.2 e
  layer_answers (CoreExpr-F.Assign l t a b) w d e = let f = both (Tests a a) (Tests b b) d in assign_node core blocks around env ev ig t a b w f.1 e
  layer_answers (CoreExpr-F.AssignStructure l t n a b) w d e = let f = both (Tests a a) (Tests b b) d in structure_node core blocks around env ev ig t n a b w f.0 e
  layer_answers (CoreExpr-F.Compound l t o i a b) w d e = compound_node core blocks around env ev ig t o i a b w e
  layer_answers (CoreExpr-F.CompoundOffset l t o n a b) w d e = movement_node core blocks around env ev ig t o n a b w e
  layer_answers (CoreExpr-F.Convert l t a) w d e = convert_node t a w d e
