-- Expressions are related, where their parts are.
use Rattle.sc_meaning.specs.Versions.{version_at}
use Rattle.sc_meaning.specs.Changes.{happened}
use Rattle.std.proofs.Common.{◌≡◌, ◌+◌, ◌-◌, ◌∙◌, arith, refl, ℕ, Bool, true, false, if◌then◌else◌, List, [], ◌∷◌, ◌++◌, Option, Some, None}
use Rattle.sc_base.specs.declared.integer.Int.{Int}
use Rattle.sc_base.specs.declared.key.Key.{Key}
use Rattle.sc_base.specs.declared.integer.Int.TheVariants.{Int as PlainInt}
use Rattle.sc_base.specs.declared.operator.Op.{Op}
use Rattle.sc_base.specs.declared.operator.Op.TheVariants as op
use Rattle.sc_types.specs.declared.ctype.CType.{CType, out-CType}
use Rattle.sc_types.specs.declared.ctype.CType.TheOpen.{CType-F}
use Rattle.sc_types.specs.declared.ctype.Signature.{Signature}
use Rattle.sc_core.specs.declared.expression.CoreExpr.{CoreExpr}
use Rattle.sc_core.specs.declared.expression.CoreExpr.TheOpen.{CoreExpr-F}
use Rattle.sc_core.specs.declared.expression.Step.{Step}
use Rattle.sc_core.specs.declared.expression.UnaryOperator.{UnaryOperator}
use Rattle.sc_core.specs.declared.expression.UnaryOperator.TheVariants.{Plus, Minus, Complement, Not}
use Rattle.sc_core.specs.Types.{type_of}
use Rattle.sc_meaning.specs.Values.{Value, Number, FunctionAt, Pointer, null, is_pointer_type, int_of}
use Rattle.sc_meaning.specs.World.{World, Work, GoesOut, ComesBack, pass}
use Rattle.sc_meaning.specs.Outcomes.{Outcome, and_then, unless}
use Rattle.sc_meaning.specs.Accesses.{as_type, converted_value, loaded, stored, copied, computed, shifted, tested}
use Rattle.sc_meaning.specs.Versions.{Text, History}
use Rattle.sc_meaning.specs.Expressions.{Env, Answer, Plain, Place, Part, Nothing, Eval, Call, finished, plain, at_place, used, valued, base_of, further_of, static_at, address, read, decayed, layer_read, conversion, is_void, cast, next_value, operator_of, stepped, unary, truth, assigned_structure, compounded, moved_by, value_rule, call_breach, call_value, called, args_then, one, two, expr_of}
use Rattle.sc_meaning.specs.World.{Frame, Event}
use Rattle.sc_compiled_frames.specs.Kept.{Kept, Leaves, are_out}
use Rattle.sc_compiled_frames.proofs.Steps.{is_quiet_event, more, done, ends_leave, then_go, same_done, passes, passes_two, unless_goes, either_goes, if_goes, over}
use Rattle.sc_compiled_frames.proofs.Leaves.{loaded_goes, stored_goes, copied_goes, computed_goes, shifted_goes, member_goes, difference_goes, compared_goes, tested_goes}

module _ (R : List Frame → List Frame) where
  pub finish_goes : (a : Answer) (w : World) → Leaves R w (finished a w)
  finish_goes a w = passes R a (Work 1) refl w

  pub used_goes : (a : Answer) (w : World) → Leaves R w (used a w)
  used_goes (Plain v) w = same_done R v w
  used_goes (Place p) w = same_done R p w
  used_goes (Part p n) w = same_done R p w
  used_goes Nothing w = over R w _

  -- a value, and then the end of the expression
  then_plain : (w : World) (r : Outcome Value) → Leaves R w r → Leaves R w (and_then r plain)
  then_plain w r h = then_go R w r plain h (λ v u. finish_goes (Plain v) u)

  then_place : (w : World) (r : Outcome Value) → Leaves R w r → Leaves R w (and_then r at_place)
  then_place w r h = then_go R w r at_place h (λ v u. finish_goes (Place v) u)

  static_goes : (key : Key) (o : Option ℕ) (w : World) → Leaves R w (static_at key o w)
  static_goes key None w = over R w _
  static_goes key (Some o) w = finish_goes _ w

  address_goes : (a : Answer) (w : World) → Leaves R w (address a w)
  address_goes (Plain v) w = same_done R v w
  address_goes (Place p) w = same_done R p w
  address_goes (Part p n) w = member_goes R p n w
  address_goes Nothing w = over R w _

  read_goes : (t : CType) (a : Answer) (w : World) → Leaves R w (read t a w)
  read_goes t (Plain v) w = same_done R (Plain v) w
  read_goes t (Place p) w = then_go R w (loaded t p 0 w) _ (loaded_goes R t p 0 w) (λ v u. same_done R (Plain v) u)
  read_goes t (Part p n) w = then_go R w (loaded t p n w) _ (loaded_goes R t p n w) (λ v u. same_done R (Plain v) u)
  read_goes t Nothing w = same_done R Nothing w

  decayed_goes : (a : Answer) (w : World) → Leaves R w (decayed a w)
  decayed_goes a w = then_go R w (address a w) _ (address_goes a w) (λ p u. same_done R (Plain p) u)

  layer_goes : (x : CType-F CType Signature) (t : CType) (a : Answer) (w : World) → Leaves R w (layer_read x t a w)
  layer_goes (CType-F.Void c) t a w = same_done R a w
  layer_goes (CType-F.Int i c) t a w = read_goes t a w
  layer_goes (CType-F.Pointer p c) t a w = read_goes t a w
  layer_goes (CType-F.Array e n) t a w = decayed_goes a w
  layer_goes (CType-F.Struct s c) t a w = same_done R a w
  layer_goes (CType-F.Function f) t a w = decayed_goes a w

  conversion_goes : (from to : CType) (a : Answer) (w : World) → Leaves R w (conversion from to a w)
  conversion_goes from to a w =
      let r : Outcome Answer = layer_read (out-CType from) from a w in
      then_go R w r _ (layer_goes (out-CType from) from a w) (λ b u. same_done R _ u)

  cast_goes : (b : Bool) (t : CType) (a : Answer) (w : World) → Leaves R w (cast b t a w)
  cast_goes true t a w = finish_goes Nothing w
  cast_goes false t a w = then_go R w (used a w) _ (used_goes a w) (λ v u. finish_goes _ u)

  offset_goes : (b : Bool) (o : Op) (size : ℕ) (i j : Int) (x y : Value) (w : World) → Leaves R w (if b then shifted true o x j y size w else shifted false o y i x size w)
  offset_goes true o size i j x y w = shifted_goes R true o x j y size w
  offset_goes false o size i j x y w = shifted_goes R false o y i x size w

  next_goes : (o : Op) (size : ℕ) (t : CType) (v : Value) (w : World) → Leaves R w (next_value o size t v w)
  next_goes o size t v w =
      let r : Outcome Value = computed o (int_of t) v PlainInt (Number 1) w in
      if_goes R (is_pointer_type t) w _ _ (shifted_goes R true o v PlainInt (Number 1) size w) (then_go R w r _ (computed_goes R o (int_of t) v PlainInt (Number 1) w) (λ n u. same_done R (as_type t n) u))

  stepped_goes : (s : Step) (size : ℕ) (t : CType) (a : Answer) (w : World) → Leaves R w (stepped s size t a w)
  stepped_goes s size t a w =
      let r : Outcome Value = loaded t (base_of a) (further_of a) w in
      then_go R w r _ (loaded_goes R t (base_of a) (further_of a) w) (λ old u.
      let q : Outcome Value = next_value (operator_of s) size t old u in
      then_go R u q _ (next_goes (operator_of s) size t old u) (λ new x.
      let p : Outcome Value = stored t (base_of a) (further_of a) new x in
      then_go R x p _ (stored_goes R t (base_of a) (further_of a) new x) (λ v y. same_done R _ y)))

  unary_goes : (o : UnaryOperator) (t : CType) (v : Value) (w : World) → Leaves R w (unary o t v w)
  unary_goes Plus t v w = same_done R v w
  unary_goes Minus t v w = computed_goes R op.Neg (int_of t) null (int_of t) v w
  unary_goes Complement t v w = computed_goes R op.Not (int_of t) null (int_of t) v w
  unary_goes Not t v w = then_go R w (tested t v w) _ (tested_goes R t v w) (λ yes u. same_done R _ u)

  pub truth_goes : (t : CType) (v : Value) (w : World) → Leaves R w (truth t v w)
  truth_goes t v w = then_go R w (tested t v w) _ (tested_goes R t v w) (λ yes u. finish_goes _ u)

  structure_goes : (size : ℕ) (a b : Answer) (w : World) → Leaves R w (assigned_structure size a b w)
  structure_goes size a b w =
      let r : Outcome (Unit {0}) = copied (base_of a) (further_of a) (base_of b) (further_of b) size w in
      then_go R w r _ (copied_goes R (base_of a) (further_of a) (base_of b) (further_of b) size w) (λ x u. passes_two R a (Work size) refl (Work 1) refl u)

  compounded_goes : (o : Op) (i : Int) (t s : CType) (a : Answer) (y : Value) (w : World) → Leaves R w (compounded o i t s a y w)
  compounded_goes o i t s a y w =
      let r : Outcome Value = loaded t (base_of a) (further_of a) w in
      then_go R w r _ (loaded_goes R t (base_of a) (further_of a) w) (λ old u.
      then_go R u _ _ (computed_goes R o i (converted_value i old) (int_of s) y u) (λ new x. stored_goes R t (base_of a) (further_of a) (as_type t new) x))

  moved_goes : (o : Op) (size : ℕ) (t s : CType) (a : Answer) (y : Value) (w : World) → Leaves R w (moved_by o size t s a y w)
  moved_goes o size t s a y w =
      let r : Outcome Value = loaded t (base_of a) (further_of a) w in
      then_go R w r _ (loaded_goes R t (base_of a) (further_of a) w) (λ old u.
      then_go R u _ _ (shifted_goes R true o old (int_of s) y size u) (λ new x. stored_goes R t (base_of a) (further_of a) new x))

-- a call goes out, and comes back
as_before : (a b c d : ℕ) → a ≡ b - 1 → b ≡ d → d ≡ c + 1 → a ≡ c
as_before a b c d p q r = omega arith

came_back : (R : List Frame → List Frame) (w u : World) → Kept R (pass GoesOut w) u → Kept R w (pass (Work 1) (pass ComesBack u))
came_back R w u k = record {
  frames = k.frames;
  used = k.used;
  out = more (Work 1) (pass ComesBack u) ∙ as_before (are_out (pass ComesBack u)) (are_out u) (are_out w) (are_out (pass GoesOut w)) (more ComesBack u) k.out (more GoesOut w);
  holds = λ i size p. k.holds i size p;
  named = λ p. k.named p;
  proper = λ p. k.proper p;
}

module _ (R : List Frame → List Frame) (h : History) (H : (e : Event) → is_quiet_event e ≡ true → (w : World) → Leaves R w (happened h e w)) (ev : Eval) (ca : Call) (eg : (env : Env) (e : CoreExpr) (w : World) → Leaves R w (ev env e w)) (cg : (key : Key) (vs : List Value) (w : World) → Leaves R w (ca key vs w)) where
  pub valued_goes : (env : Env) (e : CoreExpr) (w : World) → Leaves R w (valued ev env e w)
  valued_goes env e w = then_go R w (ev env e w) used (eg env e w) (λ a u. used_goes R a u)

  one_goes : (env : Env) (a : CoreExpr) (w : World) (f : Value → World → Outcome Answer) → ((x : Value) (u : World) → Leaves R u (f x u)) → Leaves R w (one ev env a w f)
  one_goes env a w f q = then_go R w (valued ev env a w) f (valued_goes env a w) q

  two_goes : (env : Env) (a b : CoreExpr) (w : World) (f : Value → Value → World → Outcome Answer) → ((x y : Value) (u : World) → Leaves R u (f x y u)) → Leaves R w (two ev env a b w f)
  two_goes env a b w f q =
      then_go R w (valued ev env a w) _ (valued_goes env a w) (λ x u. then_go R u (valued ev env b u) (f x) (valued_goes env b u) (q x))

  value_goes : (v : Value) (vs : List Value) (w : World) → Leaves R w (call_value ca v vs w)
  value_goes (FunctionAt key) vs w = cg key vs w
  value_goes (Number n) vs w = same_done R Nothing w
  value_goes (Pointer o i) vs w = same_done R Nothing w

  tested_call : (t : Text) (s : CType) (v : Value) (vs : List Value) (w : World) (texts : List Text) → Leaves R (pass GoesOut w) (unless (value_rule texts t s v) (call_breach v w) (call_value ca v vs) (pass GoesOut w))
  tested_call t s v vs w texts = unless_goes R (value_rule texts t s v) (call_breach v w) (call_value ca v vs) (pass GoesOut w) (value_goes v vs (pass GoesOut w))

  called_goes : (t : Text) (s : CType) (v : Value) (vs : List Value) (w : World) → Leaves R w (called h ca t s v vs w)
  called_goes t s v vs w =
      ends_leave R w (λ a u. Kept R (pass GoesOut w) u) (unless (value_rule (version_at h w.count) t s v) (call_breach v w) (call_value ca v vs) (pass GoesOut w)) (λ a u. finished a (pass ComesBack u)) (tested_call t s v vs w (version_at h w.count)).keeps (λ a u k. done R a w (pass (Work 1) (pass ComesBack u)) (came_back R w u k))

  args_go : (env : Env) (es : List CoreExpr) (vs : List Value) (w : World) (f : List Value → World → Outcome Answer) → ((us : List Value) (u : World) → Leaves R u (f us u)) → Leaves R w (args_then ev env es vs w f)
  args_go env [] vs w f q = q vs w
  args_go env (e ∷ es) vs w f q =
      then_go R w (valued ev env e w) _ (valued_goes env e w) (λ v u. args_go env es (vs ++ v ∷ []) u f q)

  pub expr_goes : (env : Env) (x : CoreExpr-F CoreExpr) (w : World) → Leaves R w (expr_of h ev ca env x w)
  expr_goes env (CoreExpr-F.Number l t n) w = finish_goes R _ w
  expr_goes env (CoreExpr-F.Literal l t i) w = finish_goes R _ w
  expr_goes env (CoreExpr-F.Automatic l t b i) w = finish_goes R _ w
  expr_goes env (CoreExpr-F.Static l t key) w = static_goes R key _ w
  expr_goes env (CoreExpr-F.Function l t key) w = finish_goes R _ w
  expr_goes env (CoreExpr-F.Index l t size a b) w =
      two_goes env a b w _ (λ x y u. then_place R u _ (offset_goes R (is_pointer_type (type_of a)) op.Add size (int_of (type_of a)) (int_of (type_of b)) x y u))
  expr_goes env (CoreExpr-F.Call l t f es) w =
      one_goes env f w _ (λ v u. args_go env es [] u _ (called_goes env.text (type_of f) v))
  expr_goes env (CoreExpr-F.Member l t n a) w = then_go R w (ev env a w) _ (eg env a w) (λ x u. finish_goes R _ u)
  expr_goes env (CoreExpr-F.Arrow l t n a) w = one_goes env a w _ (λ p u. finish_goes R _ u)
  expr_goes env (CoreExpr-F.Step l t s n a) w =
      then_go R w (ev env a w) _ (eg env a w) (λ x u. then_plain R u _ (stepped_goes R s n (type_of a) x u))
  expr_goes env (CoreExpr-F.Address l t a) w = then_go R w (ev env a w) _ (eg env a w) (λ x u. then_plain R u _ (address_goes R x u))
  expr_goes env (CoreExpr-F.Indirection l t a) w = one_goes env a w _ (λ p u. finish_goes R _ u)
  expr_goes env (CoreExpr-F.Unary l t o a) w = one_goes env a w _ (λ x u. then_plain R u _ (unary_goes R o (type_of a) x u))
  expr_goes env (CoreExpr-F.Cast l t a) w = then_go R w (ev env a w) _ (eg env a w) (λ x u. cast_goes R (is_void t) t x u)
  expr_goes env (CoreExpr-F.Binary l t o a b) w = two_goes env a b w _ (λ x y u. then_plain R u _ (computed_goes R o (int_of (type_of a)) x (int_of (type_of b)) y u))
  expr_goes env (CoreExpr-F.Offset l t o size a b) w =
      two_goes env a b w _ (λ x y u. then_plain R u _ (offset_goes R (is_pointer_type (type_of a)) o size (int_of (type_of a)) (int_of (type_of b)) x y u))
  expr_goes env (CoreExpr-F.Difference l t size a b) w = two_goes env a b w _ (λ x y u. then_plain R u _ (difference_goes R x y size u))
  expr_goes env (CoreExpr-F.Compare l t o a b) w = two_goes env a b w _ (λ x y u. then_plain R u _ (compared_goes R o x y u))
  expr_goes env (CoreExpr-F.And l t a b) w =
      one_goes env a w _ (λ x u. then_go R u _ _ (tested_goes R (type_of a) x u) (λ yes y.
      either_goes R yes _ _ y (one_goes env b y _ (truth_goes R (type_of b))) (finish_goes R _ y)))
  expr_goes env (CoreExpr-F.Or l t a b) w =
      one_goes env a w _ (λ x u. then_go R u _ _ (tested_goes R (type_of a) x u) (λ yes y.
      either_goes R yes _ _ y (finish_goes R _ y) (one_goes env b y _ (truth_goes R (type_of b)))))
  expr_goes env (CoreExpr-F.Conditional l t a b c) w =
      one_goes env a w _ (λ x u. then_go R u _ _ (tested_goes R (type_of a) x u) (λ yes y.
      then_go R y _ _ (either_goes R yes (ev env b) (ev env c) y (eg env b y) (eg env c y)) (λ a z. finish_goes R a z)))
  expr_goes env (CoreExpr-F.Assign l t a b) w =
      then_go R w (ev env a w) _ (eg env a w) (λ p u. one_goes env b u _ (λ v y. then_plain R y _ (stored_goes R (type_of a) (base_of p) (further_of p) v y)))
  expr_goes env (CoreExpr-F.AssignStructure l t size a b) w =
      then_go R w (ev env a w) _ (eg env a w) (λ p u. then_go R u (ev env b u) _ (eg env b u) (λ q y. structure_goes R size p q y))
  expr_goes env (CoreExpr-F.Compound l t o i a b) w =
      then_go R w (ev env a w) _ (eg env a w) (λ p u. one_goes env b u _ (λ v y. then_plain R y _ (compounded_goes R o i (type_of a) (type_of b) p v y)))
  expr_goes env (CoreExpr-F.CompoundOffset l t o size a b) w =
      then_go R w (ev env a w) _ (eg env a w) (λ p u. one_goes env b u _ (λ v y. then_plain R y _ (moved_goes R o size (type_of a) (type_of b) p v y)))
  expr_goes env (CoreExpr-F.Comma l t a b) w =
      then_go R w (ev env a w) _ (eg env a w) (λ x u. then_go R u (ev env b u) _ (eg env b u) (λ y z. finish_goes R y z))
  expr_goes env (CoreExpr-F.Convert l t a) w = then_go R w (ev env a w) _ (eg env a w) (λ x u. conversion_goes R (type_of a) t x u)
