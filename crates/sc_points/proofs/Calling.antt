-- Instructions about calls: what is called and its arguments, a call of the library, a return without a value; and the branch of `&&`.
use Rattle.std.proofs.Common.{◌≡◌, ◌+◌, ℕ, Bool, true, false, refl, ap, sym, ◌∙◌, List, [], ◌∷◌, ◌++◌, None}
use Rattle.std.specs.Prelude.{◌==◌}
use Rattle.sc_base.specs.declared.key.Key.{Key}
use Rattle.sc_types.specs.declared.ctype.CType.{CType}
use Rattle.sc_core.specs.declared.expression.CoreExpr.{CoreExpr}
use Rattle.sc_core.specs.declared.module.Fun.{Fun}
use Rattle.sc_meaning.specs.declared.library.LibFun.{LibFun}
use Rattle.sc_meaning.specs.Values.{Value, Number, FunctionAt}
use Rattle.sc_meaning.specs.World.{World, pass, GoesOut, ComesBack, tick}
use Rattle.sc_meaning.specs.Outcomes.{Outcome, Done, Over}
use Rattle.sc_meaning.specs.Accesses.{tested}
use Rattle.sc_meaning.specs.Functions.{library_call}
use Rattle.sc_meaning.specs.Versions.{Text, InLibrary, callee_of}
use Rattle.sc_meaning.specs.Expressions.{Answer, plain, base_of, value_rule}
use Rattle.sc_meaning.specs.Statements.{Normal}
use Rattle.sc_interp.specs.Steady.{alone, ran, body_next, without_call, callee_next, made_unless}
use Rattle.sc_interp_machine.specs.Machine as expr
use Rattle.sc_interp_machine.specs.Bodies as body
use Rattle.sc_interp_machine.specs.Runs.{Caller, Runs, answers, Makes}
use Rattle.sc_interp_machine.specs.declared.pending.Single.TheVariants as single
use Rattle.sc_interp_machine.specs.declared.pending.Item.TheVariants as item
use Rattle.sc_interp_machine.specs.declared.pending.Mode.TheVariants.{Give}
use Rattle.sc_interp_machine.specs.declared.body.Pending.{Pending}
use Rattle.sc_interp_machine.specs.declared.body.Doing.TheVariants.{Within}
use Rattle.sc_points.specs.Points.{Frame, Point, CallsOut, value_of, values_of, IsThere, Waiting, items_of, Purpose, use_of, Begins, Holds, Leaves, Returns, at, Call, env_of, state_at, caller_of, callee, comes_back, state_behind, chosen, Form, AsValue, held_in, Shaped, Apart, Slides, Goes, with_register}
use Rattle.sc_points.specs.declared.held.Held.{Held}
use Rattle.sc_points.specs.declared.held.Held.TheVariants.{In, Void}
use Rattle.sc_points.proofs.Steps.{used_there, given}

values_append : (f : Frame) (hs : List Held) (g : Held) → values_of f (hs ++ g ∷ []) ≡ values_of f hs ++ value_of f g ∷ []
values_append f [] g = refl
values_append f (h ∷ hs) g = ap (λ vs. value_of f h ∷ vs) (values_append f hs g)

module _ (texts : List Text) (u : Purpose) (ss : List Pending) (ws : List Waiting) where
  -- ---- arguments

  pub callee_slides : (ty : CType) (h : Held) (e : CoreExpr) (es : List CoreExpr) → IsThere h → Slides texts 1 (at ss (Holds h (Waiting.Callee ty (e ∷ es) ∷ ws) u)) (λ w. w) (at ss (Begins e (Waiting.Argument ty h es [] ∷ ws) u))
  callee_slides ty h e es there c f w =
      ap (λ o. body_next (body.expr_next (expr.then_goes o (λ v w. expr.args_next ty v (e ∷ es) [] (items_of f ws) w)) (use_of f u) ss (env_of c f)) c.active c.callers) (used_there f h w there)

  pub argument_slides : (ty : CType) (h g : Held) (hs : List Held) (e : CoreExpr) (es : List CoreExpr) → IsThere g → Slides texts 1 (at ss (Holds g (Waiting.Argument ty h (e ∷ es) hs ∷ ws) u)) (λ w. w) (at ss (Begins e (Waiting.Argument ty h es (hs ++ g ∷ []) ∷ ws) u))
  argument_slides ty h g hs e es there c f w =
      ap (λ o. body_next (body.expr_next (expr.then_goes o (λ y w. expr.args_next ty (value_of f h) (e ∷ es) (values_of f hs ++ y ∷ []) (items_of f ws) w)) (use_of f u) ss (env_of c f)) c.active c.callers) (used_there f g w there)
      ∙ ap (λ vs. body_next (body.expr_next (expr.evals e (item.Argument ty (value_of f h) es vs ∷ items_of f ws) w) (use_of f u) ss (env_of c f)) c.active c.callers) (sym (values_append f hs g))

  -- ---- the call goes out: behind the last argument, or where there is none

  pub argument_calls : (ty : CType) (g h : Held) (hs : List Held) → IsThere g → CallsOut texts (at ss (Holds g (Waiting.Argument ty h [] hs ∷ ws) u)) ty h (hs ++ g ∷ []) ss u ws
  argument_calls ty g h hs there c f w =
      ap (λ o. body_next (body.expr_next (expr.then_goes o (λ y w. expr.args_next ty (value_of f h) [] (values_of f hs ++ y ∷ []) (items_of f ws) w)) (use_of f u) ss (env_of c f)) c.active c.callers) (used_there f g w there)
      ∙ ap (λ vs. Makes ty (value_of f h) vs (caller_of c f (Waiting.Alone single.Back ∷ ws) u ss) c.callers (pass GoesOut w)) (sym (values_append f hs g))

  pub function_calls : (ty : CType) (h : Held) → IsThere h → CallsOut texts (at ss (Holds h (Waiting.Callee ty [] ∷ ws) u)) ty h [] ss u ws
  function_calls ty h there c f w =
      ap (λ o. body_next (body.expr_next (expr.then_goes o (λ v w. expr.args_next ty v [] [] (items_of f ws) w)) (use_of f u) ss (env_of c f)) c.active c.callers) (used_there f h w there)

  -- ---- a return without a value, or past the end of the function

  pub return_void_acts : (c : Call) (f0 f : Frame) (t : Text) (fun : Fun) (ids : List ℕ) (w : World) →
      ran 3 (alone texts) texts (state_at (callee ss u ws c f0 t fun ids) (at [] (Returns Void)) f w)
      ≡ state_at c (at ss (Holds Void ws u)) f0 (tick (pass ComesBack (without_call ids fun.cost w)))
  return_void_acts c f0 f t fun ids w = refl

  pub end_acts : (c : Call) (f0 f : Frame) (t : Text) (fun : Fun) (ids : List ℕ) (w : World) →
      ran 3 (alone texts) texts (state_at (callee ss u ws c f0 t fun ids) (at [] (Leaves Normal)) f w)
      ≡ state_at c (at ss (Holds Void ws u)) f0 (tick (pass ComesBack (without_call ids fun.cost w)))
  end_acts c f0 f t fun ids w = refl

  module _ (d : ℕ) (same : (d == d) ≡ true) (apart : Apart d ws) where
    -- ---- the branch of `&&`

    and_chosen : (c : Call) (f : Frame) (t : CType) (b : CoreExpr) (o : Outcome Bool) →
        body_next (body.expr_next (expr.then_goes o (λ yes w. expr.whether yes (expr.evals b (item.Alone (single.Truth t) ∷ items_of f ws)) (λ w. expr.gives (items_of f ws) (plain (Number 0) w)) w)) (use_of f u) ss (env_of c f)) c.active c.callers
        ≡ chosen c (at ss (Begins b (Waiting.Alone (single.Truth t) ∷ ws) u)) (Goes f) (at ss (Holds (In d) ws u)) (λ v. Goes (with_register d (Number 0) f) (tick v)) o
    and_chosen c f t b (Done true w) = refl
    and_chosen c f t b (Done false w) = given texts u ss d ws same apart AsValue c f (Number 0) (tick w)
    and_chosen c f t b (Over e) = refl

    pub and_branches : (g : Held) (s t : CType) (b : CoreExpr) (c : Call) (f : Frame) (w : World) → IsThere g →
        ran 1 (alone texts) texts (state_at c (at ss (Holds g (Waiting.And s t b ∷ ws) u)) f w)
        ≡ chosen c (at ss (Begins b (Waiting.Alone (single.Truth t) ∷ ws) u)) (Goes f) (at ss (Holds (In d) ws u)) (λ v. Goes (with_register d (Number 0) f) (tick v)) (tested s (value_of f g) w)
    and_branches g s t b c f w there =
        ap (λ o. body_next (body.expr_next (expr.then_goes o (λ x w. expr.then_goes (tested s x w) (λ yes w. expr.whether yes (expr.evals b (item.Alone (single.Truth t) ∷ items_of f ws)) (λ w. expr.gives (items_of f ws) (plain (Number 0) w)) w))) (use_of f u) ss (env_of c f)) c.active c.callers) (used_there f g w there)
        ∙ and_chosen c f t b (tested s (value_of f g) w)

    -- ---- a call of the library: four steps

    answered : (form : Form) (c : Call) (f : Frame) (r : Outcome Answer) → Shaped form r →
        ran 2 (alone texts) texts (answers (caller_of c f (Waiting.Alone single.Back ∷ ws) u ss ∷ c.callers) r) ≡ state_behind c (at ss (Holds (held_in form d) ws u)) (comes_back d f r)
    answered form c f (Done a w) p =
        ap (λ a. Runs (Within (Give a) (items_of f ws) (use_of f u)) ss (env_of c f) c.active c.callers (tick (pass ComesBack w))) p ∙ given texts u ss d ws same apart form c f (base_of a) (tick (pass ComesBack w))
    answered form c f (Over e) p = refl

    pub library_acts : (form : Form) (p : Point) (ty : CType) (h : Held) (hs : List Held) → CallsOut texts p ty h hs ss u ws → (c : Call) (f : Frame) (w : World) (key : Key) (fun : LibFun) →
        value_of f h ≡ FunctionAt key → value_rule texts c.text ty (FunctionAt key) ≡ None → callee_of texts key ≡ InLibrary fun →
        Shaped form (library_call (alone texts) fun key (values_of f hs) (pass GoesOut w)) →
        ran 4 (alone texts) texts (state_at c p f w) ≡ state_behind c (at ss (Holds (held_in form d) ws u)) (comes_back d f (library_call (alone texts) fun key (values_of f hs) (pass GoesOut w)))
    library_acts form p ty h hs calls c f w key fun is rule found shaped =
        let vs : List Value = values_of f hs in
        let out : World = pass GoesOut w in
        let cs : List Caller = caller_of c f (Waiting.Alone single.Back ∷ ws) u ss ∷ c.callers in
        ap (ran 3 (alone texts) texts) (calls c f w)
        ∙ ap (λ x. ran 2 (alone texts) texts (made_unless (value_rule texts c.text ty x) (alone texts) texts x vs cs out)) is
        ∙ ap (λ r. ran 2 (alone texts) texts (made_unless r (alone texts) texts (FunctionAt key) vs cs out)) rule
        ∙ ap (λ k. ran 2 (alone texts) texts (callee_next (alone texts) key vs k cs out)) found
        ∙ answered form c f (library_call (alone texts) fun key vs out) shaped
