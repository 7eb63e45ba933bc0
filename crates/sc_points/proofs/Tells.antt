-- What the first step from each point shows; and the instructions of more than one step, none of which but the last shows anything or ends
-- the run.
use Rattle.std.proofs.Common.{◌≡◌, ℕ, refl, ap, sym, ◌∙◌, List, [], ◌∷◌, Option, Some, None}
use Rattle.std.specs.Prelude.{◌==◌}
use Rattle.sc_base.specs.declared.key.Key.{Key}
use Rattle.sc_types.specs.declared.ctype.CType.{CType}
use Rattle.sc_core.specs.declared.expression.CoreExpr.{CoreExpr}
use Rattle.sc_core.specs.declared.module.Fun.{Fun}
use Rattle.sc_core.specs.declared.statement.AutoInit.{AutoInit}
use Rattle.sc_core.specs.declared.statement.AutoInit.TheVariants as piece
use Rattle.sc_core.specs.declared.statement.CoreStmt.{CoreStmt, out-CoreStmt}
use Rattle.sc_core.specs.declared.statement.CoreStmt.TheOpen.{CoreStmt-F}
use Rattle.sc_core.specs.declared.statement.SwitchLabel.{SwitchLabel}
use Rattle.sc_meaning.specs.Values.{Value, FunctionAt}
use Rattle.sc_meaning.specs.World.{World, Begin, GoesOut, pass, tick}
use Rattle.sc_meaning.specs.Outcomes.{Done}
use Rattle.sc_meaning.specs.declared.library.LibFun.{LibFun}
use Rattle.sc_meaning.specs.Functions.{library_call}
use Rattle.sc_meaning.specs.Violations.{bits}
use Rattle.sc_meaning.specs.Versions.{Text, InLibrary, callee_of}
use Rattle.sc_meaning.specs.Expressions.{Env, Answer, value_rule}
use Rattle.sc_meaning.specs.Statements.{Way, Normal, Broke, Continued, Jumped, Returned, block_autos, born_autos, place_in, stmt_begun}
use Rattle.sc_interp.specs.Shows.{line_shown, entry_shown, shown}
use Rattle.sc_interp.specs.Steady.{alone, advance, body_next, callee_next, made_unless}
use Rattle.sc_interp.specs.Steps.{is_over}
use Rattle.sc_interp.specs.declared.stepped.Shown.TheVariants.{Nothing}
use Rattle.sc_interp_machine.specs.Bodies as body
use Rattle.sc_interp_machine.specs.Runs.{Caller, Makes, Answers, answers, Active}
use Rattle.sc_interp_machine.specs.declared.pending.Mode.TheVariants.{Eval, Give}
use Rattle.sc_interp_machine.specs.declared.pending.Single.TheVariants as single
use Rattle.sc_interp_machine.specs.declared.body.Doing.TheVariants.{Labels}
use Rattle.sc_interp_machine.specs.declared.body.Pending.{Pending}
use Rattle.sc_interp_machine.specs.declared.body.Pending.TheVariants as pending
use Rattle.sc_world.specs.Moves.{Silent}
use Rattle.sc_points.specs.Points.{Frame, CallsOut, doing_of, answer_of, value_of, values_of, Waiting, items_of, Purpose, use_of, Focus, Begins, Holds, Does, Turns, Leaves, Returns, Fills, Compares, Point, at, Call, env_of, state_at, caller_of, callee, first_shown, turn_shown, check_shown, left_shown, focus_shown, point_shown, Tells}
use Rattle.sc_points.specs.declared.held.Held.{Held}
use Rattle.sc_points.specs.declared.held.Held.TheVariants.{In, Void}
use Rattle.sc_points.proofs.Silence.{none_then, none_whether, within_silent}

-- ---- one step

module _ (env : Env) (ss : List Pending) where
  enters_silent : (s : CoreStmt) (b : ℕ) (qs : List CoreStmt) (ps : List Pending) (w : World) → line_shown (body.enters s b qs ps env w) ≡ Nothing
  enters_silent s b qs ps w = none_then (born_autos (block_autos env b) [] w) (body.opened s b qs ps env) (λ ids w. refl)

  statement_shown : (s : CoreStmt) (x : CoreStmt-F CoreStmt) (w : World) → line_shown (body.stmt_next s x ss env w) ≡ first_shown x
  statement_shown s (CoreStmt-F.Block l b ks qs) w = enters_silent s b qs ss w
  statement_shown s (CoreStmt-F.Initialize l b i is) w = refl
  statement_shown s (CoreStmt-F.Empty l) w = refl
  statement_shown s (CoreStmt-F.Expression l e) w = refl
  statement_shown s (CoreStmt-F.If l e q r) w = refl
  statement_shown s (CoreStmt-F.Switch l e ls q) w = refl
  statement_shown s (CoreStmt-F.While l e q) w = refl
  statement_shown s (CoreStmt-F.Do l q m e) w = refl
  statement_shown s (CoreStmt-F.For l None e x q) w = refl
  statement_shown s (CoreStmt-F.For l (Some o) e x q) w = refl
  statement_shown s (CoreStmt-F.Case l q) w = refl
  statement_shown s (CoreStmt-F.Default l q) w = refl
  statement_shown s (CoreStmt-F.Label l q) w = refl
  statement_shown s (CoreStmt-F.Goto l k) w = refl
  statement_shown s (CoreStmt-F.Continue l) w = refl
  statement_shown s (CoreStmt-F.Break l) w = refl
  statement_shown s (CoreStmt-F.Return l None) w = refl
  statement_shown s (CoreStmt-F.Return l (Some e)) w = refl

  loop_shown : (s : CoreStmt) (x : CoreStmt-F CoreStmt) (w : World) → line_shown (body.turn_next s x ss env w) ≡ turn_shown x
  loop_shown s (CoreStmt-F.Block l b ks qs) w = refl
  loop_shown s (CoreStmt-F.Initialize l b i is) w = refl
  loop_shown s (CoreStmt-F.Empty l) w = refl
  loop_shown s (CoreStmt-F.Expression l e) w = refl
  loop_shown s (CoreStmt-F.If l e q r) w = refl
  loop_shown s (CoreStmt-F.Switch l e ls q) w = refl
  loop_shown s (CoreStmt-F.While l e q) w = refl
  loop_shown s (CoreStmt-F.Do l q m e) w = refl
  loop_shown s (CoreStmt-F.For l o None x q) w = refl
  loop_shown s (CoreStmt-F.For l o (Some e) x q) w = refl
  loop_shown s (CoreStmt-F.Case l q) w = refl
  loop_shown s (CoreStmt-F.Default l q) w = refl
  loop_shown s (CoreStmt-F.Label l q) w = refl
  loop_shown s (CoreStmt-F.Goto l k) w = refl
  loop_shown s (CoreStmt-F.Continue l) w = refl
  loop_shown s (CoreStmt-F.Break l) w = refl
  loop_shown s (CoreStmt-F.Return l e) w = refl

  resumed_silent : (s : CoreStmt) (j : ℕ) (x : CoreStmt-F CoreStmt) (ps : List Pending) (w : World) → line_shown (body.resumed_next s j x ps env w) ≡ Nothing
  resumed_silent s j (CoreStmt-F.Block l b ks qs) ps w = refl
  resumed_silent s j (CoreStmt-F.Initialize l b i is) ps w = refl
  resumed_silent s j (CoreStmt-F.Empty l) ps w = refl
  resumed_silent s j (CoreStmt-F.Expression l e) ps w = refl
  resumed_silent s j (CoreStmt-F.If l e q r) ps w = refl
  resumed_silent s j (CoreStmt-F.Switch l e ls q) ps w = refl
  resumed_silent s j (CoreStmt-F.While l e q) ps w = refl
  resumed_silent s j (CoreStmt-F.Do l q m e) ps w = refl
  resumed_silent s j (CoreStmt-F.For l o e x q) ps w = refl
  resumed_silent s j (CoreStmt-F.Case l q) ps w = refl
  resumed_silent s j (CoreStmt-F.Default l q) ps w = refl
  resumed_silent s j (CoreStmt-F.Label l q) ps w = refl
  resumed_silent s j (CoreStmt-F.Goto l k) ps w = refl
  resumed_silent s j (CoreStmt-F.Continue l) ps w = refl
  resumed_silent s j (CoreStmt-F.Break l) ps w = refl
  resumed_silent s j (CoreStmt-F.Return l e) ps w = refl

  jumped_silent : (s : CoreStmt) (k : ℕ) (o : Option ℕ) (ps : List Pending) (w : World) → line_shown (body.jumped_next s k o ps env w) ≡ Nothing
  jumped_silent s k None ps w = refl
  jumped_silent s k (Some j) ps w = resumed_silent s j (out-CoreStmt s) ps w

  rest_silent : (way : Way) (s : CoreStmt) (qs : List CoreStmt) (ps : List Pending) (w : World) → line_shown (body.rest_next way s qs ps env w) ≡ Nothing
  rest_silent Normal s [] ps w = refl
  rest_silent Normal s (q ∷ qs) ps w = refl
  rest_silent Broke s qs ps w = refl
  rest_silent Continued s qs ps w = refl
  rest_silent (Jumped k) s qs ps w = jumped_silent s k (place_in k (out-CoreStmt s)) ps w
  rest_silent (Returned a) s qs ps w = refl

  switch_silent : (way : Way) (ps : List Pending) (w : World) → line_shown (body.switch_next way ps env w) ≡ Nothing
  switch_silent Normal ps w = refl
  switch_silent Broke ps w = refl
  switch_silent Continued ps w = refl
  switch_silent (Jumped k) ps w = refl
  switch_silent (Returned a) ps w = refl

  round_silent : (way : Way) (again : World → body.Advanced) (ps : List Pending) (w : World) → ((w : World) → line_shown (again w) ≡ Nothing) → line_shown (body.goes_round way again ps env w) ≡ Nothing
  round_silent Normal again ps w p = p w
  round_silent Broke again ps w p = refl
  round_silent Continued again ps w p = p w
  round_silent (Jumped k) again ps w p = refl
  round_silent (Returned a) again ps w p = refl

  third_silent : (x : Option CoreExpr) (s : CoreStmt) (ps : List Pending) (w : World) → line_shown (body.third_next x s ps env w) ≡ Nothing
  third_silent None s ps w = refl
  third_silent (Some e) s ps w = refl

  checked_shown : (l : ℕ) (e : CoreExpr) (s : CoreStmt) (ps : List Pending) (way : Way) (w : World) → line_shown (body.item_next (pending.Check l e s) way ps env w) ≡ check_shown l way
  checked_shown l e s ps Normal w = refl
  checked_shown l e s ps Broke w = refl
  checked_shown l e s ps Continued w = refl
  checked_shown l e s ps (Jumped k) w = refl
  checked_shown l e s ps (Returned a) w = refl

  pieces_silent : (p : Value) (is : List AutoInit) (w : World) → line_shown (body.pieces_next p is ss env w) ≡ Nothing
  pieces_silent p [] w = refl
  pieces_silent p (piece.Value j t e ∷ is) w = refl
  pieces_silent p (piece.Text j bytes ∷ is) w = refl
  pieces_silent p (piece.Zero j n ∷ is) w = refl
  pieces_silent p (piece.Structure size e ∷ is) w = refl

  begins_silent : (s : CoreStmt) (j : ℕ) (x : CoreStmt-F CoreStmt) (ps : List Pending) (w : World) → line_shown (body.body_next s j x ps env w) ≡ Nothing
  begins_silent s j (CoreStmt-F.Block l b ks qs) ps w = none_then (born_autos (block_autos env b) [] (pass Begin w)) (body.opened s b _ ps env) (λ ids w. refl)
  begins_silent s j (CoreStmt-F.Initialize l b i is) ps w = refl
  begins_silent s j (CoreStmt-F.Empty l) ps w = refl
  begins_silent s j (CoreStmt-F.Expression l e) ps w = refl
  begins_silent s j (CoreStmt-F.If l e q r) ps w = refl
  begins_silent s j (CoreStmt-F.Switch l e ls q) ps w = refl
  begins_silent s j (CoreStmt-F.While l e q) ps w = refl
  begins_silent s j (CoreStmt-F.Do l q m e) ps w = refl
  begins_silent s j (CoreStmt-F.For l o e x q) ps w = refl
  begins_silent s j (CoreStmt-F.Case l q) ps w = refl
  begins_silent s j (CoreStmt-F.Default l q) ps w = refl
  begins_silent s j (CoreStmt-F.Label l q) ps w = refl
  begins_silent s j (CoreStmt-F.Goto l k) ps w = refl
  begins_silent s j (CoreStmt-F.Continue l) ps w = refl
  begins_silent s j (CoreStmt-F.Break l) ps w = refl
  begins_silent s j (CoreStmt-F.Return l e) ps w = refl

  landed_silent : (s : CoreStmt) (o : Option ℕ) (ps : List Pending) (w : World) → line_shown (body.landed_next s o ps env w) ≡ Nothing
  landed_silent s None ps w = refl
  landed_silent s (Some j) ps w = begins_silent s j (out-CoreStmt s) ps w

  label_silent : (o : Option ℕ) (j : ℕ) (ls : List SwitchLabel) (n : ℕ) (d : Option ℕ) (s : CoreStmt) (w : World) → line_shown (body.label_next o j ls n d s ss env w) ≡ Nothing
  label_silent None j ls n d s w = refl
  label_silent (Some v) j ls n d s w =
      none_whether (v == n) (body.landed_next s (Some j) (pending.EndSwitch ∷ ss) env) (body.GoesOn (Labels ls n d s) ss env) (tick w) (landed_silent s (Some j) (pending.EndSwitch ∷ ss)) (λ w. refl)

  labels_silent : (ls : List SwitchLabel) (n : ℕ) (d : Option ℕ) (s : CoreStmt) (w : World) → line_shown (body.labels_next ls n d s ss env w) ≡ Nothing
  labels_silent [] n d s w = landed_silent s d (pending.EndSwitch ∷ ss) w
  labels_silent (l ∷ ls) n d s w = label_silent l.value l.at ls n d s w

way_shown : (env : Env) (ss : List Pending) (way : Way) (w : World) → line_shown (body.way_next ss way env w) ≡ left_shown ss way
way_shown env [] way w = refl
way_shown env (pending.End ∷ ss) way w = refl
way_shown env (pending.Rest s qs ∷ ss) way w = rest_silent env ss way s qs ss w
way_shown env (pending.EndBlock k ∷ ss) way w = refl
way_shown env (pending.EndSwitch ∷ ss) way w = switch_silent env ss way ss w
way_shown env (pending.Again s ∷ ss) way w = round_silent env ss way (body.turns s ss env) ss w (λ w. refl)
way_shown env (pending.Check l e s ∷ ss) way w = checked_shown env ss l e s ss way w
way_shown env (pending.Third x s ∷ ss) way w = round_silent env ss way (body.third_next x s ss env) ss w (third_silent env ss x s ss)

check_returned : (ss : List Pending) (a : Answer) → left_shown ss (Returned a) ≡ Nothing
check_returned [] a = refl
check_returned (pending.End ∷ ss) a = refl
check_returned (pending.Rest s qs ∷ ss) a = refl
check_returned (pending.EndBlock k ∷ ss) a = refl
check_returned (pending.EndSwitch ∷ ss) a = refl
check_returned (pending.Again s ∷ ss) a = refl
check_returned (pending.Check l e s ∷ ss) a = refl
check_returned (pending.Third x s ∷ ss) a = refl

-- a step that goes out with a call shows nothing
none_made : (x : body.Advanced) (a : Active) (cs : List Caller) (ty : CType) (v : Value) (vs : List Value) (c : Caller) (ds : List Caller) (w : World) → body_next x a cs ≡ Makes ty v vs c ds w → line_shown x ≡ Nothing
none_made (body.GoesOn doing ss env u) a cs ty v vs c ds w p = refl
none_made (body.Lines l doing ss env u) a cs ty v vs c ds w p = absurd (cc)
none_made (body.CallsOut s x xs is user ss env u) a cs ty v vs c ds w p = refl
none_made (body.Leaves way u) a cs ty v vs c ds w p = refl
none_made (body.Breaks e) a cs ty v vs c ds w p = refl

module _ (texts : List Text) where
  focus_tells : (ss : List Pending) (focus : Focus) (c : Call) (f : Frame) (w : World) → shown (alone texts) texts (state_at c (at ss focus) f w) ≡ focus_shown ss focus
  focus_tells ss (Begins e ws u) c f w = within_silent ss (env_of c f) (Eval e) (items_of f ws) (use_of f u) w
  focus_tells ss (Holds h ws u) c f w = within_silent ss (env_of c f) (Give (answer_of f h)) (items_of f ws) (use_of f u) w
  focus_tells ss (Does s) c f w = statement_shown (env_of c f) ss s (out-CoreStmt s) (stmt_begun (out-CoreStmt s) w)
  focus_tells ss (Turns s) c f w = loop_shown (env_of c f) ss s (out-CoreStmt s) w
  focus_tells ss (Leaves way) c f w = way_shown (env_of c f) ss way w
  focus_tells ss (Returns h) c f w = way_shown (env_of c f) ss (Returned (answer_of f h)) w ∙ check_returned ss (answer_of f h)
  focus_tells ss (Fills b i is) c f w = pieces_silent (env_of c f) ss _ is w
  focus_tells ss (Compares ls h d s) c f w = labels_silent (env_of c f) ss ls (bits (value_of f h)) d s w

  -- one step from a point shows what is known of the point
  pub point_tells : (p : Point) → Tells texts 0 p (point_shown p)
  point_tells p c f w = (tt, focus_tells p.stmts p.focus c f w)

  module _ (u : Purpose) (ss : List Pending) (ws : List Waiting) where
    -- ---- a call and its return

    module _ (p : Point) (ty : CType) (h : Held) (hs : List Held) (calls : CallsOut texts p ty h hs ss u ws) (c : Call) (f : Frame) (w : World) where
      abbrev cs : List Caller
      cs = caller_of c f (Waiting.Alone single.Back ∷ ws) u ss ∷ c.callers

      pub call_silent : Silent 1 texts (state_at c p f w)
      call_silent =
          (none_made (body.advance (doing_of f p.focus) p.stmts (env_of c f) w) c.active c.callers ty (value_of f h) (values_of f hs) (caller_of c f (Waiting.Alone single.Back ∷ ws) u ss) c.callers (pass GoesOut w) (calls c f w), ap is_over (calls c f w), tt)

      -- what a call of the library answers is given to the caller that waits
      module _ (key : Key) (fun : LibFun) (is : value_of f h ≡ FunctionAt key) (rule : value_rule texts c.text ty (FunctionAt key) ≡ None) (found : callee_of texts key ≡ InLibrary fun) where
        pub library_made : advance (alone texts) texts (advance (alone texts) texts (state_at c p f w)) ≡ answers (caller_of c f (Waiting.Alone single.Back ∷ ws) u ss ∷ c.callers) (library_call (alone texts) fun key (values_of f hs) (pass GoesOut w))
        library_made =
            ap (advance (alone texts) texts) (calls c f w)
            ∙ ap (λ x. made_unless (value_rule texts c.text ty x) (alone texts) texts x (values_of f hs) cs (pass GoesOut w)) is
            ∙ ap (λ r. made_unless r (alone texts) texts (FunctionAt key) (values_of f hs) cs (pass GoesOut w)) rule
            ∙ ap (λ k. callee_next (alone texts) key (values_of f hs) k cs (pass GoesOut w)) found

        -- three steps show nothing
        pub library_silent : (a : Answer) (v : World) → library_call (alone texts) fun key (values_of f hs) (pass GoesOut w) ≡ Done a v → Silent 3 texts (state_at c p f w)
        library_silent a v done =
            let made : advance (alone texts) texts (advance (alone texts) texts (state_at c p f w)) ≡ Answers a cs v = library_made ∙ ap (answers cs) done in (
              call_silent.0,
              call_silent.1,
              (
                ap (shown (alone texts) texts) (calls c f w) ∙ ap entry_shown (ap (advance (alone texts) texts) (sym (calls c f w)) ∙ made),
                ap is_over made,
                (ap (shown (alone texts) texts) made, ap (λ s. is_over (advance (alone texts) texts s)) made, tt),
              ),
            )

    pub return_silent : (r : ℕ) (c : Call) (f0 f : Frame) (t : Text) (fun : Fun) (ids : List ℕ) (w : World) → Silent 2 texts (state_at (callee ss u ws c f0 t fun ids) (at [] (Returns (In r))) f w)
    return_silent r c f0 f t fun ids w = (refl, refl, (refl, refl, tt))

    pub return_nothing_silent : (c : Call) (f0 f : Frame) (t : Text) (fun : Fun) (ids : List ℕ) (w : World) → Silent 2 texts (state_at (callee ss u ws c f0 t fun ids) (at [] (Returns Void)) f w)
    return_nothing_silent c f0 f t fun ids w = (refl, refl, (refl, refl, tt))

    pub end_silent : (c : Call) (f0 f : Frame) (t : Text) (fun : Fun) (ids : List ℕ) (w : World) → Silent 2 texts (state_at (callee ss u ws c f0 t fun ids) (at [] (Leaves Normal)) f w)
    end_silent c f0 f t fun ids w = (refl, refl, (refl, refl, tt))
