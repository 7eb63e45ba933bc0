-- Instructions on statements and frames: a line, a branch, a loop's turn, a block that is entered and left, a call and its return.
use Rattle.std.proofs.Common.{◌≡◌, ◌+◌, ℕ, Bool, true, false, refl, ap, ◌∙◌, List, [], ◌∷◌, ◌++◌, Some, None}
use Rattle.std.specs.Prelude.{◌==◌, nat_lt, slice_index_or, length}
use Rattle.sc_base.specs.declared.key.Key.{Key}
use Rattle.sc_types.specs.declared.ctype.CType.{CType}
use Rattle.sc_core.specs.declared.expression.CoreExpr.{CoreExpr}
use Rattle.sc_core.specs.declared.statement.CoreStmt.{CoreStmt, out-CoreStmt}
use Rattle.sc_core.specs.declared.statement.CoreStmt.TheOpen.{CoreStmt-F}
use Rattle.sc_core.specs.declared.statement.LabelAt.{LabelAt}
use Rattle.sc_core.specs.declared.module.Fun.{Fun}
use Rattle.sc_meaning.specs.Values.{Value, FunctionAt}
use Rattle.sc_meaning.specs.World.{World, Born, Enter, Happens, pass, Begin, End, GoesOut, ComesBack, OpenBlock, tick}
use Rattle.sc_meaning.specs.Outcomes.{Outcome, Done, Over}
use Rattle.sc_meaning.specs.Accesses.{tested}
use Rattle.sc_meaning.specs.Versions.{Text, InText, callee_of}
use Rattle.sc_meaning.specs.Expressions.{value_rule}
use Rattle.sc_meaning.specs.Statements.{Way, Normal, born_autos, block_autos, stmt_begun}
use Rattle.sc_meaning.specs.Calls.{parameters}
use Rattle.sc_interp.specs.Steady.{alone, ran, advance, body_next, without_call, with_frame, begins, enters, callee_next, made_unless}
use Rattle.sc_interp_machine.specs.Bodies as body
use Rattle.sc_interp_machine.specs.Runs.{Caller, State, then_goes}
use Rattle.sc_interp_machine.specs.declared.pending.Single.TheVariants as single
use Rattle.sc_interp_machine.specs.declared.body.Use.TheVariants.{Discard, If, While}
use Rattle.sc_interp_machine.specs.declared.body.Pending.{Pending}
use Rattle.sc_interp_machine.specs.declared.body.Pending.TheVariants as pending
use Rattle.sc_points.specs.Points.{Frame, Point, CallsOut, at_first_line, with_register, value_of, values_of, IsThere, Waiting, Purpose, Uses, Begins, Holds, Does, Leaves, Returns, at, Call, env_of, state_at, caller_of, callee, Goes, opens, closes, state_behind, chosen, AsValue, Apart, Acts, Slides}
use Rattle.sc_points.specs.declared.held.Held.{Held}
use Rattle.sc_points.specs.declared.held.Held.TheVariants.{In}
use Rattle.sc_points.proofs.Steps.{used_there, given}

-- a statement, or a loop's turn, begins: the state behind its first step
abbrev pub begun : Call → Frame → World → List Pending → CoreStmt → CoreStmt-F CoreStmt → State
begun c f w ss s x = body_next (body.stmt_next s x ss (env_of c f) (stmt_begun x w)) c.active c.callers

abbrev pub turned : Call → Frame → World → List Pending → CoreStmt → CoreStmt-F CoreStmt → State
turned c f w ss s x = body_next (body.turn_next s x ss (env_of c f) w) c.active c.callers

module _ (texts : List Text) (ss : List Pending) where
  -- ---- a line

  pub line_acts : (s : CoreStmt) (l : ℕ) (e : CoreExpr) → out-CoreStmt s ≡ CoreStmt-F.Expression l e →
      Acts texts 1 (at ss (Does s)) (at_first_line l) (at ss (Begins e [] (Uses Discard)))
  line_acts s l e is c f w = ap (begun c f w ss s) is

  -- its value is not used, and it ends
  pub discard_slides : (h : Held) → Slides texts 1 (at ss (Holds h [] (Uses Discard))) (pass End) (at ss (Leaves Normal))
  discard_slides h c f w = refl

  -- ---- a branch

  module _ (g : Held) (there : IsThere g) (t : CType) where
    -- of a loop: its body, or what follows it
    while_chosen : (c : Call) (f : Frame) (s q : CoreStmt) (o : Outcome Bool) →
        body_next (body.then_goes o (λ yes w. body.whether yes (body.execs q (pending.Again s ∷ ss) (env_of c f)) (body.ends Normal ss (env_of c f)) w)) c.active c.callers
        ≡ chosen c (at (pending.Again s ∷ ss) (Does q)) (Goes f) (at ss (Leaves Normal)) (λ v. Goes f (pass End v)) o
    while_chosen c f s q (Done true w) = refl
    while_chosen c f s q (Done false w) = refl
    while_chosen c f s q (Over e) = refl

    pub while_branches : (s q : CoreStmt) (c : Call) (f : Frame) (w : World) →
        ran 1 (alone texts) texts (state_at c (at ss (Holds g [] (Uses (While t s q)))) f w)
        ≡ chosen c (at (pending.Again s ∷ ss) (Does q)) (Goes f) (at ss (Leaves Normal)) (λ v. Goes f (pass End v)) (tested t (value_of f g) w)
    while_branches s q c f w =
        ap (λ o. body_next (body.then_goes o (λ v w. body.then_goes (tested t v w) (λ yes w. body.whether yes (body.execs q (pending.Again s ∷ ss) (env_of c f)) (body.ends Normal ss (env_of c f)) w))) c.active c.callers) (used_there f g w there)
        ∙ while_chosen c f s q (tested t (value_of f g) w)

    if_chosen : (c : Call) (f : Frame) (q r : CoreStmt) (o : Outcome Bool) →
        body_next (body.then_goes o (λ yes w. body.whether yes (body.execs q (pending.End ∷ ss) (env_of c f)) (body.optional_next (Some r) (pending.End ∷ ss) (env_of c f)) w)) c.active c.callers
        ≡ chosen c (at (pending.End ∷ ss) (Does q)) (Goes f) (at (pending.End ∷ ss) (Does r)) (Goes f) o
    if_chosen c f q r (Done true w) = refl
    if_chosen c f q r (Done false w) = refl
    if_chosen c f q r (Over e) = refl

    pub if_branches : (q r : CoreStmt) (c : Call) (f : Frame) (w : World) →
        ran 1 (alone texts) texts (state_at c (at ss (Holds g [] (Uses (If t q (Some r))))) f w)
        ≡ chosen c (at (pending.End ∷ ss) (Does q)) (Goes f) (at (pending.End ∷ ss) (Does r)) (Goes f) (tested t (value_of f g) w)
    if_branches q r c f w =
        ap (λ o. body_next (body.then_goes o (λ v w. body.then_goes (tested t v w) (λ yes w. body.whether yes (body.execs q (pending.End ∷ ss) (env_of c f)) (body.optional_next (Some r) (pending.End ∷ ss) (env_of c f)) w))) c.active c.callers) (used_there f g w there)
        ∙ if_chosen c f q r (tested t (value_of f g) w)

    none_chosen : (c : Call) (f : Frame) (q : CoreStmt) (o : Outcome Bool) →
        body_next (body.then_goes o (λ yes w. body.whether yes (body.execs q (pending.End ∷ ss) (env_of c f)) (body.optional_next None (pending.End ∷ ss) (env_of c f)) w)) c.active c.callers
        ≡ chosen c (at (pending.End ∷ ss) (Does q)) (Goes f) (at (pending.End ∷ ss) (Leaves Normal)) (Goes f) o
    none_chosen c f q (Done true w) = refl
    none_chosen c f q (Done false w) = refl
    none_chosen c f q (Over e) = refl

    pub if_only_branches : (q : CoreStmt) (c : Call) (f : Frame) (w : World) →
        ran 1 (alone texts) texts (state_at c (at ss (Holds g [] (Uses (If t q None)))) f w)
        ≡ chosen c (at (pending.End ∷ ss) (Does q)) (Goes f) (at (pending.End ∷ ss) (Leaves Normal)) (Goes f) (tested t (value_of f g) w)
    if_only_branches q c f w =
        ap (λ o. body_next (body.then_goes o (λ v w. body.then_goes (tested t v w) (λ yes w. body.whether yes (body.execs q (pending.End ∷ ss) (env_of c f)) (body.optional_next None (pending.End ∷ ss) (env_of c f)) w))) c.active c.callers) (used_there f g w there)
        ∙ none_chosen c f q (tested t (value_of f g) w)

  -- ---- a block

  pub opened : (c : Call) (f : Frame) (s : CoreStmt) (b n : ℕ) (qs : List CoreStmt) (o : Outcome (List ℕ)) → length f.blocks ≡ n →
      body_next (body.then_goes o (body.opened s b qs ss (env_of c f))) c.active c.callers
      ≡ state_behind c (at (pending.Rest s qs ∷ pending.EndBlock n ∷ ss) (Leaves Normal)) (opens b f o)
  opened c f s b n qs (Done ids w) deep =
      let born : Born = record { block = b; ids = ids } in
      ap (λ k. state_at c (at (pending.Rest s qs ∷ pending.EndBlock k ∷ ss) (Leaves Normal)) (record f { blocks = f.blocks ++ born ∷ [] }) (pass (OpenBlock born) w)) deep
  opened c f s b n qs (Over e) deep = refl

  pub enter_acts : (s : CoreStmt) (l b n : ℕ) (ls : List LabelAt) (qs : List CoreStmt) → out-CoreStmt s ≡ CoreStmt-F.Block l b ls qs → (c : Call) (f : Frame) (w : World) → length f.blocks ≡ n →
      ran 1 (alone texts) texts (state_at c (at ss (Does s)) f w)
      ≡ state_behind c (at (pending.Rest s qs ∷ pending.EndBlock n ∷ ss) (Leaves Normal)) (opens b f (born_autos (block_autos (env_of c f) b) [] (pass Begin w)))
  enter_acts s l b n ls qs is c f w deep = ap (begun c f w ss s) is ∙ opened c f s b n qs (born_autos (block_autos (env_of c f) b) [] (pass Begin w)) deep

  -- it is left at its end, or by a return with what a register holds
  pub leave_acts : (n : ℕ) (way : Way) →
      Acts texts 1 (at (pending.EndBlock n ∷ ss) (Leaves way)) (closes n) (at ss (Leaves way))
  leave_acts n way c f w = refl

  pub return_leave_acts : (n r : ℕ) →
      Acts texts 1 (at (pending.EndBlock n ∷ ss) (Returns (In r))) (closes n) (at ss (Returns (In r)))
  return_leave_acts n r c f w = refl

  -- ---- a call, and its return

  module _ (u : Purpose) (ws : List Waiting) where
    -- Where the function is one of a text, its type is the one by which it is called, the stack has room and the parameters are born: two steps from where the call goes out
    -- to the first statement of the function, with any registers. Between them the machine is to make the call.
    pub call_acts : (p : Point) (ty : CType) (h : Held) (hs : List Held) → CallsOut texts p ty h hs ss u ws → (c : Call) (f : Frame) (w v : World) (key : Key) (t : Text) (fun : Fun) (ids : List ℕ) (regs : ℕ → Value) →
        value_of f h ≡ FunctionAt key → value_rule texts c.text ty (FunctionAt key) ≡ None → callee_of texts key ≡ InText t fun →
        nat_lt (pass GoesOut w).stack ((pass GoesOut w).used + fun.cost) ≡ false →
        parameters (slice_index_or fun.blocks 0 []) (values_of f hs) [] (with_frame key t fun (pass GoesOut w)) ≡ Done ids v →
        let born : Born = record { block = 0; ids = ids } in
        ran 2 (alone texts) texts (state_at c p f w)
        ≡ state_at (callee ss u ws c f t fun ids) (at [] (Does fun.body)) (record { regs = regs; blocks = born ∷ [] }) (pass (Happens (Enter key t.core.name)) (pass (OpenBlock born) v))
    call_acts p ty h hs calls c f w v key t fun ids regs is rule found room births =
        let vs : List Value = values_of f hs in
        let out : World = pass GoesOut w in
        let cs : List Caller = caller_of c f (Waiting.Alone single.Back ∷ ws) u ss ∷ c.callers in
        ap (advance (alone texts) texts) (calls c f w)
        ∙ ap (λ x. made_unless (value_rule texts c.text ty x) (alone texts) texts x vs cs out) is
        ∙ ap (λ r. made_unless r (alone texts) texts (FunctionAt key) vs cs out) rule
        ∙ ap (λ k. callee_next (alone texts) key vs k cs out) found
        ∙ ap (λ b. enters b key t fun vs cs out) room
        ∙ ap (λ o. then_goes o (begins key t fun cs)) births

    -- a return: three steps from where the function is left to where its caller has the value in a register
    pub return_acts : (d r : ℕ) (same : (d == d) ≡ true) (apart : Apart d ws) (c : Call) (f0 f : Frame) (t : Text) (fun : Fun) (ids : List ℕ) (w : World) →
        ran 3 (alone texts) texts (state_at (callee ss u ws c f0 t fun ids) (at [] (Returns (In r))) f w)
        ≡ state_at c (at ss (Holds (In d) ws u)) (with_register d (f.regs r) f0) (tick (pass ComesBack (without_call ids fun.cost w)))
    return_acts d r same apart c f0 f t fun ids w = given texts u ss d ws same apart AsValue c f0 (f.regs r) (tick (pass ComesBack (without_call ids fun.cost w)))
