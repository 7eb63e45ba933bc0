-- Calls and returns as instructions: the list goes on in the callee's call, and comes back to the caller's.
use Rattle.std.proofs.Common.{◌≡◌, ◌+◌, ℕ, Bool, true, false, arith, refl, ap, sym, ◌∙◌, List, [], ◌∷◌, None}
use Rattle.std.specs.Prelude.{◌&&◌, ◌==◌, nat_lt, slice_index_or}
use Rattle.sc_base.specs.declared.key.Key.{Key}
use Rattle.sc_types.specs.declared.ctype.CType.{CType}
use Rattle.sc_core.specs.declared.module.Fun.{Fun}
use Rattle.sc_meaning.specs.Values.{Value, FunctionAt}
use Rattle.sc_meaning.specs.World.{World, Born, ComesBack, Enter, GoesOut, Happens, OpenBlock, pass, tick}
use Rattle.sc_meaning.specs.Outcomes.{Done}
use Rattle.sc_meaning.specs.Versions.{Text, InText, callee_of}
use Rattle.sc_meaning.specs.Expressions.{value_rule}
use Rattle.sc_meaning.specs.Statements.{Normal}
use Rattle.sc_meaning.specs.Calls.{parameters}
use Rattle.sc_interp.specs.Shows.{entry_shown, shown}
use Rattle.sc_interp.specs.Steady.{alone, advance, ran, with_frame, without_call}
use Rattle.sc_interp.specs.declared.stepped.Shown.{Shown}
use Rattle.sc_interp.specs.declared.stepped.Shown.TheVariants.{Entered, Nothing}
use Rattle.sc_interp_machine.specs.Runs.{State}
use Rattle.sc_interp_machine.specs.declared.body.Pending.{Pending}
use Rattle.sc_world.specs.Costs.{is_back, is_call}
use Rattle.sc_points.specs.Points.{Frame, CallsOut, with_register, value_of, values_of, Waiting, Purpose, Holds, Does, Leaves, Returns, Point, at, Call, state_at, callee, Went, Goes, state_behind, Apart, point_shown}
use Rattle.sc_points.specs.declared.held.Held.{Held}
use Rattle.sc_points.specs.declared.held.Held.TheVariants.{In, Void}
use Rattle.sc_points.specs.Lists.{IsMade, AreCalm, deed}
use Rattle.sc_points.proofs.Frames.{call_acts, return_acts}
use Rattle.sc_points.proofs.Calling.{return_void_acts, end_acts}
use Rattle.sc_points.proofs.Tells.{point_tells, call_silent, return_silent, return_nothing_silent, end_silent}
use Rattle.sc_points.proofs.Deeds.{calm_one, moves_to}

never_back : (b : Bool) → (b && false) ≡ false
never_back true = refl
never_back false = refl

module _ (texts : List Text) (points : ℕ → Point) where
  -- one step from a point, in a call, shows what is known of the point
  pub once_does : (p : Point) (c : Call) (f : Frame) (w : World) (i : ℕ) (now : Shown) (x : Went) →
      ran 1 (alone texts) texts (state_at c p f w) ≡ state_behind c (points i) x → point_shown p ≡ now → IsMade texts points (state_at c p f w) (deed c i 1 now w x)
  once_does p c f w i now x is shows = moves_to texts points (state_at c p f w) c i 0 now w x refl (omega arith) is tt ((point_tells texts p c f w).1 ∙ shows) (calm_one texts p c f w)

  module _ (ss : List Pending) (u : Purpose) (ws : List Waiting) (i : ℕ) where
    -- the call of a text's function: its last step shows the entry
    pub call_does : (p : Point) (ty : CType) (h : Held) (hs : List Held) → CallsOut texts p ty h hs ss u ws → (c : Call) (f : Frame) (w v : World) (key : Key) (t : Text) (fun : Fun) (ids : List ℕ) (regs : ℕ → Value) →
        value_of f h ≡ FunctionAt key → value_rule texts c.text ty (FunctionAt key) ≡ None → callee_of texts key ≡ InText t fun →
        nat_lt (pass GoesOut w).stack ((pass GoesOut w).used + fun.cost) ≡ false →
        parameters (slice_index_or fun.blocks 0 []) (values_of f hs) [] (with_frame key t fun (pass GoesOut w)) ≡ Done ids v →
        points i ≡ at [] (Does fun.body) →
        let born : Born = record { block = 0; ids = ids } in
        IsMade texts points (state_at c p f w)
        (deed (callee ss u ws c f t fun ids) i 2 Entered w (Goes (record { regs = regs; blocks = born ∷ [] }) (pass (Happens (Enter key t.core.name)) (pass (OpenBlock born) v))))
    call_does p ty h hs calls c f w v key t fun ids regs is rule found room births first =
        let born : Born = record { block = 0; ids = ids } in
        let new : Frame = record { regs = regs; blocks = born ∷ [] } in
        let out : World = pass (Happens (Enter key t.core.name)) (pass (OpenBlock born) v) in
        let inside : Call = callee ss u ws c f t fun ids in
        let s : State = state_at c p f w in
        let acts : ran 2 (alone texts) texts s ≡ state_at inside (at [] (Does fun.body)) new out = call_acts texts ss u ws p ty h hs calls c f w v key t fun ids regs is rule found room births in
        let told : shown (alone texts) texts (advance (alone texts) texts s) ≡ Entered = ap (shown (alone texts) texts) (calls c f w) ∙ ap entry_shown (ap (advance (alone texts) texts) (sym (calls c f w)) ∙ acts) in
        let calm : AreCalm 2 texts s = (refl, (ap (λ x. is_call (advance (alone texts) texts s) && is_back x) acts ∙ never_back (is_call (advance (alone texts) texts s)), tt)) in
        moves_to texts points s inside i 1 Entered w (Goes new out) refl (omega arith) (acts ∙ ap (λ q. state_at inside q new out) (sym first)) (call_silent texts u ss ws p ty h hs calls c f w) told calm

    -- a return with a value, and without one: the list goes on in the caller's call
    pub return_does : (d r : ℕ) (same : (d == d) ≡ true) (apart : Apart d ws) (c : Call) (f0 f : Frame) (t : Text) (fun : Fun) (ids : List ℕ) (w : World) → points i ≡ at ss (Holds (In d) ws u) →
        IsMade texts points (state_at (callee ss u ws c f0 t fun ids) (at [] (Returns (In r))) f w)
        (deed c i 3 Nothing w (Goes (with_register d (f.regs r) f0) (tick (pass ComesBack (without_call ids fun.cost w)))))
    return_does d r same apart c f0 f t fun ids w back =
        let left : World = tick (pass ComesBack (without_call ids fun.cost w)) in
        let g : Frame = with_register d (f.regs r) f0 in
        moves_to texts points (state_at (callee ss u ws c f0 t fun ids) (at [] (Returns (In r))) f w) c i 2 Nothing w (Goes g left) refl (omega arith)
        (return_acts texts ss u ws d r same apart c f0 f t fun ids w ∙ ap (λ p. state_at c p g left) (sym back)) (return_silent texts u ss ws r c f0 f t fun ids w) refl (refl, (refl, (refl, tt)))

    pub return_nothing_does : (c : Call) (f0 f : Frame) (t : Text) (fun : Fun) (ids : List ℕ) (w : World) → points i ≡ at ss (Holds Void ws u) →
        IsMade texts points (state_at (callee ss u ws c f0 t fun ids) (at [] (Returns Void)) f w) (deed c i 3 Nothing w (Goes f0 (tick (pass ComesBack (without_call ids fun.cost w)))))
    return_nothing_does c f0 f t fun ids w back =
        let left : World = tick (pass ComesBack (without_call ids fun.cost w)) in
        moves_to texts points (state_at (callee ss u ws c f0 t fun ids) (at [] (Returns Void)) f w) c i 2 Nothing w (Goes f0 left) refl (omega arith)
        (return_void_acts texts u ss ws c f0 f t fun ids w ∙ ap (λ p. state_at c p f0 left) (sym back)) (return_nothing_silent texts u ss ws c f0 f t fun ids w) refl (refl, (refl, (refl, tt)))

    pub end_does : (c : Call) (f0 f : Frame) (t : Text) (fun : Fun) (ids : List ℕ) (w : World) → points i ≡ at ss (Holds Void ws u) →
        IsMade texts points (state_at (callee ss u ws c f0 t fun ids) (at [] (Leaves Normal)) f w) (deed c i 3 Nothing w (Goes f0 (tick (pass ComesBack (without_call ids fun.cost w)))))
    end_does c f0 f t fun ids w back =
        let left : World = tick (pass ComesBack (without_call ids fun.cost w)) in
        moves_to texts points (state_at (callee ss u ws c f0 t fun ids) (at [] (Leaves Normal)) f w) c i 2 Nothing w (Goes f0 left) refl (omega arith)
        (end_acts texts u ss ws c f0 f t fun ids w ∙ ap (λ p. state_at c p f0 left) (sym back)) (end_silent texts u ss ws c f0 f t fun ids w) refl (refl, (refl, (refl, tt)))
