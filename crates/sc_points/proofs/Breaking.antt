-- Calls that end the run, as instructions of two steps: a rule is broken, the stack has no room, a parameter is not born, or the library ends it.
use Rattle.std.proofs.Common.{◌≡◌, ◌+◌, ◌-◌, ℕ, true, false, arith, ap, ◌∙◌, List, [], ◌∷◌, Some, None}
use Rattle.std.specs.Prelude.{nat_lt, slice_index_or}
use Rattle.sc_base.specs.declared.key.Key.{Key}
use Rattle.sc_base.specs.declared.report.Rule.{Rule}
use Rattle.sc_types.specs.declared.ctype.CType.{CType}
use Rattle.sc_core.specs.declared.module.Fun.{Fun}
use Rattle.sc_meaning.specs.declared.library.LibFun.{LibFun}
use Rattle.sc_meaning.specs.Values.{FunctionAt}
use Rattle.sc_meaning.specs.World.{World, GoesOut, pass, work}
use Rattle.sc_meaning.specs.Outcomes.{Over, Ending, StackFull, Undefined, world_at}
use Rattle.sc_meaning.specs.Functions.{library_call}
use Rattle.sc_meaning.specs.Versions.{Text, InLibrary, InText, callee_of}
use Rattle.sc_meaning.specs.Expressions.{call_breach, value_rule}
use Rattle.sc_meaning.specs.Calls.{parameters}
use Rattle.sc_interp.specs.Shows.{entry_shown, shown}
use Rattle.sc_interp.specs.Steady.{alone, advance, begins, callee_next, enters, made_unless, with_frame}
use Rattle.sc_interp.specs.declared.stepped.Shown.TheVariants.{Nothing}
use Rattle.sc_interp_machine.specs.Runs.{Caller, State, Ends, Makes, answers, then_goes}
use Rattle.sc_interp_machine.specs.declared.pending.Single.TheVariants as single
use Rattle.sc_interp_machine.specs.declared.body.Pending.{Pending}
use Rattle.sc_interp_world.specs.Outputs.{bytes_moved}
use Rattle.sc_world.specs.Costs.{bytes_touched, statements_ended}
use Rattle.sc_world.specs.Moves.{touches}
use Rattle.sc_points.specs.Points.{Frame, CallsOut, value_of, values_of, Waiting, Purpose, Point, Call, state_at, caller_of}
use Rattle.sc_points.specs.declared.held.Held.{Held}
use Rattle.sc_points.specs.Lists.{IsMade, ended_call}
use Rattle.sc_points.proofs.Answering.{went_out}
use Rattle.sc_points.proofs.Tells.{call_silent}

two : (a b n : ℕ) → b ≡ a → (b - a) + (n + 0) ≡ n
two a b n p = omega (arith, p)

module _ (texts : List Text) (u : Purpose) (ss : List Pending) (ws : List Waiting) (p : Point) (ty : CType) (h : Held) (hs : List Held) (calls : CallsOut texts p ty h hs ss u ws) (c : Call) (f : Frame) (w : World) (points : ℕ → Point) where
  abbrev start : State
  start = state_at c p f w

  abbrev out : World
  out = pass GoesOut w

  abbrev cs : List Caller
  cs = caller_of c f (Waiting.Alone single.Back ∷ ws) u ss ∷ c.callers

  abbrev making : State
  making = Makes ty (value_of f h) (values_of f hs) (caller_of c f (Waiting.Alone single.Back ∷ ws) u ss) c.callers out

  -- the step in which the call is made ends the run
  call_ends : (e : Ending) → advance (alone texts) texts making ≡ Ends e → IsMade texts points start (ended_call out e)
  call_ends e over =
      let bytes : touches 2 texts start ≡ work (world_at e).trail - work out.trail - statements_ended e =
      ap (λ t. bytes_touched start t + touches 1 texts t) (calls c f w)
      ∙ ap (λ t. bytes_touched start making + (bytes_touched making t + 0)) over
      ∙ two (bytes_moved w.trail) (bytes_moved out.trail) (work (world_at e).trail - work out.trail - statements_ended e) (went_out w) in
      let told : shown (alone texts) texts (advance (alone texts) texts start) ≡ Nothing = ap (shown (alone texts) texts) (calls c f w) ∙ ap entry_shown over in
      (ap (advance (alone texts) texts) (calls c f w) ∙ over, (omega arith, call_silent texts u ss ws p ty h hs calls c f w, told, bytes))

  -- the value is no function of this type
  pub rule_ends : (rule : Rule) → value_rule texts c.text ty (value_of f h) ≡ Some rule → IsMade texts points (state_at c p f w) (ended_call (pass GoesOut w) (Undefined (call_breach (value_of f h) (pass GoesOut w) rule) (pass GoesOut w)))
  rule_ends rule broken = call_ends (Undefined (call_breach (value_of f h) out rule) out) (ap (λ r. made_unless r (alone texts) texts (value_of f h) (values_of f hs) cs out) broken)

  module _ (key : Key) (is : value_of f h ≡ FunctionAt key) (rule : value_rule texts c.text ty (FunctionAt key) ≡ None) where
    reaches : advance (alone texts) texts making ≡ callee_next (alone texts) key (values_of f hs) (callee_of texts key) cs out
    reaches =
        ap (λ x. made_unless (value_rule texts c.text ty x) (alone texts) texts x (values_of f hs) cs out) is
        ∙ ap (λ r. made_unless r (alone texts) texts (FunctionAt key) (values_of f hs) cs out) rule

    module _ (t : Text) (fun : Fun) (found : callee_of texts key ≡ InText t fun) where
      enters_there : advance (alone texts) texts making ≡ enters (nat_lt out.stack (out.used + fun.cost)) key t fun (values_of f hs) cs out
      enters_there = reaches ∙ ap (λ k. callee_next (alone texts) key (values_of f hs) k cs out) found

      pub stack_ends : nat_lt (pass GoesOut w).stack ((pass GoesOut w).used + fun.cost) ≡ true → IsMade texts points (state_at c p f w) (ended_call (pass GoesOut w) (StackFull key (pass GoesOut w)))
      stack_ends full = call_ends (StackFull key out) (enters_there ∙ ap (λ b. enters b key t fun (values_of f hs) cs out) full)

      pub births_end : (e : Ending) → nat_lt (pass GoesOut w).stack ((pass GoesOut w).used + fun.cost) ≡ false →
          parameters (slice_index_or fun.blocks 0 []) (values_of f hs) [] (with_frame key t fun (pass GoesOut w)) ≡ Over e → IsMade texts points (state_at c p f w) (ended_call (pass GoesOut w) e)
      births_end e room over = call_ends e (enters_there ∙ ap (λ b. enters b key t fun (values_of f hs) cs out) room ∙ ap (λ o. then_goes o (begins key t fun cs)) over)

    pub library_ends : (fun : LibFun) (e : Ending) → callee_of texts key ≡ InLibrary fun → library_call (alone texts) fun key (values_of f hs) (pass GoesOut w) ≡ Over e → IsMade texts points (state_at c p f w) (ended_call (pass GoesOut w) e)
    library_ends fun e found over = call_ends e (reaches ∙ ap (λ k. callee_next (alone texts) key (values_of f hs) k cs out) found ∙ ap (answers cs) over)
