-- A call of the library that answers, as an instruction. The bytes that it touches are the work that is done in it.
use Rattle.std.proofs.Common.{◌≡◌, ◌+◌, ◌-◌, ℕ, true, arith, ap, sym, subst, ◌∙◌, List, ◌∷◌, None}
use Rattle.std.specs.Prelude.{◌==◌}
use Rattle.sc_base.specs.declared.key.Key.{Key}
use Rattle.sc_types.specs.declared.ctype.CType.{CType}
use Rattle.sc_meaning.specs.declared.library.LibFun.{LibFun}
use Rattle.sc_meaning.specs.Values.{FunctionAt}
use Rattle.sc_meaning.specs.World.{World, ComesBack, GoesOut, Work, pass, tick, work}
use Rattle.sc_meaning.specs.Outcomes.{Outcome, Done}
use Rattle.sc_meaning.specs.Functions.{library_call}
use Rattle.sc_meaning.specs.Versions.{Text, InLibrary, callee_of}
use Rattle.sc_meaning.specs.Expressions.{Answer, base_of, value_rule}
use Rattle.sc_interp.specs.Shows.{shown}
use Rattle.sc_interp.specs.Steady.{alone, advance, ran}
use Rattle.sc_interp.specs.declared.stepped.Shown.TheVariants.{Nothing}
use Rattle.sc_interp_machine.specs.Runs.{Caller, State, Answers, Makes, answers}
use Rattle.sc_interp_machine.specs.declared.pending.Single.TheVariants as single
use Rattle.sc_interp_machine.specs.declared.body.Pending.{Pending}
use Rattle.sc_interp_world.specs.Outputs.{bytes_moved}
use Rattle.sc_interp_world.proofs.Outputs.{bytes_moved_last}
use Rattle.sc_world.specs.Costs.{bytes_touched}
use Rattle.sc_world.specs.Moves.{touches}
use Rattle.sc_points.specs.Points.{Frame, CallsOut, values_of, with_register, value_of, Waiting, Purpose, Holds, Point, at, Call, state_at, caller_of, comes_back, state_behind, Form, formed, held_in, Shaped, Apart}
use Rattle.sc_points.specs.declared.held.Held.{Held}
use Rattle.sc_points.specs.Lists.{On, IsMade}
use Rattle.sc_points.proofs.Calling.{library_acts}
use Rattle.sc_points.proofs.Tells.{library_made, library_silent}

-- bytes before and behind four steps, of which the second is the library's
four : (a b n c d : ℕ) → b ≡ a → d ≡ c → (b - a) + ((n - 0) + ((c - c) + ((d - c) + 0))) ≡ n
four a b n c d p q = omega (arith, p, q)

pub went_out : (w : World) → bytes_moved (pass GoesOut w).trail ≡ bytes_moved w.trail
went_out w = let e : bytes_moved (pass GoesOut w).trail ≡ bytes_moved w.trail + 0 = bytes_moved_last w.trail GoesOut in omega (arith, e)

came_back : (w : World) → bytes_moved (tick (pass ComesBack w)).trail ≡ bytes_moved w.trail
came_back w =
    let e : bytes_moved (pass ComesBack w).trail ≡ bytes_moved w.trail + 0 = bytes_moved_last w.trail ComesBack in
    let g : bytes_moved (tick (pass ComesBack w)).trail ≡ bytes_moved (pass ComesBack w).trail + 0 = bytes_moved_last (pass ComesBack w).trail (Work 1) in
    omega (arith, e, g)

module _ (texts : List Text) (u : Purpose) (ss : List Pending) (ws : List Waiting) (p : Point) (ty : CType) (h : Held) (hs : List Held) (calls : CallsOut texts p ty h hs ss u ws) (c : Call) (f : Frame) (w : World)
    (key : Key) (fun : LibFun) (is : value_of f h ≡ FunctionAt key) (rule : value_rule texts c.text ty (FunctionAt key) ≡ None) (found : callee_of texts key ≡ InLibrary fun) where
  abbrev start : State
  start = state_at c p f w

  abbrev cs : List Caller
  cs = caller_of c f (Waiting.Alone single.Back ∷ ws) u ss ∷ c.callers

  abbrev making : State
  making = Makes ty (value_of f h) (values_of f hs) (caller_of c f (Waiting.Alone single.Back ∷ ws) u ss) c.callers (pass GoesOut w)

  abbrev given_back : Outcome Answer
  given_back = library_call (alone texts) fun key (values_of f hs) (pass GoesOut w)

  made : advance (alone texts) texts start ≡ making
  made = calls c f w

  -- the step in which the library is called
  called : advance (alone texts) texts making ≡ answers cs given_back
  called = ap (advance (alone texts) texts) (sym made) ∙ library_made texts u ss ws p ty h hs calls c f w key fun is rule found

  module _ (points : ℕ → Point) (i d : ℕ) (same : (d == d) ≡ true) (apart : Apart d ws) (form : Form) (a : Answer) (v : World) (done : given_back ≡ Done a v) (shape : a ≡ formed form (base_of a))
      (back : points i ≡ at ss (Holds (held_in form d) ws u)) where
    abbrev answered : State
    answered = Answers a cs v

    answer_there : advance (alone texts) texts making ≡ answered
    answer_there = called ∙ ap (answers cs) done

    bytes_there : touches 4 texts start ≡ work v.trail - work (pass GoesOut w).trail
    bytes_there =
        ap (λ t. bytes_touched start t + touches 3 texts t) made
        ∙ ap (λ t. bytes_touched start making + (bytes_touched making t + touches 2 texts t)) answer_there
        ∙ four (bytes_moved w.trail) (bytes_moved (pass GoesOut w).trail) (work v.trail - work (pass GoesOut w).trail) (bytes_moved v.trail) (bytes_moved (tick (pass ComesBack v)).trail) (went_out w) (came_back v)

    told_there : shown (alone texts) texts (ran 3 (alone texts) texts start) ≡ Nothing
    told_there = ap (λ t. shown (alone texts) texts (ran 2 (alone texts) texts t)) made ∙ ap (λ t. shown (alone texts) texts (advance (alone texts) texts t)) answer_there

    -- four steps, and the answer in a register
    pub library_does : IsMade texts points start (record { next = On c i (with_register d (base_of a) f) (tick (pass ComesBack v)); steps = 4; shown = Nothing; bytes = work v.trail - work (pass GoesOut w).trail })
    library_does =
        let shaped : Shaped form given_back = subst (λ o. Shaped form o) (sym done) shape in (
          library_acts texts u ss ws d same apart form p ty h hs calls c f w key fun is rule found shaped
              ∙ ap (λ o. state_behind c (at ss (Holds (held_in form d) ws u)) (comes_back d f o)) done
              ∙ ap (λ q. state_at c q (with_register d (base_of a) f) (tick (pass ComesBack v))) (sym back),
          (omega arith, library_silent texts u ss ws p ty h hs calls c f w key fun is rule found a v done, told_there, bytes_there),
        )
